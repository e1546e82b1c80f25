-- What drives the signals of a netlist with buffers.
use Rattle.std.proofs.Common.{◌≡◌, ℕ, ◌+◌, ◌<◌, List, [], length, length-append, map, ap, ◌∙◌}
use Rattle.std.specs.Prelude.{slice_index_or}
use Rattle.std.proofs.lemmas.List.{length-map}
use Rattle.ice_base_values.specs.Order.{At}
use Rattle.ice_base_values.proofs.Members.{At_left, At_map}
use Rattle.ice_net.specs.declared.cell.Cell.{Cell}
use Rattle.ice_net.specs.declared.driver.SignalDriver.TheVariants.{Output}
use Rattle.ice_net.specs.NetlistData.{NetlistData}
use Rattle.ice_net.specs.Formed.{IsFormed}
use Rattle.ice_net.specs.Drivers.{buffer_at, driver_of}
use Rattle.ice_check_promote.specs.Promoted.{buffered_name, buffered_cell, reads_clock, buffer, buffers, with_buffers}
use Rattle.ice_check_promote.proofs.Buffers.{growth}
use Rattle.ice_net_additions.proofs.Growths as growths

pub length_names : (n : NetlistData) (clocks : List ℕ) → length (with_buffers n clocks).names ≡ length n.names + length clocks
length_names n clocks =
    length-append n.names (map (λ clock. buffered_name (slice_index_or n.names clock [])) clocks)
    ∙ ap (λ k. length n.names + k) (length-map clocks (λ clock. buffered_name (slice_index_or n.names clock [])))

module _ (n : NetlistData) (clocks : List ℕ) where
  abbrev pub count : ℕ
  count = length n.names

  abbrev pub new : NetlistData
  new = with_buffers n clocks

  abbrev pub old_cells : List Cell
  old_cells = map (buffered_cell count clocks) n.cells

  abbrev pub added : List Cell
  added = buffers count clocks

  pub long_cells : length old_cells ≡ length n.cells
  long_cells = length-map n.cells (buffered_cell count clocks)

  pub cell_kept : (i : ℕ) (cell : Cell) → At n.cells i cell → At new.cells i (buffered_cell count clocks cell)
  cell_kept i cell at = At_left old_cells added i (buffered_cell count clocks cell) (At_map (buffered_cell count clocks) n.cells i cell at)

  pub cell_added : (j clock : ℕ) → At clocks j clock → At new.cells (length n.cells + j) (buffer clock (count + j))
  cell_added j clock at = growths.cell_added (growth n clocks) j (reads_clock clock) (At_map reads_clock clocks j clock at)

  pub buffer_same : (s : ℕ) → buffer_at new.cells s ≡ buffer_at n.cells s
  buffer_same s = growths.buffer_same (growth n clocks) s

  pub driver_old : (s : ℕ) → s < count → driver_of new s ≡ driver_of n s
  driver_old s lt = growths.driver_old (growth n clocks) s lt

  pub driver_new : IsFormed n → (j clock : ℕ) → At clocks j clock → driver_of new (count + j) ≡ Output (length n.cells + j)
  driver_new formed j clock at = growths.driver_new (growth n clocks) formed j (reads_clock clock) (At_map reads_clock clocks j clock at)
