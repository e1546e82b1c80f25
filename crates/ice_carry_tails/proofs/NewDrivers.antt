-- What drives the signals of a netlist with added carries.
use Rattle.std.proofs.Common.{◌≡◌, ℕ, ◌<◌, List, length}
use Rattle.ice_base_values.specs.Order.{At}
use Rattle.ice_base_values.proofs.Members.{At_left}
use Rattle.ice_net.specs.declared.cell.Cell.{Cell}
use Rattle.ice_net.specs.NetlistData.{NetlistData}
use Rattle.ice_net.specs.Drivers.{buffer_at, driver_of}
use Rattle.ice_net_additions.proofs.Growths as growths
use Rattle.ice_carry_tails.specs.Tails.{tails}
use Rattle.ice_carry_tails.proofs.Added.{Ins, growth}

abbrev pub grown : NetlistData → List (List ℕ) → List Ins → NetlistData
grown n names lists = growths.grown (growth n names lists)

module _ (n : NetlistData) (names : List (List ℕ)) (lists : List Ins) where
  pub cell_kept : (i : ℕ) (cell : Cell) → At n.cells i cell → At (grown n names lists).cells i cell
  cell_kept i cell at = At_left n.cells (tails (length n.names) lists) i cell at

  pub buffer_same : (s : ℕ) → buffer_at (grown n names lists).cells s ≡ buffer_at n.cells s
  buffer_same s = growths.buffer_same (growth n names lists) s

  pub driver_old : (s : ℕ) → s < length n.names → driver_of (grown n names lists) s ≡ driver_of n s
  driver_old s lt = growths.driver_old (growth n names lists) s lt
