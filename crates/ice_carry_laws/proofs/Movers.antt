-- The flip-flops that move leave cells that have a carry.
use Rattle.std.proofs.Common.{ℕ, List, length, arith}
use Rattle.std.specs.List.{range_with_len}
use Rattle.ice_base_values.specs.Order.{At, Has}
use Rattle.ice_base_values.proofs.Members.{At_within, filter_Has}
use Rattle.ice_cells.specs.declared.cell.LogicCell.{LogicCell}
use Rattle.ice_cells.specs.declared.design.Design.{Design}
use Rattle.ice_cells.specs.declared.design.Run.{Run}
use Rattle.ice_cells.specs.Follows.{follows}
use Rattle.ice_cells.specs.Formed.{cells_in_runs}
use Rattle.ice_cells.specs.Moves.{differs, moves_at, run_moves}
use Rattle.ice_cells.specs.Pieces.{control_at, first_control, piece, pieces_count}
use Rattle.ice_cells.specs.Runs.{cells_fed, movers, run_heads, runs_of}
use Rattle.ice_carry_chains.specs.Before.{HasCarry, IsBeforeRuns}
use Rattle.ice_carry_chains.proofs.DesignChains.{chain_carry}
use Rattle.ice_carry_chains.proofs.DesignRuns.{in_run}
use Rattle.ice_carry_chains.proofs.RunLists.{flat_back}
use Rattle.ice_carry_chains.proofs.RunsOnce.{CellFrom, Fed, Carried, from_where}
use Rattle.ice_carry_laws.proofs.AlikeRuns.{in_piece}

-- it stands in a run
mover_in : (d : Design) (m : ℕ) → Has (movers d) m → Has (cells_in_runs (runs_of d)) m
mover_in d m has =
    let one = flat_back (λ (run : Run). run_moves (cells_fed d) run.cells) (runs_of d).runs m has in
    let two = flat_back (moves_at (cells_fed d) one.item.cells) (range_with_len 0 (pieces_count one.item.cells)) m (one.place, one.inside) in
    let members : List ℕ = piece one.item.cells two.item in
    let kept = filter_Has (λ k. differs (first_control (cells_fed d) members) (control_at (cells_fed d) k)) members m (two.place, two.inside) in
    in_run d one.row one.item m one.at (in_piece one.item.cells two.item kept.0.0 m kept.0.1).0

pub mover_carry : (d : Design) → IsBeforeRuns d → (m : ℕ) (cell : LogicCell) → At d.cells m cell → Has (movers d) m → HasCarry d m
mover_carry d ready m cell at has = by (from_where (follows d) (length d.cells) (run_heads d) m (mover_in d m has))
  where
    by : CellFrom (follows d) (length d.cells) (run_heads d) m → HasCarry d m
    by (Fed le lt) = let below = At_within d.cells m cell at in absurd (omega (arith, le, below))
    by (Carried r x j there inside) = chain_carry d ready r x j m there inside
