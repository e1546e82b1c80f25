-- The runs of a design hold each cell that has a carry once.
use Rattle.std.proofs.Common.{◌≡◌, ℕ, suc, ◌+◌, subst, arith}
use Rattle.ice_base_values.specs.Order.{At}
use Rattle.ice_cells.specs.declared.design.Design.{Design}
use Rattle.ice_cells.specs.declared.design.Run.{Run}
use Rattle.ice_cells.specs.Runs.{runs_of}
use Rattle.ice_carry_chains.specs.Before.{IsBeforeRuns}
use Rattle.ice_carry_chains.specs.Holding.{HoldCarries}
use Rattle.ice_carry_chains.proofs.DesignLast.{StandsAbove, runs_chained}
use Rattle.ice_carry_chains.proofs.DesignRuns.{runs_once, runs_inside, runs_carried, runs_carries}

one_more : (i : ℕ) → suc i ≡ i + 1
one_more i = omega arith

pub hold_carries : (d : Design) → IsBeforeRuns d → HoldCarries (runs_of d)
hold_carries d ready = record {
  once = runs_once d ready;
  carried = runs_carried d ready;
  inside = runs_inside d ready;
  carries = runs_carries d ready;
  chained = λ c cell at e. (let found = runs_chained d ready c cell at e in (found.0, stands c found.1));
}
  where
    stands : (c : ℕ) → StandsAbove (runs_of d) c → (r : ℕ) × (i : ℕ) × (run : Run) × At (runs_of d).runs r run × At run.cells (i + 1) c
    stands c above = (above.row, above.place, above.run, above.at, subst (λ n. At above.run.cells n c) (one_more above.place) above.above)
