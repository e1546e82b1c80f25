use Rattle.std.proofs.Common.{ℕ, ◌≤◌, List, subst, sym}
use Rattle.ice_base_values.specs.Order.{At, StandOnce, IsCycleBelow}
use Rattle.ice_base_values.proofs.Turns.{turn_below, turn_once, turn_least}
use Rattle.ice_base_values.proofs.turn.from_least.Goals as goal

pub returns-clause-same : goal.returns-clause-same
returns-clause-same c points depends cycle =
    subst (λ (v : List ℕ). IsCycleBelow points depends v) (sym c.in_ok-turned.ensures)
    (turn_below points depends c.args.cycle.now c.place_of_least.result c.place_of_least.ensures.within cycle)

pub returns-clause-least : goal.returns-clause-least
returns-clause-least c =
    subst (λ (v : List ℕ). (i first p : ℕ) → At v 0 first → At v i p → first ≤ p) (sym c.in_ok-turned.ensures)
    (turn_least c.args.cycle.now c.place_of_least.result c.place_of_least.ensures.within c.place_of_least.ensures.least)

pub returns-clause-once : goal.returns-clause-once
returns-clause-once c once =
    subst (λ (v : List ℕ). StandOnce v) (sym c.in_ok-turned.ensures)
    (turn_once c.args.cycle.now c.place_of_least.result c.place_of_least.ensures.within once)
