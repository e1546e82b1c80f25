use Rattle.std.proofs.Common.{All, List, Bool, sym, subst}
use Rattle.ice_sim_levels.specs.LevelTexts.{HasWidth}
use Rattle.ice_sim_levels.proofs.StepLists.{steps_wide}
use Rattle.ice_sim_levels.proofs.reading.read_levels.Goals as goal

pub returns-clause-width : goal.returns-clause-width
returns-clause-width c =
    subst (λ (steps : List (List Bool)). All (HasWidth c.args.ports) steps) (sym c.of.ensures)
    (steps_wide c.args.ports c.loop-line.count c.loop-line.levels.items c.loop-line.invariant.2)
