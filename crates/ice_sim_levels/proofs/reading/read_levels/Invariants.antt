use Rattle.std.proofs.Common.{◌≡◌, ◌*◌, length}
use Rattle.ice_sim_levels.specs.Steps.{steps_of}
use Rattle.ice_sim_levels.specs.LevelTexts.{lines_steps, then_steps, levels_of}
use Rattle.ice_sim_levels.proofs.reading.read_levels.Given as goal

abbrev pub invariant-loop-line : goal.invariant-loop-line
invariant-loop-line l =
    (goal.iterator-loop-line).can_next l.line-iterator × (goal.iterator-loop-line).is_finite l.line-iterator
    × (length l.levels.items ≡ l.count * l.ports)
    × (levels_of l.ports l.text ≡ then_steps (steps_of l.ports l.count l.levels.items) (lines_steps l.ports l.line-iterator))
