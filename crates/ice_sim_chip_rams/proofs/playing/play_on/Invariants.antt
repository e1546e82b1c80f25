use Rattle.std.proofs.Common.{◌≡◌, ◌+◌, ◌*◌, ◌++◌, length}
use Rattle.ice_sim.specs.ChipRuns.{with_state}
use Rattle.ice_sim_levels.specs.DriveTexts.{drives_text}
use Rattle.ice_sim_chip_rams.specs.ClosedChips.{shown_from}
use Rattle.ice_sim_chip_rams.proofs.playing.play_on.Given as goal

abbrev pub invariant-loop-step : goal.invariant-loop-step
invariant-loop-step l =
    (goal.iterator-loop-step).can_next l.step-iterator × (goal.iterator-loop-step).is_finite l.step-iterator
    × (l.run ≡ with_state l.fn.run l.run.state)
    × (length l.run.bonded ≡ l.first + 74 * length l.rams)
    × (length l.joined ≡ length l.run.bonded)
    × (length l.drives ≡ length l.run.bonded)
    × (l.fn.text.items ++ drives_text (shown_from l.fn.run.parts l.fn.run.configuration l.fn.run.bonded l.first l.fn.run.bonded l.first (l.fn.run.state, l.fn.rams) l.levels)
    ≡ l.text.items ++ drives_text (shown_from l.fn.run.parts l.fn.run.configuration l.fn.run.bonded l.first l.fn.run.bonded l.first (l.run.state, l.rams) l.step-iterator))
