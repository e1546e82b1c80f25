use Rattle.std.proofs.Common.{◌≡◌, ◌+◌, ◌*◌, ◌++◌, length, map, take}
use Rattle.ice_base_values.specs.System.{machine_shows}
use Rattle.ice_sim_levels.specs.DriveTexts.{drives_text}
use Rattle.ice_sim_rams.specs.Closed.{closed_step}
use Rattle.ice_sim_rams.proofs.playing.play_on.Given as goal

abbrev pub invariant-loop-step : goal.invariant-loop-step
invariant-loop-step l =
    (goal.iterator-loop-step).can_next l.step-iterator × (goal.iterator-loop-step).is_finite l.step-iterator
    × (l.run.0 ≡ l.fn.run.0)
    × (length l.fn.run.0.ports ≡ l.first + 74 * length l.rams)
    × (length l.joined ≡ length l.fn.run.0.ports)
    × (length l.drives ≡ length l.fn.run.0.ports)
    × (l.fn.text.items ++ drives_text (map (take l.first) (machine_shows (closed_step l.fn.run.0 l.first) (l.fn.run.1, l.fn.rams) l.levels)) ≡ l.text.items ++ drives_text (map (take l.first) (machine_shows (closed_step l.fn.run.0 l.first) (l.run.1, l.rams) l.step-iterator)))
