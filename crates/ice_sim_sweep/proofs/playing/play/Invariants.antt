use Rattle.std.proofs.Common.{◌≡◌, ◌++◌, length, All}
use Rattle.ice_base_values.specs.System.{machine_shows}
use Rattle.ice_net.specs.Meaning.{step, shows}
use Rattle.ice_sim_levels.specs.LevelTexts.{HasWidth}
use Rattle.ice_sim_levels.specs.DriveTexts.{drives_text}
use Rattle.ice_sim_sweep.proofs.playing.play.Given as goal

abbrev pub invariant-loop-step : goal.invariant-loop-step
invariant-loop-step l =
    (goal.iterator-loop-step).can_next l.step-iterator × (goal.iterator-loop-step).is_finite l.step-iterator
    × (l.run.0 ≡ l.sound)
    × (length l.drives.items ≡ length l.sound.ports)
    × All (HasWidth (length l.sound.ports)) l.step-iterator
    × (drives_text (shows l.sound l.levels) ≡ l.text.items ++ drives_text (machine_shows (step l.sound) l.run.1 l.step-iterator))
