use Rattle.std.proofs.Common.{◌≡◌, ◌+◌, ◌*◌, ◌%◌, ◌++◌, map}
use Rattle.std.specs.List.{range_with_len}
use Rattle.ice_sample.proofs.sources.add_pin_tracks.Given as goal

abbrev pub invariant-loop-step : goal.invariant-loop-step
invariant-loop-step l = l.sources.items ≡ l.fn.sources.items ++ map (λ j. l.tracks + (l.pin + 9 * j) % 64) (range_with_len 0 l.step)
