use Rattle.std.proofs.Common.{◌≡◌}
use Rattle.ice_timing_delays.specs.DelayTexts.{◌>>=◌, lines_say, or_refusal, delays_in, delays_of}
use Rattle.ice_timing_delays.proofs.reading.read_delays.Given as goal

abbrev pub invariant-loop-line : goal.invariant-loop-line
invariant-loop-line l =
    (goal.iterator-loop-line).can_next l.line-iterator × (goal.iterator-loop-line).is_finite l.line-iterator
    × (delays_of l.text ≡ (lines_say l.known l.line-iterator >>= (λ known. or_refusal 0 (delays_in known))))
