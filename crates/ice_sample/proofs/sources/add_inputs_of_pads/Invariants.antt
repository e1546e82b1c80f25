use Rattle.std.proofs.Common.{◌≡◌, ◌+◌, ◌*◌, ◌++◌, map}
use Rattle.std.specs.List.{range_with_len}
use Rattle.ice_sample.proofs.sources.add_inputs_of_pads.Given as goal

abbrev pub invariant-loop-pad : goal.invariant-loop-pad
invariant-loop-pad l = l.sources.items ≡ l.fn.sources.items ++ map (λ p. l.first + 3 * p) (range_with_len 0 l.pad)
