use Rattle.std.proofs.Common.{◌≡◌, map}
use Rattle.std.specs.List.{range_with_len}
use Rattle.ice_pads.specs.Assign.{chosen_pads}
use Rattle.ice_pads.specs.Wants.{buffer_of}
use Rattle.ice_pads.proofs.needs.buffers.Given as goal

abbrev pub invariant-loop-number : goal.invariant-loop-number
invariant-loop-number l = l.found.items ≡ map (buffer_of l.design (chosen_pads l.ports)) (range_with_len 0 l.number)
