use Rattle.std.proofs.Common.{◌≡◌, [], replicate}
use Rattle.ice_bits_rows.specs.Lists.{lists_of}
use Rattle.ice_bits_rows.proofs.lists.empty_lists.Given as goal

abbrev pub invariant-loop-wire : goal.invariant-loop-wire
invariant-loop-wire l = lists_of l.lists.items ≡ replicate l._wire []
