use Rattle.std.specs.List.Sorted.{IsPermutation}
use Rattle.ice_anneal.proofs.seating.seated.Given as goal

abbrev pub invariant-loop-c : goal.invariant-loop-c
invariant-loop-c l = IsPermutation l.fn.place l.at.items
