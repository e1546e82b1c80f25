use Rattle.std.proofs.Common.{◌≡◌, ◌++◌, true, take, map, not, replicate}
use Rattle.ice_anneal.specs.Least.{is_rigid}
use Rattle.ice_anneal.proofs.free.free_of.Given as goal

abbrev pub invariant-loop-own : goal.invariant-loop-own
invariant-loop-own l = l.free.items ≡ map (λ own. not (is_rigid l.chunks own)) (take l.own-index l.chunks)

abbrev pub invariant-loop-k : goal.invariant-loop-k
invariant-loop-k l = l.free.items ≡ map (λ own. not (is_rigid l.chunks own)) l.chunks ++ replicate l.k true
