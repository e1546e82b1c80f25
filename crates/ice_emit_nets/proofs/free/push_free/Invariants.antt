use Rattle.std.proofs.Common.{◌≡◌, ◌++◌, [], take, drop}
use Rattle.ice_emit_nets.specs.Firsts.{first_ends}
use Rattle.ice_emit_nets.proofs.free.push_free.Given as goal

abbrev pub invariant-loop-k : goal.invariant-loop-k
invariant-loop-k l = l.ends.items ++ first_ends l.targets (take l.k l.ins) (drop l.k l.ins) ≡ l.initial.ends.items ++ first_ends l.targets [] l.ins
