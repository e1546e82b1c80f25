use Rattle.std.proofs.Common.{◌≡◌, drop, ◌++◌}
use Rattle.ice_cells.specs.Chains.{present_of}
use Rattle.ice_carry_chains.proofs.head.present_of.Given as goal

abbrev pub invariant-loop-leader : goal.invariant-loop-leader
invariant-loop-leader l = l.heads.items ++ present_of (drop l.leader-index l.leaders) ≡ present_of l.leaders
