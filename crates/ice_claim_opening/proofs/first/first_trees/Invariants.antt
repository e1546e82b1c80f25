use Rattle.std.proofs.Common.{take}
use Rattle.ice_path.specs.Room.{IsFor}
use Rattle.ice_claim_opening.specs.First.{AreFirst}
use Rattle.ice_claim_opening.proofs.first.first_trees.Given as goal

abbrev pub invariant-loop-net : goal.invariant-loop-net
invariant-loop-net l = record {
  firsts : AreFirst l.graph (take l.net-index l.nets) l.kept.items;
  scratch : IsFor l.graph l.scratch;
}
