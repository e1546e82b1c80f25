use Rattle.std.proofs.Common.{take, true}
use Rattle.ice_desk.specs.Changes.{SameButSaying, SameTest}
use Rattle.ice_flow_frame.specs.Causes.{spaced}
use Rattle.ice_desk.specs.Said.{IsSaid}
use Rattle.ice_flow_frame.proofs.say.say_names.Given as goal

abbrev pub invariant-loop-name : goal.invariant-loop-name
invariant-loop-name g l =
    let D = g.D.Desk in
    record {
      same : SameButSaying (D.seen l.fn.desk) (D.seen l.desk);
      names_read : SameTest (D.may_read l.fn.desk) (D.may_read l.desk);
      names_written : SameTest (D.may_write l.fn.desk) (D.may_write l.desk);
      said : IsSaid (D.seen l.fn.desk) (D.seen l.desk) (spaced (take l.name-index l.names)) true;
    }
