use Rattle.std.proofs.Common.{map, take, true}
use Rattle.ice_desk.specs.Changes.{SameButSaying, SameTest}
use Rattle.ice_flow_frame.specs.Causes.{joined}
use Rattle.ice_flow_frame.specs.Pieces.{piece_text}
use Rattle.ice_desk.specs.Said.{IsSaid}
use Rattle.ice_flow_frame.proofs.say.say_pieces.Given as goal

abbrev pub invariant-loop-piece : goal.invariant-loop-piece
invariant-loop-piece g l =
    let D = g.D.Desk in
    record {
      same : SameButSaying (D.seen l.fn.desk) (D.seen l.desk);
      names_read : SameTest (D.may_read l.fn.desk) (D.may_read l.desk);
      names_written : SameTest (D.may_write l.fn.desk) (D.may_write l.desk);
      said : IsSaid (D.seen l.fn.desk) (D.seen l.desk) (joined (map piece_text (take l.piece-index l.pieces))) true;
    }
