use Rattle.std.proofs.Common.{Bool, true, false, List, [], ◌++◌, ℕ, map, take, drop, get_or, sym, subst, suc}
use Rattle.ice_desk.proofs.Desks.{same_test_trans}
use Rattle.ice_flow_frame.specs.Causes.{joined}
use Rattle.ice_flow_frame.specs.Pieces.{piece_text}
use Rattle.ice_desk.specs.Said.{IsSaid}
use Rattle.ice_desk.proofs.Saying.{saying_trans, said_then, cut_stays}
use Rattle.ice_flow_frame.proofs.PieceTexts.{joined_more, joined_all}
use Rattle.ice_flow_frame.specs.declared.say.Piece.{Piece}
use Rattle.ice_flow_frame.specs.declared.say.Piece.TheVariants.{Text}
use Rattle.ice_flow_frame.proofs.say.say_pieces.Goals as goal

-- what stands past the end of the pieces
abbrev no_piece : Piece
no_piece = Text (record { ref_ptr = (0, 0); now = [] })

pub loop-piece-preserved : goal.loop-piece-preserved
loop-piece-preserved g c =
    let D = g.D.Desk in
    let old = D.seen c.args.desk.now in
    let mid = D.seen c.loop-piece.desk in
    let new = D.seen c.say_piece.new.desk in
    let i = c.loop-piece.invariant in
    let e = c.say_piece.ensures in
    let front : List ℕ = joined (map piece_text (take c.loop-piece.piece-index c.args.pieces.now)) in
    let here = subst (λ (b : Bool). IsSaid mid new (piece_text (get_or c.args.pieces.now c.loop-piece.piece-index no_piece)) b) c.if-not-say_piece.false e.said in
    record {
      same = saying_trans old mid new i.same e.same;
      names_read = same_test_trans (D.may_read c.args.desk.now) (D.may_read c.loop-piece.desk) (D.may_read c.say_piece.new.desk) i.names_read e.names_read;
      names_written = same_test_trans (D.may_write c.args.desk.now) (D.may_write c.loop-piece.desk) (D.may_write c.say_piece.new.desk) i.names_written e.names_written;
      said = subst (λ line. IsSaid old new line true) (sym (joined_more piece_text c.args.pieces.now c.loop-piece.piece-index no_piece c.loop-piece-test.true)) (said_then old mid new front (piece_text (get_or c.args.pieces.now c.loop-piece.piece-index no_piece)) true i.same.tells i.said here);
    }

pub returns-then-not-say_piece-clause-said : goal.returns-then-not-say_piece-clause-said
returns-then-not-say_piece-clause-said g c =
    let D = g.D.Desk in
    let old = D.seen c.args.desk.now in
    let mid = D.seen c.loop-piece.desk in
    let new = D.seen c.say_piece.new.desk in
    let i = c.loop-piece.invariant in
    let front : List ℕ = joined (map piece_text (take c.loop-piece.piece-index c.args.pieces.now)) in
    let here = subst (λ (b : Bool). IsSaid mid new (piece_text (get_or c.args.pieces.now c.loop-piece.piece-index no_piece)) b) c.if-not-say_piece.true c.say_piece.ensures.said in
    subst (λ line. IsSaid old new line false) (sym (joined_all piece_text c.args.pieces.now c.loop-piece.piece-index no_piece c.loop-piece-test.true))
    (cut_stays old new (front ++ piece_text (get_or c.args.pieces.now c.loop-piece.piece-index no_piece)) (joined (map piece_text (drop (suc c.loop-piece.piece-index) c.args.pieces.now))) (said_then old mid new front (piece_text (get_or c.args.pieces.now c.loop-piece.piece-index no_piece)) false i.same.tells i.said here))
