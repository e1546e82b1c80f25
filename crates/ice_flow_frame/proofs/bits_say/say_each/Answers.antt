use Rattle.std.proofs.Common.{Bool, true, false, List, ◌++◌, ℕ, map, take, drop, get_or, sym, subst, suc}
use Rattle.ice_desk.proofs.Desks.{same_test_trans}
use Rattle.ice_base.specs.declared.number.WireNo.{WireNo}
use Rattle.ice_flow_frame.specs.Causes.{joined, wire_text}
use Rattle.ice_desk.specs.Said.{IsSaid}
use Rattle.ice_desk.proofs.Saying.{saying_trans, said_then, cut_stays}
use Rattle.ice_flow_frame.proofs.PieceTexts.{joined_more, joined_all}
use Rattle.ice_flow_frame.proofs.bits_say.say_each.Goals as goal

-- what stands past the end of the wires
abbrev no_wire : WireNo
no_wire = record { 0 = 0 }

pub loop-wire-preserved : goal.loop-wire-preserved
loop-wire-preserved g c =
    let D = g.D.Desk in
    let old = D.seen c.args.desk.now in
    let mid = D.seen c.loop-wire.desk in
    let new = D.seen c.say_wire.new.desk in
    let i = c.loop-wire.invariant in
    let e = c.say_wire.ensures in
    let front : List ℕ = joined (map wire_text (take c.loop-wire.wire-index c.args.wires.now)) in
    let here = subst (λ (b : Bool). IsSaid mid new (wire_text (get_or c.args.wires.now c.loop-wire.wire-index no_wire)) b) c.if-not-say_wire.false e.said in
    record {
      same = saying_trans old mid new i.same e.same;
      names_read = same_test_trans (D.may_read c.args.desk.now) (D.may_read c.loop-wire.desk) (D.may_read c.say_wire.new.desk) i.names_read e.names_read;
      names_written = same_test_trans (D.may_write c.args.desk.now) (D.may_write c.loop-wire.desk) (D.may_write c.say_wire.new.desk) i.names_written e.names_written;
      said = subst (λ line. IsSaid old new line true) (sym (joined_more wire_text c.args.wires.now c.loop-wire.wire-index no_wire c.loop-wire-test.true)) (said_then old mid new front (wire_text (get_or c.args.wires.now c.loop-wire.wire-index no_wire)) true i.same.tells i.said here);
    }

pub returns-then-not-say_wire-clause-said : goal.returns-then-not-say_wire-clause-said
returns-then-not-say_wire-clause-said g c =
    let D = g.D.Desk in
    let old = D.seen c.args.desk.now in
    let mid = D.seen c.loop-wire.desk in
    let new = D.seen c.say_wire.new.desk in
    let i = c.loop-wire.invariant in
    let front : List ℕ = joined (map wire_text (take c.loop-wire.wire-index c.args.wires.now)) in
    let here = subst (λ (b : Bool). IsSaid mid new (wire_text (get_or c.args.wires.now c.loop-wire.wire-index no_wire)) b) c.if-not-say_wire.true c.say_wire.ensures.said in
    subst (λ line. IsSaid old new line false) (sym (joined_all wire_text c.args.wires.now c.loop-wire.wire-index no_wire c.loop-wire-test.true))
    (cut_stays old new (front ++ wire_text (get_or c.args.wires.now c.loop-wire.wire-index no_wire)) (joined (map wire_text (drop (suc c.loop-wire.wire-index) c.args.wires.now))) (said_then old mid new front (wire_text (get_or c.args.wires.now c.loop-wire.wire-index no_wire)) false i.same.tells i.said here))
