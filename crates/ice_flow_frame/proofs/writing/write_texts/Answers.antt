use Rattle.std.proofs.Common.{◌∙◌, refl, arith}
use Rattle.ice_desk.proofs.Desks.{same_test_trans}
use Rattle.ice_flow_frame.specs.Texts.{files_view}
use Rattle.ice_flow_frame.proofs.TextFacts.{may_use_next}
use Rattle.ice_flow_frame.proofs.Writes.{files_refl, files_then, next_made, none_written, next_written, stopped_writing, all_written}
use Rattle.ice_flow_frame.proofs.writing.write_texts.Goals as goal

pub loop-written-init : goal.loop-written-init
loop-written-init g c =
    let D = g.D.Desk in
    record {
      same = files_refl (D.seen c.args.desk.now);
      names_read = λ name. ((λ x. x), λ x. x);
      names_written = λ name. ((λ x. x), λ x. x);
      within = omega arith;
      made = refl;
      held = λ t name. none_written (files_view c.args.files.now) c.args.texts.now (D.seen c.args.desk.now).files name;
    }

pub write_text-requires : goal.write_text-requires
write_text-requires g c =
    let D = g.D.Desk in
    may_use_next (D.may_write c.args.desk.now) (D.may_write c.loop-written.desk) c.args.files.now c.loop-written.written _ c.loop-written.invariant.names_written c.loop-written-test.true c.requires

pub loop-written-preserved : goal.loop-written-preserved
loop-written-preserved g c =
    let D = g.D.Desk in
    let old = D.seen c.args.desk.now in
    let mid = D.seen c.loop-written.desk in
    let new = D.seen c.write_text.new.desk in
    let i = c.loop-written.invariant in
    let e = c.in-Ok.ensures in
    let written = c.loop-written.written in
    record {
      same = files_then _ old mid new i.same c.write_text.ensures.same;
      names_read = same_test_trans (D.may_read c.args.desk.now) (D.may_read c.loop-written.desk) (D.may_read c.write_text.new.desk) i.names_read c.write_text.ensures.names_read;
      names_written = same_test_trans (D.may_write c.args.desk.now) (D.may_write c.loop-written.desk) (D.may_write c.write_text.new.desk) i.names_written c.write_text.ensures.names_written;
      within = omega (arith, c.loop-written-test.true);
      made = next_made written old mid new i.made c.write_text.ensures.made;
      held = λ t. next_written c.args.files.now c.args.texts.now old.files mid.files new.files written _ c.at.result.now c.loop-written-test.true c.at.ensures (i.held t) (e.written (i.same.tells ∙ t))
          (λ other ne. c.write_text.ensures.same.others (i.same.tells ∙ t) other ne);
    }

pub returns-in-Err-clause-stop : goal.returns-in-Err-clause-stop
returns-in-Err-clause-stop g c =
    let D = g.D.Desk in
    let i = c.loop-written.invariant in
    stopped_writing c.args.files.now c.args.texts.now (D.seen c.args.desk.now) (D.seen c.loop-written.desk) (D.seen c.write_text.new.desk) c.loop-written.written _ c.at.result.now
    c.in-Err.stop.role c.in-Err.stop.put c.loop-written-test.true c.at.ensures i.same i.made i.held c.write_text.ensures.same c.write_text.ensures.made c.in-Err.ensures.stop

pub returns-clause-written : goal.returns-clause-written
returns-clause-written g c =
    let D = g.D.Desk in
    let i = c.loop-written.invariant in
    all_written c.args.files.now c.args.texts.now (D.seen c.args.desk.now) (D.seen c.loop-written.desk) c.loop-written.written (omega (arith, i.within, c.loop-written-test.false)) i.made i.held

pub returns-in-Err-clause-names_read : goal.returns-in-Err-clause-names_read
returns-in-Err-clause-names_read g c =
    let D = g.D.Desk in
    same_test_trans (D.may_read c.args.desk.now) (D.may_read c.loop-written.desk) (D.may_read c.write_text.new.desk) c.loop-written.invariant.names_read c.write_text.ensures.names_read

pub returns-in-Err-clause-names_written : goal.returns-in-Err-clause-names_written
returns-in-Err-clause-names_written g c =
    let D = g.D.Desk in
    same_test_trans (D.may_write c.args.desk.now) (D.may_write c.loop-written.desk) (D.may_write c.write_text.new.desk) c.loop-written.invariant.names_written c.write_text.ensures.names_written
