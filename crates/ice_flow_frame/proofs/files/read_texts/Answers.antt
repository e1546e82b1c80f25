use Rattle.std.proofs.Common.{◌+◌, arith}
use Rattle.ice_desk.proofs.Desks.{reading_trans, same_test_trans}
use Rattle.ice_flow_frame.specs.TextLists.{texts_view}
use Rattle.ice_flow_frame.specs.Reading.{name_behind}
use Rattle.ice_flow_frame.specs.Texts.{files_view}
use Rattle.ice_flow_frame.proofs.ReadStops.{reading_refl, stopped_at, next_place, none_before, text_before}
use Rattle.ice_flow_frame.proofs.TextFacts.{as_many, may_use_next, next_text, next_stop, one_text_more, one_fits_more}
use Rattle.ice_flow_frame.proofs.files.read_texts.Goals as goal

pub loop-read-init : goal.loop-read-init
loop-read-init g c =
    let D = g.D.Desk in
    let old = D.seen c.args.desk.now in
    record {
      same = reading_refl old;
      names_read = λ name. ((λ x. x), λ x. x);
      names_written = λ name. ((λ x. x), λ x. x);
      within = omega arith;
      begun = λ next e. e;
      texts = rw c.new-texts.ensures.items tt;
      fits = none_before (files_view c.args.files.now) old;
      given = λ some. absurd (omega arith);
    }

pub read_text-requires : goal.read_text-requires
read_text-requires g c =
    let D = g.D.Desk in
    may_use_next (D.may_read c.args.desk.now) (D.may_read c.loop-read.desk) c.args.files.now c.loop-read.read _ c.loop-read.invariant.names_read c.loop-read-test.true c.requires

pub returns-in-Err-clause-stop : goal.returns-in-Err-clause-stop
returns-in-Err-clause-stop g c =
    let D = g.D.Desk in
    let old = D.seen c.args.desk.now in
    let mid = D.seen c.loop-read.desk in
    let new = D.seen c.read_text.new.desk in
    let files = files_view c.args.files.now in
    let i = c.loop-read.invariant in
    let read = c.loop-read.read in
    stopped_at files old mid new (read + 1) c.in-Err.cause i.same c.in-Err.ensures.same (i.begun new.begins c.in-Err.ensures.begun) (omega arith) (omega (arith, as_many c.args.files.now, c.loop-read-test.true)) i.fits
    (next_stop c.args.files.now read _ mid new c.in-Err.cause c.loop-read-test.true c.in-Err.ensures.stop)

pub loop-read-preserved : goal.loop-read-preserved
loop-read-preserved g c =
    let D = g.D.Desk in
    let old = D.seen c.args.desk.now in
    let mid = D.seen c.loop-read.desk in
    let new = D.seen c.read_text.new.desk in
    let files = files_view c.args.files.now in
    let i = c.loop-read.invariant in
    let e = c.in-Ok.ensures in
    let read = c.loop-read.read in
    let text = c.in-Ok.text.items in
    let is = text_before old mid (name_behind files read) text i.same (next_text mid c.args.files.now read _ text c.loop-read-test.true e.text) in
    record {
      same = reading_trans old mid new i.same e.same;
      names_read = same_test_trans (D.may_read c.args.desk.now) (D.may_read c.loop-read.desk) (D.may_read c.read_text.new.desk) i.names_read e.names_read;
      names_written = same_test_trans (D.may_write c.args.desk.now) (D.may_write c.loop-read.desk) (D.may_write c.read_text.new.desk) i.names_written e.names_written;
      within = omega (arith, c.loop-read-test.true);
      begun = λ next is_next. next_place old.begins new.begins next (read + 1) (i.begun new.begins e.begun) is_next;
      texts = rw c.in-Ok-add_text.ensures.added (one_text_more old files read (texts_view c.loop-read.texts.items) text (omega (arith, as_many c.args.files.now, c.loop-read-test.true)) i.texts is e.fits);
      fits = one_fits_more files old read text i.fits is e.fits;
      given = λ some. e.given;
    }
