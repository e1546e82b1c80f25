use Rattle.std.proofs.Common.{◌∙◌, ◌<◌, length-drop, arith}
use Rattle.ice_desk.proofs.Desks.{same_test_trans}
use Rattle.ice_desk.proofs.Saying.{saying_trans, said_on, more_says}
use Rattle.ice_desk.proofs.say.say_text.Goals as goal

pub loop-at-preserved : goal.loop-at-preserved
loop-at-preserved g c =
    let D = g.D.Desk in
    let i = c.loop-at.invariant in
    let e = c.in-Ok.ensures in
    record {
      same = saying_trans (D.seen c.args.desk.now) (D.seen c.loop-at.desk) (D.seen c.say.new.self) i.same e.same;
      names_read = same_test_trans (D.may_read c.args.desk.now) (D.may_read c.loop-at.desk) (D.may_read c.say.new.self) i.names_read e.names_read;
      names_written = same_test_trans (D.may_write c.args.desk.now) (D.may_write c.loop-at.desk) (D.may_write c.say.new.self) i.names_written e.names_written;
      within = omega arith;
      said = λ t. said_on c.args.text.now (D.seen c.args.desk.now).said (D.seen c.loop-at.desk).said (D.seen c.say.new.self).said c.loop-at.at c.in-Ok.count i.within (i.said t) (e.ok (i.same.tells ∙ t));
      few = (let more : 0 < c.in-Ok.count = e.within.1 (omega (arith, length-drop c.loop-at.at c.args.text.now, c.loop-at-test.true)) in omega (arith, i.few, more));
      counted = more_says (D.seen c.args.desk.now).says (D.seen c.loop-at.desk).says (D.seen c.say.new.self).says c.loop-at.says i.counted c.say.ensures.says;
      calm = e.ok_say_faults ∙ i.calm;
    }
