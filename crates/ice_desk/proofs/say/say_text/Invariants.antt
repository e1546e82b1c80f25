use Rattle.std.proofs.Common.{◌≡◌, ◌≤◌, ◌-◌, ◌++◌, length, take, true}
use Rattle.ice_desk.specs.Changes.{SameButSaying, SameTest}
use Rattle.ice_desk.proofs.Saying.{AreSays}
use Rattle.ice_desk.proofs.say.say_text.Given as goal

abbrev pub invariant-loop-at : goal.invariant-loop-at
invariant-loop-at g l =
    let D = g.D.Desk in
    record {
      same : SameButSaying (D.seen l.fn.desk) (D.seen l.desk);
      names_read : SameTest (D.may_read l.fn.desk) (D.may_read l.desk);
      names_written : SameTest (D.may_write l.fn.desk) (D.may_write l.desk);
      within : l.at ≤ length l.text;
      said : (D.seen l.fn.desk).tells ≡ true → (D.seen l.desk).said ≡ (D.seen l.fn.desk).said ++ take l.at l.text;
      few : l.says ≤ l.at;
      counted : AreSays (D.seen l.fn.desk).says (D.seen l.desk).says l.says;
      calm : (D.seen l.desk).say_faults ≡ (D.seen l.fn.desk).say_faults;
    }

abbrev pub decreases-loop-at : goal.decreases-loop-at
decreases-loop-at g l = length l.text - l.at
