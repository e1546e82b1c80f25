use Rattle.std.proofs.Common.{◌≡◌, ◌-◌, ◌≤◌, length, take, true, Some}
use Rattle.ice_desk.specs.Changes.{SameButWriting, SameTest, after_one}
use Rattle.ice_desk.proofs.whole.write_whole.Given as goal

abbrev pub invariant-loop-at : goal.invariant-loop-at
invariant-loop-at g l =
    let D = g.D.Desk in
    record {
      same : SameButWriting l.name (D.seen l.fn.desk) (D.seen l.desk);
      names_read : SameTest (D.may_read l.fn.desk) (D.may_read l.desk);
      names_written : SameTest (D.may_write l.fn.desk) (D.may_write l.desk);
      made : (D.seen l.desk).makes ≡ after_one (D.seen l.fn.desk).makes;
      faults : (D.seen l.desk).write_faults ≡ (D.seen l.fn.desk).write_faults;
      puts : (D.seen l.desk).puts ≡ l.put;
      few : l.put ≤ l.at;
      within : l.at ≤ length l.text;
      opened : (D.seen l.desk).is_open ≡ true;
      taken : (D.seen l.fn.desk).tells ≡ true → (D.seen l.desk).taken ≡ Some l.name;
      front : (D.seen l.fn.desk).tells ≡ true → (D.seen l.desk).files l.name ≡ Some (take l.at l.text);
    }

abbrev pub decreases-loop-at : goal.decreases-loop-at
decreases-loop-at g l = length l.text - l.at
