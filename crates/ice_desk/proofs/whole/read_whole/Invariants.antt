use Rattle.std.proofs.Common.{◌≡◌, ◌-◌, ◌≤◌, ◌++◌, length, true, Some, vec_len}
use Rattle.ice_desk.specs.Changes.{SameButReading, SameTest, after_one}
use Rattle.ice_desk.proofs.whole.read_whole.Given as goal

abbrev pub invariant-loop-text : goal.invariant-loop-text
invariant-loop-text g l =
    let D = g.D.Desk in
    record {
      same : SameButReading (D.seen l.fn.desk) (D.seen l.desk);
      names_read : SameTest (D.may_read l.fn.desk) (D.may_read l.desk);
      names_written : SameTest (D.may_write l.fn.desk) (D.may_write l.desk);
      begun : (D.seen l.desk).begins ≡ after_one (D.seen l.fn.desk).begins;
      faults : (D.seen l.desk).read_faults ≡ (D.seen l.fn.desk).read_faults;
      given : (D.seen l.desk).given ≡ length l.text.items;
      within : length l.text.items ≤ l.limit;
      bytes : (D.seen l.fn.desk).tells ≡ true → (D.seen l.fn.desk).files l.name ≡ Some (l.text.items ++ (D.seen l.desk).left);
    }

abbrev pub decreases-loop-text : goal.decreases-loop-text
decreases-loop-text g l = l.limit - vec_len l.text
