use Rattle.std.proofs.Common.{◌≡◌, ℕ, List, ◌-◌, ◌≤◌, ◌++◌, length, true, Some}
use Rattle.ice_desk.specs.Changes.{SameButReading, SameTest, after_one}
use Rattle.ice_desk_pieces.specs.Taken.{TakesMore}
use Rattle.ice_desk_pieces.proofs.read.read_pieces.Given as goal

abbrev pub invariant-loop-count : goal.invariant-loop-count
invariant-loop-count g l =
    let D = g.D.Desk in
    record {
      same : SameButReading (D.seen l.fn.desk) (D.seen l.desk);
      names_read : SameTest (D.may_read l.fn.desk) (D.may_read l.desk);
      names_written : SameTest (D.may_write l.fn.desk) (D.may_write l.desk);
      begun : (D.seen l.desk).begins ≡ after_one (D.seen l.fn.desk).begins;
      faults : (D.seen l.desk).read_faults ≡ (D.seen l.fn.desk).read_faults;
      given : (D.seen l.desk).given ≡ l.given;
      within : l.given ≤ l.limit;
      bytes : List ℕ;
      counted : length bytes ≡ l.given;
      file : (D.seen l.fn.desk).tells ≡ true → (D.seen l.fn.desk).files l.name ≡ Some (bytes ++ (D.seen l.desk).left);
      still : g.T.Taker.spent l.fn.taker → g.T.Taker.spent l.taker;
      taken : TakesMore (g.T.Taker.stands l.fn.taker) (g.T.Taker.stands l.taker) bytes;
    }

abbrev pub decreases-loop-count : goal.decreases-loop-count
decreases-loop-count g l = l.limit - l.given
