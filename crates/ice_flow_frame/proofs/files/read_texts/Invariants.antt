use Rattle.std.proofs.Common.{ℕ, ◌≡◌, ◌≤◌, ◌<◌, ◌+◌, ◌-◌, length, take}
use Rattle.ice_desk.specs.Changes.{SameButReading, SameTest, after_one, after_more}
use Rattle.ice_flow_frame.specs.Reading.{most_bytes, FitBefore}
use Rattle.ice_flow_frame.specs.TextLists.{texts_view}
use Rattle.ice_flow_frame.specs.Texts.{files_view, AreTexts}
use Rattle.ice_flow_frame.proofs.files.read_texts.Given as goal

abbrev pub invariant-loop-read : goal.invariant-loop-read
invariant-loop-read g l =
    let D = g.D.Desk in
    record {
      same : SameButReading (D.seen l.fn.desk) (D.seen l.desk);
      names_read : SameTest (D.may_read l.fn.desk) (D.may_read l.desk);
      names_written : SameTest (D.may_write l.fn.desk) (D.may_write l.desk);
      within : l.read ≤ length l.files;
      begun : (next : ℕ) → next ≡ after_one (D.seen l.desk).begins → next ≡ after_more (D.seen l.fn.desk).begins (l.read + 1);
      texts : AreTexts (take l.read (files_view l.files)) (D.seen l.fn.desk) (texts_view l.texts.items);
      fits : FitBefore (files_view l.files) (D.seen l.fn.desk) (l.read + 1);
      given : 0 < l.read → (D.seen l.desk).given ≤ most_bytes;
    }

abbrev pub decreases-loop-read : goal.decreases-loop-read
decreases-loop-read g l = length l.files - l.read
