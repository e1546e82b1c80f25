use Rattle.std.proofs.Common.{ℕ, ◌≡◌, ◌≤◌, ◌-◌, List, true, length}
use Rattle.ice_desk.specs.Changes.{SameTest}
use Rattle.ice_flow_frame.specs.Ends.{SameButFiles}
use Rattle.ice_flow_frame.specs.Texts.{files_view}
use Rattle.ice_flow_frame.specs.Writing.{MadeMore, after_writing}
use Rattle.ice_flow_frame.proofs.writing.write_texts.Given as goal

abbrev pub invariant-loop-written : goal.invariant-loop-written
invariant-loop-written g l =
    let D = g.D.Desk in
    record {
      same : SameButFiles (D.seen l.fn.desk) (D.seen l.desk);
      names_read : SameTest (D.may_read l.fn.desk) (D.may_read l.desk);
      names_written : SameTest (D.may_write l.fn.desk) (D.may_write l.desk);
      within : l.written ≤ length l.files;
      made : MadeMore l.written (D.seen l.fn.desk) (D.seen l.desk);
      held : (D.seen l.fn.desk).tells ≡ true → (name : List ℕ) → (D.seen l.desk).files name ≡ after_writing l.written (files_view l.files) l.texts (D.seen l.fn.desk).files name;
    }

abbrev pub decreases-loop-written : goal.decreases-loop-written
decreases-loop-written g l = length l.files - l.written
