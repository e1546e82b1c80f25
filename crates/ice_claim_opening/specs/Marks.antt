-- The nets that lost a wire, marked.
use Rattle.std.specs.Prelude.{◌≡◌, ℕ, ◌⊎◌, List, Some, length, slice_get}
use Rattle.ice_base.specs.declared.number.WireNo.{WireNo}
use Rattle.ice_negotiate_defs.specs.declared.kept.Kept.{Kept}
use Rattle.ice_negotiate_defs.specs.declared.kept.Kept.TheVariants.{Lost}
use Rattle.ice_claim_opening.specs.declared.notes.Note.{Note}

-- one of the notes says that the net lost the wire
pub record IsNotedLost (notes : List Note) (net : ℕ) (wire : WireNo) : Type 0 where
  pub place : ℕ
  pub note : Note
  pub at : slice_get notes place ≡ Some note
  pub of : note.net ≡ net
  pub lost : note.lost ≡ Some wire

-- what was left of the net and is so still, as no note says that it lost a wire; or the wire that one says
abbrev pub IsMark : List Kept → List Note → ℕ → Kept → Type 0
IsMark before notes n after = ((slice_get before n ≡ Some after) × ((wire : WireNo) → IsNotedLost notes n wire → ⊥)) ⊎ ((wire : WireNo) × IsNotedLost notes n wire × (after ≡ Lost wire))

pub record AreMarked (before : List Kept) (notes : List Note) (after : List Kept) : Type 0 where
  pub long : length after ≡ length before
  pub each : (n : ℕ) (one : Kept) → slice_get after n ≡ Some one → IsMark before notes n one
