-- What workers note of the nets that they claimed.
use Rattle.std.specs.Prelude.{◌≡◌, ℕ, ◌<◌, ◌≤◌, List, None, Some, Option, cond, length, nat_eq, slice_get}
use Rattle.std.specs.List.{sum_by, AllByRecursion}
use Rattle.ice_base.specs.declared.number.WireNo.{WireNo}
use Rattle.ice_core.specs.Routes.{times, sum_below, wires_of}
use Rattle.ice_claim.specs.declared.view.ClaimPart.{ClaimPart}
use Rattle.ice_claim.specs.Claims.{nets_by, takes_pair}
use Rattle.ice_claim.specs.Rule.{IsShared}
use Rattle.ice_claim_opening.specs.declared.notes.Note.{Note}

-- the number, where no wire was lost
abbrev pub unless_lost : Option WireNo → ℕ → ℕ
unless_lost None k = k
unless_lost (Some wire) k = 0

-- how often the note gives the wire w to the net n: as often as the net's list has it, where the note is of this net and says that it is kept
abbrev pub kept_on : List (List ℕ) → ℕ → ℕ → Note → ℕ
kept_on lists n w note = cond (nat_eq n note.net) (unless_lost note.lost (times w (wires_of lists n))) 0

-- a net that isn't kept lost a wire of its list, which another net's list has too
abbrev pub IsLossNoted : List (List ℕ) → Note → Type 0
IsLossNoted lists note = (wire : WireNo) → note.lost ≡ Some wire → (1 ≤ times wire.0 (wires_of lists note.net)) × IsShared lists note.net wire.0

-- the notes of all nets that were claimed in these parts: a net that is noted as kept has all wires of its list there, and one that isn't has none
pub record AreNotes (lists : List (List ℕ)) (parts : List ClaimPart) (notes : List Note) : Type 0 where
  pub nets : (f : ℕ → ℕ) → sum_by (nets_by f) parts ≡ sum_by (λ (note : Note). f note.net) notes
  pub taken : (n w : ℕ) → sum_by (takes_pair n w) parts ≡ sum_by (kept_on lists n w) notes
  pub losses : AllByRecursion (IsLossNoted lists) notes

-- a kept net before the note k has the wire in its list
pub record IsHeldBefore (lists : List (List ℕ)) (notes : List Note) (k w : ℕ) : Type 0 where
  pub place : ℕ
  pub note : Note
  pub before : place < k
  pub at : slice_get notes place ≡ Some note
  pub kept : note.lost ≡ None
  pub listed : 1 ≤ times w (wires_of lists place)

-- the nets in order from the first, and one that isn't kept lost a wire that an earlier kept one has
pub record AreInTurn (lists : List (List ℕ)) (notes : List Note) : Type 0 where
  pub turn : (k : ℕ) (note : Note) → slice_get notes k ≡ Some note → note.net ≡ k
  pub lost : (k : ℕ) (note : Note) (wire : WireNo) → slice_get notes k ≡ Some note → note.lost ≡ Some wire → IsHeldBefore lists notes k wire.0

-- the notes of all nets: one for each, no wire is in the lists of two kept ones, and one worker goes through them in turn
pub record AreAllNotes (lists : List (List ℕ)) (workers : ℕ) (notes : List Note) : Type 0 where
  pub nets : (f : ℕ → ℕ) → sum_by (λ (note : Note). f note.net) notes ≡ sum_below (length lists) f
  pub apart : (i j w : ℕ) → 1 ≤ sum_by (kept_on lists i w) notes → 1 ≤ sum_by (kept_on lists j w) notes → i ≡ j
  pub losses : AllByRecursion (IsLossNoted lists) notes
  pub turn : workers ≡ 1 → AreInTurn lists notes
