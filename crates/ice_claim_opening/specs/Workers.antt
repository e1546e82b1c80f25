-- Workers of an opening, before, in and after their work.
use Rattle.std.specs.Prelude.{◌≡◌, ℕ, ◌≤◌, ◌<◌, List, [], ◌∷◌, length, vec_capacity}
use Rattle.ice_claim.specs.declared.view.ClaimPart.{ClaimPart}
use Rattle.ice_claim.specs.declared.view.ClaimView.{ClaimView}
use Rattle.ice_claim.specs.Claims.{total, ends_of, no_part, taking, losing}
use Rattle.ice_claim.specs.Rule.{AreLists}
use Rattle.ice_claim.specs.Grips.{Board, IsPassOf}
use Rattle.ice_claim_opening.specs.declared.notes.Note.{Note}
use Rattle.ice_claim_opening.specs.declared.workers.Job.{Job}
use Rattle.ice_claim_opening.specs.Notes.{AreNotes}

-- the part after it took these wires for the net, in order
abbrev pub took : ℕ → List ℕ → ClaimPart → ClaimPart
took net [] p = p
took net (w ∷ wires) p = took net wires (taking net w p)

-- the part after it then lost one
abbrev pub took_until : ℕ → List ℕ → ℕ → ClaimPart → ClaimPart
took_until net wires lost p = losing net lost (took net wires p)

-- the newest of these numbers is below n, and each other one below the one behind it
abbrev pub Falls : ℕ → List ℕ → Type 0
Falls n [] = Unit {0}
Falls n (m ∷ nets) = (m < n) × Falls m nets

-- the table is of these lists
pub record IsTableOf (board : Board) (lists : List (List ℕ)) : Type 0 where
  pub same : board.lists ≡ lists
  pub start : AreLists board.wires board.lists

-- a pass that has claimed nothing
abbrev pub IsFresh : ClaimView → Type 0
IsFresh v = v.parts ≡ no_part ∷ []

-- a worker that has done nothing
pub record IsWaiting (board : Board) (job : Job) : Type 0 where
  pub of : IsPassOf board job.pass
  pub worker : job.pass.view.worker ≡ 1
  pub fresh : IsFresh job.pass.view
  pub notes : job.notes.items ≡ []
  pub room : length board.lists ≤ vec_capacity job.notes

-- a worker that has worked
pub record HasWorked (board : Board) (job : Job) : Type 0 where
  pub of : IsPassOf board job.pass
  pub worker : job.pass.view.worker ≡ 1
  pub notes : AreNotes board.lists job.pass.view.parts job.notes.items
  pub ended : 1 ≤ total ends_of job.pass.view

-- the main pass after so many splits
pub record IsSplit (n : ℕ) (v : ClaimView) : Type 0 where
  pub main : v.main ≡ 1
  pub out : v.out ≡ n
  pub splits : v.splits ≡ n
  pub fresh : IsFresh v

-- the main pass, with so many passes still out, and the notes of all that was joined
pub record IsGathered (lists : List (List ℕ)) (out : ℕ) (v : ClaimView) (notes : List Note) : Type 0 where
  pub main : v.main ≡ 1
  pub out_is : v.out ≡ out
  pub of_all : AreNotes lists v.parts notes
