-- When each answer of a command comes: only where its cause is true, and always there, unless the desk or the memory fails.
use Rattle.std.specs.Prelude.{◌≡◌, ◌≢◌, ◌⊎◌, ◌↔◌, ℕ, ◌<◌, ◌≤◌, true, Option, Some, List, [], ◌∷◌, ◌++◌, length}
use Rattle.std.specs.Global.{Vec}
use Rattle.ice_place.specs.declared.arrangement.Arrangement.{Arrangement}
use Rattle.ice_desk.specs.Desk.{Meaning}
use Rattle.ice_desk.specs.Changes.{Rose, after_one, HoldsAfter}
use Rattle.ice_desk.specs.Said.{SaidRow}
use Rattle.ice_negotiate_defs.specs.declared.kept.Kept.{Kept}
use Rattle.ice_words.specs.Grips.{Shut}
use Rattle.ice_flow_frame.specs.declared.cause.Cause.{Cause}
use Rattle.ice_flow_frame.specs.declared.cause.Cause.TheVariants.{Good, GaveUp, ReadFault, WriteFault, TooLong}
use Rattle.ice_flow_frame.specs.declared.cause.FileRole.{FileRole}
use Rattle.ice_flow_frame.specs.Causes.{line_of}
use Rattle.ice_flow_frame.specs.Says.{SilentWhereDone}
use Rattle.ice_flow_frame.specs.Reading.{most_bytes, File, Files, role_at, IsReadFault, IsTooLong, IsFirstTooLong, IsInterrupted, IsLong}
use Rattle.ice_flow_frame.specs.Texts.{text_at, OfTexts, HoldsTexts}
use Rattle.ice_flow_frame.specs.Writing.{MadeMore, IsOther, HoldFrom}
use Rattle.ice_flow_frame.specs.Told.{Told, telling}
use Rattle.ice_flow_frame.specs.Commands.{Command, Output, Aloud, InFiles, IsDone, IsRefused, HasGivenUp, IsWriteFault}

-- Such an answer comes only where the texts are so; and where the files hold texts that are so, it always comes, unless
-- the desk's reading or the memory fails.
pub record ComesExactly (k : Command) (old : Meaning) (IsSuch : Cause → Type 0) (AreSo : List (List ℕ) → Type 0) (cause : Cause) : Type 0 where
  pub only : IsSuch cause → OfTexts k.files old AreSo
  pub always : (texts : List (List ℕ)) → HoldsTexts k.files old texts → AreSo texts → IsSuch cause ⊎ IsInterrupted cause

-- status 0, or 12 where a fault of writing comes in between: exactly where the texts give something
abbrev pub DoneRow : Command → Meaning → Cause → Type 0
DoneRow k old cause = ComesExactly k old IsDone (λ texts. (made : List (List ℕ)) × (arrangement : Arrangement) × (told : Told) × k.Gives texts made arrangement told) cause

-- what was made stands where it was to be given: the first text was said, or each file holds its text, unless a later one has the same name
abbrev pub IsThere : Output → List (List ℕ) → Meaning → Meaning → Type 0
IsThere Aloud texts old new = new.said ≡ old.said ++ text_at texts 1
IsThere (InFiles files) texts old new = HoldFrom 1 files texts new

-- what the texts of the files give with this arrangement, of whose routing this is told, stands where it was to be given
pub record IsHeld (k : Command) (old new : Meaning) (arrangement : Arrangement) (told : Told) : Type 0 where
  pub texts : List (List ℕ)
  pub made : List (List ℕ)
  pub hold : HoldsTexts k.files old texts
  pub gives : k.Gives texts made arrangement told
  pub there : IsThere k.output made old new

-- status 0: the work is done; and where the desk tells its contents, what was given is what the texts give with the arrangement, the
-- tallies and what the opening left, as they are told
pub record GoodRow (k : Command) (old new : Meaning) (cause : Cause) (status : ℕ) : Type 0 where
  pub done : status ≡ 0 → (arrangement : Arrangement) × (tallies : Vec Shut) × (kept : Vec Kept) × (cause ≡ Good arrangement tallies kept)
  pub held : (arrangement : Arrangement) (tallies : Vec Shut) (kept : Vec Kept) → cause ≡ Good arrangement tallies kept → old.tells ≡ true → IsHeld k old new arrangement (telling tallies kept)

-- status 11: only where the count of read faults rose in this call
abbrev pub ReadFaultRow : Command → Meaning → Meaning → Cause → Type 0
ReadFaultRow k old new cause = (role : FileRole) → cause ≡ ReadFault role → IsReadFault k.files old new role

-- status 12: only where the count of write faults rose in this call
abbrev pub WriteFaultRow : Command → Meaning → Meaning → Cause → Type 0
WriteFaultRow k old new cause = (role : FileRole) (put : ℕ) → cause ≡ WriteFault role put → IsWriteFault k old new role put

-- status 16: exactly where a file has more bytes than the limit; and over every desk, exactly where the file that was begun last gave
-- more than the limit
pub record TooLongRow (k : Command) (old new : Meaning) (cause : Cause) : Type 0 where
  pub only : (role : FileRole) (limit : ℕ) → cause ≡ TooLong role limit → IsTooLong k.files old new role limit
  pub always : (place : ℕ) → old.tells ≡ true → IsFirstTooLong k.files old place → (cause ≡ TooLong (role_at k.files place) most_bytes) ⊎ IsInterrupted cause
  pub exactly : IsLong cause ↔ (most_bytes < new.given)

-- ---- what an answer says, and which files it changes

-- What was said, beside what a command says that speaks: the whole line of a refusal, or a front of it where a say failed. After a
-- failed say of what was made nothing more was said.
abbrev pub SaidBy : Output → Meaning → Meaning → Cause → Type 0
SaidBy Aloud old new cause = IsRefused cause → SaidRow old new (line_of cause)
SaidBy (InFiles files) old new cause = SaidRow old new (line_of cause)

-- the files that an answer may change: those that are written, where the work was not refused before; and by a refusal the parting file
-- alone, where the rounds gave up
abbrev pub changed_by : Output → Option File → Cause → Files
changed_by Aloud parting cause = []
changed_by (InFiles files) parting (Good arrangement tallies kept) = files
changed_by (InFiles files) parting (WriteFault role put) = files
changed_by (InFiles files) (Some file) (GaveUp arrangement logs tallies kept) = file ∷ []
changed_by (InFiles files) parting cause = []

-- where the desk tells, no other file changed
abbrev pub KeptRow : Output → Option File → Meaning → Meaning → Cause → Type 0
KeptRow output parting old new cause = (name : List ℕ) → IsOther name (changed_by output parting cause) → new.files name ≡ old.files name

-- how many files were made, over every desk: each that is written, where the work is done; those up to the one of a write fault; the
-- parting file, where the rounds gave up; and else none
abbrev pub MadeRow : Output → Option File → Meaning → Meaning → Cause → Type 0
MadeRow Aloud parting old new cause = new.makes ≡ old.makes
MadeRow (InFiles files) parting old new (Good arrangement tallies kept) = MadeMore (length files) old new
MadeRow (InFiles files) parting old new (WriteFault role put) = (place : ℕ) × (0 < place) × (place ≤ length files) × MadeMore place old new
MadeRow (InFiles files) (Some file) old new (GaveUp arrangement logs tallies kept) = new.makes ≡ after_one old.makes
MadeRow (InFiles files) parting old new cause = new.makes ≡ old.makes

-- where a command that writes is done, nothing was said, over every desk
abbrev pub SilentRow : Output → Meaning → Meaning → Cause → Type 0
SilentRow Aloud old new cause = Unit {0}
SilentRow (InFiles files) old new cause = SilentWhereDone old new cause

-- ---- what is left on parting

-- the file holds the text; or the count of write faults rose, and it holds a front of the text, or is as before or empty
abbrev pub IsLeftIn : List ℕ → List ℕ → Meaning → Meaning → Type 0
IsLeftIn name text old new = (new.files name ≡ Some text) ⊎ (Rose old.write_faults new.write_faults × HoldsAfter text new.puts (old.files name) (new.files name))

-- a text that the command leaves was written to the parting file, as far as no call failed, and no other file changed
pub record IsParted (k : Command) (file : File) (old new : Meaning) (cause : Cause) : Type 0 where
  pub text : List ℕ
  pub texts : OfTexts k.files old (λ texts. k.Leaves texts cause text)
  pub made : new.makes ≡ after_one old.makes
  pub left : old.tells ≡ true → IsLeftIn file.name text old new
  pub others : old.tells ≡ true → (other : List ℕ) → other ≢ file.name → new.files other ≡ old.files other

-- status 10: where the rounds gave up, what the parting file holds
abbrev pub PartingRow : Command → Meaning → Meaning → Cause → Type 0
PartingRow k old new cause = (file : File) → k.parting ≡ Some file → HasGivenUp cause → IsParted k file old new cause
