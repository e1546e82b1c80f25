-- What was read of the files of a command, each to its end, and why reading stopped.
use Rattle.std.specs.Prelude.{◌≡◌, ℕ, zero, suc, ◌<◌, ◌≤◌, true, Some, List, [], ◌∷◌, length}
use Rattle.ice_desk.specs.Desk.{Meaning}
use Rattle.ice_desk.specs.Changes.{Rose, after_more}
use Rattle.ice_flow_frame.specs.declared.cause.Cause.{Cause}
use Rattle.ice_flow_frame.specs.declared.cause.Cause.TheVariants.{ReadFault, NoMemory, TooLong}
use Rattle.ice_flow_frame.specs.declared.cause.FileRole.{FileRole}
use Rattle.ice_flow_frame.specs.declared.cause.FileRole.TheVariants.{Standard}

-- the most bytes of a text
abbrev pub most_bytes : ℕ
most_bytes = 268435456

-- a file of a command: what it is to the command, and its name
pub record File : Type 0 where
  pub role : FileRole
  pub name : List ℕ

-- files of a command, in the order of reading or of writing
abbrev pub Files : Type 0
Files = List File

-- the role of the file that has so many before it
abbrev pub role_behind : Files → ℕ → FileRole
role_behind [] before = Standard
role_behind (file ∷ files) zero = file.role
role_behind (file ∷ files) (suc before) = role_behind files before

-- the role of the file at a place, from 1
abbrev pub role_at : Files → ℕ → FileRole
role_at files zero = Standard
role_at files (suc before) = role_behind files before

-- the name of the file that has so many before it
abbrev pub name_behind : Files → ℕ → List ℕ
name_behind [] before = []
name_behind (file ∷ files) zero = file.name
name_behind (file ∷ files) (suc before) = name_behind files before

-- the name of the file at a place, from 1
abbrev pub name_at : Files → ℕ → List ℕ
name_at files zero = []
name_at files (suc before) = name_behind files before

-- the text that was read from a file: the file's own, where the desk tells its contents
abbrev pub IsTextOf : Meaning → List ℕ → List ℕ → Type 0
IsTextOf desk name text = desk.tells ≡ true → desk.files name ≡ Some text

-- the files before this place are not too long
abbrev pub FitBefore : Files → Meaning → ℕ → Type 0
FitBefore files desk place =
    (n : ℕ) (bytes : List ℕ) → 0 < n → n < place → desk.tells ≡ true → desk.files (name_at files n) ≡ Some bytes → length bytes ≤ most_bytes

-- the role of the file that was begun last: the one at this place of those that this call began
pub record IsLastRead (files : Files) (old new : Meaning) (role : FileRole) : Type 0 where
  pub place : ℕ
  pub some : 0 < place
  pub few : place ≤ length files
  pub begun : new.begins ≡ after_more old.begins place
  pub is_role : role ≡ role_at files place
  pub before : FitBefore files old place

-- a read fault: the count of read faults rose in this call
pub record IsReadFault (files : Files) (old new : Meaning) (role : FileRole) : Type 0 where
  pub rose : Rose old.read_faults new.read_faults
  pub last : IsLastRead files old new role

-- a text that is too long: more bytes than the limit were given
pub record IsTooLong (files : Files) (old new : Meaning) (role : FileRole) (limit : ℕ) : Type 0 where
  pub is_limit : limit ≡ most_bytes
  pub given : limit < new.given
  pub last : IsLastRead files old new role
  pub longer : (bytes : List ℕ) → old.tells ≡ true → old.files (name_at files last.place) ≡ Some bytes → limit < length bytes

-- why the files of a command were not all read: what the desk shows before and after
abbrev pub IsUnread : Files → Meaning → Meaning → Cause → Type 0
IsUnread files old new (ReadFault role) = IsReadFault files old new role
IsUnread files old new (TooLong role limit) = IsTooLong files old new role limit
IsUnread files old new NoMemory = new.makes ≡ old.makes
IsUnread files old new cause = ⊥

-- the file at this place is the first, in the order of reading, that is longer than the limit
pub record IsFirstTooLong (files : Files) (desk : Meaning) (place : ℕ) : Type 0 where
  pub some : 0 < place
  pub few : place ≤ length files
  pub bytes : List ℕ
  pub holds : desk.files (name_at files place) ≡ Some bytes
  pub longer : most_bytes < length bytes
  pub before : (n : ℕ) → 0 < n → n < place → (earlier : List ℕ) × (desk.files (name_at files n) ≡ Some earlier) × (length earlier ≤ most_bytes)

-- why one file was not read whole
abbrev pub IsReadStop : List ℕ → FileRole → Meaning → Meaning → Cause → Type 0
IsReadStop name role old new (ReadFault of_role) = (of_role ≡ role) × Rose old.read_faults new.read_faults
IsReadStop name role old new (TooLong of_role limit) =
    (of_role ≡ role) × (limit ≡ most_bytes) × (limit < new.given)
    × ((bytes : List ℕ) → old.tells ≡ true → old.files name ≡ Some bytes → limit < length bytes)
IsReadStop name role old new NoMemory = Unit {0}
IsReadStop name role old new cause = ⊥

-- a fault of reading or want of memory, which may come in the place of any other answer
abbrev pub IsInterrupted : Cause → Type 0
IsInterrupted (ReadFault role) = Unit {0}
IsInterrupted NoMemory = Unit {0}
IsInterrupted cause = ⊥

-- the answer that a text is too long
abbrev pub IsLong : Cause → Type 0
IsLong (TooLong role limit) = Unit {0}
IsLong cause = ⊥

-- Where the file that was begun last gave more bytes than the limit, the answer is that a text is too long. What a file gave is known
-- over every desk.
abbrev pub TellsLong : Meaning → Cause → Type 0
TellsLong new cause = most_bytes < new.given → IsLong cause
