-- The texts of a command's files: those that are read, in the order of reading, and those that are made.
use Rattle.std.specs.Prelude.{◌≡◌, ℕ, zero, suc, ◌≤◌, true, Option, None, Some, List, [], ◌∷◌, length, map}
use Rattle.ice_desk.specs.Desk.{Meaning}
use Rattle.ice_flow_frame.specs.Reading.{most_bytes, File, Files, IsTextOf}
use Rattle.ice_flow_frame.specs.declared.files.CommandFile.{CommandFile}

-- the files that the program asks for
abbrev pub file_view : CommandFile → File
file_view file = record { role = file.role; name = file.name.now }

abbrev pub files_view : List CommandFile → Files
files_view files = map file_view files

abbrev pub parting_view : Option CommandFile → Option File
parting_view None = None
parting_view (Some file) = Some (file_view file)

-- the names of files pass a test of the desk
abbrev pub ArePermitted : (List ℕ → Type 0) → Files → Type 0
ArePermitted may_use [] = Unit {0}
ArePermitted may_use (file ∷ files) = may_use file.name × ArePermitted may_use files

abbrev pub IsPermitted : (List ℕ → Type 0) → Option File → Type 0
IsPermitted may_use None = Unit {0}
IsPermitted may_use (Some file) = may_use file.name

-- the text that has so many before it
abbrev pub text_behind : List (List ℕ) → ℕ → List ℕ
text_behind [] before = []
text_behind (text ∷ texts) zero = text
text_behind (text ∷ texts) (suc before) = text_behind texts before

-- the text at a place, from 1
abbrev pub text_at : List (List ℕ) → ℕ → List ℕ
text_at texts zero = []
text_at texts (suc before) = text_behind texts before

-- these are the texts that were read of the files, and none of them is too long
abbrev pub AreTexts : Files → Meaning → List (List ℕ) → Type 0
AreTexts [] desk [] = Unit {0}
AreTexts [] desk (text ∷ texts) = ⊥
AreTexts (file ∷ files) desk [] = ⊥
AreTexts (file ∷ files) desk (text ∷ texts) = IsTextOf desk file.name text × (length text ≤ most_bytes) × AreTexts files desk texts

-- there are such texts, and this is true of them
abbrev pub OfTexts : Files → Meaning → (List (List ℕ) → Type 0) → Type 0
OfTexts files desk P = (texts : List (List ℕ)) × AreTexts files desk texts × P texts

-- the files hold these texts, and none of them is too long
abbrev pub HoldEach : Files → Meaning → List (List ℕ) → Type 0
HoldEach [] desk [] = Unit {0}
HoldEach [] desk (text ∷ texts) = ⊥
HoldEach (file ∷ files) desk [] = ⊥
HoldEach (file ∷ files) desk (text ∷ texts) = (desk.files file.name ≡ Some text) × (length text ≤ most_bytes) × HoldEach files desk texts

-- the desk tells its contents, and its files hold these texts, none of which is too long
pub record HoldsTexts (files : Files) (desk : Meaning) (texts : List (List ℕ)) : Type 0 where
  pub tells : desk.tells ≡ true
  pub each : HoldEach files desk texts
