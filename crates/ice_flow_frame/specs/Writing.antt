-- The writing of texts to files, one after another: each file gets the text of its place.
use Rattle.std.specs.Prelude.{◌≡◌, ◌≢◌, ℕ, zero, suc, ◌+◌, ◌<◌, true, Option, Some, List, [], ◌∷◌, length, if◌then◌else◌}
use Rattle.std.specs.Str.{bytes_eq}
use Rattle.ice_desk.specs.Desk.{Meaning}
use Rattle.ice_desk.specs.Changes.{Rose, after_more, HoldsAfter}
use Rattle.ice_flow_frame.specs.declared.cause.FileRole.{FileRole}
use Rattle.ice_flow_frame.specs.Reading.{File, Files, role_behind, name_behind}
use Rattle.ice_flow_frame.specs.Texts.{text_behind, text_at}

-- so many files were made
abbrev pub MadeMore : ℕ → Meaning → Meaning → Type 0
MadeMore zero old new = new.makes ≡ old.makes
MadeMore (suc before) old new = new.makes ≡ after_more old.makes (suc before)

-- no file of these has this name
abbrev pub IsOther : List ℕ → Files → Type 0
IsOther name [] = Unit {0}
IsOther name (file ∷ files) = (name ≢ file.name) × IsOther name files

-- what the file of each name holds
abbrev pub Contents : Type 0
Contents = List ℕ → Option (List ℕ)

-- once this text was written to the file of this name
abbrev pub once_written : List ℕ → List ℕ → Contents → Contents
once_written name text held other = if bytes_eq name other then Some text else held other

-- once the first files, so many of them, were written in their order
abbrev pub after_writing : ℕ → Files → List (List ℕ) → Contents → Contents
after_writing zero files texts held = held
after_writing (suc before) files texts held = once_written (name_behind files before) (text_behind texts before) (after_writing before files texts held)

-- the files hold their texts, the first of them that of this place; each unless a later one has the same name
abbrev pub HoldFrom : ℕ → Files → List (List ℕ) → Meaning → Type 0
HoldFrom place [] texts desk = Unit {0}
HoldFrom place (file ∷ files) texts desk = (IsOther file.name files → desk.files file.name ≡ Some (text_at texts place)) × HoldFrom (place + 1) files texts desk

-- Why one file was not written whole: the count of write faults rose in this call, at this put of the file, or at its make, which is 0.
-- It holds a front of the text, or is as before or empty.
pub record IsWriteStop (file : File) (text : List ℕ) (old new : Meaning) (role : FileRole) (put : ℕ) : Type 0 where
  pub is_role : role ≡ file.role
  pub rose : Rose old.write_faults new.write_faults
  pub puts : new.puts ≡ put
  pub holds : old.tells ≡ true → HoldsAfter text put (old.files file.name) (new.files file.name)

-- all files were written
pub record AreWritten (files : Files) (texts : List (List ℕ)) (old new : Meaning) : Type 0 where
  pub made : MadeMore (length files) old new
  pub hold : old.tells ≡ true → (name : List ℕ) → new.files name ≡ after_writing (length files) files texts old.files name

-- The count of write faults rose in this call, at this put of the file that has so many before it. Those were written, and it holds a
-- front of its text, or is as it was then or empty.
pub record AreWrittenInPart (files : Files) (texts : List (List ℕ)) (old new : Meaning) (role : FileRole) (put : ℕ) : Type 0 where
  pub before : ℕ
  pub few : before < length files
  pub is_role : role ≡ role_behind files before
  pub rose : Rose old.write_faults new.write_faults
  pub made : MadeMore (before + 1) old new
  pub puts : new.puts ≡ put
  pub holds : old.tells ≡ true
      → HoldsAfter (text_behind texts before) put (after_writing before files texts old.files (name_behind files before)) (new.files (name_behind files before))
  pub others : old.tells ≡ true → (other : List ℕ) → other ≢ name_behind files before → new.files other ≡ after_writing before files texts old.files other
