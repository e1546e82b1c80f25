-- The files of a desk in memory, and what is left of the one that was begun.
use Rattle.std.specs.Prelude.{◌≡◌, ℕ, zero, suc, ◌+◌, ◌-◌, Bool, true, false, List, [], ◌∷◌, ◌++◌, take, drop, Option, Some, None, if◌then◌else◌}
use Rattle.std.specs.Global.{Vec}
use Rattle.std.specs.Str.{bytes_eq}
use Rattle.ice_desk.specs.declared.files.Source.{Source}
use Rattle.ice_desk.specs.declared.files.Source.TheVariants.{Nothing, File, Moved}

-- a file: its name and its bytes
abbrev pub Named : Type 0
Named = List ℕ × Vec ℕ

abbrev pub has_name : List ℕ → Named → Bool
has_name name f = bytes_eq f.0 name

-- what the first file of a name holds
abbrev pub file_in : List Named → List ℕ → Option (List ℕ)
file_in [] name = None
file_in (f ∷ fs) name = if has_name name f then Some f.1.items else file_in fs name

-- the place of the first file of a name, where the first of the list has the place i
abbrev pub place_from : ℕ → List Named → List ℕ → Option ℕ
place_from i [] name = None
place_from i (f ∷ fs) name = if has_name name f then Some i else place_from (i + 1) fs name

-- the first file of the name has this place
abbrev pub IsPlace : List ℕ → List Named → ℕ → Type 0
IsPlace name [] k = ⊥
IsPlace name (f ∷ fs) zero = has_name name f ≡ true
IsPlace name (f ∷ fs) (suc k) = (has_name name f ≡ false) × IsPlace name fs k

-- the bytes of the file at a place, and none where there is no such place
abbrev pub bytes_at : List Named → ℕ → List ℕ
bytes_at [] k = []
bytes_at (f ∷ fs) zero = f.1.items
bytes_at (f ∷ fs) (suc k) = bytes_at fs k

-- the bytes that are read from: those of a file, or those that it held before it was made again
abbrev pub source_bytes : List Named → Source → List ℕ
source_bytes fs Nothing = []
source_bytes fs (File k) = bytes_at fs k
source_bytes fs (Moved bytes) = bytes.items

-- how many files there have to be for a source
abbrev pub needed_files : Source → ℕ
needed_files Nothing = 0
needed_files (File k) = k + 1
needed_files (Moved bytes) = 0

-- what is left of a source between two places
abbrev pub left_between : List Named → Source → ℕ → ℕ → List ℕ
left_between fs source at end = take (end - at) (drop at (source_bytes fs source))

-- each file holds what it held, and maybe more behind
abbrev pub Grew : List Named → List Named → Type 0
Grew before now = (k : ℕ) → (more : List ℕ) × (bytes_at now k ≡ bytes_at before k ++ more)
