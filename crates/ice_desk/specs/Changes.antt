-- The meaning of a desk before any call, and what each of its calls may change.
use Rattle.std.specs.Prelude.{◌≡◌, ◌≢◌, ◌↔◌, ℕ, ◌+◌, ◌-◌, ◌^◌, ◌≤◌, min, Bool, true, false, ◌⊎◌, List, [], zero, suc, length, take, Option, Some, None}
use Rattle.ice_desk.specs.Desk.{Meaning}

-- a count of 64 bits after more: it stays at its last value once it is there
abbrev pub after_more : ℕ → ℕ → ℕ
after_more count more = min (count + more) (2 ^ 64 - 1)

abbrev pub after_one : ℕ → ℕ
after_one count = min (count + 1) (2 ^ 64 - 1)

-- a count rose, or stands at its last value
abbrev pub Rose : ℕ → ℕ → Type 0
Rose before now = after_one before ≤ now

-- the meaning of a desk of which no call was made yet: every count is 0
abbrev pub fresh : Bool → (List ℕ → Option (List ℕ)) → Meaning
fresh tells files = record {
  tells = tells;
  files = files;
  left = [];
  taken = None;
  said = [];
  given = 0;
  begins = 0;
  makes = 0;
  says = 0;
  puts = 0;
  is_open = false;
  read_faults = 0;
  write_faults = 0;
  say_faults = 0;
}

-- all but what reading may change is as before: left, given, begins and read_faults
pub record SameButReading (old new : Meaning) : Type 0 where
  pub tells : new.tells ≡ old.tells
  pub files : new.files ≡ old.files
  pub taken : new.taken ≡ old.taken
  pub said : new.said ≡ old.said
  pub makes : new.makes ≡ old.makes
  pub says : new.says ≡ old.says
  pub puts : new.puts ≡ old.puts
  pub is_open : new.is_open ≡ old.is_open
  pub write_faults : new.write_faults ≡ old.write_faults
  pub say_faults : new.say_faults ≡ old.say_faults
  pub read_faults : old.read_faults ≤ new.read_faults

-- all but what writing this file may change is as before: the file, taken, is_open, makes, puts and write_faults
pub record SameButWriting (name : List ℕ) (old new : Meaning) : Type 0 where
  pub tells : new.tells ≡ old.tells
  pub others : old.tells ≡ true → (other : List ℕ) → other ≢ name → new.files other ≡ old.files other
  pub left : new.left ≡ old.left
  pub said : new.said ≡ old.said
  pub given : new.given ≡ old.given
  pub begins : new.begins ≡ old.begins
  pub says : new.says ≡ old.says
  pub read_faults : new.read_faults ≡ old.read_faults
  pub say_faults : new.say_faults ≡ old.say_faults
  pub write_faults : old.write_faults ≤ new.write_faults

-- all but what a put may change is as before: the file that is taken, puts and write_faults
pub record SameButPutting (old new : Meaning) : Type 0 where
  pub tells : new.tells ≡ old.tells
  pub others : old.tells ≡ true → (other : List ℕ) → old.taken ≢ Some other → new.files other ≡ old.files other
  pub left : new.left ≡ old.left
  pub taken : new.taken ≡ old.taken
  pub said : new.said ≡ old.said
  pub given : new.given ≡ old.given
  pub begins : new.begins ≡ old.begins
  pub makes : new.makes ≡ old.makes
  pub says : new.says ≡ old.says
  pub is_open : new.is_open ≡ old.is_open
  pub read_faults : new.read_faults ≡ old.read_faults
  pub say_faults : new.say_faults ≡ old.say_faults
  pub write_faults : old.write_faults ≤ new.write_faults

-- all but what saying may change is as before: said, says, write_faults and say_faults
pub record SameButSaying (old new : Meaning) : Type 0 where
  pub tells : new.tells ≡ old.tells
  pub files : new.files ≡ old.files
  pub left : new.left ≡ old.left
  pub taken : new.taken ≡ old.taken
  pub given : new.given ≡ old.given
  pub begins : new.begins ≡ old.begins
  pub makes : new.makes ≡ old.makes
  pub puts : new.puts ≡ old.puts
  pub is_open : new.is_open ≡ old.is_open
  pub read_faults : new.read_faults ≡ old.read_faults
  pub write_faults : old.write_faults ≤ new.write_faults
  pub say_faults : old.say_faults ≤ new.say_faults

-- the same names pass a test before and after
abbrev pub SameTest : (List ℕ → Type 0) → (List ℕ → Type 0) → Type 0
SameTest before now = (name : List ℕ) → before name ↔ now name

-- a file is as before, or empty
abbrev pub IsKeptOrEmpty : Option (List ℕ) → Option (List ℕ) → Type 0
IsKeptOrEmpty old new = (new ≡ old) ⊎ (new ≡ Some [])

-- a file holds a prefix of the text, of at least this many bytes
abbrev pub HoldsPrefix : List ℕ → ℕ → Option (List ℕ) → Type 0
HoldsPrefix text least file = (k : ℕ) × (least ≤ k) × (k ≤ length text) × (file ≡ Some (take k text))

-- what a file holds after its writing failed: at the making, which is 0, or at the put of this number from 1
abbrev pub HoldsAfter : List ℕ → ℕ → Option (List ℕ) → Option (List ℕ) → Type 0
HoldsAfter text zero old new = IsKeptOrEmpty old new
HoldsAfter text (suc before) old new = HoldsPrefix text before new
