-- What a taker stands for after bytes of a file, and which bytes these are.
use Rattle.std.specs.Prelude.{◌≡◌, ℕ, ◌≤◌, true, List, ◌++◌, length, Some}
use Rattle.ice_desk.specs.Desk.{Meaning}

-- for each text for which the taker stood, it stands for that text followed by these bytes
abbrev pub TakesMore : (List ℕ → Type 0) → (List ℕ → Type 0) → List ℕ → Type 0
TakesMore before now bytes = (text : List ℕ) → before text → now (text ++ bytes)

-- these bytes are the whole file, and so many were given since its begin. What a file holds is known where the desk tells its contents
pub record IsWhole (old new : Meaning) (name bytes : List ℕ) : Type 0 where
  pub given : new.given ≡ length bytes
  pub whole : old.tells ≡ true → old.files name ≡ Some bytes

-- these bytes are a front of the file, and at least so many were given since its begin
pub record IsFront (old new : Meaning) (name bytes : List ℕ) : Type 0 where
  pub given : length bytes ≤ new.given
  pub front : old.tells ≡ true → (file : List ℕ) → old.files name ≡ Some file → (rest : List ℕ) × (file ≡ bytes ++ rest)
