-- What was said of a text.
use Rattle.std.specs.Prelude.{◌≡◌, ◌⊎◌, ℕ, ◌≤◌, Bool, true, false, Result, Ok, Err, List, ◌++◌, length, take}
use Rattle.ice_desk.specs.Desk.{Meaning}
use Rattle.ice_desk.specs.Changes.{Rose, after_more}

-- a front of the text was said
abbrev pub SaysFront : Meaning → Meaning → List ℕ → Type 0
SaysFront old new text = (n : ℕ) × (n ≤ length text) × (new.said ≡ old.said ++ take n text)

-- the whole text was said, and no say failed; or a say failed, and a front of the text was said.
-- What was said is known where the desk tells its contents.
abbrev pub IsSaid : Meaning → Meaning → List ℕ → Bool → Type 0
IsSaid old new text true = (old.tells ≡ true → new.said ≡ old.said ++ text) × (new.say_faults ≡ old.say_faults)
IsSaid old new text false = (old.tells ≡ true → SaysFront old new text) × Rose old.say_faults new.say_faults

-- what was said: the whole text, or a front of it where a say failed
abbrev pub SaidRow : Meaning → Meaning → List ℕ → Type 0
SaidRow old new text = (new.said ≡ old.said ++ text) ⊎ (Rose old.say_faults new.say_faults × SaysFront old new text)

-- the whole text was said; or the say of this number, counted from 1, failed, and a front of the text was said
abbrev pub IsTextSaid : {X : Type 0} → Meaning → Meaning → List ℕ → Result X ℕ → Type 0
IsTextSaid old new text (Ok done) = IsSaid old new text true
IsTextSaid old new text (Err put) = IsSaid old new text false × Rose old.write_faults new.write_faults × (new.says ≡ after_more old.says put)

-- nothing was said
pub record IsSilent (old new : Meaning) : Type 0 where
  pub said : new.said ≡ old.said
  pub says : new.says ≡ old.says
  pub say_faults : new.say_faults ≡ old.say_faults
