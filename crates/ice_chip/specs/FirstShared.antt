-- The lines of a shared bit, told by the uses that clash.
use Rattle.std.specs.Prelude.{◌≡◌, ℕ, true, false, Option, None, Some, List, ◌∷◌, ◌++◌}
use Rattle.ice_chip.specs.Database.{Parts}
use Rattle.ice_chip.specs.SharedFunction.{bit_uses, clash, two_lines, precedes, shared_function}
use Rattle.ice_chip.specs.declared.uses.BitUse.{BitUse}

-- two uses, one behind the other in the list, clash and have these lines
pub record AreShared (uses : List BitUse) (lines : ℕ × ℕ) : Type 0 where
  pub front : List BitUse
  pub one : BitUse
  pub middle : List BitUse
  pub other : BitUse
  pub rest : List BitUse
  pub stand : uses ≡ front ++ one ∷ (middle ++ other ∷ rest)
  pub clashing : clash other one ≡ true
  pub on_lines : lines ≡ two_lines other.line one.line

-- no two uses clash, or two have these lines and none have lines that precede them
abbrev pub AreFirstShared : List BitUse → Option (ℕ × ℕ) → Type 0
AreFirstShared uses None = (lines : ℕ × ℕ) → AreShared uses lines → ⊥
AreFirstShared uses (Some lines) = AreShared uses lines × ((others : ℕ × ℕ) → AreShared uses others → precedes others lines ≡ false)

abbrev pub SharedFunctionIsFirst : Type 0
SharedFunctionIsFirst = (parts : Parts) → AreFirstShared (bit_uses parts) (shared_function parts)
