-- The first two names of wires that clash, and their lines.
use Rattle.std.specs.Prelude.{◌≡◌, ℕ, Option, None, Some, List, ◌∷◌, ◌++◌, All, AllPairs}
use Rattle.ice_chip.specs.Database.{WireName}

-- two rows, one behind the other, clash and have these lines, the later one's first; no two rows before the later one
-- clash, and none before the earlier one clashes with the later one
pub record AreFirstTwo (Clash : WireName → WireName → Type 0) (names : List WireName) (lines : ℕ × ℕ) : Type 0 where
  pub front : List WireName
  pub one : WireName
  pub middle : List WireName
  pub other : WireName
  pub rest : List WireName
  pub stand : names ≡ front ++ one ∷ (middle ++ other ∷ rest)
  pub clashing : Clash one other
  pub on_lines : lines ≡ (other.line, one.line)
  pub none_before : AllPairs (λ a b. Clash a b → ⊥) (front ++ one ∷ middle)
  pub none_earlier : All (λ a. Clash a other → ⊥) front

-- no two rows clash, or these are the lines of the first two that do
abbrev pub AreLinesOfFirst : (WireName → WireName → Type 0) → List WireName → Option (ℕ × ℕ) → Type 0
AreLinesOfFirst Clash names None = AllPairs (λ a b. Clash a b → ⊥) names
AreLinesOfFirst Clash names (Some lines) = AreFirstTwo Clash names lines
