-- A word does not end with a blank and `gb`, and no name that ends otherwise than in `b` does.
use Rattle.std.proofs.Common.{◌≡◌, inl, inr, ◌∙◌, ℕ, ◌<◌, false, List, [], ◌∷◌, ◌++◌, length, All, refl, ap, subst, codes, true≢false}
use Rattle.std.specs.List.{AllByRecursion}
use Rattle.std.proofs.lemmas.List.Elements.{All-weaker}
use Rattle.ice_base.specs.Text.{ends_word}
use Rattle.ice_net.specs.NetlistData.{NetlistData}
use Rattle.ice_check_promote.specs.PromotionLaws.{most_cells_before}
use Rattle.ice_check_promote.specs.Promotable.{IsPlainName, CanBePromoted, last_byte, IsPromotableName}

-- the blank before `gb` ends a word
no_end : (front : List ℕ) → AllByRecursion (λ b. ends_word b ≡ false) (front ++ codes " gb") → ⊥
no_end [] all = true≢false all.0
no_end (b ∷ front) all = no_end front all.1

pub last_gb : (d : ℕ) (front : List ℕ) → last_byte d (front ++ codes " gb") ≡ 98
last_gb d [] = refl
last_gb d (b ∷ front) = last_gb b front

name_plain : (name : List ℕ) → IsPromotableName name → IsPlainName name
name_plain name (inl word) front e = no_end front (subst (λ bytes. AllByRecursion (λ b. ends_word b ≡ false) bytes) e word.1)
name_plain name (inr other) front e = other (ap (last_byte 0) e ∙ last_gb 0 front)

pub names_can : (n : NetlistData) → All IsPromotableName n.names → length n.cells < most_cells_before → CanBePromoted n
names_can n names room = record { plain = All-weaker IsPromotableName IsPlainName name_plain n.names names; room = room }
