-- The digit in the name of a cell's pin.
use Rattle.std.proofs.Common.{◌≡◌, ◌⊎◌, ℕ, ◌-◌, ◌<◌, ◌≤◌, Bool, true, false, cond, List, [], ◌∷◌, inl, inr, refl, eqb, leb, arith}
use Rattle.std.specs.Prelude.{◌&&◌}
use Rattle.std.proofs.lemmas.Bool.{leb-true}
use Rattle.ice_chip.specs.Names.{cell_pin}
use Rattle.ice_decode.specs.Drivers.{number_at}

-- a name of a cell's pin has a digit below eight
pub digit_small : (name : List ℕ) → (number_at name 6 < 8) ⊎ (cell_pin name ≡ [])
digit_small [] = inr refl
digit_small (a ∷ []) = inr refl
digit_small (a ∷ b ∷ []) = inr refl
digit_small (a ∷ b ∷ c ∷ []) = inr refl
digit_small (a ∷ b ∷ c ∷ d ∷ []) = inr refl
digit_small (a ∷ b ∷ c ∷ d ∷ e ∷ []) = inr refl
digit_small (a ∷ b ∷ c ∷ d ∷ e ∷ f ∷ []) = inr refl
digit_small (a ∷ b ∷ c ∷ d ∷ e ∷ f ∷ i ∷ []) = inr refl
digit_small (a ∷ b ∷ c ∷ d ∷ e ∷ f ∷ i ∷ g ∷ pin) =
    by (eqb a 108 && eqb b 117 && eqb c 116 && eqb d 102 && eqb e 102 && eqb f 95 && leb 48 i) (leb i 55) (eqb g 47) refl
  where
    by : (x y z : Bool) → leb i 55 ≡ y → (i - 48 < 8) ⊎ (cond ((x && y) && z) pin [] ≡ [])
    by x true z e = let le : i ≤ 55 = leb-true i 55 e in inl (omega arith)
    by true false z e = inr refl
    by false false z e = inr refl
