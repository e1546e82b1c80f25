-- The pad of each pin is one of the package.
use Rattle.std.proofs.Common.{◌≡◌, ◌⊎◌, inl, inr, ℕ, ◌<◌, Bool, true, false, ◌||◌, Some, List, [], ◌∷◌, ◌++◌, map, bytes_eq, if◌then◌else◌, refl, sym, ap, subst, ◌∙◌, true≢false}
use Rattle.std.specs.Prelude.{All}
use Rattle.std.proofs.lemmas.Bool.{or_cases}
use Rattle.std.proofs.lemmas.List.Elements.{All-head, All-tail}
use Rattle.std.specs.List.{list_any}
use Rattle.std.specs.Map.{lookup}
use Rattle.std.proofs.lemmas.List.Folds.{list_any-append}
use Rattle.indexmap.specs.IndexSet.{insert_key, insert_all}
use Rattle.ice_base.proofs.Booleans.{or_true}
use Rattle.ice_chip.specs.Database.{PackageRows, same_pad}
use Rattle.ice_chip.specs.Within.{IsPad, IsPackage}
use Rattle.ice_chip.specs.declared.rows.Pad.{Pad}
use Rattle.ice_chip.proofs.Keys.{pad_same, pad_self}

kept_one : (p : Pad → Bool) (ks : List Pad) (k : Pad) (b : Bool) → list_any p ks ≡ true → list_any p (if b then ks else ks ++ k ∷ []) ≡ true
kept_one p ks k true any = any
kept_one p ks k false any = list_any-append p ks (k ∷ []) ∙ ap (λ b. b || list_any p (k ∷ [])) any

kept : (p : Pad → Bool) (ks xs : List Pad) → list_any p ks ≡ true → list_any p (insert_all same_pad ks xs) ≡ true
kept p ks [] any = any
kept p ks (x ∷ xs) any = kept p (insert_key same_pad ks x) xs (kept_one p ks x (list_any (same_pad x) ks) any)

new_in : (ks : List Pad) (k : Pad) (b : Bool) → list_any (same_pad k) ks ≡ b → list_any (same_pad k) (if b then ks else ks ++ k ∷ []) ≡ true
new_in ks k true any = any
new_in ks k false none = list_any-append (same_pad k) ks (k ∷ []) ∙ ap (λ b. list_any (same_pad k) ks || (b || false)) (pad_self k) ∙ or_true (list_any (same_pad k) ks)

pub pin_bonded : (pins : List (List ℕ × Pad)) (ks : List Pad) (pin : List ℕ) (pad : Pad) → lookup (bytes_eq pin) pins ≡ Some pad → list_any (same_pad pad) (insert_all same_pad ks (map (λ (p : List ℕ × Pad). p.1) pins)) ≡ true
pin_bonded [] ks pin pad e = absurd (cc)
pin_bonded (p ∷ pins) ks pin pad e = by (bytes_eq pin p.0) (pin_bonded pins (insert_key same_pad ks p.1) pin pad) e
  where
    by : (b : Bool) → (lookup (bytes_eq pin) pins ≡ Some pad → list_any (same_pad pad) (insert_all same_pad (insert_key same_pad ks p.1) (map (λ (p : List ℕ × Pad). p.1) pins)) ≡ true) → (if b then Some p.1 else lookup (bytes_eq pin) pins) ≡ Some pad
        → list_any (same_pad pad) (insert_all same_pad (insert_key same_pad ks p.1) (map (λ (p : List ℕ × Pad). p.1) pins)) ≡ true
    by true later e =
        let same : p.1 ≡ pad = cc in
        kept (same_pad pad) (insert_key same_pad ks p.1) (map (λ (p : List ℕ × Pad). p.1) pins)
        (ap (λ q. list_any (same_pad q) (insert_key same_pad ks p.1)) (sym same) ∙ new_in ks p.1 (list_any (same_pad p.1) ks) refl)
    by false later e = later e

-- ---- the pads of a package are those of its pins
wider : (a c r : Bool) → (a || r) ≡ true → (a || (c || r)) ≡ true
wider true c r e = refl
wider false true r e = refl
wider false false r e = e

regrouped : (a c r : Bool) → ((a || (c || false)) || r) ≡ true → (a || (c || r)) ≡ true
regrouped true c r e = refl
regrouped false true r e = refl
regrouped false false r e = e

alone : (a : Bool) → a ≡ true → (a || false) ≡ true
alone true e = refl
alone false e = e

-- what is one of the different ones was one of all
pub came : (p : Pad → Bool) (ks xs : List Pad) → list_any p (insert_all same_pad ks xs) ≡ true → (list_any p ks || list_any p xs) ≡ true
came p ks [] e = alone (list_any p ks) e
came p ks (x ∷ xs) e = by (list_any (same_pad x) ks) (came p (insert_key same_pad ks x) xs e)
  where
    by : (b : Bool) → (list_any p (if b then ks else ks ++ x ∷ []) || list_any p xs) ≡ true → (list_any p ks || (p x || list_any p xs)) ≡ true
    by true any = wider (list_any p ks) (p x) (list_any p xs) any
    by false any = regrouped (list_any p ks) (p x) (list_any p xs) (ap (λ b. b || list_any p xs) (sym (list_any-append p ks (x ∷ []))) ∙ any)

-- ---- pads of packages are pads 0 and 1 of their tiles
low_among : (width height : ℕ) (pins : List (List ℕ × Pad)) → All (λ (pin : List ℕ × Pad). IsPad width height pin.1) pins → (pad : Pad) → list_any (same_pad pad) (map (λ (p : List ℕ × Pad). p.1) pins) ≡ true → pad.pio < 2
low_among width height [] are pad any = absurd (true≢false (sym any))
low_among width height (pin ∷ pins) are pad any =
    by (or_cases (same_pad pad pin.1) (list_any (same_pad pad) (map (λ (p : List ℕ × Pad). p.1) pins)) any) (low_among width height pins (All-tail (λ (p : List ℕ × Pad). IsPad width height p.1) pin pins are) pad)
  where
    by : (same_pad pad pin.1 ≡ true) ⊎ (list_any (same_pad pad) (map (λ (p : List ℕ × Pad). p.1) pins) ≡ true) → (list_any (same_pad pad) (map (λ (p : List ℕ × Pad). p.1) pins) ≡ true → pad.pio < 2) → pad.pio < 2
    by (inl here) later = subst (λ (p : Pad). p.pio < 2) (sym (pad_same pad pin.1 here)) (All-head (λ (p : List ℕ × Pad). IsPad width height p.1) pin pins are).pio
    by (inr there) later = later there

pub bonded_low : (width height : ℕ) (rows : PackageRows) → IsPackage width height rows → (pad : Pad) → list_any (same_pad pad) rows.pads ≡ true → pad.pio < 2
bonded_low width height rows form pad any =
    low_among width height rows.pins form.pins pad
    (came (same_pad pad) [] (map (λ (p : List ℕ × Pad). p.1) rows.pins) (sym (ap (list_any (same_pad pad)) form.pads) ∙ any))
