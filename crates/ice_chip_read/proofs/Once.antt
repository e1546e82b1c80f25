-- What is new stands once: tiles, functions, pins and pads.
use Rattle.std.proofs.Common.{◌≡◌, ℕ, ◌&&◌, Bool, true, false, List, [], ◌∷◌, ◌++◌, map, Option, None, Some, is_some, refl, sym, ap, ◌∙◌, subst, bytes_eq, if◌then◌else◌, fold}
use Rattle.std.specs.Cmp.{IsEquivalence}
use Rattle.std.specs.List.{IsDistinct, AllByRecursion}
use Rattle.std.specs.Map.{lookup, keys_of}
use Rattle.std.proofs.lemmas.Cmp.{nat_eq_equiv, nat_list_eq_equiv, on_equiv, and_equiv}
use Rattle.std.proofs.lemmas.List.{map-append}
use Rattle.std.proofs.lemmas.List.Elements.{All-push}
use Rattle.std.proofs.lemmas.List.Sums.{fold-append}
use Rattle.std.proofs.lemmas.Map.Keys.{IsDistinct-head, IsDistinct-tail, IsDistinct-cons, IsDistinct-push}
use Rattle.std.proofs.lemmas.Map.Made.{is_some-lookup}
use Rattle.indexmap.specs.IndexSet.{insert_key}
use Rattle.ice_base.specs.declared.number.TileAt.{TileAt}
use Rattle.ice_base.specs.declared.bit.BitAt.{BitAt}
use Rattle.ice_chip.specs.Database.{FunctionRow, PackageRows, same_tile, same_pad}
use Rattle.ice_chip.specs.Functions.{is_read, same_kind, function_line}
use Rattle.ice_chip.specs.Within.{IsPad, is_again, different_pads, IsPackage}
use Rattle.ice_chip.specs.declared.rows.Pad.{Pad}
use Rattle.ice_chip.specs.declared.rows.TileKind.{TileKind}
use Rattle.ice_chip_read.specs.Lines.{with_pin}

-- ---- lists of which no two are the same, by any test
pub distinct_none : {K : Type 0} (e : K → K → Bool) → IsDistinct e []
unfolding IsDistinct
distinct_none e = tt

also_last : {K : Type 0} (P : K → Type 0) (xs : List K) (y : K) → AllByRecursion P xs → P y → AllByRecursion P (xs ++ y ∷ [])
also_last P [] y all last = (last, tt)
also_last P (x ∷ xs) y all last = (all.0, also_last P xs y all.1 last)

distinct_further : {K : Type 0} (e : K → K → Bool) (xs : List K) (y : K) → IsDistinct e xs → AllByRecursion (λ x. e x y ≡ false) xs → IsDistinct e (xs ++ y ∷ [])
distinct_further e [] y once new = IsDistinct-cons e y [] tt once
distinct_further e (x ∷ xs) y once new =
    IsDistinct-cons e x (xs ++ y ∷ []) (also_last (λ z. e x z ≡ false) xs y (IsDistinct-head e x xs once) new.0) (distinct_further e xs y (IsDistinct-tail e x xs once) new.1)

-- a key that is not found is a new one
pub keys_further : {K V : Type 0} (e : K → K → Bool) → IsEquivalence e → (entries : List (K × V)) (k : K) (v : V) → IsDistinct e (keys_of entries) → lookup (e k) entries ≡ None
    → IsDistinct e (keys_of (entries ++ (k, v) ∷ []))
keys_further e laws entries k v once none =
    subst (IsDistinct e) (sym (map-append (λ x. x.0) entries ((k, v) ∷ []))) (IsDistinct-push laws (keys_of entries) k once (sym (is_some-lookup (e k) entries) ∙ ap is_some none))

-- ---- tiles
pub tile_laws : IsEquivalence same_tile
tile_laws = and_equiv (on_equiv (λ (t : TileAt). t.x) nat_eq_equiv) (on_equiv (λ (t : TileAt). t.y) nat_eq_equiv)

-- ---- functions
-- no function is this one again
abbrev pub AreOthers : TileKind → List ℕ → List FunctionRow → Type 0
AreOthers kind name functions = AllByRecursion (λ f. (is_read kind name && (same_kind f.kind kind && bytes_eq f.name name)) ≡ false) functions

-- where the function stands in no line
pub others_unseen : (kind : TileKind) (name : List ℕ) (functions : List FunctionRow) → function_line kind name functions ≡ None → AreOthers kind name functions
others_unseen kind name [] none = tt
others_unseen kind name (f ∷ fs) none = by (same_kind f.kind kind && bytes_eq f.name name) refl none (others_unseen kind name fs)
  where
    neither : (a b : Bool) → b ≡ false → (a && b) ≡ false
    neither true b e = e
    neither false b e = refl

    by : (b : Bool) → (same_kind f.kind kind && bytes_eq f.name name) ≡ b → (if b then Some f.line else function_line kind name fs) ≡ None → (function_line kind name fs ≡ None → AreOthers kind name fs)
        → AreOthers kind name (f ∷ fs)
    by true is stands others = absurd (cc)
    by false is stands others = (neither (is_read kind name) (same_kind f.kind kind && bytes_eq f.name name) is, others stands)

-- where the function is not read
pub others_unread : (kind : TileKind) (name : List ℕ) (functions : List FunctionRow) → is_read kind name ≡ false → AreOthers kind name functions
others_unread kind name [] e = tt
others_unread kind name (f ∷ fs) e = (ap (λ b. b && (same_kind f.kind kind && bytes_eq f.name name)) e, others_unread kind name fs e)

pub functions_further : (functions : List FunctionRow) (kind : TileKind) (name : List ℕ) (bits : List BitAt) (line : ℕ) → IsDistinct is_again functions → AreOthers kind name functions
    → IsDistinct is_again (functions ++ record { kind = kind; name = name; bits = bits; line = line } ∷ [])
functions_further functions kind name bits line once others = distinct_further is_again functions (record { kind = kind; name = name; bits = bits; line = line }) once others

-- ---- packages
pads_further : (pins : List (List ℕ × Pad)) (pin : List ℕ) (pad : Pad) → insert_key same_pad (different_pads pins) pad ≡ different_pads (pins ++ (pin, pad) ∷ [])
pads_further pins pin pad =
    sym (ap (fold (insert_key same_pad) []) (map-append (λ x. x.1) pins ((pin, pad) ∷ [])) ∙ fold-append (insert_key same_pad) [] (map (λ x. x.1) pins) (pad ∷ []))

pub package_further : (width height : ℕ) (p : PackageRows) (pin : List ℕ) (pad : Pad) → IsPackage width height p → IsPad width height pad → (old : Option Pad) → lookup (bytes_eq pin) p.pins ≡ old
    → IsPackage width height (with_pin p pin pad old)
package_further width height p pin pad is at None none = record {
  once = keys_further bytes_eq nat_list_eq_equiv p.pins pin pad is.once none;
  pins = All-push (λ x. IsPad width height x.1) p.pins (pin, pad) is.pins at;
  pads = ap (λ pads. insert_key same_pad pads pad) is.pads ∙ pads_further p.pins pin pad;
}
package_further width height p pin pad is at (Some old) found = is
