-- Going through the pins of a package once names each pad by its first pin.
use Rattle.std.proofs.Common.{◌≡◌, ℕ, Bool, true, false, cond, Option, None, Some, List, [], ◌∷◌, ◌++◌, map, refl, sym, ap, ◌∙◌, true≢false, append_assoc, append-nil}
use Rattle.std.specs.Prelude.{◌||◌, find, option_map, unwrap_or}
use Rattle.std.specs.List.{flat_map, list_any}
use Rattle.std.proofs.lemmas.Bool.{or_parts, false_from_ne_true}
use Rattle.std.proofs.lemmas.List.Concat.{flat_map-append}
use Rattle.indexmap.specs.IndexSet.{insert_key, insert_all}
use Rattle.ice_chip.specs.Database.{PackageRows, same_pad}
use Rattle.ice_chip.specs.Listings.{first_pin}
use Rattle.ice_chip.specs.Within.{different_pads}
use Rattle.ice_chip.specs.declared.rows.Pad.{Pad}
use Rattle.ice_back_laws.specs.Numbers.{pin_names, pad_names}
use Rattle.ice_back_laws.proofs.PadNumbers.{pad_same, pad_self}
use Rattle.ice_back.specs.Naming.{names_of_pins}

abbrev leads : Pad → List ℕ × Pad → Bool
leads pad pin = same_pad pad pin.1

-- no pin so far leads to a pad that was not seen
abbrev AreSeen : List Pad → List (List ℕ × Pad) → Type 0
AreSeen seen done = (pad : Pad) → list_any (same_pad pad) seen ≡ false → find (leads pad) done ≡ None

find_behind : {X : Type 0} (test : X → Bool) (xs ys : List X) → find test xs ≡ None → find test (xs ++ ys) ≡ find test ys
find_behind test [] ys none = refl
find_behind test (x ∷ xs) ys none = by (test x) none (find_behind test xs ys)
  where
    by : (b : Bool) → cond b (Some x) (find test xs) ≡ None → (find test xs ≡ None → find test (xs ++ ys) ≡ find test ys) → cond b (Some x) (find test (xs ++ ys)) ≡ find test ys
    by true e rest = cc e
    by false e rest = rest e

any_behind : {X : Type 0} (test : X → Bool) (xs ys : List X) → list_any test (xs ++ ys) ≡ (list_any test xs || list_any test ys)
any_behind test [] ys = refl
any_behind test (x ∷ xs) ys = by (test x) (any_behind test xs ys)
  where
    by : (b : Bool) → list_any test (xs ++ ys) ≡ (list_any test xs || list_any test ys) → (b || list_any test (xs ++ ys)) ≡ ((b || list_any test xs) || list_any test ys)
    by true rest = refl
    by false rest = rest

-- one pin more
still_seen : (seen : List Pad) (done : List (List ℕ × Pad)) (pin : List ℕ × Pad) → AreSeen seen done → AreSeen (insert_key same_pad seen pin.1) (done ++ pin ∷ [])
still_seen seen done pin are pad = by (list_any (same_pad pin.1) seen) refl
  where
    missed : list_any (same_pad pad) seen ≡ false → same_pad pad pin.1 ≡ false → find (leads pad) (done ++ pin ∷ []) ≡ None
    missed e never = find_behind (leads pad) done (pin ∷ []) (are pad e) ∙ ap (λ b. cond b (Some pin) None) never

    by : (b : Bool) → list_any (same_pad pin.1) seen ≡ b → list_any (same_pad pad) (cond b seen (seen ++ pin.1 ∷ [])) ≡ false → find (leads pad) (done ++ pin ∷ []) ≡ None
    by true f e =
        missed e (false_from_ne_true (same_pad pad pin.1) (λ yes. true≢false (sym f ∙ ap (λ (p : Pad). list_any (same_pad p) seen) (sym (pad_same pad pin.1 yes)) ∙ e)))
    by false f e =
        let both = or_parts (list_any (same_pad pad) seen) (same_pad pad pin.1 || false) (sym (any_behind (same_pad pad) seen (pin.1 ∷ [])) ∙ e) in
        let last = or_parts (same_pad pad pin.1) false both.1 in
        missed both.0 last.0

module _ (rows : PackageRows) where
  -- a pad that was not seen has this pin as its first
  first_here : (done left : List (List ℕ × Pad)) (pin : List ℕ × Pad) → rows.pins ≡ done ++ pin ∷ left → find (leads pin.1) done ≡ None → same_pad pin.1 pin.1 ≡ true → first_pin rows pin.1 ≡ pin.0
  first_here done left pin e none self =
      ap (λ (pins : List (List ℕ × Pad)). unwrap_or (option_map (λ (p : List ℕ × Pad). p.0) (find (leads pin.1) pins)) []) e
      ∙ ap (λ (o : Option (List ℕ × Pad)). unwrap_or (option_map (λ (p : List ℕ × Pad). p.0) o) []) (find_behind (leads pin.1) done (pin ∷ left) none)
      ∙ ap (λ b. unwrap_or (option_map (λ (p : List ℕ × Pad). p.0) (cond b (Some pin) (find (leads pin.1) left))) []) self

  named_from : (seen : List Pad) (done left : List (List ℕ × Pad)) → rows.pins ≡ done ++ left → AreSeen seen done
      → flat_map (pad_names rows) (insert_all same_pad seen (map (λ (pin : List ℕ × Pad). pin.1) left)) ≡ flat_map (pad_names rows) seen ++ names_of_pins seen left
  named_from seen done [] e are = sym (append-nil (flat_map (pad_names rows) seen))
  named_from seen done (pin ∷ left) e are =
      named_from (insert_key same_pad seen pin.1) (done ++ pin ∷ []) left (e ∙ sym (append_assoc done (pin ∷ []) left)) (still_seen seen done pin are)
      ∙ by (list_any (same_pad pin.1) seen) refl
    where
      rest : List Pad → List (List ℕ)
      rest now = names_of_pins now left

      by : (b : Bool) → list_any (same_pad pin.1) seen ≡ b
          → flat_map (pad_names rows) (cond b seen (seen ++ pin.1 ∷ [])) ++ names_of_pins (insert_key same_pad seen pin.1) left
          ≡ flat_map (pad_names rows) seen ++ (cond b [] (pin_names pin.0) ++ names_of_pins (insert_key same_pad seen pin.1) left)
      by true f = refl
      by false f =
          let name : first_pin rows pin.1 ≡ pin.0 = first_here done left pin e (are pin.1 f) (pad_self pin.1) in
          ap (λ ns. ns ++ names_of_pins (insert_key same_pad seen pin.1) left)
          (flat_map-append (pad_names rows) seen (pin.1 ∷ []) ∙ ap (λ n. flat_map (pad_names rows) seen ++ pin_names n) name)
          ∙ append_assoc (flat_map (pad_names rows) seen) (pin_names pin.0) (names_of_pins (insert_key same_pad seen pin.1) left)

  -- the names of all pads, pin by pin
  pub names_by_pins : rows.pads ≡ different_pads rows.pins → flat_map (pad_names rows) rows.pads ≡ names_of_pins [] rows.pins
  names_by_pins e = ap (λ (pads : List Pad). flat_map (pad_names rows) pads) e ∙ named_from [] [] rows.pins refl (λ pad none. refl)
