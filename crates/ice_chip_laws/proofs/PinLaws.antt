-- The pin names of a wire are of one pin.
use Rattle.std.proofs.Common.{◌≡◌, ℕ, Bool, true, false, Option, None, Some, option_map, List, [], ◌∷◌, ◌++◌, inl, inr, refl, sym, ap, subst, ◌∙◌, true≢false}
use Rattle.std.specs.Prelude.{◌⊎◌, ◌||◌, Result, Ok, Err, if◌then◌else◌, bytes_eq, nat_eq}
use Rattle.std.specs.Map.{lookup}
use Rattle.std.proofs.lemmas.Option.{none-some}
use Rattle.std.proofs.lemmas.Bool.{and_parts, or_cases, or_left}
use Rattle.ice_base.specs.declared.number.TileAt.{TileAt}
use Rattle.ice_chip.specs.Database.{Parts, WireName, same_tile, tile_known}
use Rattle.ice_chip.specs.IsRead.{IsChip}
use Rattle.ice_chip.specs.Lookups.{names_of}
use Rattle.ice_chip.specs.Names.{is_global_name}
use Rattle.ice_chip.specs.SharedPins.{is_pin, same_pin, pin_line, with_pin, with_pin_name, shared_from}
use Rattle.ice_chip.specs.WholeFaults.{placed}
use Rattle.ice_chip.specs.declared.rows.TileLine.{TileLine}
use Rattle.ice_chip.specs.declared.name_lines.PinLine.{PinLine}
use Rattle.ice_chip.specs.declared.placed.PlacedName.{PlacedName}
use Rattle.ice_base_values.specs.Order.{Has}
use Rattle.ice_chip_laws.specs.Pins.{is_pin_in, is_pin_name, pin_of, AreOnePin, IsPinOf, IsOnePin, HasPins}
use Rattle.ice_chip_laws.proofs.FaultFree.{no_fault}
use Rattle.ice_base.proofs.Entries.{lookup_kept, lookup_added}
use Rattle.ice_base_values.proofs.Members.{find_Has, Has_find}
use Rattle.ice_chip_laws.proofs.NameLaws.{gives}
use Rattle.ice_chip_laws.proofs.OneName.{goes_on, fit_one}
use Rattle.ice_base.proofs.Keys.{nat_self, bytes_same, bytes_self, tile_same, tile_self}

-- two names that are of one pin with a third
one_with : (first a b : PlacedName) → same_pin first a ≡ true → same_pin first b ≡ true → AreOnePin a b
one_with first a b with_a with_b =
    let of_a = and_parts (bytes_eq first.name a.name) (same_tile first.tile a.tile || is_global_name first.name) with_a in
    let of_b = and_parts (bytes_eq first.name b.name) (same_tile first.tile b.tile || is_global_name first.name) with_b in
    let name_a = bytes_same first.name a.name of_a.0 in
    (sym name_a ∙ bytes_same first.name b.name of_b.0, by name_a (or_cases (same_tile first.tile a.tile) (is_global_name first.name) of_a.1) (or_cases (same_tile first.tile b.tile) (is_global_name first.name) of_b.1))
  where
    by : first.name ≡ a.name → (same_tile first.tile a.tile ≡ true) ⊎ (is_global_name first.name ≡ true) → (same_tile first.tile b.tile ≡ true) ⊎ (is_global_name first.name ≡ true)
        → (a.tile ≡ b.tile) ⊎ (is_global_name a.name ≡ true)
    by name (inl at_a) (inl at_b) = inl (sym (tile_same first.tile a.tile at_a) ∙ tile_same first.tile b.tile at_b)
    by name (inl at_a) (inr global) = inr (ap is_global_name (sym name) ∙ global)
    by name (inr global) at_b = inr (ap is_global_name (sym name) ∙ global)

pin_self : (a : PlacedName) → same_pin a a ≡ true
pin_self a = rw (bytes_self a.name) (or_left (same_tile a.tile a.tile) (is_global_name a.name) (tile_self a.tile))

module _ (tiles : List (TileAt × TileLine)) where
  abbrev step : List (ℕ × PinLine) → WireName → Result (List (ℕ × PinLine)) (ℕ × ℕ)
  step seen n = with_pin_name (tile_known tiles n.tile) seen n

  abbrev wire_of : WireName → ℕ
  wire_of n = n.wire

  abbrev Counts : WireName → Type 0
  Counts n = is_pin (tile_known tiles n.tile) n.name ≡ true

  abbrev Fits : PinLine → WireName → Type 0
  Fits first n = same_pin first.pin (placed n) ≡ true

  runs : (seen : List (ℕ × PinLine)) (n : WireName) (ns : List WireName) → shared_from tiles seen (n ∷ ns) ≡ None
      → (more : List (ℕ × PinLine)) × (step seen n ≡ Ok more) × (shared_from tiles more ns ≡ None)
  runs seen n ns e = goes_on (step seen n) (λ more. shared_from tiles more ns) e

  clashes_not : (more : List (ℕ × PinLine)) (lines : ℕ × ℕ) → ◌≡◌ {A = Result (List (ℕ × PinLine)) (ℕ × ℕ)} (Err lines) (Ok more) → ⊥
  clashes_not more lines e = cc

  keeps_pin : (seen more : List (ℕ × PinLine)) (n : WireName) (o : Option PinLine) (k : ℕ) (v : PinLine)
      → with_pin seen n o ≡ Ok more → lookup (nat_eq k) seen ≡ Some v → lookup (nat_eq k) more ≡ Some v
  keeps_pin seen more n None k v e found =
      let is : seen ++ (n.wire, pin_line n) ∷ [] ≡ more = cc in
      subst (λ rows. lookup (nat_eq k) rows ≡ Some v) is (lookup_kept (nat_eq k) seen ((n.wire, pin_line n) ∷ []) v found)
  keeps_pin seen more n (Some first) k v e found = by (same_pin first.pin (placed n)) e
    where
      by : (b : Bool) → if◌then◌else◌ {A = Result (List (ℕ × PinLine)) (ℕ × ℕ)} b (Ok seen) (Err (n.line, first.line)) ≡ Ok more → lookup (nat_eq k) more ≡ Some v
      by true is = let same : seen ≡ more = cc in subst (λ rows. lookup (nat_eq k) rows ≡ Some v) same found
      by false is = absurd (clashes_not more (n.line, first.line) is)

  keeps : (seen more : List (ℕ × PinLine)) (n : WireName) (k : ℕ) (v : PinLine) → step seen n ≡ Ok more → lookup (nat_eq k) seen ≡ Some v → lookup (nat_eq k) more ≡ Some v
  keeps seen more n k v e found = by (is_pin (tile_known tiles n.tile) n.name) e
    where
      by : (b : Bool) → if◌then◌else◌ {A = Result (List (ℕ × PinLine)) (ℕ × ℕ)} b (with_pin seen n (lookup (nat_eq n.wire) seen)) (Ok seen) ≡ Ok more → lookup (nat_eq k) more ≡ Some v
      by true is = keeps_pin seen more n (lookup (nat_eq n.wire) seen) k v is found
      by false is = let same : seen ≡ more = cc in subst (λ rows. lookup (nat_eq k) rows ≡ Some v) same found

  notes_pin : (seen more : List (ℕ × PinLine)) (n : WireName) (o : Option PinLine) → lookup (nat_eq n.wire) seen ≡ o → with_pin seen n o ≡ Ok more
      → (v : PinLine) × (lookup (nat_eq n.wire) more ≡ Some v) × Fits v n
  notes_pin seen more n None none e =
      let is : seen ++ (n.wire, pin_line n) ∷ [] ≡ more = cc in
      (pin_line n, subst (λ rows. lookup (nat_eq n.wire) rows ≡ Some (pin_line n)) is (lookup_added (nat_eq n.wire) seen (n.wire, pin_line n) none (nat_self n.wire)), pin_self (placed n))
  notes_pin seen more n (Some first) found e = by (same_pin first.pin (placed n)) refl e
    where
      by : (b : Bool) → same_pin first.pin (placed n) ≡ b → if◌then◌else◌ {A = Result (List (ℕ × PinLine)) (ℕ × ℕ)} b (Ok seen) (Err (n.line, first.line)) ≡ Ok more
          → (v : PinLine) × (lookup (nat_eq n.wire) more ≡ Some v) × Fits v n
      by true fits is = let same : seen ≡ more = cc in (first, subst (λ rows. lookup (nat_eq n.wire) rows ≡ Some first) same found, fits)
      by false other is = absurd (clashes_not more (n.line, first.line) is)

  notes : (seen more : List (ℕ × PinLine)) (n : WireName) → Counts n → step seen n ≡ Ok more → (v : PinLine) × (lookup (nat_eq n.wire) more ≡ Some v) × Fits v n
  notes seen more n counts e =
      notes_pin seen more n (lookup (nat_eq n.wire) seen) refl
      (ap (λ b. if◌then◌else◌ {A = Result (List (ℕ × PinLine)) (ℕ × ℕ)} b (with_pin seen n (lookup (nat_eq n.wire) seen)) (Ok seen)) (sym counts) ∙ e)

  pub pin_of_wire : (ns : List WireName) (n m : WireName) → shared_from tiles [] ns ≡ None → Has ns n → Has ns m → Counts n → Counts m → n.wire ≡ m.wire → AreOnePin (placed n) (placed m)
  pin_of_wire ns n m e has_n has_m counts_n counts_m one =
      let fit = fit_one nat_eq wire_of Counts Fits step (shared_from tiles) runs keeps notes [] ns n m e has_n has_m counts_n counts_m one in
      one_with fit.0.pin (placed n) (placed m) fit.1 fit.2

-- one test, by the kind of the tile and by what is known of it
same_test : (o : Option TileLine) (name : List ℕ) → is_pin_in (option_map (λ (known : TileLine). known.kind) o) name ≡ is_pin o name
same_test None name = refl
same_test (Some known) name = refl

counts_as : (parts : Parts) (n : PlacedName) (row : WireName) → placed row ≡ n → is_pin_name parts n ≡ true → is_pin (tile_known parts.tiles row.tile) row.name ≡ true
counts_as parts n row is pin = sym (same_test (tile_known parts.tiles row.tile) row.name) ∙ ap (is_pin_name parts) is ∙ pin

one_pin : (parts : Parts) → IsChip parts → (w : ℕ) (a b : PlacedName) → IsPinOf parts w a → IsPinOf parts w b → AreOnePin a b
one_pin parts chip w a b (has_a, pin_a) (has_b, pin_b) =
    let by_a = gives parts w a has_a in
    let by_b = gives parts w b has_b in
    let one = pin_of_wire parts.tiles parts.names by_a.row by_b.row (no_fault parts chip).pins by_a.there by_b.there (counts_as parts a by_a.row by_a.name pin_a) (counts_as parts b by_b.row by_b.name pin_b)
    (by_a.wire ∙ sym by_b.wire) in
    subst (λ x. AreOnePin x b) by_a.name (subst (λ x. AreOnePin (placed by_a.row) x) by_b.name one)

found_pin : (parts : Parts) → IsChip parts → (w : ℕ) (n : PlacedName) → IsPinOf parts w n → (first : PlacedName) × (pin_of parts w ≡ Some first) × AreOnePin first n
found_pin parts chip w n is =
    let found = Has_find (is_pin_name parts) (names_of parts w) n is.0 is.1 in
    (found.0, found.1, one_pin parts chip w found.0 n (find_Has (is_pin_name parts) (names_of parts w) found.0 found.1) is)

-- a pin that is no global's has one name
same_name : (n m : PlacedName) → AreOnePin n m → is_global_name m.name ≡ false → n ≡ m
same_name n m (name, inl tile) local = λ i. record { tile = tile i; name = name i }
same_name n m (name, inr global) local = absurd (true≢false (sym global ∙ ap is_global_name name ∙ local))

pub pins_are : (parts : Parts) → IsChip parts → HasPins parts
pins_are parts chip = record {
  one_pin = one_pin parts chip;
  found = found_pin parts chip;
  only = λ w n is local.
      let found = found_pin parts chip w n is in
      found.1 ∙ ap Some (same_name found.0 n found.2 local);
  named = λ w n e. find_Has (is_pin_name parts) (names_of parts w) n e;
}

-- the pin to which a wire leads is its one pin
pub pin_is_one : (parts : Parts) → HasPins parts → (w : ℕ) → IsOnePin parts w (pin_of parts w)
pin_is_one parts has w = by (pin_of parts w) refl
  where
    by : (o : Option PlacedName) → pin_of parts w ≡ o → IsOnePin parts w o
    by None none = λ n is. let found = has.found w n is in none-some found.0 (sym none ∙ found.1)
    by (Some pin) found = (has.named w pin found, λ n is. has.one_pin w pin n (has.named w pin found) is)
