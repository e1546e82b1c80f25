-- The lines of a wire of two pins are those of the first two rows that clash.
use Rattle.std.proofs.Common.{◌≡◌, ℕ, Bool, true, false, Option, None, Some, List, [], ◌∷◌, refl, sym, ap, subst, ◌∙◌, inl, inr}
use Rattle.std.proofs.Math.Path.{fun_ext}
use Rattle.std.specs.Prelude.{◌||◌, ◌⊎◌, nat_eq, bytes_eq, Result, Ok, if◌then◌else◌}
use Rattle.std.specs.Map.{lookup}
use Rattle.std.proofs.lemmas.Bool.{and_parts, or_cases}
use Rattle.ice_base.specs.declared.number.TileAt.{TileAt}
use Rattle.ice_chip.specs.Database.{WireName, same_tile, tile_known}
use Rattle.ice_chip.specs.Names.{is_global_name}
use Rattle.ice_chip.specs.SharedPins.{is_pin, same_pin, pin_line, with_pin, with_pin_name, shared_from}
use Rattle.ice_chip.specs.WholeFaults.{placed, unless_clash}
use Rattle.ice_chip.specs.declared.rows.TileLine.{TileLine}
use Rattle.ice_chip.specs.declared.name_lines.PinLine.{PinLine}
use Rattle.ice_chip.specs.declared.placed.PlacedName.{PlacedName}
use Rattle.ice_chip_laws.specs.FirstPins.{AreTwoPins, SharedPinIsFirst}
use Rattle.ice_chip_laws.specs.FirstTwo.{AreLinesOfFirst}
use Rattle.ice_base.proofs.Booleans.{or_true}
use Rattle.ice_base.proofs.Keys.{bytes_same, nat_same, nat_self, tile_same}
use Rattle.ice_chip_laws.proofs.TwiceScan.{noted, step, scan, scan_is_first}

-- ---- pins
abbrev of_pin : PinLine → WireName → Bool
of_pin known n = same_pin known.pin (placed n)

-- pins that are the same as one pin are the same
same_as_one : (a b c : PlacedName) → same_pin a b ≡ true → same_pin a c ≡ true → same_pin b c ≡ true
same_as_one a b c ab ac =
    let b_parts = and_parts (bytes_eq a.name b.name) (same_tile a.tile b.tile || is_global_name a.name) ab in
    let c_parts = and_parts (bytes_eq a.name c.name) (same_tile a.tile c.tile || is_global_name a.name) ac in
    let a_is_b : a.name ≡ b.name = bytes_same a.name b.name b_parts.0 in
    let a_is_c : a.name ≡ c.name = bytes_same a.name c.name c_parts.0 in
    let names : bytes_eq b.name c.name ≡ true = ap (λ name. bytes_eq name c.name) (sym a_is_b) ∙ c_parts.0 in
    let places : (same_tile b.tile c.tile || is_global_name b.name) ≡ true =
    by_global a_is_b (or_cases (same_tile a.tile b.tile) (is_global_name a.name) b_parts.1) (or_cases (same_tile a.tile c.tile) (is_global_name a.name) c_parts.1) in
    rw (names, places) refl
  where
    global : a.name ≡ b.name → is_global_name a.name ≡ true → (same_tile b.tile c.tile || is_global_name b.name) ≡ true
    global one is = ap (λ g. same_tile b.tile c.tile || g) (ap is_global_name (sym one) ∙ is) ∙ or_true (same_tile b.tile c.tile)

    by_global : a.name ≡ b.name → (same_tile a.tile b.tile ≡ true) ⊎ (is_global_name a.name ≡ true) → (same_tile a.tile c.tile ≡ true) ⊎ (is_global_name a.name ≡ true)
        → (same_tile b.tile c.tile || is_global_name b.name) ≡ true
    by_global one (inr is) other = global one is
    by_global one (inl here) (inr is) = global one is
    by_global one (inl here) (inl there) = ap (λ t. t || is_global_name b.name) (ap (λ t. same_tile t c.tile) (sym (tile_same a.tile b.tile here)) ∙ there)

module _ (tiles : List (TileAt × TileLine)) where
  abbrev is_pin_row : WireName → Bool
  is_pin_row n = is_pin (tile_known tiles n.tile) n.name

  abbrev wire_of : WireName → ℕ
  wire_of n = n.wire

  two_pins : (a b : WireName) → is_pin_row a ≡ true → is_pin_row b ≡ true → a.wire ≡ b.wire → of_pin (pin_line a) b ≡ false → AreTwoPins tiles a b
  two_pins a b one other wire different = record { wire = wire; one_is_pin = one; other_is_pin = other; different = different }

  has_two_pins : (a b : WireName) → AreTwoPins tiles a b → (is_pin_row a ≡ true) × (is_pin_row b ≡ true) × (a.wire ≡ b.wire) × (of_pin (pin_line a) b ≡ false)
  has_two_pins a b two = (two.one_is_pin, two.other_is_pin, two.wire, two.different)

  abbrev notes : List (ℕ × PinLine) → WireName → Option PinLine → Result (List (ℕ × PinLine)) (ℕ × ℕ)
  notes = noted nat_eq is_pin_row wire_of pin_line of_pin (λ known. known.line)

  abbrev steps : List (ℕ × PinLine) → WireName → Result (List (ℕ × PinLine)) (ℕ × ℕ)
  steps = step nat_eq is_pin_row wire_of pin_line of_pin (λ known. known.line)

  abbrev scans : List (ℕ × PinLine) → List WireName → Option (ℕ × ℕ)
  scans = scan nat_eq is_pin_row wire_of pin_line of_pin (λ known. known.line)

  are_noted : (seen : List (ℕ × PinLine)) (n : WireName) (o : Option PinLine) → with_pin seen n o ≡ notes seen n o
  are_noted seen n None = refl
  are_noted seen n (Some first) = refl

  are_steps : (seen : List (ℕ × PinLine)) (n : WireName) → with_pin_name (tile_known tiles n.tile) seen n ≡ steps seen n
  are_steps seen n = ap (λ noted. if is_pin_row n then noted else Ok seen) (are_noted seen n (lookup (nat_eq n.wire) seen))

  are_scans : (ns : List WireName) (seen : List (ℕ × PinLine)) → shared_from tiles seen ns ≡ scans seen ns
  are_scans [] seen = refl
  are_scans (n ∷ ns) seen =
      ap (λ r. unless_clash r (λ more. shared_from tiles more ns)) (are_steps seen n)
      ∙ ap (unless_clash (steps seen n)) (fun_ext (λ more. are_scans ns more))

pub pin_is_first : SharedPinIsFirst
pin_is_first parts =
    let first : AreLinesOfFirst (AreTwoPins parts.tiles) parts.names (scans parts.tiles [] parts.names) =
    scan_is_first nat_eq (is_pin_row parts.tiles) (wire_of parts.tiles) pin_line of_pin (λ known. known.line) nat_same nat_self (λ n. refl)
    (λ a b c. same_as_one (placed a) (placed b) (placed c)) (AreTwoPins parts.tiles) (two_pins parts.tiles) (has_two_pins parts.tiles) parts.names in
    subst (AreLinesOfFirst (AreTwoPins parts.tiles) parts.names) (sym (are_scans parts.tiles parts.names [])) first
