-- The lines of a name of two wires are those of the first two rows that clash.
use Rattle.std.proofs.Common.{◌≡◌, ℕ, Bool, true, false, Option, None, Some, List, [], ◌∷◌, refl, sym, ap, subst, ◌∙◌, true≢false}
use Rattle.std.proofs.Math.Path.{fun_ext}
use Rattle.std.specs.Prelude.{◌==◌, is_some, Result, Ok, if◌then◌else◌}
use Rattle.std.specs.Map.{lookup}
use Rattle.ice_base.specs.declared.number.TileAt.{TileAt}
use Rattle.ice_chip.specs.Database.{WireName, tile_known}
use Rattle.ice_chip.specs.Lookups.{is_placed}
use Rattle.ice_chip.specs.WholeFaults.{same_placed, placed, wire_line, with_placed, with_name, unless_clash, name_of_two_wires}
use Rattle.ice_chip.specs.declared.rows.TileLine.{TileLine}
use Rattle.ice_chip.specs.declared.placed.PlacedName.{PlacedName}
use Rattle.ice_chip.specs.declared.name_lines.WireLine.{WireLine}
use Rattle.ice_chip_laws.specs.FirstTwice.{AreOfTwoWires, NameOfTwoWiresIsFirst}
use Rattle.ice_chip_laws.specs.FirstTwo.{AreLinesOfFirst}
use Rattle.ice_base.proofs.Keys.{nat_same, nat_self}
use Rattle.ice_chip_laws.proofs.SameKeys.{placed_same, placed_self}
use Rattle.ice_chip_laws.proofs.TwiceScan.{noted, step, scan, scan_is_first}

-- ---- wires
abbrev of_wire : WireLine → WireName → Bool
of_wire known n = known.wire == n.wire

one_wire : (a b c : WireName) → of_wire (wire_line a) b ≡ true → of_wire (wire_line a) c ≡ true → of_wire (wire_line b) c ≡ true
one_wire a b c ab ac = ap (λ w. w == c.wire) (sym (nat_same a.wire b.wire ab)) ∙ ac

module _ (tiles : List (TileAt × TileLine)) where
  two_wires : (a b : WireName) → is_placed tiles a ≡ true → is_placed tiles b ≡ true → placed a ≡ placed b → of_wire (wire_line a) b ≡ false → AreOfTwoWires tiles a b
  two_wires a b tile other name differ = record {
    tile = tile;
    name = name;
    wires = λ same. true≢false (sym (ap (λ w. a.wire == w) (sym same) ∙ nat_self a.wire) ∙ differ);
  }

  wires_differ : (a b : WireName) → AreOfTwoWires tiles a b → of_wire (wire_line a) b ≡ false
  wires_differ a b two = by (a.wire == b.wire) refl
    where
      by : (c : Bool) → (a.wire == b.wire) ≡ c → c ≡ false
      by true is = absurd (two.wires (nat_same a.wire b.wire is))
      by false is = refl

  has_two_wires : (a b : WireName) → AreOfTwoWires tiles a b → (is_placed tiles a ≡ true) × (is_placed tiles b ≡ true) × (placed a ≡ placed b) × (of_wire (wire_line a) b ≡ false)
  has_two_wires a b two =
      let there : is_placed tiles b ≡ true = ap (λ (p : PlacedName). is_some (tile_known tiles p.tile)) (sym two.name) ∙ two.tile in
      (two.tile, there, two.name, wires_differ a b two)

  abbrev notes : List (PlacedName × WireLine) → WireName → Option WireLine → Result (List (PlacedName × WireLine)) (ℕ × ℕ)
  notes = noted same_placed (is_placed tiles) placed wire_line of_wire (λ known. known.line)

  abbrev steps : List (PlacedName × WireLine) → WireName → Result (List (PlacedName × WireLine)) (ℕ × ℕ)
  steps = step same_placed (is_placed tiles) placed wire_line of_wire (λ known. known.line)

  abbrev scans : List (PlacedName × WireLine) → List WireName → Option (ℕ × ℕ)
  scans = scan same_placed (is_placed tiles) placed wire_line of_wire (λ known. known.line)

  are_noted : (seen : List (PlacedName × WireLine)) (n : WireName) (o : Option WireLine) → with_placed seen (placed n) (wire_line n) o ≡ notes seen n o
  are_noted seen n None = refl
  are_noted seen n (Some old) = refl

  are_steps : (seen : List (PlacedName × WireLine)) (n : WireName) → with_name (tile_known tiles n.tile) seen n ≡ steps seen n
  are_steps seen n = by (tile_known tiles n.tile)
    where
      by : (tile : Option TileLine) → with_name tile seen n ≡ (if is_some tile then notes seen n (lookup (same_placed (placed n)) seen) else Ok seen)
      by None = refl
      by (Some known) = are_noted seen n (lookup (same_placed (placed n)) seen)

  are_scans : (ns : List WireName) (seen : List (PlacedName × WireLine)) → name_of_two_wires tiles seen ns ≡ scans seen ns
  are_scans [] seen = refl
  are_scans (n ∷ ns) seen =
      ap (λ r. unless_clash r (λ more. name_of_two_wires tiles more ns)) (are_steps seen n)
      ∙ ap (unless_clash (steps seen n)) (fun_ext (λ more. are_scans ns more))

pub name_is_first : NameOfTwoWiresIsFirst
name_is_first parts =
    let first : AreLinesOfFirst (AreOfTwoWires parts.tiles) parts.names (scans parts.tiles [] parts.names) =
    scan_is_first same_placed (is_placed parts.tiles) placed wire_line of_wire (λ known. known.line) placed_same placed_self (λ n. refl) one_wire (AreOfTwoWires parts.tiles) (two_wires parts.tiles) (has_two_wires parts.tiles) parts.names in
    subst (AreLinesOfFirst (AreOfTwoWires parts.tiles) parts.names) (sym (are_scans parts.tiles parts.names [])) first
