-- Wires and their names.
use Rattle.std.proofs.Common.{◌≡◌, ℕ, Bool, true, false, Option, None, Some, List, [], ◌∷◌, ◌++◌, map, filter, refl, sym, ap, subst, ◌∙◌}
use Rattle.std.specs.Prelude.{◌==◌, ◌<◌, Result, Ok, Err, if◌then◌else◌}
use Rattle.std.specs.Map.{lookup}
use Rattle.std.proofs.lemmas.List.Elements.{All-get_or}
use Rattle.std.proofs.lemmas.Option.{slice_get_within, get_or_from_slice_get}
use Rattle.ice_base.specs.declared.number.TileAt.{TileAt}
use Rattle.ice_chip.specs.Database.{Parts, WireName, tile_known}
use Rattle.ice_chip.specs.IsRead.{IsChip}
use Rattle.ice_chip.specs.Lookups.{is_placed, placed_names, names_of, placed_at, placed_wire, wire_named, kind_at}
use Rattle.ice_chip.specs.WholeFaults.{same_placed, placed, wire_line, with_placed, with_name, name_of_two_wires}
use Rattle.ice_chip.specs.declared.rows.TileLine.{TileLine}
use Rattle.ice_chip.specs.declared.rows.TileKind.{TileKind}
use Rattle.ice_chip.specs.declared.placed.PlacedName.{PlacedName}
use Rattle.ice_chip.specs.declared.name_lines.WireLine.{WireLine}
use Rattle.ice_base_values.specs.Order.{Has}
use Rattle.ice_chip_laws.specs.Names.{HasNames}
use Rattle.ice_chip_laws.proofs.FaultFree.{no_fault}
use Rattle.ice_chip_laws.proofs.KnownTiles.{some_known, kind_known}
use Rattle.ice_base.proofs.Entries.{lookup_kept, lookup_added}
use Rattle.ice_base_values.proofs.Members.{Has_map, map_Has, Has_filter, filter_Has, lookup_Has, Has_lookup}
use Rattle.ice_chip_laws.proofs.OneName.{goes_on, fit_one}
use Rattle.ice_base.proofs.Keys.{nat_same, nat_self}
use Rattle.ice_chip_laws.proofs.SameKeys.{placed_same, placed_self}

module _ (tiles : List (TileAt × TileLine)) where
  abbrev step : List (PlacedName × WireLine) → WireName → Result (List (PlacedName × WireLine)) (ℕ × ℕ)
  step seen n = with_name (tile_known tiles n.tile) seen n

  abbrev Counts : WireName → Type 0
  Counts n = is_placed tiles n ≡ true

  abbrev Fits : WireLine → WireName → Type 0
  Fits known n = known.wire ≡ n.wire

  runs : (seen : List (PlacedName × WireLine)) (n : WireName) (ns : List WireName) → name_of_two_wires tiles seen (n ∷ ns) ≡ None
      → (more : List (PlacedName × WireLine)) × (step seen n ≡ Ok more) × (name_of_two_wires tiles more ns ≡ None)
  runs seen n ns e = goes_on (step seen n) (λ more. name_of_two_wires tiles more ns) e

  clashes_not : (seen more : List (PlacedName × WireLine)) (lines : ℕ × ℕ) → ◌≡◌ {A = Result (List (PlacedName × WireLine)) (ℕ × ℕ)} (Err lines) (Ok more) → ⊥
  clashes_not seen more lines e = cc

  keeps_placed : (seen more : List (PlacedName × WireLine)) (name : PlacedName) (known : WireLine) (o : Option WireLine) (k : PlacedName) (v : WireLine)
      → with_placed seen name known o ≡ Ok more → lookup (same_placed k) seen ≡ Some v → lookup (same_placed k) more ≡ Some v
  keeps_placed seen more name known None k v e found =
      let is : seen ++ (name, known) ∷ [] ≡ more = cc in
      subst (λ rows. lookup (same_placed k) rows ≡ Some v) is (lookup_kept (same_placed k) seen ((name, known) ∷ []) v found)
  keeps_placed seen more name known (Some old) k v e found = by (old.wire == known.wire) e
    where
      by : (b : Bool) → if◌then◌else◌ {A = Result (List (PlacedName × WireLine)) (ℕ × ℕ)} b (Ok seen) (Err (known.line, old.line)) ≡ Ok more → lookup (same_placed k) more ≡ Some v
      by true is = let same : seen ≡ more = cc in subst (λ rows. lookup (same_placed k) rows ≡ Some v) same found
      by false is = absurd (clashes_not seen more (known.line, old.line) is)

  keeps : (seen more : List (PlacedName × WireLine)) (n : WireName) (k : PlacedName) (v : WireLine) → step seen n ≡ Ok more → lookup (same_placed k) seen ≡ Some v → lookup (same_placed k) more ≡ Some v
  keeps seen more n k v e found = by (tile_known tiles n.tile) e
    where
      by : (o : Option TileLine) → with_name o seen n ≡ Ok more → lookup (same_placed k) more ≡ Some v
      by None is = let same : seen ≡ more = cc in subst (λ rows. lookup (same_placed k) rows ≡ Some v) same found
      by (Some tile) is = keeps_placed seen more (placed n) (wire_line n) (lookup (same_placed (placed n)) seen) k v is found

  notes_placed : (seen more : List (PlacedName × WireLine)) (n : WireName) (o : Option WireLine) → lookup (same_placed (placed n)) seen ≡ o → with_placed seen (placed n) (wire_line n) o ≡ Ok more
      → (v : WireLine) × (lookup (same_placed (placed n)) more ≡ Some v) × Fits v n
  notes_placed seen more n None none e =
      let is : seen ++ (placed n, wire_line n) ∷ [] ≡ more = cc in
      (wire_line n, subst (λ rows. lookup (same_placed (placed n)) rows ≡ Some (wire_line n)) is (lookup_added (same_placed (placed n)) seen (placed n, wire_line n) none (placed_self (placed n))), refl)
  notes_placed seen more n (Some old) found e = by (old.wire == n.wire) refl e
    where
      by : (b : Bool) → (old.wire == n.wire) ≡ b → if◌then◌else◌ {A = Result (List (PlacedName × WireLine)) (ℕ × ℕ)} b (Ok seen) (Err (n.line, old.line)) ≡ Ok more → (v : WireLine) × (lookup (same_placed (placed n)) more ≡ Some v) × Fits v n
      by true one is =
          let same : seen ≡ more = cc in
          (old, subst (λ rows. lookup (same_placed (placed n)) rows ≡ Some old) same found, nat_same old.wire n.wire one)
      by false other is = absurd (clashes_not seen more (n.line, old.line) is)

  notes : (seen more : List (PlacedName × WireLine)) (n : WireName) → Counts n → step seen n ≡ Ok more → (v : WireLine) × (lookup (same_placed (placed n)) more ≡ Some v) × Fits v n
  notes seen more n counts e =
      let tile = some_known (tile_known tiles n.tile) counts in
      notes_placed seen more n (lookup (same_placed (placed n)) seen) refl (ap (λ o. with_name o seen n) (sym tile.1) ∙ e)

  -- a name in a tile is of one wire
  pub wire_of_name : (ns : List WireName) (n m : WireName) → name_of_two_wires tiles [] ns ≡ None → Has ns n → Has ns m → Counts n → Counts m → placed n ≡ placed m → n.wire ≡ m.wire
  wire_of_name ns n m e has_n has_m counts_n counts_m one =
      let fit = fit_one same_placed placed Counts Fits step (name_of_two_wires tiles) runs keeps notes [] ns n m e has_n has_m counts_n counts_m one in
      sym fit.1 ∙ fit.2

-- ---- names of wires
-- a row that gives a wire a name
pub record Gives (parts : Parts) (w : ℕ) (n : PlacedName) : Type 0 where
  pub row : WireName
  pub there : Has parts.names row
  pub counts : is_placed parts.tiles row ≡ true
  pub wire : row.wire ≡ w
  pub name : placed row ≡ n

pub gives : (parts : Parts) (w : ℕ) (n : PlacedName) → Has (names_of parts w) n → Gives parts w n
gives parts w n has =
    let mapped = map_Has placed (filter (λ (x : WireName). x.wire == w) (placed_names parts)) n has in
    let kept = filter_Has (λ (x : WireName). x.wire == w) (placed_names parts) mapped.0 mapped.1 in
    let counted = filter_Has (is_placed parts.tiles) parts.names mapped.0 kept.0 in
    record { row = mapped.0; there = counted.0; counts = counted.1; wire = nat_same mapped.0.wire w kept.1; name = mapped.2 }

given : (parts : Parts) (w : ℕ) (n : PlacedName) → Gives parts w n → Has (names_of parts w) n
given parts w n g =
    let counted : Has (placed_names parts) g.row = Has_filter (is_placed parts.tiles) parts.names g.row g.there g.counts in
    let kept = Has_filter (λ (x : WireName). x.wire == w) (placed_names parts) g.row counted (ap (λ v. v == w) g.wire ∙ nat_self w) in
    subst (λ x. Has (names_of parts w) x) g.name (Has_map placed (filter (λ (x : WireName). x.wire == w) (placed_names parts)) g.row kept)

found_gives : (parts : Parts) (t : TileAt) (name : List ℕ) (w : ℕ) → wire_named parts t name ≡ Some w → Gives parts w (placed_at t name)
found_gives parts t name w e =
    let found = lookup_Has (same_placed (placed_at t name)) (map placed_wire (placed_names parts)) w e in
    let mapped = map_Has placed_wire (placed_names parts) (found.0, w) found.1 in
    let counted = filter_Has (is_placed parts.tiles) parts.names mapped.0 mapped.1 in
    record {
      row = mapped.0;
      there = counted.0;
      counts = counted.1;
      wire = ap (λ p. p.1) mapped.2;
      name = ap (λ p. p.0) mapped.2 ∙ sym (placed_same (placed_at t name) found.0 found.2);
    }

one_wire : (parts : Parts) → IsChip parts → (v w : ℕ) (n : PlacedName) → Gives parts v n → Gives parts w n → v ≡ w
one_wire parts chip v w n a b =
    sym a.wire ∙ wire_of_name parts.tiles parts.names a.row b.row (no_fault parts chip).names a.there b.there a.counts b.counts (a.name ∙ sym b.name) ∙ b.wire

gives_found : (parts : Parts) → IsChip parts → (t : TileAt) (name : List ℕ) (w : ℕ) → Gives parts w (placed_at t name) → wire_named parts t name ≡ Some w
gives_found parts chip t name w g =
    let counted : Has (placed_names parts) g.row = Has_filter (is_placed parts.tiles) parts.names g.row g.there g.counts in
    let passes : same_placed (placed_at t name) (placed g.row) ≡ true = ap (same_placed (placed_at t name)) g.name ∙ placed_self (placed_at t name) in
    let found = Has_lookup (same_placed (placed_at t name)) (map placed_wire (placed_names parts)) (placed_wire g.row) (Has_map placed_wire (placed_names parts) g.row counted) passes in
    found.1 ∙ ap Some (one_wire parts chip found.0 w (placed_at t name) (found_gives parts t name found.0 found.1) g)

below : (parts : Parts) → IsChip parts → (w : ℕ) (n : PlacedName) → Gives parts w n → w < parts.wires
below parts chip w n g =
    let within = slice_get_within parts.names g.there.0 g.row g.there.1 in
    let here = All-get_or (λ (x : WireName). x.wire < parts.wires) parts.names g.there.0 g.row within chip.read.named_wires in
    subst (λ v. v < parts.wires) g.wire (subst (λ (x : WireName). x.wire < parts.wires) (get_or_from_slice_get parts.names g.there.0 g.row g.row g.there.1) here)

tile_there : (parts : Parts) (w : ℕ) (n : PlacedName) → Gives parts w n → (kind : TileKind) × (kind_at parts n.tile ≡ Some kind)
tile_there parts w n g =
    let tile = some_known (tile_known parts.tiles g.row.tile) g.counts in
    (tile.0.kind, ap (λ (x : PlacedName). kind_at parts x.tile) (sym g.name) ∙ kind_known parts g.row.tile tile.0 tile.1)

pub names_are : (parts : Parts) → IsChip parts → HasNames parts
names_are parts chip = record {
  found = λ t name w e. given parts w (placed_at t name) (found_gives parts t name w e);
  named = λ t name w has. gives_found parts chip t name w (gives parts w (placed_at t name) has);
  one_wire = λ v w n a b. one_wire parts chip v w n (gives parts v n a) (gives parts w n b);
  below = λ w n has. below parts chip w n (gives parts w n has);
  placed = λ w n has. tile_there parts w n (gives parts w n has);
}
