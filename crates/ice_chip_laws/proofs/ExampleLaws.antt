-- The small chip has no fault, and its look-ups find what its rows say.
use Rattle.std.proofs.Common.{◌≡◌, ℕ, ◌<◌, ◌≤◌, Bool, true, false, not, List, [], ◌∷◌, length, refl, arith}
use Rattle.std.specs.Prelude.{All, nat_lt, bytes_eq, ◌==◌, ◌&&◌, ◌||◌}
use Rattle.std.specs.List.{list_all, IsDistinct, AllByRecursion}
use Rattle.std.specs.Map.{keys_of}
use Rattle.std.proofs.lemmas.Bool.{and_parts, and_right, ltb-true, not-true}
use Rattle.std.proofs.lemmas.List.Elements.{All-nil, All-cons}
use Rattle.ice_base.specs.declared.number.TileAt.{TileAt}
use Rattle.ice_base.specs.declared.bit.BitAt.{BitAt}
use Rattle.ice_chip.specs.Database.{FunctionRow, WireName, SwitchGroup, SwitchRow, same_tile, columns}
use Rattle.ice_chip.specs.Limits.{most_rows}
use Rattle.ice_chip.specs.Functions.{is_read, is_foreign, same_kind}
use Rattle.ice_chip.specs.IsRead.{HasWiresBelow, IsRead, IsChip}
use Rattle.ice_chip.specs.Listings.{rows_of}
use Rattle.ice_chip.specs.Within.{IsPlace, IsPad, FeedsGlobal, PadFeedsGlobal, ArePads, ArePlaces, IsBit, IsKept, is_again, IsGroup, IsPackage}
use Rattle.ice_chip.specs.declared.rows.Pad.{Pad}
use Rattle.ice_chip_names.specs.RamNames.{ram_names}
use Rattle.ice_chip_laws.specs.Example.{example, switch_groups, wire_names, FindsExample}
use Rattle.ice_base.proofs.Keys.{nat_same}

-- ---- items that pass a test
lifted : {X : Type 0} (P : X → Type 0) (test : X → Bool) (sound : (x : X) → test x ≡ true → P x) (xs : List X) → list_all test xs ≡ true → All P xs
lifted P test sound [] e = All-nil P
lifted P test sound (x ∷ xs) e =
    let both = and_parts (test x) (list_all test xs) e in
    All-cons P x xs (sound x both.0) (lifted P test sound xs both.1)

abbrev are_apart : {X : Type 0} → (X → X → Bool) → List X → Bool
are_apart same [] = true
are_apart same (x ∷ xs) = list_all (λ y. not (same x y)) xs && are_apart same xs

others_apart : {X : Type 0} (eq same : X → X → Bool) (sound : (x y : X) → same x y ≡ false → eq x y ≡ false) (x : X) (ys : List X) → list_all (λ y. not (same x y)) ys ≡ true → AllByRecursion (λ y. eq x y ≡ false) ys
others_apart eq same sound x [] e = tt
others_apart eq same sound x (y ∷ ys) e =
    let both = and_parts (not (same x y)) (list_all (λ z. not (same x z)) ys) e in
    (sound x y (not-true (same x y) both.0), others_apart eq same sound x ys both.1)

-- items that no test of two takes for the same
distinct : {X : Type 0} (eq same : X → X → Bool) (sound : (x y : X) → same x y ≡ false → eq x y ≡ false) (xs : List X) → are_apart same xs ≡ true → IsDistinct eq xs
unfolding IsDistinct
distinct eq same sound [] e = tt
distinct eq same sound (x ∷ xs) e =
    let both = and_parts (list_all (λ y. not (same x y)) xs) (are_apart same xs) e in
    (others_apart eq same sound x xs both.0, distinct eq same sound xs both.1)

-- ---- places and pads
abbrev is_place : ℕ → ℕ → TileAt → Bool
is_place width height at = nat_lt at.x width && nat_lt at.y height

place_is : (width height : ℕ) (at : TileAt) → is_place width height at ≡ true → IsPlace width height at
place_is width height at e =
    let both = and_parts (nat_lt at.x width) (nat_lt at.y height) e in
    record { x = ltb-true at.x width both.0; y = ltb-true at.y height both.1 }

abbrev is_pad : ℕ → ℕ → Pad → Bool
is_pad width height pad = is_place width height pad.tile && nat_lt pad.pio 2

pad_is : (width height : ℕ) (pad : Pad) → is_pad width height pad ≡ true → IsPad width height pad
pad_is width height pad e =
    let both = and_parts (is_place width height pad.tile) (nat_lt pad.pio 2) e in
    record { place = place_is width height pad.tile both.0; pio = ltb-true pad.pio 2 both.1 }

-- ---- functions
abbrev is_bit : ℕ → BitAt → Bool
is_bit limit b = nat_lt b.row 16 && nat_lt b.col limit

bit_is : (limit : ℕ) (b : BitAt) → is_bit limit b ≡ true → IsBit limit b
bit_is limit b e =
    let both = and_parts (nat_lt b.row 16) (nat_lt b.col limit) e in
    record { row = ltb-true b.row 16 both.0; column = ltb-true b.col limit both.1 }

abbrev is_kept : FunctionRow → Bool
is_kept f = (is_read f.kind f.name || is_foreign f.kind f.name) && list_all (is_bit (columns f.kind)) f.bits

kept_is : (f : FunctionRow) → is_kept f ≡ true → IsKept f
kept_is f e =
    let both = and_parts (is_read f.kind f.name || is_foreign f.kind f.name) (list_all (is_bit (columns f.kind)) f.bits) e in
    record { known = both.0; bits = lifted (IsBit (columns f.kind)) (is_bit (columns f.kind)) (bit_is (columns f.kind)) f.bits both.1 }

abbrev is_named : FunctionRow → FunctionRow → Bool
is_named f g = same_kind f.kind g.kind && bytes_eq f.name g.name

-- ---- groups
abbrev has_wires_below : ℕ → SwitchGroup → Bool
has_wires_below limit g = nat_lt g.wire limit && list_all (λ (r : SwitchRow). nat_lt r.source limit) g.rows

wires_are : (limit : ℕ) (g : SwitchGroup) → has_wires_below limit g ≡ true → HasWiresBelow limit g
wires_are limit g e =
    let both = and_parts (nat_lt g.wire limit) (list_all (λ (r : SwitchRow). nat_lt r.source limit) g.rows) e in
    record { target = ltb-true g.wire limit both.0; sources = lifted (λ (r : SwitchRow). r.source < limit) (λ (r : SwitchRow). nat_lt r.source limit) (λ r is. ltb-true r.source limit is) g.rows both.1 }

abbrev has_values : ℕ → SwitchRow → Bool
has_values count r = length r.values == count

abbrev is_group : ℕ → ℕ → SwitchGroup → Bool
is_group width height g = is_place width height g.tile && (nat_lt 0 (length g.bits) && (list_all (is_bit 54) g.bits && list_all (has_values (length g.bits)) g.rows))

group_is : (width height : ℕ) (g : SwitchGroup) → is_group width height g ≡ true → IsGroup width height g
group_is width height g e =
    let count = length g.bits in
    let one = and_parts (is_place width height g.tile) (nat_lt 0 count && (list_all (is_bit 54) g.bits && list_all (has_values count) g.rows)) e in
    let two = and_parts (nat_lt 0 count) (list_all (is_bit 54) g.bits && list_all (has_values count) g.rows) one.1 in
    let three = and_parts (list_all (is_bit 54) g.bits) (list_all (has_values count) g.rows) two.1 in
    record {
      place = place_is width height g.tile one.0;
      some = ltb-true 0 count two.0;
      bits = lifted (IsBit 54) (is_bit 54) (bit_is 54) g.bits three.0;
      values = lifted (λ (r : SwitchRow). length r.values ≡ count) (has_values count) (λ r is. nat_same (length r.values) count is) g.rows three.1;
    }

-- ---- globals, enables and buffers
abbrev feeds : ℕ → ℕ → TileAt × ℕ → Bool
feeds width height row = is_place width height row.0 && nat_lt row.1 8

feeds_one : (width height : ℕ) (row : TileAt × ℕ) → feeds width height row ≡ true → FeedsGlobal width height row
feeds_one width height row e =
    let both = and_parts (is_place width height row.0) (nat_lt row.1 8) e in
    record { place = place_is width height row.0 both.0; global = ltb-true row.1 8 both.1 }

abbrev are_pads : ℕ → ℕ → Pad × Pad → Bool
are_pads width height row = is_pad width height row.0 && is_pad width height row.1

pads_are : (width height : ℕ) (row : Pad × Pad) → are_pads width height row ≡ true → ArePads width height row
pads_are width height row e =
    let both = and_parts (is_pad width height row.0) (is_pad width height row.1) e in
    record { pad = pad_is width height row.0 both.0; enable = pad_is width height row.1 both.1 }

abbrev are_places : ℕ → ℕ → TileAt × TileAt → Bool
are_places width height row = is_place width height row.0 && is_place width height row.1

places_are : (width height : ℕ) (row : TileAt × TileAt) → are_places width height row ≡ true → ArePlaces width height row
places_are width height row e =
    let both = and_parts (is_place width height row.0) (is_place width height row.1) e in
    record { holder = place_is width height row.0 both.0; served = place_is width height row.1 both.1 }

-- ---- the chip
few : (n k : ℕ) → n ≡ k → k ≤ 100 → n ≤ most_rows
few n k e le = omega arith

example_is_read : IsRead example
example_is_read = record {
  narrow = omega arith;
  low = omega arith;
  few_wires = omega arith;
  few_rows = few (length (rows_of switch_groups)) 6 refl (omega arith);
  tiles_once = distinct same_tile same_tile (λ a b e. e) (keys_of example.tiles) refl;
  tile_places = lifted (IsPlace 2 2) (is_place 2 2) (place_is 2 2) (keys_of example.tiles) refl;
  functions_kept = lifted IsKept is_kept kept_is example.functions refl;
  functions_once = distinct is_again is_named (λ f g e. and_right (is_read g.kind g.name) (is_named f g) e) example.functions refl;
  named_wires = lifted (λ (n : WireName). n.wire < 9) (λ (n : WireName). nat_lt n.wire 9) (λ n is. ltb-true n.wire 9 is) wire_names refl;
  named_places = lifted (λ (n : WireName). IsPlace 2 2 n.tile) (λ (n : WireName). is_place 2 2 n.tile) (λ n is. place_is 2 2 n.tile is) wire_names refl;
  group_wires = lifted (HasWiresBelow 9) (has_wires_below 9) (wires_are 9) switch_groups refl;
  group_forms = lifted (IsGroup 2 2) (is_group 2 2) (group_is 2 2) switch_groups refl;
  numbered = (refl, (refl, (refl, (refl, (refl, tt)))));
  package_forms = All-nil (IsPackage 2 2);
  feeds = lifted (FeedsGlobal 2 2) (feeds 2 2) (feeds_one 2 2) example.gbufin refl;
  pad_feeds = All-nil (PadFeedsGlobal 2 2);
  padins = All-nil (λ row. row.0 < 8);
  enables = lifted (ArePads 2 2) (are_pads 2 2) (pads_are 2 2) example.ieren refl;
  buffers = lifted (ArePlaces 2 2) (are_places 2 2) (places_are 2 2) example.colbuf refl;
}

pub example_is_chip : IsChip example
unfolding ram_names
example_is_chip = record { read = example_is_read; faultless = refl }

pub finds_example : FindsExample
unfolding ram_names
finds_example = record {
  wire = refl;
  other_tile = refl;
  no_tile = refl;
  two_names = refl;
  pin = refl;
  no_pin = refl;
  global = refl;
  place = refl;
  no_place = refl;
  function = refl;
  no_function = refl;
  source = refl;
  target = refl;
  enable = refl;
  buffers = refl;
  no_buffers = refl;
  feeder = refl;
}
