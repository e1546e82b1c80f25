-- Where bits of functions stand, and what it adds to set one.
use Rattle.std.proofs.Common.{◌≡◌, ℕ, ◌<◌, Bool, true, false, Option, None, Some, List, length, refl, sym, ap, ◌∙◌, subst}
use Rattle.std.specs.Prelude.{◌&&◌, slice_get, nat_lt}
use Rattle.std.specs.Option.{option_map_or, option_and_then}
use Rattle.std.proofs.lemmas.Bool.{and_parts, lt-ltb}
use Rattle.ice_base.specs.declared.bit.BitAt.{BitAt}
use Rattle.ice_base.specs.declared.number.TileAt.{TileAt}
use Rattle.ice_base.proofs.Keys.{place_same, place_self, tile_same}
use Rattle.ice_base_values.specs.Order.{Has}
use Rattle.ice_base_values.proofs.Members.{find_Has, Has_all}
use Rattle.ice_chip.specs.Database.{Parts, FunctionRow, SwitchGroup, SwitchRow, same_tile, columns}
use Rattle.ice_chip.specs.Functions.{same_kind}
use Rattle.ice_chip.specs.IsRead.{IsChip}
use Rattle.ice_chip.specs.Lookups.{kind_at, function_of, is_function}
use Rattle.ice_chip.specs.Listings.{rows_of}
use Rattle.ice_chip.specs.Within.{IsBit, IsKept}
use Rattle.ice_chip.specs.declared.rows.TileKind.{TileKind}
use Rattle.ice_chip.specs.declared.rows.TileKind.TheVariants.{Io, Logic, RamBottom, RamTop}
use Rattle.ice_chip_laws.specs.Groups.{HasGroups, HasRows}
use Rattle.ice_bits.specs.Configuration.{Configuration, same_place}
use Rattle.ice_bits.specs.Grids.{IsOf, is_bit_of}
use Rattle.ice_bits.specs.Settings.{function_bit}
use Rattle.ice_emit_rows_laws.specs.Settings.{sets_one}
use Rattle.ice_emit_bits.specs.Adds.{Adds, one_bit, setting_of}
use Rattle.ice_emit_bits.proofs.Adding.{nothing_added, added_as}

-- two kinds that pass the test are the same
kinds_same : (a b : TileKind) → same_kind a b ≡ true → a ≡ b
kinds_same Io Io e = refl
kinds_same Logic Logic e = refl
kinds_same RamBottom RamBottom e = refl
kinds_same RamTop RamTop e = refl
kinds_same Io Logic e = absurd (cc)
kinds_same Io RamBottom e = absurd (cc)
kinds_same Io RamTop e = absurd (cc)
kinds_same Logic Io e = absurd (cc)
kinds_same Logic RamBottom e = absurd (cc)
kinds_same Logic RamTop e = absurd (cc)
kinds_same RamBottom Io e = absurd (cc)
kinds_same RamBottom Logic e = absurd (cc)
kinds_same RamBottom RamTop e = absurd (cc)
kinds_same RamTop Io e = absurd (cc)
kinds_same RamTop Logic e = absurd (cc)
kinds_same RamTop RamBottom e = absurd (cc)

-- a bit of a function stands at a place that the tile has
pub place_is_there : (parts : Parts) (t : TileAt) (name : List ℕ) (k : ℕ) (b : BitAt) → IsChip parts → function_bit parts t name k ≡ Some b → is_bit_of parts t b ≡ true
place_is_there parts t name k b chip is = by (kind_at parts t) refl is
  where
    within : (kind : TileKind) (f : FunctionRow) → function_of parts kind name ≡ Some f → slice_get f.bits k ≡ Some b → (nat_lt b.row 16 && nat_lt b.col (columns kind)) ≡ true
    within kind f found at =
        let has = find_Has (is_function kind name) parts.functions f found in
        let same : f.kind ≡ kind = kinds_same f.kind kind (and_parts (same_kind f.kind kind) _ has.1).0 in
        let kept : IsKept f = Has_all IsKept parts.functions f chip.read.functions_kept has.0 in
        let bit : IsBit (columns f.kind) b = Has_all (IsBit (columns f.kind)) f.bits b kept.bits (k, at) in
        let column : b.col < columns kind = subst (λ (x : TileKind). b.col < columns x) same bit.column in
        rw (lt-ltb b.row 16 bit.row, lt-ltb b.col (columns kind) column) refl

    in_function : (kind : TileKind) (o : Option FunctionRow) → function_of parts kind name ≡ o → option_and_then (λ (f : FunctionRow). slice_get f.bits k) o ≡ Some b → (nat_lt b.row 16 && nat_lt b.col (columns kind)) ≡ true
    in_function kind None e at = absurd (cc)
    in_function kind (Some f) e at = within kind f e at

    by : (o : Option TileKind) → kind_at parts t ≡ o → option_and_then (λ kind. option_and_then (λ (f : FunctionRow). slice_get f.bits k) (function_of parts kind name)) o ≡ Some b
        → option_map_or (λ kind. nat_lt b.row 16 && nat_lt b.col (columns kind)) o false ≡ true
    by None e at = absurd (cc)
    by (Some kind) e at = in_function kind (function_of parts kind name) refl at

-- a bit of a function in a tile, told by the tile that it is in
sets_here : (parts : Parts) (tile t : TileAt) (name : List ℕ) (n : ℕ) (b : BitAt)
    → sets_one parts t b (setting_of tile name n) ≡ (same_tile tile t && option_map_or (same_place b) (function_bit parts tile name n) false)
sets_here parts tile t name n b = by (same_tile tile t) refl
  where
    by : (x : Bool) → same_tile tile t ≡ x → (x && option_map_or (same_place b) (function_bit parts t name n) false) ≡ (x && option_map_or (same_place b) (function_bit parts tile name n) false)
    by true e = ap (λ (u : TileAt). option_map_or (same_place b) (function_bit parts u name n) false) (sym (tile_same tile t e))
    by false e = refl

none_set : (s : Bool) → (s && false) ≡ false
none_set true = refl
none_set false = refl

pub nowhere_added : (parts : Parts) (k : Configuration) (tile : TileAt) (name : List ℕ) (n : ℕ) → IsOf parts k → function_bit parts tile name n ≡ None
    → Adds parts k k (λ t b. sets_one parts t b (setting_of tile name n))
nowhere_added parts k tile name n form none =
    nothing_added parts k (λ t b. sets_one parts t b (setting_of tile name n)) form
    (λ t b. sets_here parts tile t name n b ∙ ap (λ o. same_tile tile t && option_map_or (same_place b) o false) none ∙ none_set (same_tile tile t))

place_other : (a b : BitAt) → same_place a b ≡ same_place b a
place_other a b = by (same_place a b) (same_place b a) refl refl
  where
    turned : (c d : BitAt) → c ≡ d → same_place d c ≡ true
    turned c d e = subst (λ (x : BitAt). same_place x c ≡ true) e (place_self c)

    by : (x y : Bool) → same_place a b ≡ x → same_place b a ≡ y → x ≡ y
    by true true e f = refl
    by false false e f = refl
    by true false e f = sym (turned a b (place_same a b e)) ∙ f
    by false true e f = sym e ∙ turned b a (place_same b a f)

place_turned : (a b : BitAt) → (same_place a b && true) ≡ same_place b a
place_turned a b = turned (same_place a b) (same_place b a) (place_other a b)
  where
    turned : (x y : Bool) → x ≡ y → (x && true) ≡ y
    turned true y e = e
    turned false y e = e

pub somewhere_added : (parts : Parts) (old new : Configuration) (tile : TileAt) (name : List ℕ) (n : ℕ) (place : BitAt) → function_bit parts tile name n ≡ Some place → Adds parts old new (one_bit tile place true)
    → Adds parts old new (λ t b. sets_one parts t b (setting_of tile name n))
somewhere_added parts old new tile name n place is adds =
    added_as parts old new (one_bit tile place true) (λ t b. sets_one parts t b (setting_of tile name n))
    (λ t b. ap (λ x. same_tile tile t && x) (place_turned place b) ∙ sym (ap (λ o. same_tile tile t && option_map_or (same_place b) o false) is) ∙ sym (sets_here parts tile t name n b)) adds

-- ---- rows
pub group_bits_there : (parts : Parts) → HasGroups parts → (n : ℕ) (g : SwitchGroup) (r : SwitchRow) → HasRows parts → slice_get (rows_of parts.groups) n ≡ Some (g, r) → (b : BitAt) → Has g.bits b → is_bit_of parts g.tile b ≡ true
group_bits_there parts groups n g r rows at b has =
    let of = (rows.only n g r at).0 in
    let stands = groups.placed g of in
    ap (λ o. option_map_or (λ kind. nat_lt b.row 16 && nat_lt b.col (columns kind)) o false) stands.1
    ∙ (let row : b.row < 16 = groups.rows_of_bits g b of has in let column : b.col < columns stands.0 = groups.within g stands.0 b of stands.1 has in rw (lt-ltb b.row 16 row, lt-ltb b.col (columns stands.0) column) refl)

pub group_values_fit : (parts : Parts) → HasGroups parts → (n : ℕ) (g : SwitchGroup) (r : SwitchRow) → HasRows parts → slice_get (rows_of parts.groups) n ≡ Some (g, r) → length r.values ≡ length g.bits
group_values_fit parts groups n g r rows at = let of = rows.only n g r at in groups.values g r of.0 (of.1.0, of.1.2)
