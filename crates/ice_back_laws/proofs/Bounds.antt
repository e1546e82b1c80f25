-- How many logic tiles a chip has at most, and how many pads a package.
use Rattle.std.proofs.Common.{◌≡◌, ℕ, ◌+◌, ◌*◌, ◌<◌, ◌≤◌, Bool, true, false, cond, List, [], ◌∷◌, ◌++◌, length, map, refl, sym, ap, ◌∙◌, subst, arith}
use Rattle.std.specs.Cmp.{IsEquivalence}
use Rattle.std.specs.List.{IsDistinct, flat_map, list_any, range_with_len}
use Rattle.std.specs.Map.{keys_of}
use Rattle.std.proofs.lemmas.Cmp.{nat_eq_equiv, on_equiv, and_equiv}
use Rattle.std.proofs.lemmas.List.{length-map}
use Rattle.std.proofs.lemmas.List.FromFn.{length-range_with_len}
use Rattle.std.proofs.lemmas.Map.Keys.{IsDistinct-push}
use Rattle.std.proofs.lemmas.Map.Made.{IsDistinct-keys_filter, length-le_from_is_member}
use Rattle.indexmap.specs.IndexSet.{insert_key, insert_all}
use Rattle.ice_base.specs.declared.number.TileAt.{TileAt}
use Rattle.ice_base.proofs.Keys.{tiles_equal}
use Rattle.ice_base_values.specs.Order.{At, Has}
use Rattle.ice_base_values.proofs.Members.{Has_all, Has_any, Has_map, any_Has, map_Has, filter_Has}
use Rattle.ice_chip.specs.Database.{Parts, PackageRows, same_tile, same_pad}
use Rattle.ice_chip.specs.IsRead.{IsRead}
use Rattle.ice_chip.specs.Within.{IsPlace, IsPad, IsPackage}
use Rattle.ice_chip.specs.declared.rows.TileLine.{TileLine}
use Rattle.ice_chip.specs.declared.rows.Pad.{Pad}
use Rattle.ice_decode.specs.Cells.{is_logic_tile, logic_tiles}
use Rattle.ice_decode.specs.Pads.{pads_in}
use Rattle.ice_decode.proofs.Members.{At_range}
use Rattle.ice_decode.proofs.OtherTypes.{each_two}
use Rattle.ice_back_laws.proofs.PinTypes.{pinned}
use Rattle.ice_back_laws.proofs.Standing.{flat_on, flat_long}

-- ---- pads that stand once
pub pads_equal : IsEquivalence same_pad
pads_equal = and_equiv (on_equiv (λ (p : Pad). p.tile) tiles_equal) (on_equiv (λ (p : Pad). p.pio) nat_eq_equiv)

pub kept_once : (ks xs : List Pad) → IsDistinct same_pad ks → IsDistinct same_pad (insert_all same_pad ks xs)
kept_once ks [] once = once
kept_once ks (x ∷ xs) once = kept_once (insert_key same_pad ks x) xs (by (list_any (same_pad x) ks) refl)
  where
    by : (b : Bool) → list_any (same_pad x) ks ≡ b → IsDistinct same_pad (cond b ks (ks ++ x ∷ []))
    by true e = once
    by false e = IsDistinct-push pads_equal ks x once e

none_once : IsDistinct same_pad []
unfolding IsDistinct
none_once = tt

pub pads_once : (width height : ℕ) (rows : PackageRows) → IsPackage width height rows → IsDistinct same_pad rows.pads
pads_once width height rows form = subst (IsDistinct same_pad) (sym form.pads) (kept_once [] (map (λ (pin : List ℕ × Pad). pin.1) rows.pins) none_once)

-- ---- all places
abbrev places_in : ℕ → List TileAt
places_in x = map (λ y. record { x = x; y = y }) (range_with_len 0 256)

abbrev all_places : List TileAt
all_places = flat_map places_in (range_with_len 0 256)

abbrev all_pads : List Pad
all_pads = flat_map pads_in all_places

places_long : length all_places ≡ 65536
places_long = flat_long places_in 256 (λ x. length-map {B = TileAt} (range_with_len 0 256) (λ y. record { x = x; y = y }) ∙ length-range_with_len 0 256) (range_with_len 0 256) ∙ ap (λ n. 256 * n) (length-range_with_len 0 256)

pads_long : length all_pads ≡ 131072
pads_long = flat_long pads_in 2 (λ t. refl) all_places ∙ ap (λ n. 2 * n) places_long

number_at : (n : ℕ) → n < 256 → At (range_with_len 0 256) n n
number_at n lt = let e : 0 + n ≡ n = omega arith in subst (λ m. At (range_with_len 0 256) n m) e (At_range 0 256 n lt)

place_there : (t : TileAt) → t.x < 256 → t.y < 256 → Has all_places t
place_there t x y =
    flat_on places_in (range_with_len 0 256) t.x t.x t (number_at t.x x) (Has_map (λ n. record { x = t.x; y = n }) (range_with_len 0 256) t.y (t.y, number_at t.y y))

pad_there : (p : Pad) → p.tile.x < 256 → p.tile.y < 256 → p.pio < 2 → Has all_pads p
pad_there p x y pio =
    let place = place_there p.tile x y in
    flat_on pads_in all_places place.0 p.tile p place.1 (each_two (λ n. Has (pads_in p.tile) (record { tile = p.tile; pio = n })) (0, refl) (1, refl) p.pio pio)

-- ---- the bounds
pub logic_within : (parts : Parts) → IsRead parts → (t : TileAt) → Has (logic_tiles parts) t → IsPlace parts.width parts.height t
logic_within parts read t has =
    let row = map_Has (λ (tile : TileAt × TileLine). tile.0) _ t has in
    let there = filter_Has is_logic_tile parts.tiles row.0 row.1 in
    subst (IsPlace parts.width parts.height) row.2
    (Has_all (IsPlace parts.width parts.height) (keys_of parts.tiles) row.0.0 read.tile_places (Has_map (λ (tile : TileAt × TileLine). tile.0) parts.tiles row.0 there.0))

logic_place : (parts : Parts) → IsRead parts → (t : TileAt) → Has (logic_tiles parts) t → Has all_places t
logic_place parts read t has =
    let place = logic_within parts read t has in
    let x = place.x in
    let y = place.y in
    let narrow = read.narrow in
    let low = read.low in
    place_there t (omega (arith, x, narrow)) (omega (arith, y, low))

pub few_tiles : (parts : Parts) → IsRead parts → length (logic_tiles parts) ≤ 65536
few_tiles parts read =
    let le = length-le_from_is_member tiles_equal (logic_tiles parts) all_places (IsDistinct-keys_filter same_tile is_logic_tile parts.tiles read.tiles_once)
    (λ q e. let found = any_Has (same_tile q) (logic_tiles parts) e in
    let there = logic_place parts read found.0 found.1 in
    Has_any (same_tile q) all_places found.0 there.0 there.1 found.2) in
    omega (arith, le, places_long)

pub few_pads : (parts : Parts) (rows : PackageRows) → IsRead parts → Has parts.packages rows → length rows.pads ≤ 131072
few_pads parts rows read has =
    let form : IsPackage parts.width parts.height rows = Has_all (IsPackage parts.width parts.height) parts.packages rows read.package_forms has in
    let le = length-le_from_is_member pads_equal rows.pads all_pads (pads_once parts.width parts.height rows form)
    (λ q e. let found = any_Has (same_pad q) rows.pads e in
    let there = within form found.0 found.1 in
    Has_any (same_pad q) all_pads found.0 there.0 there.1 found.2) in
    omega (arith, le, pads_long)
  where
    within : IsPackage parts.width parts.height rows → (p : Pad) → Has rows.pads p → Has all_pads p
    within form p there =
        let pin = pinned parts.width parts.height rows form p there in
        let is : IsPad parts.width parts.height p = subst (IsPad parts.width parts.height) pin.2 (Has_all (λ (q : List ℕ × Pad). IsPad parts.width parts.height q.1) rows.pins pin.0 form.pins pin.1) in
        let x = is.place.x in
        let y = is.place.y in
        let pio = is.pio in
        let narrow = read.narrow in
        let low = read.low in
        pad_there p (omega (arith, x, narrow)) (omega (arith, y, low)) pio
