-- Foreign functions and pads by tiles with their kinds.
use Rattle.std.proofs.Common.{◌≡◌, ℕ, ◌+◌, ◌<◌, Bool, true, false, cond, List, [], ◌∷◌, ◌++◌, Option, None, Some, refl, ap, sym, ◌∙◌, map, filter, drop, get_or, length}
use Rattle.std.specs.Prelude.{find, option_map}
use Rattle.std.specs.List.{flat_map}
use Rattle.std.specs.Option.{is_some}
use Rattle.std.proofs.lemmas.List.{at_drop_more}
use Rattle.ice_base.specs.declared.number.TileAt.{TileAt}
use Rattle.ice_chip.specs.Database.{Parts, FunctionRow}
use Rattle.ice_chip.specs.Lookups.{is_io_kind}
use Rattle.ice_chip.specs.Listings.{tile_of}
use Rattle.ice_chip.specs.declared.rows.TileLine.{TileLine}
use Rattle.ice_chip.specs.declared.rows.Pad.{Pad}
use Rattle.ice_chip.specs.declared.rows.TileKind.{TileKind}
use Rattle.ice_chip.specs.declared.rows.TileKind.TheVariants.{Io, Logic, RamBottom, RamTop}
use Rattle.ice_chip.specs.declared.tile.Tile.{Tile}
use Rattle.ice_bits.specs.Configuration.{Bits}
use Rattle.ice_decode.specs.Pads.{pads_in, is_io_tile}
use Rattle.ice_decode.specs.Faults.{is_set_in, has_wrong_type}
use Rattle.ice_decode.specs.FirstFaults.{or_else, foreign_in, first_foreign, foreign_function, wrong_pad}
use Rattle.ice_decode_circuit.specs.ForeignTiles.{foreign_among}
use Rattle.ice_decode_circuit.specs.PadTiles.{wrong_in, wrong_among}

pub mapped_twice : {A B C : Type 0} (f : A → B) (g : B → C) (o : Option A) → option_map g (option_map f o) ≡ option_map (λ x. g (f x)) o
mapped_twice f g None = refl
mapped_twice f g (Some x) = refl

-- ---- foreign functions
foreign_in_tiles : (parts : Parts) (bits : Bits) (tiles : List (TileAt × TileLine)) → foreign_among parts bits (map tile_of tiles) ≡ first_foreign parts bits tiles
foreign_in_tiles parts bits [] = refl
foreign_in_tiles parts bits (t ∷ tiles) =
    ap (λ o. or_else o (foreign_among parts bits (map tile_of tiles))) (mapped_twice (λ (f : FunctionRow). f.line) (λ line. (t.0, line)) (find (is_set_in parts bits t) parts.functions))
    ∙ ap (or_else (foreign_in parts bits t)) (foreign_in_tiles parts bits tiles)

pub foreign_same : (parts : Parts) (bits : Bits) → foreign_among parts bits (map tile_of parts.tiles) ≡ foreign_function parts bits
foreign_same parts bits = foreign_in_tiles parts bits parts.tiles

-- ---- pads
find_append : {X : Type 0} (test : X → Bool) (xs ys : List X) → find test (xs ++ ys) ≡ or_else (find test xs) (find test ys)
find_append test [] ys = refl
find_append {X} test (x ∷ xs) ys = by (test x) (find_append test xs ys)
  where
    by : (b : Bool) → find test (xs ++ ys) ≡ or_else (find test xs) (find test ys) → cond b (Some x) (find test (xs ++ ys)) ≡ or_else (cond b (Some x) (find test xs)) (find test ys)
    by true e = refl
    by false e = e

wrong_in_tiles : (parts : Parts) (bits : Bits) (tiles : List (TileAt × TileLine))
    → wrong_among parts bits (map tile_of tiles) ≡ find (has_wrong_type parts bits) (flat_map (λ (tile : TileAt × TileLine). pads_in tile.0) (filter is_io_tile tiles))
wrong_in_tiles parts bits [] = refl
wrong_in_tiles parts bits (t ∷ tiles) = by (is_io_kind t.1.kind) (wrong_in_tiles parts bits tiles)
  where
    by : (b : Bool) → wrong_among parts bits (map tile_of tiles) ≡ find (has_wrong_type parts bits) (flat_map (λ (tile : TileAt × TileLine). pads_in tile.0) (filter is_io_tile tiles))
        → or_else (cond b (wrong_in parts bits t.0) None) (wrong_among parts bits (map tile_of tiles))
        ≡ find (has_wrong_type parts bits) (flat_map (λ (tile : TileAt × TileLine). pads_in tile.0) (cond b (t ∷ filter is_io_tile tiles) (filter is_io_tile tiles)))
    by true e =
        ap (or_else (wrong_in parts bits t.0)) e
        ∙ sym (find_append (has_wrong_type parts bits) (pads_in t.0) (flat_map (λ (tile : TileAt × TileLine). pads_in tile.0) (filter is_io_tile tiles)))
    by false e = e

pub wrong_same : (parts : Parts) (bits : Bits) → wrong_among parts bits (map tile_of parts.tiles) ≡ wrong_pad parts bits
wrong_same parts bits = wrong_in_tiles parts bits parts.tiles

of_io : (kind : TileKind) (found : Option Pad) → kind ≡ Io → cond (is_io_kind kind) found None ≡ found
of_io Io found is = refl
of_io Logic found is = absurd (cc)
of_io RamBottom found is = absurd (cc)
of_io RamTop found is = absurd (cc)

of_others : (kind : TileKind) (found : Option Pad) → (kind ≡ Io → ⊥) → cond (is_io_kind kind) found None ≡ None
of_others Io found other = absurd (other refl)
of_others Logic found other = refl
of_others RamBottom found other = refl
of_others RamTop found other = refl

none_found : (found here rest : Option Pad) → found ≡ here → is_some found ≡ false → or_else here rest ≡ rest
none_found found None rest e is = refl
none_found None (Some p) rest e is = absurd (cc)
none_found (Some q) (Some p) rest e is = absurd (cc)

-- an IO tile of which no pad is wrong is passed over
pub io_passed : (parts : Parts) (bits : Bits) (tiles : List Tile) (i : ℕ) (d : Tile) (found : Option Pad) → i < length tiles → (get_or tiles i d).kind ≡ Io
    → found ≡ wrong_in parts bits (get_or tiles i d).at → is_some found ≡ false → wrong_among parts bits (drop i tiles) ≡ wrong_among parts bits (drop (i + 1) tiles)
io_passed parts bits tiles i d found lt io is none =
    at_drop_more (wrong_among parts bits) tiles i d lt
    ∙ ap (λ o. or_else o (wrong_among parts bits (drop (i + 1) tiles))) (of_io (get_or tiles i d).kind (wrong_in parts bits (get_or tiles i d).at) io)
    ∙ none_found found (wrong_in parts bits (get_or tiles i d).at) (wrong_among parts bits (drop (i + 1) tiles)) is none

-- a tile of another kind is passed over
pub other_passed : (parts : Parts) (bits : Bits) (tiles : List Tile) (i : ℕ) (d : Tile) → i < length tiles → ((get_or tiles i d).kind ≡ Io → ⊥)
    → wrong_among parts bits (drop i tiles) ≡ wrong_among parts bits (drop (i + 1) tiles)
other_passed parts bits tiles i d lt other =
    at_drop_more (wrong_among parts bits) tiles i d lt
    ∙ ap (λ o. or_else o (wrong_among parts bits (drop (i + 1) tiles))) (of_others (get_or tiles i d).kind (wrong_in parts bits (get_or tiles i d).at) other)
