-- Lists of entries, as they are made one after another.
use Rattle.std.proofs.Common.{◌≡◌, ℕ, ◌+◌, ◌<◌, ◌≤◌, Bool, true, false, cond, List, [], ◌∷◌, ◌++◌, length, get_or, map, filter, take, Option, refl, sym, ap, ◌∙◌, arith, append_assoc}
use Rattle.std.specs.List.{flat_map, range_with_len}
use Rattle.std.proofs.lemmas.List.{take_more, take_all, map-append, flat_map_more}
use Rattle.std.proofs.lemmas.List.Concat.{flat_map-append}
use Rattle.std.proofs.lemmas.List.FromFn.{map-range_with_len_more}
use Rattle.ice_base.specs.declared.number.TileAt.{TileAt}
use Rattle.ice_base_values.specs.System.{present}
use Rattle.ice_base_values.proofs.Gaps.{present_append, present_more}
use Rattle.ice_chip.specs.Database.{Parts}
use Rattle.ice_chip.specs.Lookups.{is_io_kind}
use Rattle.ice_chip.specs.Listings.{tile_of}
use Rattle.ice_chip.specs.declared.rows.TileLine.{TileLine}
use Rattle.ice_chip.specs.declared.tile.Tile.{Tile}
use Rattle.ice_chip_rams.specs.declared.ram_site.RamSite.{RamSite}
use Rattle.ice_bits.specs.Configuration.{Bits}
use Rattle.ice_decode.specs.declared.point.Point.{Point}
use Rattle.ice_decode.specs.Pads.{pads_in, is_io_tile, pads}
use Rattle.ice_timing.specs.declared.end.End.{End}
use Rattle.ice_timing.specs.declared.end.End.TheVariants.{Ram}
use Rattle.ice_timing.specs.declared.end.Door.{Door}
use Rattle.ice_timing.specs.declared.end.Door.TheVariants.{Port}
use Rattle.ice_timing.specs.declared.end.Entry.{Entry}
use Rattle.ice_timing.specs.Entries.{entry, entries_by, pad_entries, io_entries, ram_last, ram_lasts, ram_entries}

-- ---- one thing more
pub entries_more : (end : End) (door : Door) (start now next : List Entry) (lasts : List (Option Point)) (i : ℕ) (d : Option Point) → i < length lasts
    → now ≡ start ++ entries_by end door (take i lasts) → next ≡ now ++ entries_by end door (get_or lasts i d ∷ []) → next ≡ start ++ entries_by end door (take (i + 1) lasts)
entries_more end door start now next lasts i d lt so_far more =
    more
    ∙ ap (λ l. l ++ entries_by end door (get_or lasts i d ∷ [])) so_far
    ∙ append_assoc start (entries_by end door (take i lasts)) (entries_by end door (get_or lasts i d ∷ []))
    ∙ ap (λ l. start ++ l)
    (sym (map-append (entry end door) (present (take i lasts)) (present (get_or lasts i d ∷ []))) ∙ ap (map (entry end door)) (sym (present_more lasts i d lt)))

pub entries_all : (end : End) (door : Door) (start now : List Entry) (lasts : List (Option Point)) (i : ℕ) → length lasts ≤ i
    → now ≡ start ++ entries_by end door (take i lasts) → now ≡ start ++ entries_by end door lasts
entries_all end door start now lasts i le so_far = so_far ∙ ap (λ l. start ++ entries_by end door l) (take_all i lasts le)

pub joined_more : {X Y : Type 0} (f : X → List Y) (start now next : List Y) (xs : List X) (i : ℕ) (d : X) → i < length xs
    → now ≡ start ++ flat_map f (take i xs) → next ≡ now ++ f (get_or xs i d) → next ≡ start ++ flat_map f (take (i + 1) xs)
joined_more f start now next xs i d lt so_far more =
    more ∙ ap (λ l. l ++ f (get_or xs i d)) so_far ∙ flat_map_more f start (take i xs) (get_or xs i d) ∙ ap (λ l. start ++ flat_map f l) (sym (take_more xs i d lt))

pub joined_all : {X Y : Type 0} (f : X → List Y) (start now : List Y) (xs : List X) (i : ℕ) → length xs ≤ i
    → now ≡ start ++ flat_map f (take i xs) → now ≡ start ++ flat_map f xs
joined_all f start now xs i le so_far = so_far ∙ ap (λ l. start ++ flat_map f l) (take_all i xs le)

pub two_parts : {X : Type 0} (start one two first second : List X) → one ≡ start ++ first → two ≡ one ++ second → two ≡ start ++ (first ++ second)
two_parts start one two first second e f = f ∙ ap (λ l. l ++ second) e ∙ append_assoc start first second

-- both parts, where a test lets them in
pub let_in : {X : Type 0} (test : Bool) (start one two first second : List X) → test ≡ true → one ≡ start ++ first → two ≡ one ++ second → two ≡ start ++ cond test (first ++ second) []
let_in test start one two first second is e f = two_parts start one two first second e f ∙ ap (λ b. start ++ cond b (first ++ second) []) (sym is)

-- ---- block RAMs, wire by wire
pub ram_more : (parts : Parts) (s : RamSite) (n : ℕ) (last : Option Point) (start now next : List Entry) → last ≡ ram_last parts s n
    → now ≡ start ++ entries_by (Ram s.lower) Port (map (ram_last parts s) (range_with_len 0 n)) → next ≡ now ++ entries_by (Ram s.lower) Port (last ∷ [])
    → next ≡ start ++ entries_by (Ram s.lower) Port (map (ram_last parts s) (range_with_len 0 (n + 1)))
ram_more parts s n last start now next is so_far more =
    let before : List (Option Point) = map (ram_last parts s) (range_with_len 0 n) in
    two_parts start now next (entries_by (Ram s.lower) Port before) (entries_by (Ram s.lower) Port (last ∷ [])) so_far more
    ∙ ap (λ l. start ++ l)
    (sym (map-append (entry (Ram s.lower) Port) (present before) (present (last ∷ [])))
    ∙ ap (map (entry (Ram s.lower) Port)) (sym (present_append before (last ∷ [])))
    ∙ ap (λ o. entries_by (Ram s.lower) Port (before ++ o ∷ [])) is
    ∙ ap (entries_by (Ram s.lower) Port) (sym (map-range_with_len_more (ram_last parts s) 0 n n (omega arith))))

pub ram_whole : (parts : Parts) (s : RamSite) (n : ℕ) (start now : List Entry) → n ≡ 76 → now ≡ start ++ entries_by (Ram s.lower) Port (map (ram_last parts s) (range_with_len 0 n))
    → now ≡ start ++ ram_entries parts s
unfolding ram_lasts
ram_whole parts s n start now all so_far = so_far ∙ ap (λ m. start ++ entries_by (Ram s.lower) Port (map (ram_last parts s) (range_with_len 0 m))) all

-- ---- pads, tile by tile
pads_joined : (parts : Parts) (bits : Bits) (tiles : List (TileAt × TileLine))
    → flat_map (io_entries parts bits) (map tile_of tiles) ≡ flat_map (pad_entries parts bits) (flat_map (λ (tile : TileAt × TileLine). pads_in tile.0) (filter is_io_tile tiles))
pads_joined parts bits [] = refl
pads_joined parts bits (t ∷ tiles) = by (is_io_kind t.1.kind) (pads_joined parts bits tiles)
  where
    by : (b : Bool) → flat_map (io_entries parts bits) (map tile_of tiles) ≡ flat_map (pad_entries parts bits) (flat_map (λ (tile : TileAt × TileLine). pads_in tile.0) (filter is_io_tile tiles))
        → cond b (flat_map (pad_entries parts bits) (pads_in t.0)) [] ++ flat_map (io_entries parts bits) (map tile_of tiles)
        ≡ flat_map (pad_entries parts bits) (flat_map (λ (tile : TileAt × TileLine). pads_in tile.0) (cond b (t ∷ filter is_io_tile tiles) (filter is_io_tile tiles)))
    by true e =
        ap (λ l. flat_map (pad_entries parts bits) (pads_in t.0) ++ l) e
        ∙ sym (flat_map-append (pad_entries parts bits) (pads_in t.0) (flat_map (λ (tile : TileAt × TileLine). pads_in tile.0) (filter is_io_tile tiles)))
    by false e = e

-- all pads, where all tiles were gone over
pub pads_all : (parts : Parts) (bits : Bits) (start now : List Entry) (tiles : List Tile) (i : ℕ) → tiles ≡ map tile_of parts.tiles → length tiles ≤ i
    → now ≡ start ++ flat_map (io_entries parts bits) (take i tiles) → now ≡ start ++ flat_map (pad_entries parts bits) (pads parts)
pads_all parts bits start now tiles i e le so_far =
    joined_all (io_entries parts bits) start now tiles i le so_far
    ∙ ap (λ l. start ++ flat_map (io_entries parts bits) l) e
    ∙ ap (λ l. start ++ l) (pads_joined parts bits parts.tiles)
