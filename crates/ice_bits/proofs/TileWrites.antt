-- Bits written in the tiles of a configuration.
use Rattle.std.proofs.Common.{◌≤◌, ◌+◌, take, drop, map, slice_get, ◌≡◌, ℕ, zero, suc, ◌<◌, Bool, true, false, cond, if◌then◌else◌, Option, None, Some, option_map, List, [], ◌∷◌, ◌++◌, length, get_or, set, refl, sym, ap, ◌∙◌, subst, arith}
use Rattle.std.specs.Prelude.{◌&&◌}
use Rattle.std.specs.Map.{lookup}
use Rattle.std.specs.Option.{option_map_or, option_and_then, option_or}
use Rattle.std.proofs.lemmas.Bool.{and_parts}
use Rattle.std.proofs.lemmas.List.{take_more, map-append, length-take-le}
use Rattle.ice_base.specs.declared.number.TileAt.{TileAt}
use Rattle.ice_base.specs.declared.bit.BitAt.{BitAt}
use Rattle.ice_chip.specs.Database.{Parts, SwitchGroup, SwitchRow, same_tile, columns}
use Rattle.ice_chip.specs.Listings.{tile_of, rows_of}
use Rattle.ice_chip.specs.declared.tile.Tile.{Tile}
use Rattle.ice_chip.specs.declared.rows.TileLine.{TileLine}
use Rattle.ice_chip.specs.declared.rows.TileKind.{TileKind}
use Rattle.ice_bits.specs.Configuration.{Bits, Configuration, bit_in, bit_at, rows_at, bits_of, same_place}
use Rattle.ice_bits.specs.Grids.{kind_in, is_in, is_there, AreGrids, blank_rows, blank_tile, kind_of_tile, blank}
use Rattle.ice_bits.specs.Written.{with_bit, with_bits}
use Rattle.ice_bits.specs.Rewriting.{where_there, Rewrites, rows_with, tiles_with, with_place, with_places, with_row}
use Rattle.ice_bits.specs.TileForms.{blank_at, kind_of}
use Rattle.ice_bits.specs.TilePlaces.{place_in}
use Rattle.ice_base.proofs.Keys.{tile_same, tile_self, place_same}
use Rattle.ice_bits.proofs.RowWrites.{rows_keep, grid_keeps, nothing_outside, read_after}

abbrev Rows : Type 0
Rows = List (List Bool)

abbrev Tiles : Type 0
Tiles = List (TileAt × List (List Bool))

-- ---- where a tile stands
pub place_last : {X : Type 0} (t u : TileAt) (x : X) (es : List (TileAt × X)) → place_in t (es ++ (u, x) ∷ []) ≡ option_or (place_in t es) (lookup (same_tile t) ((u, length es) ∷ []))
place_last t u x [] = refl
place_last t u x (e ∷ es) = by (same_tile t e.0) (same_tile t u) (place_in t es) (place_last t u x es)
  where
    by : (here there : Bool) (o : Option ℕ) → place_in t (es ++ (u, x) ∷ []) ≡ option_or o (cond there (Some (length es)) None)
        → cond here (Some 0) (option_map (λ i. suc i) (place_in t (es ++ (u, x) ∷ []))) ≡ option_or (cond here (Some 0) (option_map (λ i. suc i) o)) (cond there (Some (length (e ∷ es))) None)
    by true there o later = refl
    by false there None later = ap (option_map (λ i. suc i)) later ∙ raised there
      where
        raised : (there : Bool) → option_map (λ i. suc i) (cond there (Some (length es)) None) ≡ cond there (Some (length (e ∷ es))) None
        raised true = let n : suc (length es) ≡ length (e ∷ es) = omega arith in ap Some n
        raised false = refl
    by false there (Some i) later = ap (option_map (λ j. suc j)) later

-- the tile behind the first i, once it is noted
pub place_more : {X : Type 0} (t : TileAt) (es : List (TileAt × X)) (i : ℕ) (e : TileAt × X) (o : Option ℕ) → i < length es → e ≡ get_or es i e → o ≡ place_in t (take i es)
    → option_or o (lookup (same_tile t) ((e.0, i) ∷ [])) ≡ place_in t (take (i + 1) es)
place_more t es i e o lt is noted =
    ap (λ p. option_or p (lookup (same_tile t) ((e.0, i) ∷ []))) noted
    ∙ ap (λ n. option_or (place_in t (take i es)) (lookup (same_tile t) ((e.0, n) ∷ []))) (sym (length-take-le i es (omega arith)))
    ∙ sym (place_last t e.0 e.1 (take i es))
    ∙ ap (λ x. place_in t (take i es ++ x ∷ [])) is
    ∙ ap (place_in t) (sym (take_more es i e lt))

pub place_within : {X : Type 0} (t : TileAt) (es : List (TileAt × X)) (i : ℕ) → place_in t es ≡ Some i → i < length es
place_within t [] i at = absurd (cc)
place_within t (e ∷ es) i at = by (same_tile t e.0) (place_in t es) refl at (λ j later. place_within t es j later)
  where
    by : (here : Bool) (o : Option ℕ) → place_in t es ≡ o → cond here (Some 0) (option_map (λ j. suc j) o) ≡ Some i
        → ((j : ℕ) → place_in t es ≡ Some j → j < length es) → i < length (e ∷ es)
    by true o later is rest = let z : 0 ≡ i = cc in omega arith
    by false None later is rest = absurd (cc)
    by false (Some j) later is rest = let s : suc j ≡ i = cc in let lt : j < length es = rest j later in omega arith

pub place_none : {X : Type 0} (t : TileAt) (es : List (TileAt × X)) → place_in t es ≡ None → lookup (same_tile t) es ≡ None
place_none t [] at = refl
place_none t (e ∷ es) at = by (same_tile t e.0) (place_in t es) refl at (λ later. place_none t es later)
  where
    by : (here : Bool) (o : Option ℕ) → place_in t es ≡ o → cond here (Some 0) (option_map (λ j. suc j) o) ≡ None
        → (place_in t es ≡ None → lookup (same_tile t) es ≡ None) → cond here (Some e.1) (lookup (same_tile t) es) ≡ None
    by true o later is rest = absurd (cc)
    by false None later is rest = rest later
    by false (Some j) later is rest = absurd (cc)

pub place_some : {X : Type 0} (t : TileAt) (es : List (TileAt × X)) (i : ℕ) (d : TileAt × X) → place_in t es ≡ Some i → lookup (same_tile t) es ≡ Some (get_or es i d).1
place_some t [] i d at = absurd (cc)
place_some t (e ∷ es) i d at = by (same_tile t e.0) (place_in t es) refl at (λ j later. place_some t es j d later)
  where
    by : (here : Bool) (o : Option ℕ) → place_in t es ≡ o → cond here (Some 0) (option_map (λ j. suc j) o) ≡ Some i
        → ((j : ℕ) → place_in t es ≡ Some j → lookup (same_tile t) es ≡ Some (get_or es j d).1) → cond here (Some e.1) (lookup (same_tile t) es) ≡ Some (get_or (e ∷ es) i d).1
    by true o later is rest = let z : 0 ≡ i = cc in subst (λ n. Some e.1 ≡ Some (get_or (e ∷ es) n d).1) z refl
    by false None later is rest = absurd (cc)
    by false (Some j) later is rest =
        let s : suc j ≡ i = cc in subst (λ n. lookup (same_tile t) es ≡ Some (get_or (e ∷ es) n d).1) s (rest j later)

-- ---- other rows in a tile
pub place_change : (t : TileAt) (change : Rows → Rows) (es : Tiles) (i : ℕ) (d : TileAt × Rows) → place_in t es ≡ Some i
    → tiles_with t change es ≡ set es i ((get_or es i d).0, change (get_or es i d).1)
place_change t change [] i d at = absurd (cc)
place_change t change (e ∷ es) i d at = by (same_tile t e.0) (place_in t es) refl at (λ j later. place_change t change es j d later)
  where
    by : (here : Bool) (o : Option ℕ) → place_in t es ≡ o → cond here (Some 0) (option_map (λ j. suc j) o) ≡ Some i
        → ((j : ℕ) → place_in t es ≡ Some j → tiles_with t change es ≡ set es j ((get_or es j d).0, change (get_or es j d).1))
        → cond here ((e.0, change e.1) ∷ es) (e ∷ tiles_with t change es) ≡ set (e ∷ es) i ((get_or (e ∷ es) i d).0, change (get_or (e ∷ es) i d).1)
    by true o later is rest = let z : 0 ≡ i = cc in subst (λ n. (e.0, change e.1) ∷ es ≡ set (e ∷ es) n ((get_or (e ∷ es) n d).0, change (get_or (e ∷ es) n d).1)) z refl
    by false None later is rest = absurd (cc)
    by false (Some j) later is rest =
        let s : suc j ≡ i = cc in
        subst (λ n. e ∷ tiles_with t change es ≡ set (e ∷ es) n ((get_or (e ∷ es) n d).0, change (get_or (e ∷ es) n d).1)) s
        (ap (λ (xs : Tiles). e ∷ xs) (rest j later))

-- the tile at a place of the list with other rows
pub written_at : (t : TileAt) (change : Rows → Rows) (es : Tiles) (i : ℕ) (e : TileAt × Rows) (rows : Rows) → place_in t es ≡ Some i → e ≡ get_or es i e → rows ≡ change e.1
    → set es i (e.0, rows) ≡ tiles_with t change es
written_at t change es i e rows at is wrote =
    ap (λ (new : Rows). set es i (e.0, new)) wrote ∙ ap (λ (x : TileAt × Rows). set es i (x.0, change x.1)) is ∙ sym (place_change t change es i e at)

abbrev pub of_tiles : Tiles → List TileKind → List (ℕ × ℕ × ℕ) → Tiles → Configuration
of_tiles tiles kinds extras contents = record { tiles = tiles; kinds = kinds; extras = extras; contents = contents }

pub nothing_changes : (t : TileAt) (change : Rows → Rows) (es : Tiles) → place_in t es ≡ None → tiles_with t change es ≡ es
nothing_changes t change [] at = refl
nothing_changes t change (e ∷ es) at = by (same_tile t e.0) (place_in t es) refl at (λ later. nothing_changes t change es later)
  where
    by : (here : Bool) (o : Option ℕ) → place_in t es ≡ o → cond here (Some 0) (option_map (λ j. suc j) o) ≡ None
        → (place_in t es ≡ None → tiles_with t change es ≡ es) → cond here ((e.0, change e.1) ∷ es) (e ∷ tiles_with t change es) ≡ e ∷ es
    by true o later is rest = absurd (cc)
    by false None later is rest = ap (λ (xs : Tiles). e ∷ xs) (rest later)
    by false (Some j) later is rest = absurd (cc)

pub place_after : (t u : TileAt) (change : Rows → Rows) (es : Tiles) → place_in u (tiles_with t change es) ≡ place_in u es
place_after t u change [] = refl
place_after t u change (e ∷ es) = by (same_tile t e.0) (place_after t u change es)
  where
    by : (here : Bool) → place_in u (tiles_with t change es) ≡ place_in u es → place_in u (cond here ((e.0, change e.1) ∷ es) (e ∷ tiles_with t change es)) ≡ place_in u (e ∷ es)
    by true rest = refl
    by false rest = ap (λ (o : Option ℕ). cond (same_tile u e.0) (Some 0) (option_map (λ i. suc i) o)) rest

changed_here : (t : TileAt) (change : Rows → Rows) (es : Tiles) → lookup (same_tile t) (tiles_with t change es) ≡ option_map change (lookup (same_tile t) es)
changed_here t change [] = refl
changed_here t change (e ∷ es) = by (same_tile t e.0) refl (changed_here t change es)
  where
    by : (here : Bool) → same_tile t e.0 ≡ here → lookup (same_tile t) (tiles_with t change es) ≡ option_map change (lookup (same_tile t) es)
        → lookup (same_tile t) (cond here ((e.0, change e.1) ∷ es) (e ∷ tiles_with t change es)) ≡ option_map change (cond here (Some e.1) (lookup (same_tile t) es))
    by true is rest = rw is refl
    by false is rest = rw is rest

same_elsewhere : (t u : TileAt) (change : Rows → Rows) (es : Tiles) → same_tile t u ≡ false → lookup (same_tile u) (tiles_with t change es) ≡ lookup (same_tile u) es
same_elsewhere t u change [] other = refl
same_elsewhere t u change (e ∷ es) other = by (same_tile t e.0) refl (same_tile u e.0) refl (same_elsewhere t u change es other)
  where
    by : (here : Bool) → same_tile t e.0 ≡ here → (there : Bool) → same_tile u e.0 ≡ there → lookup (same_tile u) (tiles_with t change es) ≡ lookup (same_tile u) es
        → lookup (same_tile u) (cond here ((e.0, change e.1) ∷ es) (e ∷ tiles_with t change es)) ≡ cond there (Some e.1) (lookup (same_tile u) es)
    by true is false not_there rest = rw not_there refl
    by true is true there rest =
        let same : t ≡ u = tile_same t e.0 is ∙ sym (tile_same u e.0 there) in
        let yes : same_tile t u ≡ true = subst (λ (v : TileAt). same_tile t v ≡ true) same (tile_self t) in
        absurd (cc)
    by false is there at rest = ap (λ z. cond z (Some e.1) (lookup (same_tile u) (tiles_with t change es))) at
        ∙ ap (λ (o : Option Rows). cond there (Some e.1) o) rest

-- ---- one bit
pub unseen : (k : Configuration) (u : TileAt) (b : BitAt) → is_there k u b ≡ false → bits_of k u b ≡ false
unseen k u b out = by (rows_at k u) out
  where
    by : (o : Option Rows) → option_map_or (λ rows. is_in rows b) o false ≡ false → bit_at o b ≡ false
    by None out = refl
    by (Some rows) out = nothing_outside rows b out

pub bit_written : (k : Configuration) (t : TileAt) (p : BitAt) (v : Bool) (u : TileAt) (b : BitAt)
    → bits_of (with_place t p v k) u b ≡ where_there k (with_bit t p v (bits_of k)) u b
bit_written k t p v u b = by (same_tile t u) refl
  where
    in_rows : (o : Option Rows) → bit_at (option_map (rows_with p v) o) b ≡ (if option_map_or (λ rows. is_in rows b) o false then (if same_place p b then v else bit_at o b) else false)
    in_rows None = refl
    in_rows (Some rows) = read_after rows p b v

    outside : (o : Option Rows) → bit_at o b ≡ (if option_map_or (λ rows. is_in rows b) o false then bit_at o b else false)
    outside None = refl
    outside (Some rows) = by (is_in rows b) refl
      where
        by : (x : Bool) → is_in rows b ≡ x → bit_in rows b ≡ (if x then bit_in rows b else false)
        by true there = refl
        by false out = nothing_outside rows b out

    by : (x : Bool) → same_tile t u ≡ x → bit_at (lookup (same_tile u) (tiles_with t (rows_with p v) k.tiles)) b ≡ (if is_there k u b then (if x && same_place p b then v else bits_of k u b) else false)
    by true same =
        let e : t ≡ u = tile_same t u same in
        subst (λ (w : TileAt). bit_at (lookup (same_tile w) (tiles_with t (rows_with p v) k.tiles)) b ≡ (if is_there k w b then (if same_place p b then v else bits_of k w b) else false)) e
        (ap (λ (o : Option Rows). bit_at o b) (changed_here t (rows_with p v) k.tiles) ∙ in_rows (lookup (same_tile t) k.tiles))
    by false other = ap (λ (o : Option Rows). bit_at o b) (same_elsewhere t u (rows_with p v) k.tiles other) ∙ outside (lookup (same_tile u) k.tiles)

pub places_stay : (k : Configuration) (t : TileAt) (p : BitAt) (v : Bool) (u : TileAt) (b : BitAt) → is_there (with_place t p v k) u b ≡ is_there k u b
places_stay k t p v u b = by (same_tile t u) refl
  where
    in_rows : (o : Option Rows) → option_map_or (λ rows. is_in rows b) (option_map (rows_with p v) o) false ≡ option_map_or (λ rows. is_in rows b) o false
    in_rows None = refl
    in_rows (Some rows) = rows_keep p b v rows

    by : (x : Bool) → same_tile t u ≡ x → is_there (with_place t p v k) u b ≡ is_there k u b
    by true same =
        let e : t ≡ u = tile_same t u same in
        subst (λ (w : TileAt). is_there (with_place t p v k) w b ≡ is_there k w b) e
        (ap (λ (o : Option Rows). option_map_or (λ rows. is_in rows b) o false) (changed_here t (rows_with p v) k.tiles) ∙ in_rows (lookup (same_tile t) k.tiles))
    by false other = ap (λ (o : Option Rows). option_map_or (λ rows. is_in rows b) o false) (same_elsewhere t u (rows_with p v) k.tiles other)

grids_stay : (t : TileAt) (p : BitAt) (v : Bool) (tiles : List (TileAt × TileLine)) (es : Tiles) → AreGrids tiles es → AreGrids tiles (tiles_with t (rows_with p v) es)
grids_stay t p v [] [] are = are
grids_stay t p v [] (e ∷ es) are = absurd are
grids_stay t p v (tile ∷ tiles) [] are = absurd are
grids_stay t p v (tile ∷ tiles) (e ∷ es) are = by (same_tile t e.0) (grids_stay t p v tiles es are.2)
  where
    by : (here : Bool) → AreGrids tiles (tiles_with t (rows_with p v) es) → AreGrids (tile ∷ tiles) (cond here ((e.0, rows_with p v e.1) ∷ es) (e ∷ tiles_with t (rows_with p v) es))
    by true rest = (are.0, grid_keeps p v (columns tile.1.kind) e.1 are.1, are.2)
    by false rest = (are.0, are.1, rest)

pub kinds_stay : (k : Configuration) (t : TileAt) (p : BitAt) (v : Bool) (u : TileAt) → kind_in (with_place t p v k) u ≡ kind_in k u
kinds_stay k t p v u = ap (option_and_then (λ i. slice_get k.kinds i)) (place_after t u (rows_with p v) k.tiles)

pub place_rewrites : (k : Configuration) (t : TileAt) (p : BitAt) (v : Bool) → Rewrites k (with_place t p v k) (where_there k (with_bit t p v (bits_of k)))
place_rewrites k t p v = record {
  bits = bit_written k t p v;
  places = places_stay k t p v;
  kinds = kinds_stay k t p v;
  extras = refl;
  contents = refl;
  form = λ parts is. record { grids = grids_stay t p v parts.tiles k.tiles is.grids; kinds = is.kinds; contents = is.contents };
}

-- a bit that is there
pub bit_rewrites : (k : Configuration) (t : TileAt) (p : BitAt) (v : Bool) → is_there k t p ≡ true → Rewrites k (with_place t p v k) (with_bit t p v (bits_of k))
bit_rewrites k t p v there = record {
  bits = λ u b. bit_written k t p v u b ∙ seen u b;
  places = places_stay k t p v;
  kinds = kinds_stay k t p v;
  extras = refl;
  contents = refl;
  form = (place_rewrites k t p v).form;
}
  where
    seen : (u : TileAt) (b : BitAt) → where_there k (with_bit t p v (bits_of k)) u b ≡ with_bit t p v (bits_of k) u b
    seen u b = by (is_there k u b) refl (same_tile t u && same_place p b) refl
      where
        by : (x : Bool) → is_there k u b ≡ x → (y : Bool) → (same_tile t u && same_place p b) ≡ y → (if x then (if y then v else bits_of k u b) else false) ≡ (if y then v else bits_of k u b)
        by true is y at = refl
        by false out false at = sym (unseen k u b out)
        by false out true at =
            let parts = and_parts (same_tile t u) (same_place p b) at in
            let tile : t ≡ u = tile_same t u parts.0 in
            let place : p ≡ b = place_same p b parts.1 in
            let here : is_there k u b ≡ true = subst (λ (w : TileAt). is_there k w b ≡ true) tile (subst (λ (q : BitAt). is_there k t q ≡ true) place there) in
            absurd (cc)

-- ---- several bits
pub as_it_is : (k : Configuration) → Rewrites k k (where_there k (bits_of k))
as_it_is k = record {
  bits = λ u b. by u b (is_there k u b) refl;
  places = λ u b. refl;
  kinds = λ u. refl;
  extras = refl;
  contents = refl;
  form = λ parts is. is;
}
  where
    by : (u : TileAt) (b : BitAt) (x : Bool) → is_there k u b ≡ x → bits_of k u b ≡ (if x then bits_of k u b else false)
    by u b true is = refl
    by u b false out = unseen k u b out

-- a bit that is written depends on what stood there alone
same_bits : (t : TileAt) (ps : List BitAt) (vs : List Bool) (xs ys : Bits) (u : TileAt) (b : BitAt) → xs u b ≡ ys u b → with_bits t ps vs xs u b ≡ with_bits t ps vs ys u b
same_bits t [] vs xs ys u b same = same
same_bits t (p ∷ ps) [] xs ys u b same = same
same_bits t (p ∷ ps) (v ∷ vs) xs ys u b same =
    same_bits t ps vs (with_bit t p v xs) (with_bit t p v ys) u b (ap (λ z. if same_tile t u && same_place p b then v else z) same)

there_of : (k : Configuration) (bits : Bits) (u : TileAt) (b : BitAt) → is_there k u b ≡ true → where_there k bits u b ≡ bits u b
there_of k bits u b is = ap (λ z. if z then bits u b else false) is

-- nothing is written in a tile that is not there
pub places_nowhere : (t : TileAt) (ps : List BitAt) (vs : List Bool) (k : Configuration) → place_in t k.tiles ≡ None → k ≡ with_places t ps vs k
places_nowhere t [] vs k none = refl
places_nowhere t (p ∷ ps) [] k none = refl
places_nowhere t (p ∷ ps) (v ∷ vs) k none =
    let same : k ≡ with_place t p v k = ap (λ (ts : Tiles). of_tiles ts k.kinds k.extras k.contents) (sym (nothing_changes t (rows_with p v) k.tiles none)) in
    places_nowhere t ps vs k none ∙ ap (with_places t ps vs) same

pub never_there : (k : Configuration) (t : TileAt) (p : BitAt) → place_in t k.tiles ≡ None → is_there k t p ≡ false
never_there k t p none = ap (λ (o : Option Rows). option_map_or (λ rows. is_in rows p) o false) (place_none t k.tiles none)

pub places_rewrite : (t : TileAt) (ps : List BitAt) (vs : List Bool) (k : Configuration) → Rewrites k (with_places t ps vs k) (where_there k (with_bits t ps vs (bits_of k)))
places_rewrite t [] vs k = as_it_is k
places_rewrite t (p ∷ ps) [] k = as_it_is k
places_rewrite t (p ∷ ps) (v ∷ vs) k =
    let first = place_rewrites k t p v in
    let later = places_rewrite t ps vs (with_place t p v k) in
    record {
      bits = λ u b. later.bits u b ∙ by ps vs k p v u b (is_there k u b) refl (first.bits u b) (first.places u b);
      places = λ u b. later.places u b ∙ first.places u b;
      kinds = λ u. later.kinds u ∙ first.kinds u;
      extras = later.extras;
      contents = later.contents;
      form = λ parts is. later.form parts (first.form parts is);
    }
  where
    by : (ps : List BitAt) (vs : List Bool) (k : Configuration) (p : BitAt) (v : Bool) (u : TileAt) (b : BitAt) (x : Bool) → is_there k u b ≡ x
        → bits_of (with_place t p v k) u b ≡ where_there k (with_bit t p v (bits_of k)) u b → is_there (with_place t p v k) u b ≡ is_there k u b
        → where_there (with_place t p v k) (with_bits t ps vs (bits_of (with_place t p v k))) u b ≡ where_there k (with_bits t ps vs (with_bit t p v (bits_of k))) u b
    by ps vs k p v u b true is bits places =
        there_of (with_place t p v k) (with_bits t ps vs (bits_of (with_place t p v k))) u b (places ∙ is)
        ∙ same_bits t ps vs (bits_of (with_place t p v k)) (with_bit t p v (bits_of k)) u b (bits ∙ there_of k (with_bit t p v (bits_of k)) u b is)
        ∙ sym (there_of k (with_bits t ps vs (with_bit t p v (bits_of k))) u b is)
    by ps vs k p v u b false is bits places =
        ap (λ z. if z then with_bits t ps vs (bits_of (with_place t p v k)) u b else false) (places ∙ is)
        ∙ sym (ap (λ z. if z then with_bits t ps vs (with_bit t p v (bits_of k)) u b else false) is)

-- ---- one bit more of several
next_at : (t : TileAt) (ps : List BitAt) (vs : List Bool) (i : ℕ) (p : BitAt) (v : Bool) (k : Configuration) → i < length ps → p ≡ get_or ps i p → slice_get vs i ≡ Some v
    → with_places t (drop i ps) (drop i vs) k ≡ with_places t (drop (suc i) ps) (drop (suc i) vs) (with_place t p v k)
next_at t [] vs i p v k lt at is = absurd (omega arith)
next_at t (q ∷ ps) [] i p v k lt at is = absurd (cc)
next_at t (q ∷ ps) (w ∷ vs) zero p v k lt at is = let value : w ≡ v = cc in ap (λ (x : BitAt). with_places t ps vs (with_place t x w k)) (sym at) ∙ ap (λ (x : Bool). with_places t ps vs (with_place t p x k)) value
next_at t (q ∷ ps) (w ∷ vs) (suc i) p v k lt at is = next_at t ps vs i p v k (omega arith) at is

pub next_place : (t : TileAt) (ps : List BitAt) (vs : List Bool) (i : ℕ) (p : BitAt) (v : Bool) (k : Configuration) → i < length ps → p ≡ get_or ps i p → slice_get vs i ≡ Some v
    → with_places t (drop i ps) (drop i vs) k ≡ with_places t (drop (i + 1) ps) (drop (i + 1) vs) (with_place t p v k)
next_place t ps vs i p v k lt at is = let e : i + 1 ≡ suc i = omega arith in rw e (next_at t ps vs i p v k lt at is)

no_values : (t : TileAt) (ps : List BitAt) (k : Configuration) → with_places t ps [] k ≡ k
no_values t [] k = refl
no_values t (p ∷ ps) k = refl

pub values_end : (t : TileAt) (ps : List BitAt) (vs : List Bool) (i : ℕ) (k : Configuration) → slice_get vs i ≡ None → with_places t (drop i ps) (drop i vs) k ≡ k
values_end t [] vs zero k none = refl
values_end t [] vs (suc i) k none = refl
values_end t (p ∷ ps) [] zero k none = refl
values_end t (p ∷ ps) [] (suc i) k none = no_values t (drop i ps) k
values_end t (p ∷ ps) (v ∷ vs) zero k none = absurd (cc)
values_end t (p ∷ ps) (v ∷ vs) (suc i) k none = values_end t ps vs i k none

pub places_end : (t : TileAt) (ps : List BitAt) (vs : List Bool) (i : ℕ) (k : Configuration) → length ps ≤ i → with_places t (drop i ps) vs k ≡ k
places_end t [] vs zero k le = refl
places_end t [] vs (suc i) k le = refl
places_end t (p ∷ ps) vs zero k le = absurd (omega arith)
places_end t (p ∷ ps) vs (suc i) k le = places_end t ps vs i k (omega arith)

-- ---- a switch row
pub row_rewrites : (parts : Parts) (row : ℕ) (g : SwitchGroup) (r : SwitchRow) (k new : Configuration) → slice_get (rows_of parts.groups) row ≡ Some (g, r) → new ≡ with_places g.tile g.bits r.values k
    → Rewrites k new (where_there k (with_row parts row (bits_of k)))
row_rewrites parts row g r k new found is =
    subst (λ (o : Option (SwitchGroup × SwitchRow)). Rewrites k new (where_there k (option_map_or (λ pair. with_bits pair.0.tile pair.0.bits pair.1.values (bits_of k)) o (bits_of k)))) (sym found)
    (subst (λ (c : Configuration). Rewrites k c (where_there k (with_bits g.tile g.bits r.values (bits_of k)))) (sym is) (places_rewrite g.tile g.bits r.values k))

-- ---- bits that are all 0
pub blank_more : (tiles : List Tile) (i : ℕ) (d : Tile) (done : Tiles) (rows : Rows) → i < length tiles → done ≡ map blank_at (take i tiles) → rows ≡ blank_rows (columns (get_or tiles i d).kind)
    → done ++ ((get_or tiles i d).at, rows) ∷ [] ≡ map blank_at (take (i + 1) tiles)
blank_more tiles i d done rows lt so_far is =
    ap (λ (ts : Tiles). ts ++ ((get_or tiles i d).at, rows) ∷ []) so_far ∙ ap (λ (rs : Rows). map blank_at (take i tiles) ++ ((get_or tiles i d).at, rs) ∷ []) is
    ∙ sym (map-append blank_at (take i tiles) (get_or tiles i d ∷ [])) ∙ ap (map blank_at) (sym (take_more tiles i d lt))

pub copied_more : (tiles : Tiles) (i : ℕ) (e : TileAt × Rows) (done : Tiles) (rows : Rows) → i < length tiles → e ≡ get_or tiles i e → done ≡ take i tiles → rows ≡ e.1
    → done ++ (e.0, rows) ∷ [] ≡ take (i + 1) tiles
copied_more tiles i e done rows lt at so_far is =
    ap (λ (ts : Tiles). ts ++ (e.0, rows) ∷ []) so_far ∙ ap (λ (rs : Rows). take i tiles ++ (e.0, rs) ∷ []) is
    ∙ ap (λ (x : TileAt × Rows). take i tiles ++ x ∷ []) at ∙ sym (take_more tiles i e lt)

pub blank_all : (parts : Parts) (grids : Tiles) (kinds : List TileKind) (extras : List (ℕ × ℕ × ℕ)) (contents : Tiles) → grids ≡ map blank_at (map tile_of parts.tiles)
    → kinds ≡ map kind_of (map tile_of parts.tiles) → extras ≡ [] → contents ≡ [] → of_tiles grids kinds extras contents ≡ blank parts
blank_all parts grids kinds extras contents grids_are kinds_are none empty =
    ap (λ (ts : Tiles). of_tiles ts kinds extras contents) (grids_are ∙ fused parts.tiles)
    ∙ ap (λ (ks : List TileKind). of_tiles (map blank_tile parts.tiles) ks extras contents) (kinds_are ∙ kinds_fused parts.tiles)
    ∙ ap (λ (es : List (ℕ × ℕ × ℕ)). of_tiles (map blank_tile parts.tiles) (map kind_of_tile parts.tiles) es contents) none
    ∙ ap (of_tiles (map blank_tile parts.tiles) (map kind_of_tile parts.tiles) []) empty
  where
    fused : (ts : List (TileAt × TileLine)) → map blank_at (map tile_of ts) ≡ map blank_tile ts
    fused [] = refl
    fused (t ∷ ts) = ap (λ (rest : Tiles). blank_tile t ∷ rest) (fused ts)

    kinds_fused : (ts : List (TileAt × TileLine)) → map kind_of (map tile_of ts) ≡ map kind_of_tile ts
    kinds_fused [] = refl
    kinds_fused (t ∷ ts) = ap (λ (rest : List TileKind). kind_of_tile t ∷ rest) (kinds_fused ts)
