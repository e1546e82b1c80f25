-- Tiles and wires counted one place further.
use Rattle.std.proofs.Common.{◌≡◌, ℕ, ◌+◌, ◌*◌, ◌<◌, ◌≤◌, ◌++◌, ◌∷◌, [], List, All, map, length, get_or, Option, Some, None, zero, suc, ap, sym, ◌∙◌, subst, refl, arith, add-one, append-nil}
use Rattle.std.specs.List.{flat_map, range_with_len, sum_by}
use Rattle.std.proofs.lemmas.Bool.Decides.{nat_tests}
use Rattle.std.proofs.lemmas.List.Elements.{All-append, All-cons, All-get_or}
use Rattle.std.proofs.lemmas.List.Concat.{flat_map-append}
use Rattle.std.proofs.lemmas.List.Sums.{sum_by_push}
use Rattle.std.proofs.lemmas.List.FromFn.{map-range_with_len_more, length-map-range_with_len, get_or-map-range_with_len}
use Rattle.std.proofs.lemmas.Nat.{mul-add-lt}
use Rattle.std.proofs.Math.Nat.{mul-le-mul}
use Rattle.ice_base.specs.declared.number.TileAt.{TileAt}
use Rattle.ice_base.proofs.Ranges.{range_suc}
use Rattle.ice_sample.specs.declared.grid.Tile.{Tile}
use Rattle.ice_sample.specs.declared.grid.TileKind.{TileKind}
use Rattle.ice_sample.specs.declared.grid.TileKind.TheVariants.{Io, Logic}
use Rattle.ice_sample.specs.Kinds.{kind_at, wires_of}
use Rattle.ice_sample.specs.Tiles.{place, tile_list, tiles_before, tiles_of, wires_before, IsWithin}

-- a range and the number behind it
pub range_more : (a n j : ℕ) → a + n ≡ j → range_with_len a (n + 1) ≡ range_with_len a n ++ j ∷ []
range_more a n j e = ap (range_with_len a) (add-one n) ∙ range_suc n a ∙ ap (λ x. range_with_len a n ++ x ∷ []) e

-- what is made of a range and of the number behind it
pub flat_map_range_more : {A : Type 0} (f : ℕ → List A) (n : ℕ) → flat_map f (range_with_len 0 (n + 1)) ≡ flat_map f (range_with_len 0 n) ++ f n
flat_map_range_more f n =
    ap (flat_map f) (range_more 0 n n (omega arith)) ∙ flat_map-append f (range_with_len 0 n) (n ∷ [])
    ∙ ap (λ x. flat_map f (range_with_len 0 n) ++ x) (append-nil (f n))

pub tiles_more : (w h n : ℕ) → tiles_before w h (n + 1) ≡ tiles_before w h n ++ tile_list (place w n) (kind_at w h (place w n))
unfolding tiles_before
tiles_more w h n = flat_map_range_more (λ m. tile_list (place w m) (kind_at w h (place w m))) n

-- no place has no tile
pub tiles_none : (w h : ℕ) → tiles_before w h 0 ≡ []
unfolding tiles_before
tiles_none w h = refl

-- one number further
pub map_range_more : {A : Type 0} (f : ℕ → A) (n : ℕ) → map f (range_with_len 0 (n + 1)) ≡ map f (range_with_len 0 n) ++ f n ∷ []
map_range_more f n = map-range_with_len_more f 0 n n (omega arith)

pub wires_more : (w h n : ℕ) → wires_before w h (n + 1) ≡ wires_before w h n + wires_of (kind_at w h (place w n))
unfolding wires_before
wires_more w h n =
    let f : ℕ → ℕ = λ m. wires_of (kind_at w h (place w m)) in
    let e : sum_by f (range_with_len 0 (n + 1)) ≡ sum_by f (range_with_len 0 n) + f n = ap (sum_by f) (range_more 0 n n (omega arith)) ∙ sum_by_push f (range_with_len 0 n) n in
    omega (arith, e)

-- the globals come before the first place
pub wires_none : (w h : ℕ) → wires_before w h 0 ≡ 8
unfolding wires_before
wires_none w h = refl

few_of : (kind : Option TileKind) → wires_of kind ≤ 116
few_of None = omega arith
few_of (Some Io) = omega arith
few_of (Some Logic) = omega arith

few_wires : (w h n : ℕ) → wires_before w h n ≤ 8 + 116 * n
few_wires w h zero = let e = wires_none w h in omega arith
few_wires w h (suc n) =
    let before = few_wires w h n in
    let more : wires_before w h (suc n) ≡ wires_before w h n + wires_of (kind_at w h (place w n)) = ap (wires_before w h) (sym (add-one n)) ∙ wires_more w h n in
    let own = few_of (kind_at w h (place w n)) in
    omega arith

-- the place of a column and a row is one of the chip
pub place_below : (w h x y : ℕ) → x < w → y < h → y * w + x < w * h
place_below w h x y left low = mul-add-lt y w x h low left

pub few_places : (w h : ℕ) → w ≤ 64 → h ≤ 64 → w * h ≤ 4096
few_places w h narrow low = mul-le-mul narrow low

-- all numbers of wires are small
pub small_wire : (w h n : ℕ) → w ≤ 64 → h ≤ 64 → n < w * h → wires_before w h n ≤ 500000
small_wire w h n narrow low below = omega (arith, few_wires w h n, few_places w h narrow low)

-- how long the list of the first wires is
pub length_first_wires : (w h : ℕ) → length (map (wires_before w h) (range_with_len 0 (w * h))) ≡ w * h
length_first_wires w h = length-map-range_with_len (wires_before w h) 0 (w * h)

-- what the list of the first wires has at a place
pub found_wire : (w h x y i d : ℕ) → x < w → y < h → i ≡ y * w + x → get_or (map (wires_before w h) (range_with_len 0 (w * h))) i d ≡ wires_before w h (y * w + x)
found_wire w h x y i d left low e =
    let below : i < w * h = subst (λ k. k < w * h) (sym e) (place_below w h x y left low) in
    get_or-map-range_with_len (wires_before w h) 0 (w * h) i (y * w + x) d below (let same : 0 + i ≡ y * w + x = omega arith in same)

-- a place with a kind is within the chip
kind_within : (w h : ℕ) (t : TileAt) (kind : TileKind) → kind_at w h t ≡ Some kind → (t.x < w) × (t.y < h)
kind_within w h t kind e = (grind (arith, nat_tests), grind (arith, nat_tests))

All-none : {A : Type 0} (P : A → Type 0) → All P []
All-none P = λ k d below. absurd (omega arith)

All-one : {A : Type 0} (P : A → Type 0) (x : A) → P x → All P (x ∷ [])
All-one P x holds = All-cons P x [] holds (All-none P)

tile_list_within : (w h : ℕ) (t : TileAt) (kind : Option TileKind) → kind_at w h t ≡ kind → All (IsWithin w h) (tile_list t kind)
tile_list_within w h t None e = All-none (IsWithin w h)
tile_list_within w h t (Some kind) e = let within = kind_within w h t kind e in All-one (IsWithin w h) (record { at = t; kind = kind }) (record { column = within.0; row = within.1 })

tiles_within : (w h : ℕ) (ns : List ℕ) → All (IsWithin w h) (flat_map (λ m. tile_list (place w m) (kind_at w h (place w m))) ns)
tiles_within w h [] = All-none (IsWithin w h)
tiles_within w h (n ∷ ns) =
    All-append (IsWithin w h) (tile_list (place w n) (kind_at w h (place w n))) (flat_map (λ m. tile_list (place w m) (kind_at w h (place w m))) ns)
    (tile_list_within w h (place w n) (kind_at w h (place w n)) refl) (tiles_within w h ns)

-- each tile is within the chip
pub tile_within : (w h : ℕ) (ts : List Tile) (i : ℕ) (d : Tile) → ts ≡ tiles_of w h → i < length ts → IsWithin w h (get_or ts i d)
unfolding tiles_before
tile_within w h ts i d e below =
    All-get_or (IsWithin w h) ts i d below (subst (λ (xs : List Tile). All (IsWithin w h) xs) (sym e) (tiles_within w h (range_with_len 0 (w * h))))
