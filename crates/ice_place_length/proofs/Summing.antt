-- Tiles of cells, and sums of the lengths of nets.
use Rattle.std.proofs.Common.{◌≡◌, ◌⊎◌, inl, inr, ℕ, zero, suc, ◌+◌, ◌<◌, ◌≤◌, min, Bool, true, false, Option, None, Some, List, [], ◌∷◌, ◌++◌, map, drop, length, get_or, refl, ap, ap₂, sym, ◌∙◌, add-one, drop-cons, arith}
use Rattle.std.specs.Prelude.{option_map, is_some}
use Rattle.std.specs.Option.{option_map_or}
use Rattle.std.specs.List.{fold, range_with_len}
use Rattle.std.proofs.lemmas.Bool.{cases_lt}
use Rattle.std.proofs.lemmas.List.FromFn.{map-range_with_len_more}
use Rattle.std.proofs.Math.ListN.{drop_of_length-le}
use Rattle.ice_base.specs.declared.number.TileAt.{TileAt}
use Rattle.ice_cells.specs.declared.cluster.Cluster.{Cluster}
use Rattle.ice_cells.specs.declared.root.Root.{Root}
use Rattle.ice_place_defs.specs.Plan.{Plan, Slot, slot_in, in_tile, first_slot, slot_among, slot_tile, root_tile}
use Rattle.ice_place_defs.specs.Loads.{Load}
use Rattle.ice_place_defs.specs.Length.{Box, box_at, box_of, half_perimeter, net_length, sum}
use Rattle.ice_place_length.specs.Grown.{grown}
use Rattle.ice_place_length.proofs.Growing.{grown_box}

-- ---- tiles of cells
cut : (clusters : List Cluster) (at : List TileAt) (k : ℕ) (x : Cluster) (d : TileAt) (cell : ℕ) → k < length clusters → k < length at → x ≡ get_or clusters k x
    → slot_among (drop k clusters) (drop k at) cell ≡ first_slot (option_map (in_tile (get_or at k d)) (slot_in x cell)) (slot_among (drop (k + 1) clusters) (drop (k + 1) at) cell)
cut clusters at k x d cell lt lt' is =
    let first : drop k clusters ≡ x ∷ drop (k + 1) clusters = rw (add-one, is) (drop-cons clusters k x lt) in
    let second : drop k at ≡ get_or at k d ∷ drop (k + 1) at = rw add-one (drop-cons at k d lt') in
    ap₂ (λ l m. slot_among l m cell) first second

none_here : (t : TileAt) (slot : Option ℕ) (rest : Option Slot) → is_some slot ≡ false → first_slot (option_map (in_tile t) slot) rest ≡ rest
none_here t None rest e = refl
none_here t (Some i) rest e = absurd (cc)

some_here : (t : TileAt) (slot : Option ℕ) (rest : Option Slot) → is_some slot ≡ true → option_map slot_tile (first_slot (option_map (in_tile t) slot) rest) ≡ Some t
some_here t None rest e = absurd (cc)
some_here t (Some i) rest e = refl

pub tile_more : (clusters : List Cluster) (at : List TileAt) (k : ℕ) (x : Cluster) (cell : ℕ) → k < min (length clusters) (length at) → x ≡ get_or clusters k x → is_some (slot_in x cell) ≡ false
    → option_map slot_tile (slot_among (drop (k + 1) clusters) (drop (k + 1) at) cell) ≡ option_map slot_tile (slot_among (drop k clusters) (drop k at) cell)
tile_more clusters at k x cell lt is none =
    let d : TileAt = record { x = 0; y = 0 } in
    ap (option_map slot_tile) (sym (cut clusters at k x d cell (omega arith) (omega arith) is ∙ none_here (get_or at k d) (slot_in x cell) (slot_among (drop (k + 1) clusters) (drop (k + 1) at) cell) none))

pub tile_here : (clusters : List Cluster) (at : List TileAt) (k : ℕ) (x : Cluster) (d : TileAt) (cell : ℕ) → k < min (length clusters) (length at) → x ≡ get_or clusters k x → is_some (slot_in x cell) ≡ true
    → Some (get_or at k d) ≡ option_map slot_tile (slot_among (drop k clusters) (drop k at) cell)
tile_here clusters at k x d cell lt is some =
    sym (ap (option_map slot_tile) (cut clusters at k x d cell (omega arith) (omega arith) is) ∙ some_here (get_or at k d) (slot_in x cell) (slot_among (drop (k + 1) clusters) (drop (k + 1) at) cell) some)

among_left : (at : List TileAt) (cell : ℕ) → slot_among [] at cell ≡ None
among_left at cell = refl

among_right : (clusters : List Cluster) (cell : ℕ) → slot_among clusters [] cell ≡ None
among_right [] cell = refl
among_right (c ∷ clusters) cell = refl

pub tile_end : (clusters : List Cluster) (at : List TileAt) (k : ℕ) (cell : ℕ) → min (length clusters) (length at) ≤ k → None ≡ option_map slot_tile (slot_among (drop k clusters) (drop k at) cell)
tile_end clusters at k cell le = sym (ap (option_map slot_tile) (by (cases_lt k (length clusters))))
  where
    by : (k < length clusters) ⊎ (length clusters ≤ k) → slot_among (drop k clusters) (drop k at) cell ≡ None
    by (inl lt) = ap (λ l. slot_among (drop k clusters) l cell) (drop_of_length-le at {i = k} (omega arith)) ∙ among_right (drop k clusters) cell
    by (inr ge) = ap (λ l. slot_among l (drop k at) cell) (drop_of_length-le clusters {i = k} ge) ∙ among_left (drop k at) cell

-- ---- nets
pub net_some : (plan : Plan) (all : List Load) (root : Root) (t : TileAt) (box wide : Box) (n : ℕ) → Some t ≡ root_tile plan root → box ≡ box_at t → wide ≡ grown root box all → n ≡ half_perimeter wide → n ≡ net_length plan all root
net_some plan all root t box wide n e f g h =
    h ∙ ap half_perimeter (g ∙ ap (λ b. grown root b all) f ∙ grown_box root t all) ∙ ap (λ (o : Option TileAt). option_map_or (λ u. half_perimeter (box_of all root u)) o 0) e

-- ---- sums
fold_push : (a y : ℕ) (xs : List ℕ) → fold (λ total n. total + n) a (xs ++ y ∷ []) ≡ fold (λ total n. total + n) a xs + y
fold_push a y [] = refl
fold_push a y (x ∷ xs) = fold_push (a + x) y xs

pub sum_more : (f : ℕ → ℕ) (k total n : ℕ) → total ≡ sum (map f (range_with_len 0 k)) → n ≡ f k → total + n ≡ sum (map f (range_with_len 0 (k + 1)))
sum_more f k total n e h =
    ap₂ (λ a b. a + b) e h ∙ sym (ap sum (map-range_with_len_more f 0 k k (let z : 0 + k ≡ k = omega arith in z)) ∙ fold_push 0 (f k) (map f (range_with_len 0 k)))
