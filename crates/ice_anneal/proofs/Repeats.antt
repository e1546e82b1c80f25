-- Boxes of nodes, some of which are repeated.
use Rattle.std.proofs.Common.{◌≡◌, ℕ, ◌<◌, ◌≤◌, List, [], ◌∷◌, ◌++◌, length, get_or, map, fold, min, max, zero, suc, sym, refl, subst, ap, ap₂, ◌∙◌, sum, ◌+◌, arith}
use Rattle.std.specs.List.{Contains}
use Rattle.std.proofs.lemmas.List.{map-append, length-map, length_push}
use Rattle.std.proofs.lemmas.Grind.{common_steps}
use Rattle.std.proofs.lemmas.List.Sums.{fold-append}
use Rattle.ice_base.specs.declared.number.TileAt.{TileAt}
use Rattle.ice_place_defs.specs.Length.{Box, box_at, with_tile, half_perimeter}
use Rattle.ice_anneal_board.specs.declared.net.Node.{Node}
use Rattle.ice_anneal_board.specs.declared.net.NetNodes.{NetNodes}
use Rattle.ice_anneal_board.specs.Length.{tile_of, box_of, net_length, wire_length, origin}

-- the box has the tile
record Has (b : Box) (t : TileAt) : Type 0 where
  pub left : b.left ≤ t.x
  pub right : t.x ≤ b.right
  pub low : b.low ≤ t.y
  pub high : t.y ≤ b.high

abbrev box : ℕ → ℕ → ℕ → ℕ → Box
box l r o h = record { left = l; right = r; low = o; high = h }

same_box : (l r o h l2 r2 o2 h2 : ℕ) → l ≡ l2 → r ≡ r2 → o ≡ o2 → h ≡ h2 → box l r o h ≡ box l2 r2 o2 h2
same_box l r o h l2 r2 o2 h2 el er eo eh = cc

has_same : (b : Box) (t : TileAt) → Has b t → with_tile b t ≡ b
has_same b t h =
    same_box (min b.left t.x) (max b.right t.x) (min b.low t.y) (max b.high t.y) b.left b.right b.low b.high
    (let e = h.left in omega arith) (let e = h.right in omega arith) (let e = h.low in omega arith) (let e = h.high in omega arith)

has_here : (b : Box) (t : TileAt) → Has (with_tile b t) t
has_here b t = record { left = omega arith; right = omega arith; low = omega arith; high = omega arith }

has_more : (b : Box) (s t : TileAt) → Has b t → Has (with_tile b s) t
has_more b s t h = record {
  left = (let e = h.left in omega arith);
  right = (let e = h.right in omega arith);
  low = (let e = h.low in omega arith);
  high = (let e = h.high in omega arith);
}

has_fold : (b : Box) (xs : List TileAt) (t : TileAt) → Has b t → Has (fold with_tile b xs) t
has_fold b [] t h = h
has_fold b (x ∷ xs) t h = has_fold (with_tile b x) xs t (has_more b x t h)

has_at : (b : Box) (xs : List TileAt) (k : ℕ) (t : TileAt) → k < length xs → Has (fold with_tile b xs) (get_or xs k t)
has_at b [] k t lt = absurd (omega arith)
has_at b (x ∷ xs) zero t lt = has_fold (with_tile b x) xs x (has_here b x)
has_at b (x ∷ xs) (suc k) t lt = has_at (with_tile b x) xs k t (omega arith)

-- a tile that some tiles have makes their box no wider
same_within : (b : Box) (xs : List TileAt) (t : TileAt) → Contains xs t → with_tile (fold with_tile b xs) t ≡ fold with_tile b xs
same_within b xs t h = has_same (fold with_tile b xs) t (subst (λ (u : TileAt). Has (fold with_tile b xs) u) h.2 (has_at b xs h.0 t h.1))

-- one more tile
box_push : (xs : List TileAt) (t : TileAt) → 0 < length xs → box_of (xs ++ t ∷ []) ≡ with_tile (box_of xs) t
box_push [] t lt = absurd (omega arith)
box_push (x ∷ xs) t lt = fold-append with_tile (box_at x) (x ∷ xs) (t ∷ [])

-- the tile of one of these nodes
tile_in : (at : List TileAt) (nodes : List Node) (k : ℕ) (n : Node) → k < length nodes → get_or (map (tile_of at) nodes) k (tile_of at n) ≡ tile_of at (get_or nodes k n)
tile_in at [] k n lt = absurd (omega arith)
tile_in at (m ∷ ms) zero n lt = refl
tile_in at (m ∷ ms) (suc k) n lt = tile_in at ms k n (omega arith)

-- the same boxes wherever the clusters stand
pub record Same (kept done : List Node) : Type 0 where
  pub boxes : (at : List TileAt) → box_of (map (tile_of at) kept) ≡ box_of (map (tile_of at) done)
  pub some : 0 < length done → 0 < length kept
  pub none : length done ≡ 0 → kept ≡ []

pub same_none : Same [] []
same_none = record { boxes = λ at. refl; some = λ lt. lt; none = λ e. refl }

box_more : (at : List TileAt) (nodes : List Node) (n : Node) → 0 < length nodes → box_of (map (tile_of at) (nodes ++ n ∷ [])) ≡ with_tile (box_of (map (tile_of at) nodes)) (tile_of at n)
box_more at nodes n lt =
    let long = length-map nodes (tile_of at) in
    ap box_of (map-append (tile_of at) nodes (n ∷ [])) ∙ box_push (map (tile_of at) nodes) (tile_of at n) (omega arith)

-- one more node is kept
pub same_push : (kept done : List Node) (n : Node) → Same kept done → Same (kept ++ n ∷ []) (done ++ n ∷ [])
same_push kept [] n h = record {
  boxes = λ at. ap (λ (ns : List Node). box_of (map (tile_of at) (ns ++ n ∷ []))) (h.none refl);
  some = λ lt. (let e = length_push kept n in omega arith);
  none = λ e. absurd (omega arith);
}
same_push kept (d ∷ ds) n h = record {
  boxes = λ at. box_more at kept n (h.some (omega arith)) ∙ (ap (λ b. with_tile b (tile_of at n)) (h.boxes at) ∙ sym (box_more at (d ∷ ds) n (omega arith)));
  some = λ lt. (let e = length_push kept n in omega arith);
  none = λ e. absurd (omega arith);
}

-- one more node isn't kept
pub same_skip : (kept done : List Node) (n : Node) → Contains kept n → Same kept done → Same kept (done ++ n ∷ [])
same_skip kept [] n has h = (let e = ap length (h.none refl) in let lt = has.1 in absurd (omega arith))
same_skip kept (d ∷ ds) n has h = record {
  boxes = λ at.
      (let tiles = map (tile_of at) kept in
      let long = length-map kept (tile_of at) in
      let lt = has.1 in
      let within : Contains tiles (tile_of at n) = (has.0, omega arith, tile_in at kept has.0 n has.1 ∙ ap (tile_of at) has.2) in
      sym (same_within (box_at (get_or tiles 0 origin)) tiles (tile_of at n) within)
      ∙ (ap (λ b. with_tile b (tile_of at n)) (h.boxes at) ∙ sym (box_more at (d ∷ ds) n (omega arith))));
  some = λ lt. h.some (omega arith);
  none = λ e. (let m = length_push (d ∷ ds) n in absurd (omega arith));
}

pub same_length : (kept done : List Node) → Same kept done → (at : List TileAt) → net_length at kept ≡ net_length at done
same_length kept done h at = ap half_perimeter (h.boxes at)

-- ---- nets
sum_push : (xs : List ℕ) (n : ℕ) → sum (xs ++ n ∷ []) ≡ sum xs + n
sum_push xs n = grind (arith, common_steps)

wire_push : (at : List TileAt) (nets : List NetNodes) (net : NetNodes) → wire_length (nets ++ net ∷ []) at ≡ wire_length nets at + net_length at net.nodes.items
wire_push at nets net =
    let measure : NetNodes → ℕ = λ n. net_length at n.nodes.items in
    ap sum (map-append measure nets (net ∷ [])) ∙ sum_push (map measure nets) (measure net)

-- one more net that is as long
pub same_wires : (at : List TileAt) (found done : List NetNodes) (one other : NetNodes) → wire_length found at ≡ wire_length done at → net_length at one.nodes.items ≡ net_length at other.nodes.items
    → wire_length (found ++ one ∷ []) at ≡ wire_length (done ++ other ∷ []) at
same_wires at found done one other e h = wire_push at found one ∙ (ap₂ (λ a b. a + b) e h ∙ sym (wire_push at done other))
