-- The bound falls by at most 1 along each edge.
use Rattle.std.proofs.Common.{◌≡◌, ◌≢◌, ℕ, zero, suc, ◌+◌, ◌-◌, ◌≤◌, ◌<◌, cond, List, [], ◌∷◌, Option, Some, None, length, get_or, slice_get, refl, sym, ap, ◌∙◌, subst, arith, inl, inr, ◌⊎◌}
use Rattle.std.specs.Prelude.{◌/◌, min}
use Rattle.std.proofs.lemmas.Bool.{cases_eq, eq-eqb, ne_eqb}
use Rattle.std.proofs.lemmas.Nat.{le-div}
use Rattle.std.proofs.lemmas.Option.{slice_get-get_or, slice_get_within}
use Rattle.std.proofs.Math.Nat.{div-mul-le_self, add-div_left, div-eq_of_lt}
use Rattle.ice_base.specs.declared.number.TileAt.{TileAt}
use Rattle.ice_base.specs.declared.number.WireNo.{WireNo}
use Rattle.ice_graph.specs.declared.edge.Edge.{Edge}
use Rattle.ice_graph.specs.declared.extent.Extent.{Extent}
use Rattle.ice_graph.specs.Boxes.{HoldsTile, IsBoxOf, box_of, half_perimeter, gap, distance, in_spreads}
use Rattle.ice_graph.specs.Network.{Network, ArePlaces, AreBetween, BoundsFall, bound, least_from, least_bound}

-- from one stretch to another it is no further than through a third that meets the first
gap_near : (a b c d f g p : ℕ) → a ≤ p → p ≤ b → c ≤ p → p ≤ d → gap a b f g ≤ (d - c) + gap c d f g
gap_near a b c d f g p h i j k = omega arith

gap_none : (a b c d p : ℕ) → a ≤ p → p ≤ b → c ≤ p → p ≤ d → gap a b c d ≡ 0
gap_none a b c d p h i j k = omega arith

near : (a b : Extent) (o : Option Extent) (tile : TileAt) → HoldsTile a tile → HoldsTile b tile → distance (Some a) o ≤ half_perimeter b + distance (Some b) o
near a b None tile h k = omega arith
near a b (Some c) tile h k =
    let x = gap_near a.west a.east b.west b.east c.west c.east tile.x h.0 h.1 k.0 k.1 in
    let y = gap_near a.south a.north b.south b.north c.south c.north tile.y h.2 h.3 k.2 k.3 in
    add_up (gap a.west a.east c.west c.east) (gap a.south a.north c.south c.north) (b.east - b.west) (b.north - b.south) (gap b.west b.east c.west c.east) (gap b.south b.north c.south c.north) x y
  where
    add_up : (p q r s t u : ℕ) → p ≤ r + t → q ≤ s + u → p + q ≤ (r + s) + (t + u)
    add_up p q r s t u i j = omega arith

apart_none : (a b : Extent) (tile : TileAt) → HoldsTile a tile → HoldsTile b tile → distance (Some a) (Some b) ≡ 0
apart_none a b tile h k =
    let x = gap_none a.west a.east b.west b.east tile.x h.0 h.1 k.0 k.1 in
    let y = gap_none a.south a.north b.south b.north tile.y h.2 h.3 k.2 k.3 in
    omega (arith, x, y)

pub div_le : (s x y : ℕ) → 0 < s → x ≤ y → x / s ≤ y / s
div_le s x y pos le = le-div (x / s) y s pos (let d = div-mul-le_self x s in omega (arith, d))

-- one greatest half perimeter further is one more
spreads_more : (s d f : ℕ) → d ≤ s + f → in_spreads s d ≤ 1 + in_spreads s f
spreads_more s d f le = elim (cases_eq s 0) [
  | inl none ↦ subst (λ x. x ≤ 1 + in_spreads s f) (sym (ap (λ b. cond b 0 ((d + (s - 1)) / s)) (eq-eqb s 0 none))) (omega arith)
  | inr some ↦ (
      let pos : 0 < s = omega (arith, some) in
      let left : in_spreads s d ≡ (d + (s - 1)) / s = ap (λ b. cond b 0 ((d + (s - 1)) / s)) (ne_eqb s 0 some) in
      let right : in_spreads s f ≡ (f + (s - 1)) / s = ap (λ b. cond b 0 ((f + (s - 1)) / s)) (ne_eqb s 0 some) in
      let up = div_le s (d + (s - 1)) (s + (f + (s - 1))) pos (omega arith) in
      let one' = add-div_left (f + (s - 1)) pos in
      omega (arith, left, right, up, one'))
]

spreads_none : (s : ℕ) → in_spreads s 0 ≡ 0
spreads_none s = elim (cases_eq s 0) [
  | inl none ↦ ap (λ b. cond b 0 ((0 + (s - 1)) / s)) (eq-eqb s 0 none)
  | inr some ↦ (
      let low : 0 + (s - 1) < s = omega (arith, some) in
      ap (λ b. cond b 0 ((0 + (s - 1)) / s)) (ne_eqb s 0 some) ∙ div-eq_of_lt low)
]

-- the bound from a wire to itself, and to another one
pub bound_self : (graph : Network) (w t : ℕ) → w ≡ t → bound graph w t ≡ 0
bound_self graph w t same = ap (λ b. cond b 0 (1 + in_spreads graph.spread (distance (box_of graph.boxes w) (box_of graph.boxes t)))) (eq-eqb w t same)

pub bound_other : (graph : Network) (w t : ℕ) → w ≢ t → bound graph w t ≡ 1 + in_spreads graph.spread (distance (box_of graph.boxes w) (box_of graph.boxes t))
bound_other graph w t other = ap (λ b. cond b 0 (1 + in_spreads graph.spread (distance (box_of graph.boxes w) (box_of graph.boxes t)))) (ne_eqb w t other)

-- a wire with an edge has a box, which holds the edge's place
boxed : (edges : List Edge) (places : List TileAt) (w k : ℕ) (e : Edge) (tile : TileAt) (o : Option Extent) → IsBoxOf edges places (length edges) w o
    → slice_get edges k ≡ Some e → slice_get places k ≡ Some tile → (e.from.0 ≡ w) ⊎ (e.to.0 ≡ w) → (b : Extent) × (o ≡ Some b) × HoldsTile b tile
boxed edges places w k e tile None h at there touch = absurd (h k e (slice_get_within edges k e at) at touch)
boxed edges places w k e tile (Some b) h at there touch = (b, refl, h.0 k e tile (slice_get_within edges k e at) at there touch)

module _ (graph : Network) (e : Edge) (t : ℕ) (tile : TileAt) (a b : Extent) (from : box_of graph.boxes e.from.0 ≡ Some a) (to : box_of graph.boxes e.to.0 ≡ Some b) (in_a : HoldsTile a tile) (in_b : HoldsTile b tile)
    (low : half_perimeter b ≤ graph.spread) where
  falls : bound graph e.from.0 t ≤ 1 + bound graph e.to.0 t
  falls = elim (cases_eq e.from.0 t) [
    | inl home ↦ (let z = bound_self graph e.from.0 t home in omega (arith, z))
    | inr away ↦ elim (cases_eq e.to.0 t) [
      | inl home ↦ (
          let first = bound_other graph e.from.0 t away in
          let target : box_of graph.boxes t ≡ Some b = ap (box_of graph.boxes) (sym home) ∙ to in
          let none : distance (box_of graph.boxes e.from.0) (box_of graph.boxes t) ≡ 0 = ap (λ o. distance o (box_of graph.boxes t)) from ∙ (ap (distance (Some a)) target ∙ apart_none a b tile in_a in_b) in
          let is : in_spreads graph.spread (distance (box_of graph.boxes e.from.0) (box_of graph.boxes t)) ≡ 0 = ap (in_spreads graph.spread) none ∙ spreads_none graph.spread in
          omega (arith, first, is))
      | inr further ↦ (
          let first = bound_other graph e.from.0 t away in
          let second = bound_other graph e.to.0 t further in
          let le : distance (box_of graph.boxes e.from.0) (box_of graph.boxes t) ≤ half_perimeter b + distance (box_of graph.boxes e.to.0) (box_of graph.boxes t) =
          subst (λ o. distance o (box_of graph.boxes t) ≤ half_perimeter b + distance (box_of graph.boxes e.to.0) (box_of graph.boxes t)) (sym from)
          (subst (λ o. distance (Some a) (box_of graph.boxes t) ≤ half_perimeter b + distance o (box_of graph.boxes t)) (sym to) (near a b (box_of graph.boxes t) tile in_a in_b)) in
          let more = spreads_more graph.spread (distance (box_of graph.boxes e.from.0) (box_of graph.boxes t)) (distance (box_of graph.boxes e.to.0) (box_of graph.boxes t)) (omega (arith, le, low)) in
          omega (arith, first, second, more))
    ]
  ]

-- the bound falls by at most 1 along each edge
pub bounds_fall : (graph : Network) (places : List TileAt) → AreBetween graph.wires graph.edges → length places ≡ length graph.edges → ArePlaces graph places → BoundsFall graph
bounds_fall graph places between long h k e t at =
    let k_lt : k < length places = omega (arith, slice_get_within graph.edges k e at, long) in
    let tile : TileAt = get_or places k (record { x = 0; y = 0 }) in
    let there = slice_get-get_or places k (record { x = 0; y = 0 }) k_lt in
    let ends = between k e at in
    let a = boxed graph.edges places e.from.0 k e tile (box_of graph.boxes e.from.0) (h.boxes.each e.from.0 ends.0) at there (inl refl) in
    let b = boxed graph.edges places e.to.0 k e tile (box_of graph.boxes e.to.0) (h.boxes.each e.to.0 ends.1) at there (inr refl) in
    let low = h.spread.most k e b.0 (slice_get_within graph.edges k e at) at b.1 in
    falls graph e t tile a.0 b.0 a.1 b.1 a.2 b.2 low

-- the least of a number and bounds is no more than that number, and than each of the bounds
least_low : (graph : Network) (w best : ℕ) (targets : List WireNo) → least_from graph w best targets ≤ best
least_low graph w best [] = omega arith
least_low graph w best (t ∷ targets) = let le = least_low graph w (min best (bound graph w t.0)) targets in omega (arith, le)

least_each : (graph : Network) (w best : ℕ) (targets : List WireNo) (k : ℕ) (t : WireNo) → slice_get targets k ≡ Some t → least_from graph w best targets ≤ bound graph w t.0
least_each graph w best [] k t at = absurd (cc)
least_each graph w best (u ∷ targets) zero t at =
    let same : u ≡ t = (cc) in
    let le = least_low graph w (min best (bound graph w u.0)) targets in
    let eq : bound graph w u.0 ≡ bound graph w t.0 = ap (λ (x : WireNo). bound graph w x.0) same in
    omega (arith, le, eq)
least_each graph w best (u ∷ targets) (suc k) t at = least_each graph w (min best (bound graph w u.0)) targets k t at

-- the bound to a list of targets is no more than that to each of them
pub least_within : (graph : Network) (targets : List WireNo) (w k : ℕ) (t : WireNo) → slice_get targets k ≡ Some t → least_bound graph targets w ≤ bound graph w t.0
least_within graph [] w k t at = absurd (cc)
least_within graph (u ∷ targets) w zero t at =
    let same : u ≡ t = (cc) in
    let le = least_low graph w (bound graph w u.0) targets in
    let eq : bound graph w u.0 ≡ bound graph w t.0 = ap (λ (x : WireNo). bound graph w x.0) same in
    omega (arith, le, eq)
least_within graph (u ∷ targets) w (suc k) t at = least_each graph w (bound graph w u.0) targets k t at

-- a target has the bound 0
pub least_home : (graph : Network) (targets : List WireNo) (k : ℕ) (t : WireNo) → slice_get targets k ≡ Some t → least_bound graph targets t.0 ≡ 0
least_home graph targets k t at = let le = least_within graph targets t.0 k t at in let z = bound_self graph t.0 t.0 refl in omega (arith, le, z)

-- a wire with the bound 0 is one of the targets
bound_zero : (graph : Network) (w t : ℕ) → bound graph w t ≡ 0 → w ≡ t
bound_zero graph w t none = elim (cases_eq w t) [
  | inl same ↦ same
  | inr other ↦ absurd (let e = bound_other graph w t other in omega (arith, e, none))
]

least_zero : (graph : Network) (w best : ℕ) (targets : List WireNo) → least_from graph w best targets ≡ 0 → (best ≡ 0) ⊎ ((k : ℕ) × (t : WireNo) × (slice_get targets k ≡ Some t) × (w ≡ t.0))
least_zero graph w best [] none = inl none
least_zero graph w best (t ∷ targets) none = elim (least_zero graph w (min best (bound graph w t.0)) targets none) [
  | inl here ↦ elim (cases_eq best 0) [
    | inl z ↦ inl z
    | inr some ↦ inr (0, t, refl, bound_zero graph w t.0 (omega (arith, here, some)))
  ]
  | inr s ↦ inr (suc s.0, s.1, s.2, s.3)
]

pub least_found : (graph : Network) (targets : List WireNo) (w : ℕ) → 0 < length targets → least_bound graph targets w ≡ 0 → (k : ℕ) × (t : WireNo) × (slice_get targets k ≡ Some t) × (w ≡ t.0)
least_found graph [] w some none = absurd (omega arith)
least_found graph (t ∷ targets) w some none = elim (least_zero graph w (bound graph w t.0) targets none) [
  | inl here ↦ (0, t, refl, bound_zero graph w t.0 here)
  | inr s ↦ (suc s.0, s.1, s.2, s.3)
]

-- the bound to a list of targets falls by at most 1 along each edge
from_falls : (graph : Network) (falls : BoundsFall graph) (k : ℕ) (e : Edge) → slice_get graph.edges k ≡ Some e → (targets : List WireNo) (best more : ℕ) → best ≤ 1 + more
    → least_from graph e.from.0 best targets ≤ 1 + least_from graph e.to.0 more targets
from_falls graph falls k e at [] best more le = le
from_falls graph falls k e at (t ∷ targets) best more le =
    from_falls graph falls k e at targets (min best (bound graph e.from.0 t.0)) (min more (bound graph e.to.0 t.0)) (let one' = falls k e t.0 at in omega (arith, one', le))

pub least_falls : (graph : Network) → BoundsFall graph → (targets : List WireNo) (k : ℕ) (e : Edge) → slice_get graph.edges k ≡ Some e → least_bound graph targets e.from.0 ≤ 1 + least_bound graph targets e.to.0
least_falls graph falls [] k e at = omega arith
least_falls graph falls (t ∷ targets) k e at = from_falls graph falls k e at targets (bound graph e.from.0 t.0) (bound graph e.to.0 t.0) (falls k e t.0 at)
