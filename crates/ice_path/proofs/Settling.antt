-- One wire more is settled; and what is known at the end.
use Rattle.std.proofs.Common.{◌≡◌, ◌≢◌, ℕ, zero, suc, ◌+◌, ◌≤◌, ◌<◌, Bool, true, false, not, cond, List, [], ◌∷◌, ◌++◌, Option, Some, length, slice_get, slice_set, refl, sym, ap, ◌∙◌, subst, arith, inl, inr, get_or-set_same, get_or-set_other}
use Rattle.std.proofs.lemmas.Bool.{cases_eq, false≢true}
use Rattle.std.proofs.lemmas.List.Sums.{count_by-le-length}
use Rattle.std.proofs.lemmas.Nat.{mul-le}
use Rattle.std.proofs.lemmas.Option.{slice_get_within}
use Rattle.std.specs.Prelude.{◌*◌, ◌-◌, slice_index}
use Rattle.ice_core.specs.declared.prices.Prices.{Prices}
use Rattle.ice_core.specs.Congestion.{ArePrices, price as price_of}
use Rattle.std.proofs.lemmas.Bool.{eq-eqb, ne_eqb, eqb-true}
use Rattle.std.proofs.lemmas.List.Sums.{sum_by-cons}
use Rattle.ice_base.specs.declared.number.WireNo.{WireNo}
use Rattle.ice_graph.specs.declared.edge.Edge.{Edge}
use Rattle.ice_graph.specs.Rows.{rows_from, reads}
use Rattle.ice_graph.specs.Network.{Network, AreBetween, BoundsFall, least_bound}
use Rattle.ice_graph.proofs.Bounding.{least_falls}
use Rattle.ice_path.specs.Walks.{HasEdge, IsWalk, FallsBy}
use Rattle.ice_path.specs.Search.{label, done, AtMost, IsNext, Relaxes, Searches, Starts, open_edges}
use Rattle.ice_path.proofs.Walking.{walk_more, cost_more, in_filter, of_filter}

pub one_label : (labels : List (Option ℕ)) (w k l : ℕ) → label labels w ≡ Some k → label labels w ≡ Some l → k ≡ l
one_label labels w k l p q = let e : Some k ≡ Some l = sym p ∙ q in cc

-- an edge that leaves the wire u is one of the rows from u
pub in_rows : (edges : List Edge) (u : ℕ) (e : Edge) → HasEdge edges e → e.from.0 ≡ u → HasEdge (rows_from edges u) e
in_rows edges u e has leaves = in_filter (reads u) e (eq-eqb e.from.0 u leaves) edges has.0 has.1

-- each row from u is an edge that leaves u
pub from_rows : (edges : List Edge) (u : ℕ) (e : Edge) → HasEdge (rows_from edges u) e → HasEdge edges e × (e.from.0 ≡ u)
from_rows edges u e has = let t = of_filter (reads u) e edges has.0 has.1 in (t.0, eqb-true e.from.0 u t.1)

-- the rows from a wire lead to wires of the graph
pub rows_to : (edges : List Edge) (n u k : ℕ) (e : Edge) → AreBetween n edges → slice_get (rows_from edges u) k ≡ Some e → e.to.0 < n
rows_to edges n u k e between at = let t = from_rows edges u e (k, at) in (between t.0.0 e t.0.1).1

-- before anything is settled
pub starts : (edges : List Edge) (price : ℕ → ℕ) (tree : List WireNo) (bound : ℕ → ℕ) (leads : ℕ → Bool) (most : ℕ) (labels : List (Option ℕ)) (settled : List Bool) → Starts tree leads (length tree) labels settled → Searches edges price tree bound leads most 0 labels settled
starts edges price tree bound leads most labels settled s = record {
  attained = λ w l e. (let t = s.made w l e in (w, [], t.0, refl, sym t.1));
  closed = λ w is. absurd (false≢true (sym (s.fresh w) ∙ is));
  rooted = λ w root on. ap (label labels) (sym root.3) ∙ s.rooted root.0 root.1 (slice_get_within tree root.0 root.1 root.2) root.2 (ap leads root.3 ∙ on);
  order = λ a b la lb a_shut b_open at bt. absurd (false≢true (sym (s.fresh a) ∙ a_shut));
  low = λ w l e. (let t = s.made w l e in omega (arith, t.1));
}

module _ (edges : List Edge) (price : ℕ → ℕ) (tree : List WireNo) (bound : ℕ → ℕ) (leads : ℕ → Bool) (falls : FallsBy edges price bound) (most count : ℕ) (labels : List (Option ℕ)) (settled : List Bool) where
  -- u is settled, and its edges have lowered the labels behind it
  pub settles : Searches edges price tree bound leads most count labels settled → (u c : ℕ) (new : List (Option ℕ)) → u < length settled → ((w : ℕ) → price w ≤ most) → IsNext bound labels settled u c
      → Relaxes (rows_from edges u) price leads (slice_set settled u true) c (length (rows_from edges u)) labels new → Searches edges price tree bound leads most (count + 1) new (slice_set settled u true)
  settles h u c new lt small best r =
      let shut : List Bool = slice_set settled u true in
      let u_shut : done shut u ≡ true = get_or-set_same settled u true false lt in
      let else_shut : (w : ℕ) → w ≢ u → done shut w ≡ done settled w = λ w other. get_or-set_other settled u w true false other in
      let still_open : (w : ℕ) → done shut w ≡ false → (done settled w ≡ false) × (w ≢ u) = λ w o. (let other : w ≢ u = (λ same. false≢true (sym o ∙ (ap (done shut) same ∙ u_shut))) in (sym (else_shut w other) ∙ o, other)) in
      -- a settled wire's sum is at most that of u
      let low : (w k : ℕ) → done shut w ≡ true → label labels w ≡ Some k → k + bound w ≤ c + bound u = (λ w k is at. elim (cases_eq w u) [
        | inl same ↦ (let eq = one_label labels u k c (ap (label labels) (sym same) ∙ at) best.has in let near : bound w ≡ bound u = ap bound same in omega (arith, near, eq))
        | inr other ↦ h.order w u k c (sym (else_shut w other) ∙ is) best.unsettled at best.has
      ]) in
      record {
        attained = λ w l at. elim (r.made w l at) [
          | inl before ↦ h.attained w l before
          | inr t ↦
              let e : Edge = t.0 in
              let leaves = from_rows edges u e t.1 in
              let walk = h.attained u c best.has in
              (walk.0, walk.1 ++ e ∷ [], walk.2, subst (λ x. IsWalk edges walk.0 (walk.1 ++ e ∷ []) x) t.2 (walk_more edges walk.0 u walk.1 e walk.3 leaves.0 leaves.1), omega (arith, cost_more price walk.1 e, walk.4, t.3, ap (λ x. price x) t.2))
        ];
        closed = λ w is. elim (cases_eq w u) [
          | inl same ↦ (
            c,
            (r.fixed w is ∙ (ap (label labels) same ∙ best.has)),
            λ e has leaves on. by_target e has (leaves ∙ same) on (done shut e.to.0) refl,
          )
          | inr other ↦ (
              let old = h.closed w (sym (else_shut w other) ∙ is) in
              (old.0, r.fixed w is ∙ old.1, λ e has leaves on. (let t = old.2 e has leaves on in let s = r.lower e.to.0 t.0 t.1 in (s.0, s.1, omega (arith, s.2, t.2)))))
        ];
        rooted = λ w root on. (let s = r.lower w 0 (h.rooted w root on) in let zero' : s.0 ≡ 0 = omega (arith, s.2) in s.1 ∙ ap (λ k. Some k) zero');
        order = λ a b la lb a_shut b_open at bt.
            let before : label labels a ≡ Some la = sym (r.fixed a a_shut) ∙ at in
            let le = low a la a_shut before in
            let open' = still_open b b_open in
            elim (r.made b lb bt) [
              | inl same ↦ (let k = best.least b lb same open'.0 in omega arith)
              | inr t ↦ (
                  let leaves = from_rows edges u t.0 t.1 in
                  let step = falls t.0 leaves.0 in
                  let from : bound t.0.from.0 ≡ bound u = ap bound leaves.1 in
                  let to : bound t.0.to.0 ≡ bound b = ap bound t.2 in
                  let paid : price t.0.to.0 ≡ price b = ap price t.2 in
                  omega (arith, t.3, step, from, to, paid, le))
            ];
        low = λ w l at. elim (r.made w l at) [
          | inl before ↦ (let k = h.low w l before in omega (arith, k))
          | inr t ↦ (let k = h.low u c best.has in omega (arith, k, t.3, small w))
        ];
      }
    where
      by_target : (e : Edge) → HasEdge edges e → e.from.0 ≡ u → leads e.to.0 ≡ true → (d : Bool) → done (slice_set settled u true) e.to.0 ≡ d → AtMost new e.to.0 (c + price e.to.0)
      by_target e has leaves on false is = (let row = in_rows edges u e has leaves in r.reached row.0 e (slice_get_within (rows_from edges u) row.0 e row.1) row.1 on is)
      by_target e has leaves on true is = elim (cases_eq e.to.0 u) [
        | inl same ↦ (c, r.fixed e.to.0 is ∙ (ap (label labels) same ∙ best.has), omega arith)
        | inr other ↦ (
            let was : done settled e.to.0 ≡ true = sym (get_or-set_other settled u e.to.0 true false other) ∙ is in
            let old = h.closed e.to.0 was in
            let le = h.order e.to.0 u old.0 c was best.unsettled old.1 best.has in
            let step = falls e has in
            let from : bound e.from.0 ≡ bound u = ap bound leaves in
            (old.0, r.fixed e.to.0 is ∙ old.1, omega (arith, le, step, from)))
      ]

abbrev weigh : Bool → ℕ
weigh b = cond (not b) 1 0

-- the edges that leave a wire which is settled now are open no more
pub open_edges_set : (settled : List Bool) (u : ℕ) (edges : List Edge) → u < length settled → done settled u ≡ false
    → open_edges (slice_set settled u true) edges + length (rows_from edges u) ≡ open_edges settled edges
open_edges_set settled u [] lt is = refl
open_edges_set settled u (e ∷ edges) lt is =
    let rest = open_edges_set settled u edges lt is in
    let a = sum_by-cons (λ (f : Edge). weigh (done (slice_set settled u true) f.from.0)) e edges in
    let b = sum_by-cons (λ (f : Edge). weigh (done settled f.from.0)) e edges in
    elim (cases_eq e.from.0 u) [
      | inl same ↦ (
          let now : weigh (done (slice_set settled u true) e.from.0) ≡ zero = ap (λ w. weigh (done (slice_set settled u true) w)) same ∙ ap (λ t. weigh t) (get_or-set_same settled u true false lt) in
          let was : weigh (done settled e.from.0) ≡ suc zero = ap (λ w. weigh (done settled w)) same ∙ ap (λ t. weigh t) is in
          let row : length (rows_from (e ∷ edges) u) ≡ suc (length (rows_from edges u)) = ap (λ t. length (cond t (e ∷ rows_from edges u) (rows_from edges u))) (eq-eqb e.from.0 u same) in
          omega (arith, a, b, now, was, row, rest))
      | inr other ↦ (
          let now : weigh (done (slice_set settled u true) e.from.0) ≡ weigh (done settled e.from.0) = ap (λ t. weigh t) (get_or-set_other settled u e.from.0 true false other) in
          let row : length (rows_from (e ∷ edges) u) ≡ length (rows_from edges u) = ap (λ t. length (cond t (e ∷ rows_from edges u) (rows_from edges u))) (ne_eqb e.from.0 u other) in
          omega (arith, a, b, now, row, rest))
    ]

pub open_edges_all : (settled : List Bool) (edges : List Edge) → open_edges settled edges ≤ length edges
open_edges_all settled edges = count_by-le-length (λ (e : Edge). not (done settled e.from.0)) edges

-- a price is within its bound
pub price_small : (p : Prices) → ArePrices p → (w : ℕ) → price_of p w ≤ 17046213234436
price_small p h w =
    let a : (p.round - 1) * slice_index p.others.items w ≤ 63 * 65535 = mul-le (p.round - 1) (slice_index p.others.items w) 63 65535 (omega (arith, h.last)) (h.others w) in
    let b : price_of p w ≤ 4128706 * 4128706 = mul-le (1 + slice_index p.history.items w) (1 + (p.round - 1) * slice_index p.others.items w) 4128706 4128706 (omega (arith, h.history w)) (omega arith) in
    omega arith

pub price_positive : (p : Prices) (w : ℕ) → 1 ≤ price_of p w
price_positive p w =
    let a : 1 * 1 ≤ price_of p w = mul-le 1 1 (1 + slice_index p.history.items w) (1 + (p.round - 1) * slice_index p.others.items w) (omega arith) (omega arith) in
    omega arith

-- the least bound falls along each edge by no more than a price
pub bounds_fall_by : (graph : Network) (targets : List WireNo) (p : Prices) → BoundsFall graph → FallsBy graph.edges (price_of p) (least_bound graph targets)
bounds_fall_by graph targets p falls e has =
    let one' = least_falls graph falls targets has.0 e has.1 in
    let pos = price_positive p e.to.0 in
    omega (arith, one', pos)
