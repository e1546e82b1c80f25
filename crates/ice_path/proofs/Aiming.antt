-- What a search knows before it begins is a bound that falls along each edge by no more than a price.
use Rattle.std.proofs.Common.{◌≡◌, ℕ, ◌+◌, ◌-◌, ◌≤◌, ◌<◌, min, max, Bool, true, false, List, [], ◌∷◌, Option, Some, None, length, slice_index, refl, sym, ap, ◌∙◌, arith, inl, inr, ◌⊎◌}
use Rattle.std.specs.Prelude.{is_some, not, eqb, if◌then◌else◌, IfSome}
use Rattle.std.proofs.lemmas.Bool.{false≢true}
use Rattle.std.proofs.lemmas.Option.{same_Some}
use Rattle.ice_base.specs.declared.number.WireNo.{WireNo}
use Rattle.ice_core.specs.declared.prices.Prices.{Prices}
use Rattle.ice_core.specs.Congestion.{price as price_of}
use Rattle.ice_graph.specs.declared.edge.Edge.{Edge}
use Rattle.ice_graph.specs.Network.{Network, BoundsFall, least_bound}
use Rattle.ice_graph.proofs.Bounding.{least_falls}
use Rattle.ice_graph.specs.Hops.{HopsFall, hop, said}
use Rattle.ice_path.specs.Aims.{IsAim, Knows, RestFalls, ahead, at_least, beyond_at, bound_in, leads, rest}
use Rattle.ice_path.specs.Search.{label}
use Rattle.ice_path.specs.Walks.{HasEdge, IsTarget, FallsBy, AreSettled}
use Rattle.ice_path.specs.declared.aim.Aim.{Aim}
use Rattle.ice_path.proofs.Ending.{targets_home, home_targets}
use Rattle.ice_path.proofs.Settling.{price_positive, bounds_fall_by}

-- ---- how many rows are left
at_least_back : (b : ℕ) (o : Option ℕ) (k : ℕ) → at_least b o ≡ Some k → (j : ℕ) × (o ≡ Some j) × (k ≡ max j b)
at_least_back b None k is = absurd (cc)
at_least_back b (Some j) k is = (j, refl, sym (same_Some (max j b) k is))

pub rest_falls : (graph : Network) (hops : List ℕ) (guides : List WireNo) → BoundsFall graph → HopsFall graph.edges hops → RestFalls graph.edges (rest graph hops guides)
rest_falls graph hops guides falls fall e k has is =
    let to = at_least_back (least_bound graph guides e.to.0) (hop hops e.to.0) k is in
    let from = fall e to.0 has to.1 in
    let step = least_falls graph falls guides has.0 e has.1 in
    (max from.0 (least_bound graph guides e.from.0), ap (at_least (least_bound graph guides e.from.0)) from.1, (let le = from.2 in let k_is = to.2 in omega (arith, step, le, k_is)))

-- where the column says something, so many rows are left
pub rest_of_hop : (graph : Network) (hops : List ℕ) (guides : List WireNo) (w k : ℕ) → hop hops w ≡ Some k → rest graph hops guides w ≡ Some (max k (least_bound graph guides w))
rest_of_hop graph hops guides w k is = ap (at_least (least_bound graph guides w)) is

module _ (graph : Network) (aim : Aim) where
  abbrev left : ℕ → Option ℕ
  left = rest graph aim.hops.now aim.guides.now

  pub leads_rest : (w : ℕ) → leads aim w ≡ true → (k : ℕ) × (left w ≡ Some k)
  unfolding leads
  leads_rest w is = by_hop (hop aim.hops.now w) refl
    where
      by_hop : (o : Option ℕ) → hop aim.hops.now w ≡ o → (k : ℕ) × (left w ≡ Some k)
      by_hop (Some k) at = (max k (least_bound graph aim.guides.now w), rest_of_hop graph aim.hops.now aim.guides.now w k at)
      by_hop None at = absurd (false≢true (sym (ap is_some at) ∙ is))

  pub rest_leads : (w k : ℕ) → left w ≡ Some k → leads aim w ≡ true
  unfolding leads
  rest_leads w k is = (let t = at_least_back (least_bound graph aim.guides.now w) (hop aim.hops.now w) k is in ap is_some t.1)

  -- the test of a column's number
  pub leads_is : (w n : ℕ) → n ≡ slice_index aim.hops.now w → not (eqb n 255) ≡ leads aim w
  unfolding leads
  leads_is w n is = by_test (eqb n 255) refl ∙ ap (λ m. is_some (said m)) is
    where
      by_test : (b : Bool) → eqb n 255 ≡ b → not (eqb n 255) ≡ is_some (said n)
      by_test true e = ap not e ∙ sym (ap (λ b. is_some (if b then None else Some n)) e)
      by_test false e = ap not e ∙ sym (ap (λ b. is_some (if b then None else Some n)) e)

  pub astray_rest : (w : ℕ) → leads aim w ≡ false → left w ≡ None
  astray_rest w off = by_rest (left w) refl
    where
      by_rest : (o : Option ℕ) → left w ≡ o → left w ≡ None
      by_rest None at = at
      by_rest (Some k) at = absurd (false≢true (sym off ∙ rest_leads w k at))

  -- ---- the bound, by what is known of the wire
  pub bound_near : (w c k : ℕ) → label aim.near.now w ≡ Some c → left w ≡ Some k → bound_in graph aim w ≡ c
  unfolding bound_in
  bound_near w c k at is = ap (λ o. ahead aim.beyond.now o (left w)) at ∙ ap (ahead aim.beyond.now (Some c)) is

  pub bound_far : (w k : ℕ) → label aim.near.now w ≡ None → left w ≡ Some k → bound_in graph aim w ≡ beyond_at aim.beyond.now k
  unfolding bound_in
  bound_far w k at is = ap (λ o. ahead aim.beyond.now o (left w)) at ∙ ap (ahead aim.beyond.now None) is

  pub bound_astray : (w : ℕ) → left w ≡ None → bound_in graph aim w ≡ 18446744073709551616
  unfolding bound_in
  bound_astray w is = ap (ahead aim.beyond.now (label aim.near.now w)) is

  -- a wire is near, or not near but leads on, or leads nowhere
  abbrev Sort : ℕ → Type 0
  Sort w = ((k : ℕ) × (c : ℕ) × (left w ≡ Some k) × (label aim.near.now w ≡ Some c)) ⊎ (((k : ℕ) × (left w ≡ Some k) × (label aim.near.now w ≡ None)) ⊎ (left w ≡ None))

  sort : (w : ℕ) → Sort w
  sort w = by_rest (left w) refl
    where
      by_near : (k : ℕ) → left w ≡ Some k → (o : Option ℕ) → label aim.near.now w ≡ o → Sort w
      by_near k is (Some c) at = inl (k, c, is, at)
      by_near k is None at = inr (inl (k, is, at))

      by_rest : (o : Option ℕ) → left w ≡ o → Sort w
      by_rest (Some k) is = by_near k is (label aim.near.now w) refl
      by_rest None is = inr (inr is)

  module _ (p : Prices) (fall : RestFalls graph.edges left) (knows : Knows graph.edges (price_of p) aim.targets.now aim.near.now left (beyond_at aim.beyond.now))
      (near_small : (w c : ℕ) → label aim.near.now w ≡ Some c → c ≤ 18446744073709551616) (small : (k : ℕ) → beyond_at aim.beyond.now k ≤ 18446744073709551616) where
    bound_most : (w : ℕ) → bound_in graph aim w ≤ 18446744073709551616
    bound_most w = elim (sort w) [
      | inl t ↦ (let e = bound_near w t.1 t.0 t.3 t.2 in let le = near_small w t.1 t.3 in omega (arith, e, le))
      | inr other ↦ elim other [
        | inl t ↦ (let e = bound_far w t.0 t.2 t.1 in let le = small t.0 in omega (arith, e, le))
        | inr none ↦ (let e = bound_astray w none in omega (arith, e))
      ]
    ]

    near_falls : FallsBy graph.edges (price_of p) (bound_in graph aim)
    near_falls e has = elim (sort e.to.0) [
      | inl t ↦ to_near t.0 t.1 t.2 t.3
      | inr other ↦ elim other [ inl t ↦ to_far t.0 t.1 t.2 | inr none ↦ (let b = bound_astray e.to.0 none in let a = bound_most e.from.0 in omega (arith, a, b)) ]
    ]
      where
        paid : 1 ≤ price_of p e.to.0
        paid = price_positive p e.to.0

        to_near : (k c : ℕ) → left e.to.0 ≡ Some k → label aim.near.now e.to.0 ≡ Some c → bound_in graph aim e.from.0 ≤ price_of p e.to.0 + bound_in graph aim e.to.0
        to_near k c is at =
            let b = bound_near e.to.0 c k at is in
            let from = fall e k has is in
            elim (knows.falls e c has at) [
              | inl t ↦ (let a = bound_near e.from.0 t.0 from.0 t.1 from.1 in let le = t.2 in omega (arith, a, b, le))
              | inr t ↦ (let a = bound_far e.from.0 from.0 t.0 from.1 in let le = t.1 from.0 from.1 in omega (arith, a, b, le))
            ]

        to_far : (k : ℕ) → left e.to.0 ≡ Some k → label aim.near.now e.to.0 ≡ None → bound_in graph aim e.from.0 ≤ price_of p e.to.0 + bound_in graph aim e.to.0
        to_far k is none =
            let b = bound_far e.to.0 k none is in
            let from = fall e k has is in
            by_near from.0 from.1 from.2 (label aim.near.now e.from.0) refl
          where
            by_near : (l : ℕ) → left e.from.0 ≡ Some l → l ≤ k + 1 → (o : Option ℕ) → label aim.near.now e.from.0 ≡ o → bound_in graph aim e.from.0 ≤ price_of p e.to.0 + bound_in graph aim e.to.0
            by_near l at le (Some c) near = (let b = bound_far e.to.0 k none is in let a = bound_near e.from.0 c l near at in let low = knows.low e.from.0 c k near in omega (arith, a, b, low))
            by_near l at le None near = (let b = bound_far e.to.0 k none is in let a = bound_far e.from.0 l near at in let s = knows.costs.slope l k le in let one' = paid in omega (arith, a, b, s, one'))

    near_away : (w : ℕ) → bound_in graph aim w ≡ 0 → IsTarget aim.targets.now w
    near_away w z = elim (sort w) [
      | inl t ↦ knows.away w (t.3 ∙ ap (λ c. Some c) (let e = bound_near w t.1 t.0 t.3 t.2 in let same : t.1 ≡ 0 = omega (arith, e, z) in same))
      | inr other ↦ elim other [
        | inl t ↦ absurd (let e = bound_far w t.0 t.2 t.1 in let some = knows.costs.some t.0 in omega (arith, e, some, z))
        | inr none ↦ absurd (let e = bound_astray w none in omega (arith, e, z))
      ]
    ]

    near_back : (e : Edge) → HasEdge graph.edges e → leads aim e.to.0 ≡ true → leads aim e.from.0 ≡ true
    near_back e has is = (let to = leads_rest e.to.0 is in let from = fall e to.0 has to.1 in rest_leads e.from.0 from.0 from.1)

    pub near_aim : IsAim graph.edges (price_of p) aim.targets.now (bound_in graph aim) (leads aim)
    near_aim = record {
      falls = near_falls;
      home = λ w t. (let at = knows.home w t in let on = knows.on w 0 at in bound_near w 0 on.0 at on.1);
      away = near_away;
      back = near_back;
      astray = λ w off. (let e = bound_astray w (astray_rest w off) in omega (arith, e));
    }

  -- ---- where nothing is known but the graph's bound
  module _ (p : Prices) (falls : BoundsFall graph) (none : aim.near.now ≡ []) (empty : aim.hops.now ≡ []) (plain : aim.beyond.now ≡ []) (same : aim.guides.now ≡ aim.targets.now) where
    plain_rest : (w : ℕ) → left w ≡ Some (max 0 (least_bound graph aim.guides.now w))
    plain_rest w = rest_of_hop graph aim.hops.now aim.guides.now w 0 (ap (λ (hops : List ℕ). hop hops w) empty)

    pub plain_leads : (w : ℕ) → leads aim w ≡ true
    plain_leads w = rest_leads w (max 0 (least_bound graph aim.guides.now w)) (plain_rest w)

    pub plain_bound : (w : ℕ) → bound_in graph aim w ≡ least_bound graph aim.targets.now w
    plain_bound w =
        let e = bound_far w (max 0 (least_bound graph aim.guides.now w)) (ap (λ (near : List (Option ℕ)). label near w) none) (plain_rest w) in
        let far = ap (λ (beyond : List ℕ). beyond_at beyond (max 0 (least_bound graph aim.guides.now w))) plain in
        let guided : least_bound graph aim.guides.now w ≡ least_bound graph aim.targets.now w = ap (λ ts. least_bound graph ts w) same in
        omega (arith, e, far, guided)

    pub plain_aim : 0 < length aim.targets.now → IsAim graph.edges (price_of p) aim.targets.now (bound_in graph aim) (leads aim)
    plain_aim some = record {
      falls = λ e has. (
          let f = bounds_fall_by graph aim.targets.now p falls e has in
          let a = plain_bound e.from.0 in
          let b = plain_bound e.to.0 in
          omega (arith, f, a, b));
      home = λ w t. plain_bound w ∙ targets_home graph aim.targets.now w t;
      away = λ w z. home_targets graph aim.targets.now some w (sym (plain_bound w) ∙ z);
      back = λ e has is. plain_leads e.from.0;
      astray = λ w is. absurd (false≢true (sym is ∙ plain_leads w));
    }

-- what is known beforehand is small
pub beyond_small : (beyond : List ℕ) (k most : ℕ) → ((j : ℕ) → slice_index beyond j ≤ most) → k ≤ most → beyond_at beyond k ≤ most
beyond_small [] k most h le = le
beyond_small (c ∷ costs) k most h le = h (min k (length costs))

-- what is settled by one bound is settled by another that is the same
pub settled_by : (edges : List Edge) (price : ℕ → ℕ) (tree : List WireNo) (one other : ℕ → ℕ) → ((w : ℕ) → one w ≡ other w) → (c : ℕ) (wires : List WireNo) → AreSettled edges price tree one c wires → AreSettled edges price tree other c wires
settled_by edges price tree one other same c wires h = record {
  once = h.once;
  each = λ k v at. (let t = h.each k v at in (t.0, t.1, (let e = same v.0 in let le = t.2 in omega (arith, e, le))));
  all = λ w l is near. h.all w l is (let e = same w in omega (arith, e, near));
}

pub settled_if : (edges : List Edge) (price : ℕ → ℕ) (tree : List WireNo) (one other : ℕ → ℕ) (o : Option ℕ) (wires : List WireNo) → IfSome o (λ c. AreSettled edges price tree one c wires) → ((w : ℕ) → one w ≡ other w) → IfSome o (λ c. AreSettled edges price tree other c wires)
settled_if edges price tree one other (Some c) wires h same = settled_by edges price tree one other same c wires h
settled_if edges price tree one other None wires h same = tt
