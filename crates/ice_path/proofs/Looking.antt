-- Looking back from the targets by price, one wire after another.
use Rattle.std.proofs.Common.{◌≡◌, ℕ, zero, suc, ◌+◌, ◌-◌, ◌≤◌, ◌<◌, min, Bool, true, false, List, [], ◌∷◌, Option, Some, None, length, slice_get, slice_index, slice_set, refl, sym, ap, ◌∙◌, subst, arith, inl, inr, ◌⊎◌, get_or-set_same, get_or-set_other}
use Rattle.std.proofs.lemmas.Bool.{cases_eq, cases_lt, false≢true}
use Rattle.std.proofs.lemmas.Option.{same_Some, slice_get_within, slice_get-get_or}
use Rattle.std.specs.List.{Contains}
use Rattle.ice_base.specs.declared.number.WireNo.{WireNo}
use Rattle.ice_graph.specs.declared.edge.Edge.{Edge}
use Rattle.ice_graph.specs.Rows.{rows_into}
use Rattle.ice_path.specs.Aims.{AreCosts, Knows, RestFalls, beyond_at}
use Rattle.ice_path.specs.Looks.{AreFar, AreLed, AreMet, Meets, Reaches, Spreads, Widens}
use Rattle.ice_path.specs.Search.{AtMost, IsLeastOpen, Touches, done, label}
use Rattle.ice_path.specs.Walks.{HasEdge, IsTarget}
use Rattle.ice_path.proofs.Settling.{one_label}
use Rattle.ice_path.proofs.Taking.{in_rows_into, of_rows_into}

-- ---- one wire is met
pub met_new : (labels : List (Option ℕ)) (w c : ℕ) → w < length labels → label labels w ≡ None → Meets labels (slice_set labels w (Some c)) w c
met_new labels w c lt none = inl (refl, none, lt)

pub met_again : (labels : List (Option ℕ)) (w c l : ℕ) → label labels w ≡ Some l → Meets labels labels w c
met_again labels w c l is = inr (refl, (l, is))

module _ (old new : List (Option ℕ)) (w c : ℕ) where
  pub met_kept : (v l : ℕ) → Meets old new w c → label old v ≡ Some l → label new v ≡ Some l
  met_kept v l (inl t) at = elim (cases_eq v w) [
    | inl same ↦ absurd (let bad : Some l ≡ None = sym at ∙ (ap (label old) same ∙ t.1) in cc)
    | inr other ↦ ap (λ xs. label xs v) t.0 ∙ (get_or-set_other old w v (Some c) None other ∙ at)
  ]
  met_kept v l (inr t) at = ap (λ xs. label xs v) t.0 ∙ at

  pub met_here : Meets old new w c → (l : ℕ) × (label new w ≡ Some l)
  met_here (inl t) = (c, ap (λ xs. label xs w) t.0 ∙ get_or-set_same old w (Some c) None t.2)
  met_here (inr t) = (t.1.0, ap (λ xs. label xs w) t.0 ∙ t.1.1)

  pub met_made : (v l : ℕ) → Meets old new w c → label new v ≡ Some l → (label old v ≡ Some l) ⊎ ((v ≡ w) × (l ≡ c))
  met_made v l (inl t) e = elim (cases_eq v w) [
    | inl same ↦ (
        let now : label new v ≡ Some c = ap (label new) same ∙ (ap (λ xs. label xs w) t.0 ∙ get_or-set_same old w (Some c) None t.2) in
        inr (same, same_Some l c (sym e ∙ now)))
    | inr other ↦ inl (sym (ap (λ xs. label xs v) t.0 ∙ get_or-set_other old w v (Some c) None other) ∙ e)
  ]
  met_made v l (inr t) e = inl (sym (ap (λ xs. label xs v) t.0) ∙ e)

-- ---- the targets are met
pub are_met_none : (targets : List WireNo) (near : List (Option ℕ)) → ((w : ℕ) → label near w ≡ None) → AreMet targets 0 near
are_met_none targets near fresh = record {
  first = λ k v lt at. absurd (omega arith);
  only = λ w l e. absurd (let bad : Some l ≡ None = sym e ∙ fresh w in cc);
}

pub are_met_more : (targets : List WireNo) (n : ℕ) (mid new : List (Option ℕ)) (t : WireNo) → slice_get targets n ≡ Some t → Meets mid new t.0 0 → AreMet targets n mid → AreMet targets (n + 1) new
are_met_more targets n mid new t here m h = record {
  first = λ k v k_lt at. elim (cases_eq k n) [
    | inl same ↦ (
        let is : v ≡ t = same_Some v t (sym at ∙ (ap (λ i. slice_get targets i) same ∙ here)) in
        let now = met_here mid new t.0 0 m in
        let zero_is : now.0 ≡ 0 = elim (met_made mid new t.0 0 t.0 now.0 m now.1) [ inl was ↦ (h.only t.0 now.0 was).1 | inr u ↦ u.1 ] in
        ap (λ (x : WireNo). label new x.0) is ∙ (now.1 ∙ ap (λ n. Some n) zero_is))
    | inr other ↦ met_kept mid new t.0 0 v.0 0 m (h.first k v (grind arith) at)
  ];
  only = λ w l e. elim (met_made mid new t.0 0 w l m e) [ inl was ↦ h.only w l was | inr u ↦ ((n, t, here, sym u.0), u.1) ];
}

-- before any wire is widened
pub spreads_first : (edges : List Edge) (price : ℕ → ℕ) → ((w : ℕ) → 1 ≤ price w) → (targets : List WireNo) (n : ℕ) (near : List (Option ℕ)) (widened : List Bool) → ((w : ℕ) → done widened w ≡ false) → AreMet targets n near → Spreads edges price 1 near widened
spreads_first edges price positive targets n near widened fresh h = record {
  closed = λ w is. absurd (false≢true (sym (fresh w) ∙ is));
  shut = λ w c at. (let z = (h.only w c at).1 in omega (arith, z));
  waits = λ w c is at. (let p = positive w in omega (arith, p));
}

pub led_first : (targets : List WireNo) (rest : ℕ → Option ℕ) (near : List (Option ℕ)) → ((w : ℕ) → IsTarget targets w → (k : ℕ) × (rest w ≡ Some k)) → AreMet targets (length targets) near → AreLed targets rest near
led_first targets rest near on h = record {
  on = λ w c at. on w (h.only w c at).0;
  home = λ w t. ap (label near) (sym t.3) ∙ h.first t.0 t.1 (slice_get_within targets t.0 t.1 t.2) t.2;
  away = λ w at. (h.only w 0 at).0;
}

-- ---- one wire is widened
pub widens_none : (rows : List Edge) (c : ℕ) (near : List (Option ℕ)) → Widens rows c 0 near near
widens_none rows c near = record {
  kept = λ w l e. e;
  met = λ k e lt at. absurd (omega arith);
  made = λ w l e. inl e;
}

pub widens_more : (rows : List Edge) (c n : ℕ) (old mid new : List (Option ℕ)) (e : Edge) → slice_get rows n ≡ Some e → Meets mid new e.from.0 c → Widens rows c n old mid → Widens rows c (n + 1) old new
widens_more rows c n old mid new e here m h = record {
  kept = λ w l at. met_kept mid new e.from.0 c w l m (h.kept w l at);
  met = λ k f k_lt at. elim (cases_eq k n) [
    | inl same ↦ (
        let is : f ≡ e = same_Some f e (sym at ∙ (ap (λ i. slice_get rows i) same ∙ here)) in
        subst (λ (g : Edge). (l : ℕ) × (label new g.from.0 ≡ Some l)) (sym is) (met_here mid new e.from.0 c m))
    | inr other ↦ (let t = h.met k f (grind arith) at in (t.0, met_kept mid new e.from.0 c f.from.0 t.0 m t.1))
  ];
  made = λ w l at. elim (met_made mid new e.from.0 c w l m at) [
    | inl was ↦ h.made w l was
    | inr t ↦ inr (e, (n, here), sym t.0, t.1)
  ];
}

module _ (edges : List Edge) (price : ℕ → ℕ) (far : ℕ) (near new : List (Option ℕ)) (widened : List Bool) (u s : ℕ) (lt : u < length widened) (best : IsLeastOpen price near widened (Some (u, s))) (h : Spreads edges price far near widened) where
  -- the label of the wire that is widened, and what it makes with the wire's price
  abbrev c : ℕ
  c = best.0.0

  has : label near u ≡ Some c
  has = best.0.1

  sum : c + price u ≡ s
  sum = best.0.2

  pub far_rises : far ≤ s
  far_rises = (let le = h.waits u c best.1 has in let e = sum in omega (arith, le, e))

  pub sum_low : (most : ℕ) → price u ≤ most → s ≤ far + most
  sum_low most small = (let le = h.shut u c has in let e = sum in omega (arith, le, e, small))

  module _ (r : Widens (rows_into edges u) s (length (rows_into edges u)) near new) where
    abbrev now : List Bool
    now = slice_set widened u true

    u_now : done now u ≡ true
    u_now = get_or-set_same widened u true false lt

    was_widened : (w : ℕ) → (w ≡ u → ⊥) → done now w ≡ true → done widened w ≡ true
    was_widened w other is = sym (get_or-set_other widened u w true false other) ∙ is

    waited : (w : ℕ) → done now w ≡ false → done widened w ≡ false
    waited w is = (let other : w ≡ u → ⊥ = (λ same. false≢true (sym is ∙ (ap (done now) same ∙ u_now))) in sym (get_or-set_other widened u w true false other) ∙ is)

    made : (w l : ℕ) → label new w ≡ Some l → (label near w ≡ Some l) ⊎ ((l ≡ s) × ((f : Edge) × HasEdge edges f × (f.from.0 ≡ w) × (f.to.0 ≡ u)))
    made w l at = elim (r.made w l at) [
      | inl was ↦ inl was
      | inr t ↦ (let row = of_rows_into edges u t.0 t.1 in inr (t.3, (t.0, row.0, t.2, row.1)))
    ]

    -- no label is above the sum
    below : (w l : ℕ) → label new w ≡ Some l → l ≤ s
    below w l at = elim (made w l at) [
      | inl was ↦ (let a = h.shut w l was in let b = far_rises in omega (arith, a, b))
      | inr t ↦ (let e = t.0 in omega (arith, e))
    ]

    by_source : (e : Edge) → HasEdge edges e → e.to.0 ≡ u → AtMost new e.from.0 s
    by_source e enters to =
        let row = in_rows_into edges u e enters to in
        let t = r.met row.0 e (slice_get_within (rows_into edges u) row.0 e row.1) row.1 in
        (t.0, t.1, below e.from.0 t.0 t.1)

    pub spreads_more : Spreads edges price s new now
    spreads_more = record {
      closed = λ w is. elim (cases_eq w u) [
        | inl same ↦ (
          c,
          (ap (label new) same ∙ r.kept u c has),
          λ e enters to. (let t = by_source e enters (to ∙ same) in let eq : price w ≡ price u = ap price same in (t.0, t.1, (let le = t.2 in let e' = sum in omega (arith, le, e', eq)))),
        )
        | inr other ↦ (
            let old = h.closed w (was_widened w other is) in
            (old.0, r.kept w old.0 old.1, λ e enters to. (let t = old.2 e enters to in (t.0, r.kept e.from.0 t.0 t.1, t.2))))
      ];
      shut = below;
      waits = λ w l is at. elim (made w l at) [
        | inl was ↦ best.2 w l was (waited w is)
        | inr t ↦ (let e = t.0 in omega (arith, e))
      ];
    }

    pub led_more : ((w : ℕ) → 1 ≤ price w) → (targets : List WireNo) (rest : ℕ → Option ℕ) → RestFalls edges rest → AreLed targets rest near → AreLed targets rest new
    led_more positive targets rest fall k = record {
      on = λ w l at. elim (made w l at) [
        | inl was ↦ k.on w l was
        | inr t ↦ (
            let f : Edge = t.1.0 in
            let on' = k.on u c has in
            let from = fall f on'.0 t.1.1 (ap rest t.1.3 ∙ on'.1) in
            (from.0, ap rest (sym t.1.2) ∙ from.1))
      ];
      home = λ w t. r.kept w 0 (k.home w t);
      away = λ w at. elim (made w 0 at) [ inl was ↦ k.away w was | inr t ↦ absurd (let e = t.0 in let p = positive u in let e' = sum in omega (arith, e, e', p)) ];
    }

-- ---- what is known in the end
-- the costs of 64 numbers of rows
pub beyond_is : (beyond : List ℕ) (k : ℕ) → length beyond ≡ 64 → beyond_at beyond k ≡ slice_index beyond (min k 63)
beyond_is [] k long = absurd (cc)
beyond_is (c ∷ costs) k long = ap (λ n. slice_index (c ∷ costs) (min k n)) (let e : length costs ≡ 63 = omega (arith, long) in e)

module _ (beyond : List ℕ) (rises : (k : ℕ) → k < 63 → slice_index beyond k ≤ slice_index beyond (k + 1)) where
  rises_by : (n k : ℕ) → k + n ≤ 63 → slice_index beyond k ≤ slice_index beyond (k + n)
  rises_by zero k le = (let e : k ≡ k + 0 = omega arith in subst (λ m. slice_index beyond k ≤ slice_index beyond m) e (omega arith))
  rises_by (suc n) k le =
      let a = rises_by n k (omega (arith, le)) in
      let b = rises (k + n) (omega (arith, le)) in
      let e : (k + n) + 1 ≡ k + suc n = omega arith in
      let c : slice_index beyond k ≤ slice_index beyond ((k + n) + 1) = omega (arith, a, b) in
      subst (λ m. slice_index beyond k ≤ slice_index beyond m) e c

  rises_to : (j k : ℕ) → j ≤ k → k ≤ 63 → slice_index beyond j ≤ slice_index beyond k
  rises_to j k le most = (let e : j + (k - j) ≡ k = omega (arith, le) in subst (λ m. slice_index beyond j ≤ slice_index beyond m) e (rises_by (k - j) j (omega (arith, le, most))))

  pub slope_by : ((k : ℕ) → k < 63 → slice_index beyond (k + 1) ≤ slice_index beyond k + 1) → (j k : ℕ) → j ≤ 63 → k ≤ 63 → j ≤ k + 1 → slice_index beyond j ≤ slice_index beyond k + 1
  slope_by slope j k j_le k_le le = elim (cases_lt k 63) [
    | inl lt ↦ (let a = rises_to j (k + 1) le (omega (arith, lt)) in let b = slope k lt in omega (arith, a, b))
    | inr ge ↦ (let a = rises_to j k (omega (arith, j_le, ge)) k_le in omega (arith, a))
  ]

pub costs_are : (beyond : List ℕ) (far : ℕ) → length beyond ≡ 64 → 1 ≤ far → AreFar far beyond → ((k : ℕ) → k < 63 → slice_index beyond k ≤ slice_index beyond (k + 1)) → ((k : ℕ) → k < 63 → slice_index beyond (k + 1) ≤ slice_index beyond k + 1) → AreCosts (beyond_at beyond)
costs_are beyond far long some far' rises slope = record {
  some = λ k. (let e = beyond_is beyond k long in let f = far' (min k 63) (omega arith) in omega (arith, e, f, some));
  slope = λ j k le. (let a = beyond_is beyond j long in let b = beyond_is beyond k long in let s = slope_by beyond rises slope (min j 63) (min k 63) (omega arith) (omega arith) (omega (arith, le)) in omega (arith, a, b, s));
}

module _ (edges : List Edge) (price : ℕ → ℕ) (targets : List WireNo) (rest : ℕ → Option ℕ) (fall : RestFalls edges rest) (far : ℕ) (near : List (Option ℕ)) (widened : List Bool) (marked beyond : List ℕ) (h : Spreads edges price far near widened) (k : AreLed targets rest near)
    (touches : Touches near marked) (long : length beyond ≡ 64) (rises : (k : ℕ) → k < 63 → slice_index beyond k ≤ slice_index beyond (k + 1)) (reach : Reaches marked (length marked) price rest near widened beyond) (costs : AreCosts (beyond_at beyond)) (far' : AreFar far beyond) where
  -- a wire that waits makes with its price at least what a walk of one row more costs
  reached : (w c n : ℕ) → done widened w ≡ false → label near w ≡ Some c → rest w ≡ Some n → slice_index beyond (min (n + 1) 63) ≤ c + price w
  reached w c n is at left =
      let t : Contains marked w = touches.covers w c at in
      let here : slice_get marked t.0 ≡ Some w = slice_get-get_or marked t.0 w t.1 ∙ ap (λ x. Some x) t.2 in
      reach t.0 w c n t.1 here is at left

  -- an edge into a wire that waits comes from a near wire, or from one from which a walk costs as much by its rows
  into_waiting : (e : Edge) (c : ℕ) → HasEdge edges e → label near e.to.0 ≡ Some c → done widened e.to.0 ≡ false → (o : Option ℕ) → label near e.from.0 ≡ o
      → AtMost near e.from.0 (price e.to.0 + c) ⊎ (label near e.from.0 ≡ None) × ((n : ℕ) → rest e.from.0 ≡ Some n → beyond_at beyond n ≤ price e.to.0 + c)
  into_waiting e c enters at is (Some l) from = inl (l, from, (let a = h.shut e.from.0 l from in let b = h.waits e.to.0 c is at in omega (arith, a, b)))
  into_waiting e c enters at is None from = inr (
    from,
    λ n left.
        let on = k.on e.to.0 c at in
        let low = reached e.to.0 c on.0 is at on.1 in
        let before = fall e on.0 enters on.1 in
        let same : n ≡ before.0 = same_Some n before.0 (sym left ∙ before.1) in
        let few : n ≤ on.0 + 1 = (let le = before.2 in omega (arith, le, same)) in
        let up = rises_to beyond rises (min n 63) (min (on.0 + 1) 63) (omega (arith, few)) (omega arith) in
        let eq = beyond_is beyond n long in
        omega (arith, low, up, eq),
  )

  into_widened : (e : Edge) (c : ℕ) → HasEdge edges e → label near e.to.0 ≡ Some c → done widened e.to.0 ≡ true → AtMost near e.from.0 (price e.to.0 + c)
  into_widened e c enters at is =
      let t = h.closed e.to.0 is in
      let same = one_label near e.to.0 t.0 c t.1 at in
      let s = t.2 e enters refl in
      (s.0, s.1, (let le = s.2 in omega (arith, le, same)))

  pub knows : Knows edges price targets near rest (beyond_at beyond)
  knows = record {
    falls = λ e c enters at. by_done e c enters at (done widened e.to.0) refl;
    low = λ w c n at. (let a = h.shut w c at in let b = far' (min n 63) (omega arith) in let e = beyond_is beyond n long in omega (arith, a, b, e));
    on = k.on;
    home = k.home;
    away = k.away;
    costs = costs;
  }
    where
      by_done : (e : Edge) (c : ℕ) → HasEdge edges e → label near e.to.0 ≡ Some c → (b : Bool) → done widened e.to.0 ≡ b
          → AtMost near e.from.0 (price e.to.0 + c) ⊎ (label near e.from.0 ≡ None) × ((n : ℕ) → rest e.from.0 ≡ Some n → beyond_at beyond n ≤ price e.to.0 + c)
      by_done e c enters at true is = inl (into_widened e c enters at is)
      by_done e c enters at false is = into_waiting e c enters at is (label near e.from.0) refl

pub reaches_lower : (marked : List ℕ) (n : ℕ) (price : ℕ → ℕ) (rest : ℕ → Option ℕ) (near : List (Option ℕ)) (widened : List Bool) (old new : List ℕ) → ((k : ℕ) → slice_index new k ≤ slice_index old k) → Reaches marked n price rest near widened old → Reaches marked n price rest near widened new
reaches_lower marked n price rest near widened old new lower h j w c k lt at open' label' left = (let a = h j w c k lt at open' label' left in let b = lower (min (k + 1) 63) in omega (arith, a, b))

-- costs that are all the same
pub far_all : (beyond : List ℕ) (cost far : ℕ) → length beyond ≡ 64 → ((k : ℕ) → k < length beyond → slice_index beyond k ≡ cost) → far ≤ cost → AreFar far beyond
far_all beyond cost far long all le k lt = (let e = all k (omega (arith, lt, long)) in omega (arith, e, le))
