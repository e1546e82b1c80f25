-- What is known when a search ends, and how far it has come until then.
use Rattle.std.proofs.Common.{◌≡◌, ◌≢◌, ℕ, zero, suc, ◌+◌, ◌*◌, ◌≤◌, ◌<◌, Bool, true, false, not, cond, List, [], ◌∷◌, ◌++◌, Option, Some, None, length, get_or, slice_set, refl, sym, ap, ◌∙◌, subst, arith, inl, inr, ◌⊎◌, get_or-set_same, get_or-set_other, length-set}
use Rattle.std.specs.Prelude.{eqb, IfSome, IfNone}
use Rattle.std.proofs.lemmas.Bool.{cases_lt, cases_eq, false≢true, eq-eqb, eqb-true, ltb-false, ltb-true}
use Rattle.std.proofs.lemmas.List.{length_push}
use Rattle.std.proofs.lemmas.List.Sums.{sum_by-set, sum_by-cons, count_by-le-length}
use Rattle.ice_base.specs.declared.number.WireNo.{WireNo}
use Rattle.ice_graph.specs.declared.edge.Edge.{Edge}
use Rattle.ice_graph.specs.Network.{Network, least_bound}
use Rattle.ice_graph.proofs.Bounding.{least_home, least_found}
use Rattle.ice_path.specs.Aims.{IsAim}
use Rattle.ice_path.specs.Walks.{HasEdge, InTree, IsWalk, IsTarget, IsCostTo, NoWalkTo, FallsBy, AreSettled, cost}
use Rattle.ice_path.specs.Search.{label, done, AreExact, IsLeastOpen, IsNearest, IsNext, Lists, Searches, nearest_after, is_beyond, opens}
use Rattle.ice_path.proofs.Settling.{one_label}
use Rattle.ice_base_values.proofs.Places.{At_push_cases, At_push_old, At_push_new}

-- along a walk the bound falls by no more than the walk costs
pub bound_walks : (edges : List Edge) (price bound : ℕ → ℕ) → FallsBy edges price bound → (path : List Edge) (a b : ℕ) → IsWalk edges a path b → bound a ≤ cost price path + bound b
bound_walks edges price bound falls [] a b w = let e : bound a ≡ bound b = ap bound w in omega (arith, e)
bound_walks edges price bound falls (e ∷ path) a b w =
    let step = falls e w.0 in
    let rest = bound_walks edges price bound falls path e.to.0 b w.2 in
    let from : bound e.from.0 ≡ bound a = ap bound w.1 in
    omega (arith, step, rest, from)

-- a walk to a wire that leads on comes through such wires alone
pub walk_leads : (edges : List Edge) (leads : ℕ → Bool) → ((e : Edge) → HasEdge edges e → leads e.to.0 ≡ true → leads e.from.0 ≡ true) → (path : List Edge) (a b : ℕ) → IsWalk edges a path b → leads b ≡ true → leads a ≡ true
walk_leads edges leads back [] a b w on = ap leads w ∙ on
walk_leads edges leads back (e ∷ path) a b w on = ap leads (sym w.1) ∙ back e w.0 (walk_leads edges leads back path e.to.0 b w.2 on)

module _ (edges : List Edge) (price : ℕ → ℕ) (tree targets : List WireNo) (bound : ℕ → ℕ) (leads : ℕ → Bool) (aim : IsAim edges price targets bound leads) (most count : ℕ) (labels : List (Option ℕ)) (settled : List Bool)
    (h : Searches edges price tree bound leads most count labels settled) where
  -- a wire of a bound below 2^64 leads on, and so does each target
  leads_by : (w : ℕ) → bound w < 18446744073709551616 → leads w ≡ true
  leads_by w less = by (leads w) refl
    where
      by : (b : Bool) → leads w ≡ b → b ≡ true
      by true is = refl
      by false is = absurd (let much = aim.astray w is in omega (arith, much, less))

  target_leads : (w : ℕ) → IsTarget targets w → leads w ≡ true
  target_leads w target = leads_by w (let z = aim.home w target in omega (arith, z))

  -- a wire with a label from which it is no further than the walk is long: an open one, or the end
  abbrev Escapes : ℕ → List Edge → ℕ → Type 0
  Escapes l path b = (x : ℕ) × (k : ℕ) × (label labels x ≡ Some k) × (k + bound x ≤ l + cost price path + bound b) × ((done settled x ≡ false) ⊎ (x ≡ b))

  escapes_by : (e : Edge) (path : List Edge) (a b l : ℕ) → label labels a ≡ Some l → IsWalk edges a (e ∷ path) b → leads e.to.0 ≡ true
      → ((k : ℕ) → label labels e.to.0 ≡ Some k → Escapes k path b) → (d : Bool) → done settled a ≡ d → Escapes l (e ∷ path) b
  escapes_by e path a b l at w on go false is = (a, l, at, (let le = bound_walks edges price bound aim.falls (e ∷ path) a b w in omega (arith, le)), inl is)
  escapes_by e path a b l at w on go true is =
      let c = h.closed a is in
      let same = one_label labels a c.0 l c.1 at in
      let next = c.2 e w.0 w.1 on in
      let t = go next.0 next.1 in
      (t.0, t.1, t.2, omega (arith, t.3, next.2, same), t.4)

  -- a walk from a labelled wire comes to one that isn't settled, or is labelled at its end
  escapes : (path : List Edge) (a b l : ℕ) → label labels a ≡ Some l → IsWalk edges a path b → leads b ≡ true → Escapes l path b
  escapes [] a b l at w on = (a, l, at, (let e : bound a ≡ bound b = ap bound w in omega (arith, e)), inr w)
  escapes (e ∷ path) a b l at w on = escapes_by e path a b l at w (walk_leads edges leads aim.back path e.to.0 b w.2 on) (λ k here. escapes path e.to.0 b k here w.2 on) (done settled a) refl

  -- where no open wire has a label, and no target is settled, no walk leads to a target
  pub has_none : IsLeastOpen bound labels settled None → IsNearest bound targets labels settled None → NoWalkTo edges tree targets
  has_none best open' w target start path root walk =
      let on = target_leads w target in
      let t = escapes path start w 0 (h.rooted start root (walk_leads edges leads aim.back path start w walk on)) walk on in
      let shut = best t.0 t.1 t.2 in
      elim t.4 [
        | inl still ↦ false≢true (sym still ∙ shut)
        | inr same ↦ false≢true (sym (open' w target) ∙ (ap (done settled) (sym same) ∙ shut))
      ]

  -- each open wire's sum is more than c
  abbrev Beyond : ℕ → Type 0
  Beyond c = (w k : ℕ) → label labels w ≡ Some k → done settled w ≡ false → c < k + bound w

  module _ (c : ℕ) (low : c < 18446744073709551616) (beyond : Beyond c) where
    -- a walk that makes with the bound of its end at most c leads to a settled wire with a label of at most its cost
    arrives : (w start : ℕ) (walk : List Edge) → InTree tree start → IsWalk edges start walk w → cost price walk + bound w ≤ c
        → (k : ℕ) × (label labels w ≡ Some k) × (k ≤ cost price walk) × (done settled w ≡ true)
    arrives w start walk root is near =
        let on = leads_by w (omega (arith, near, low)) in
        let t = escapes walk start w 0 (h.rooted start root (walk_leads edges leads aim.back walk start w is on)) is on in
        elim t.4 [
          | inl open' ↦ absurd (let far = beyond t.0 t.1 t.2 open' in omega (arith, far, t.3))
          | inr same ↦ (
              let at : label labels w ≡ Some t.1 = ap (label labels) (sym same) ∙ t.2 in
              let near' : bound t.0 ≡ bound w = ap bound same in
              let le : t.1 ≤ cost price walk = omega (arith, t.3, near') in
              (t.1, at, le, by_done w t.1 at (omega (arith, le, near)) (done settled w) refl))
        ]
      where
        by_done : (w k : ℕ) → label labels w ≡ Some k → k + bound w ≤ c → (d : Bool) → done settled w ≡ d → d ≡ true
        by_done w k at near true is = refl
        by_done w k at near false is = absurd (let far = beyond w k at is in omega (arith, far, near))

    pub exact : AreExact edges price tree bound c labels
    exact = record {
      attained = h.attained;
      there = λ w l is near.
          let t = arrives w is.0.0 is.0.1 is.0.2 is.0.3 (omega (arith, is.0.4, near)) in
          let walk = h.attained w t.0 t.1 in
          let le = is.1 walk.0 walk.1 walk.2 walk.3 in
          let same : t.0 ≡ l = omega (arith, t.2, is.0.4, walk.4, le) in
          t.1 ∙ ap (λ k. Some k) same;
    }

    module _ (near : IsNearest bound targets labels settled (Some c)) where
      pub is_cost : IsCostTo edges price tree targets c
      is_cost = (
        (near.0.0, near.0.1, h.attained near.0.0 c near.0.3),
        λ w target start walk root is. elim (cases_lt (cost price walk) c) [
          | inr le ↦ le
          | inl less ↦ absurd (
              let t = arrives w start walk root is (let z = aim.home w target in omega (arith, z, less)) in
              let le = near.1 w t.0 target t.3 t.1 in
              omega (arith, le, t.2, less))
        ],
      )

      -- the settled wires are those of which label and bound make at most c
      pub are_settled : (order : List WireNo) → Lists order settled → AreSettled edges price tree bound c order
      are_settled order list = record {
        once = list.once;
        each = λ k v at.
            let is = list.each k v at in
            let l = h.closed v.0 is in
            let sum = near.2 v.0 l.0 is l.1 in (
              l.0,
              (
                h.attained v.0 l.0 l.1,
                λ start walk root path. elim (cases_lt (cost price walk) l.0) [
                  | inr le ↦ le
                  | inl less ↦ absurd (let t = arrives v.0 start walk root path (omega (arith, sum, less)) in let same = one_label labels v.0 t.0 l.0 t.1 l.1 in omega (arith, same, t.2, less))
                ],
              ),
              sum,
            );
        all = λ w l is sum. (let t = arrives w is.0.0 is.0.1 is.0.2 is.0.3 (omega (arith, is.0.4, sum)) in list.all w t.3);
      }

-- the next wire, by the least sum
pub is_next : (bound : ℕ → ℕ) (labels : List (Option ℕ)) (settled : List Bool) (u sum c : ℕ) → IsLeastOpen bound labels settled (Some (u, sum)) → label labels u ≡ Some c → IsNext bound labels settled u c
is_next bound labels settled u sum c best is =
    let same = one_label labels u best.0.0 c best.0.1 is in
    record { has = is; unsettled = best.1; least = λ w k at open'. (let le = best.2 w k at open' in omega (arith, le, best.0.2, same)) }

pub sum_is : (bound : ℕ → ℕ) (labels : List (Option ℕ)) (settled : List Bool) (u sum c : ℕ) → IsLeastOpen bound labels settled (Some (u, sum)) → label labels u ≡ Some c → sum ≡ c + bound u
sum_is bound labels settled u sum c best is = let same = one_label labels u best.0.0 c best.0.1 is in omega (arith, best.0.2, same)

-- no open wire is left
pub beyond_none : (bound : ℕ → ℕ) (labels : List (Option ℕ)) (settled : List Bool) (c : ℕ) → IsLeastOpen bound labels settled None → (w k : ℕ) → label labels w ≡ Some k → done settled w ≡ false → c < k + bound w
beyond_none bound labels settled c best w k at open' = absurd (false≢true (sym open' ∙ best w k at))

-- the least sum is beyond c
pub beyond_least : (bound : ℕ → ℕ) (labels : List (Option ℕ)) (settled : List Bool) (c : ℕ) (r : ℕ × ℕ) → IsLeastOpen bound labels settled (Some r) → c < r.1 → (w k : ℕ) → label labels w ≡ Some k → done settled w ≡ false → c < k + bound w
beyond_least bound labels settled c r best far w k at open' = let le = best.2 w k at open' in omega (arith, le, far)

-- one wire fewer is open
pub opens_set : (settled : List Bool) (u : ℕ) → u < length settled → done settled u ≡ false → opens (slice_set settled u true) + 1 ≡ opens settled
opens_set settled u lt is =
    let e = sum_by-set (λ b. cond (not b) 1 0) settled u true false lt in
    let was : cond (not (get_or settled u false)) 1 0 ≡ one = ap (λ b. cond (not b) 1 0) is in
    omega (arith, e, was)
  where
    one : ℕ
    one = 1

pub none_open : (settled : List Bool) → opens settled ≤ length settled
none_open settled = count_by-le-length not settled

module _ (settled : List Bool) (u : ℕ) (lt : u < length settled) where
  abbrev Shut : List Bool
  Shut = slice_set settled u true

  shut_here : done Shut u ≡ true
  shut_here = get_or-set_same settled u true false lt

  shut_else : (w : ℕ) → w ≢ u → done Shut w ≡ done settled w
  shut_else w other = get_or-set_other settled u w true false other

  shut_still : (w : ℕ) → done settled w ≡ true → done Shut w ≡ true
  shut_still w is = elim (cases_eq w u) [ inl same ↦ ap (done Shut) same ∙ shut_here | inr other ↦ shut_else w other ∙ is ]

  -- one wire more is listed
  pub listed_more : (order : List WireNo) (v : WireNo) → v.0 ≡ u → done settled u ≡ false → Lists order settled → Lists (order ++ v ∷ []) Shut
  listed_more order v is_u is h = record {
    once = λ j k w at_j at_k. elim (At_push_cases order v j w at_j) [
      | inl old_j ↦ elim (At_push_cases order v k w at_k) [
        | inl old_k ↦ h.once j k w old_j old_k
        | inr new_k ↦ absurd (false≢true (sym is ∙ (ap (done settled) (sym is_u ∙ ap (λ (x : WireNo). x.0) new_k.1) ∙ h.each j w old_j)))
      ]
      | inr new_j ↦ elim (At_push_cases order v k w at_k) [
        | inl old_k ↦ absurd (false≢true (sym is ∙ (ap (done settled) (sym is_u ∙ ap (λ (x : WireNo). x.0) new_j.1) ∙ h.each k w old_k)))
        | inr new_k ↦ new_j.0 ∙ sym new_k.0
      ]
    ];
    each = λ k w at. elim (At_push_cases order v k w at) [
      | inl old ↦ shut_still w.0 (h.each k w old)
      | inr new ↦ ap (done Shut) (sym (ap (λ (x : WireNo). x.0) new.1) ∙ is_u) ∙ shut_here
    ];
    all = λ w shut. elim (cases_eq w u) [
      | inl same ↦ (length order, v, At_push_new order v, is_u ∙ sym same)
      | inr other ↦ (let t = h.all w (sym (shut_else w other) ∙ shut) in (t.0, t.1, At_push_old order v t.0 t.1 t.2, t.3))
    ];
    room = (
        let more = length_push order v in
        let one' = opens_set settled u lt is in
        let long = length-set settled u true in
        let was = h.room in
        omega (arith, more, one', long, was));
  }

  module _ (bound : ℕ → ℕ) (targets : List WireNo) (labels new : List (Option ℕ)) (c sum : ℕ) (home : (w : ℕ) → IsTarget targets w → bound w ≡ 0) (away : (w : ℕ) → bound w ≡ 0 → IsTarget targets w)
      (low : (a la : ℕ) → done settled a ≡ true → label labels a ≡ Some la → la + bound a ≤ c + bound u) (is : label labels u ≡ Some c) (sums : sum ≡ c + bound u)
      (fixed : (w : ℕ) → done Shut w ≡ true → label new w ≡ label labels w) where
    label_here : (w l : ℕ) → w ≡ u → done Shut w ≡ true → label new w ≡ Some l → l ≡ c
    label_here w l same shut at = one_label labels u l c (ap (label labels) (sym same) ∙ (sym (fixed w shut) ∙ at)) is

    by_test : (b : Bool) → eqb sum c ≡ b → IsNearest bound targets labels settled None → IsNearest bound targets new Shut (cond b (Some c) None)
    by_test true test h =
        let z : bound u ≡ 0 = (let e = eqb-true sum c test in omega (arith, e, sums)) in (
          (u, away u z, shut_here, fixed u shut_here ∙ is),
          (λ w l target shut at. elim (cases_eq w u) [
            | inl same ↦ (let e = label_here w l same shut at in omega (arith, e))
            | inr other ↦ absurd (false≢true (sym (h w target) ∙ (sym (shut_else w other) ∙ shut)))
          ]),
          λ w l shut at. elim (cases_eq w u) [
            | inl same ↦ (let e = label_here w l same shut at in let near : bound w ≡ bound u = ap bound same in omega (arith, e, near, z))
            | inr other ↦ (let le = low w l (sym (shut_else w other) ∙ shut) (sym (fixed w shut) ∙ at) in omega (arith, le, z))
          ],
        )
    by_test false test h = λ w target. elim (cases_eq w u) [
      | inl same ↦ absurd (let z = home w target in let near : bound w ≡ bound u = ap bound same in false≢true (sym test ∙ eq-eqb sum c (omega (arith, z, near, sums))))
      | inr other ↦ shut_else w other ∙ h w target
    ]

    -- the nearest target, where one wire more is settled
    pub nearest_more : (nearest : Option ℕ) → is_beyond nearest sum ≡ false → IsNearest bound targets labels settled nearest → IsNearest bound targets new Shut (nearest_after nearest c sum)
    nearest_more None within h = by_test (eqb sum c) refl h
    nearest_more (Some n) within h =
        let le : sum ≤ n = ltb-false n sum within in (
          (h.0.0, h.0.1, shut_still h.0.0 h.0.2, fixed h.0.0 (shut_still h.0.0 h.0.2) ∙ h.0.3),
          (λ w l target shut at. elim (cases_eq w u) [
            | inl same ↦ (
                let e = label_here w l same shut at in
                let z = home w target in
                let near : bound w ≡ bound u = ap bound same in
                let first = low h.0.0 n h.0.2 h.0.3 in
                omega (arith, e, z, near, first))
            | inr other ↦ h.1 w l target (sym (shut_else w other) ∙ shut) (sym (fixed w shut) ∙ at)
          ]),
          λ w l shut at. elim (cases_eq w u) [
            | inl same ↦ (let e = label_here w l same shut at in let near : bound w ≡ bound u = ap bound same in omega (arith, e, near, sums, le))
            | inr other ↦ h.2 w l (sym (shut_else w other) ∙ shut) (sym (fixed w shut) ∙ at)
          ],
        )

pub listed_none : (order : List WireNo) (settled : List Bool) → order ≡ [] → ((w : ℕ) → done settled w ≡ false) → Lists order settled
listed_none order settled empty fresh = subst (λ xs. Lists xs settled) (sym empty) (record {
  once = λ j k v at. absurd (cc);
  each = λ k v at. absurd (cc);
  all = λ w shut. absurd (false≢true (sym (fresh w) ∙ shut));
  room = all_open settled fresh;
})
  where
    all_open : (bs : List Bool) → ((w : ℕ) → done bs w ≡ false) → 0 + opens bs ≡ length bs
    all_open [] f = refl
    all_open (b ∷ bs) f =
        let rest = all_open bs (λ w. f (suc w)) in
        let first : cond (not b) 1 0 ≡ suc zero = ap (λ x. cond (not x) 1 0) (f 0) in
        let e = sum_by-cons (λ x. cond (not x) 1 0) b bs in
        omega (arith, rest, first, e)

-- the targets are the wires with the bound 0
pub targets_home : (graph : Network) (targets : List WireNo) (w : ℕ) → IsTarget targets w → least_bound graph targets w ≡ 0
targets_home graph targets w h = subst (λ x. least_bound graph targets x ≡ 0) h.3 (least_home graph targets h.0 h.1 h.2)

pub home_targets : (graph : Network) (targets : List WireNo) → 0 < length targets → (w : ℕ) → least_bound graph targets w ≡ 0 → IsTarget targets w
home_targets graph targets some w z = let t = least_found graph targets w some z in (t.0, t.1, t.2, sym t.3)

pub if_some : {P : ℕ → Type 0} (o : Option ℕ) → ((c : ℕ) → o ≡ Some c → P c) → IfSome o P
if_some None f = tt
if_some (Some c) f = f c refl

pub if_none : {A : Type 0} (o : Option ℕ) → (o ≡ None → A) → IfNone o A
if_none None f = f refl
if_none (Some c) f = tt

-- the sum is beyond the nearest target's label
pub past_beyond : (nearest : Option ℕ) (sum c : ℕ) → is_beyond nearest sum ≡ true → nearest ≡ Some c → c < sum
past_beyond None sum c past is = absurd (false≢true past)
past_beyond (Some n) sum c past is = let same : n ≡ c = (cc) in let lt = ltb-true n sum past in omega arith

pub past_some : (nearest : Option ℕ) (sum : ℕ) → is_beyond nearest sum ≡ true → nearest ≡ None → ⊥
past_some None sum past is = false≢true past
past_some (Some n) sum past is = absurd (cc)

-- the nearest target's label is within a bound
pub nearest_low : (nearest : Option ℕ) (c sum most : ℕ) → IfSome nearest (λ n. n ≤ most) → c ≤ most → IfSome (nearest_after nearest c sum) (λ n. n ≤ most)
nearest_low (Some n) c sum most h le = h
nearest_low None c sum most h le = by_test (eqb sum c)
  where
    by_test : (b : Bool) → IfSome (cond b (Some c) None) (λ n. n ≤ most)
    by_test true = le
    by_test false = tt

-- what a search has found when it ends
pub record Ends (edges : List Edge) (price : ℕ → ℕ) (tree targets : List WireNo) (bound : ℕ → ℕ) (labels : List (Option ℕ)) (order : List WireNo) (nearest : Option ℕ) : Type 0 where
  pub some : IfSome nearest (IsCostTo edges price tree targets)
  pub exact : IfSome nearest (λ c. AreExact edges price tree bound c labels)
  pub settled : IfSome nearest (λ c. AreSettled edges price tree bound c order)

pub ends : (edges : List Edge) (price : ℕ → ℕ) (tree targets : List WireNo) (bound : ℕ → ℕ) (leads : ℕ → Bool) → IsAim edges price targets bound leads → (count : ℕ) (labels : List (Option ℕ)) (settled : List Bool) (order : List WireNo) (nearest : Option ℕ)
    → Searches edges price tree bound leads 17046213234436 count labels settled → IsNearest bound targets labels settled nearest → IfSome nearest (λ c. c ≤ 1048575 * 17046213234436) → Lists order settled
    → ((c : ℕ) → nearest ≡ Some c → (w k : ℕ) → label labels w ≡ Some k → done settled w ≡ false → c < k + bound w) → Ends edges price tree targets bound labels order nearest
ends edges price tree targets bound leads aim count labels settled order nearest h near few list far =
    let here = λ (c : ℕ) (is : nearest ≡ Some c). subst (IsNearest bound targets labels settled) is near in
    let low : (c : ℕ) → nearest ≡ Some c → c < 18446744073709551616 = λ (c : ℕ) (is : nearest ≡ Some c). (let le : c ≤ 1048575 * 17046213234436 = subst (λ (o : Option ℕ). IfSome o (λ n. n ≤ 1048575 * 17046213234436)) is few in omega (arith, le)) in
    record {
      some = if_some nearest (λ c is. is_cost edges price tree targets bound leads aim 17046213234436 count labels settled h c (low c is) (far c is) (here c is));
      exact = if_some nearest (λ c is. exact edges price tree targets bound leads aim 17046213234436 count labels settled h c (low c is) (far c is));
      settled = if_some nearest (λ c is. are_settled edges price tree targets bound leads aim 17046213234436 count labels settled h c (low c is) (far c is) (here c is) order list);
    }
