-- Taken paths to a list of targets: what they are, that there is one, and no other.
use Rattle.std.proofs.Common.{◌≡◌, ℕ, zero, suc, ◌≤◌, ◌<◌, List, [], ◌∷◌, Option, Some, slice_get, refl, sym, ap, ◌∙◌, subst, arith, inl, inr, ◌⊎◌}
use Rattle.std.proofs.lemmas.Bool.{cases_lt, cases_eq}
use Rattle.ice_base.specs.declared.number.WireNo.{WireNo}
use Rattle.ice_graph.specs.declared.edge.Edge.{Edge}
use Rattle.ice_path.specs.Walks.{HasWalk, IsWalk, IsLabel, IsLeast, InTree, IsTarget, IsCostTo, cost}
use Rattle.ice_path.specs.Search.{label, AreExact}
use Rattle.ice_path.specs.Paths.{IsTaken, IsTakenTo, IsTargetTaken}
use Rattle.ice_path.proofs.Taking.{label_unique, taken_cheapest, taken_unique}
use Rattle.ice_path.proofs.Reaching.{least_below, taken_there}

module _ (edges : List Edge) (price : ℕ → ℕ) (tree targets : List WireNo) where
  -- the label of the target taken is the cost of the sink
  pub taken_label : (t : WireNo) (c : ℕ) → IsTargetTaken edges price tree targets t c → IsLabel edges price tree t.0 c
  taken_label t c h = (h.has, h.least t.0 (h.place, t, h.stands, refl))

  pub taken_cost : (t : WireNo) (c : ℕ) → IsTargetTaken edges price tree targets t c → IsCostTo edges price tree targets c
  taken_cost t c h = ((t.0, (h.place, t, h.stands, refl), h.has), h.least)

  least_of : (t u : WireNo) (c d : ℕ) → IsTargetTaken edges price tree targets t c → IsTargetTaken edges price tree targets u d → c ≤ d
  least_of t u c d h k = subst (λ x. c ≤ x) k.has.4 (h.least u.0 (k.place, u, k.stands, refl) k.has.0 k.has.1 k.has.2 k.has.3)

  -- there is one target taken
  target_unique : (t u : WireNo) (c d : ℕ) → IsTargetTaken edges price tree targets t c → IsTargetTaken edges price tree targets u d → t ≡ u
  target_unique t u c d h k =
      let le = least_of t u c d h k in
      let ge = least_of u t d c k h in
      let same : c ≡ d = omega arith in
      elim (cases_lt h.place k.place) [
        | inl less ↦ absurd (k.first h.place t less h.stands (subst (HasWalk edges price tree t.0) same h.has))
        | inr le' ↦ elim (cases_eq h.place k.place) [
          | inl at ↦ (let both : Some t ≡ Some u = sym h.stands ∙ (ap (λ j. slice_get targets j) at ∙ k.stands) in (cc))
          | inr other ↦ absurd (h.first k.place u (grind arith) k.stands (subst (HasWalk edges price tree u.0) (sym same) k.has))
        ]
      ]

  pub choice_unique : (one other : List Edge) → IsTakenTo edges price tree targets one → IsTakenTo edges price tree targets other → one ≡ other
  choice_unique one other h k =
      let same : h.0 ≡ k.0 = target_unique h.0 k.0 h.1 k.1 h.2 k.2 in
      taken_unique edges price tree k.0.0 one other (subst (λ (t : WireNo). IsTaken edges price tree t.0 one) same h.3) k.3

  pub choice_cheapest : (path : List Edge) → IsTakenTo edges price tree targets path
      → ((start : ℕ) × (w : ℕ) × InTree tree start × IsTarget targets w × IsWalk edges start path w) × IsCostTo edges price tree targets (cost price path)
  choice_cheapest path h =
      let t = taken_cheapest edges price tree h.0.0 path h.3 in
      let same = label_unique edges price tree h.0.0 h.1 (cost price path) (taken_label h.0 h.1 h.2) t.1 in (
        (t.0.0, h.0.0, t.0.1, (h.2.place, h.0, h.2.stands, refl), t.0.2),
        subst (IsCostTo edges price tree targets) same (taken_cost h.0 h.1 h.2),
      )

  -- where labels are exact, the first target whose label is the cost of the sink is the target taken
  pub first_taken : (bound : ℕ → ℕ) (labels : List (Option ℕ)) (c k : ℕ) (t : WireNo) → ((w : ℕ) → IsTarget targets w → bound w ≡ 0) → IsCostTo edges price tree targets c → AreExact edges price tree bound c labels
      → slice_get targets k ≡ Some t → label labels t.0 ≡ Some c → ((j : ℕ) (u : WireNo) → j < k → slice_get targets j ≡ Some u → label labels u.0 ≡ Some c → ⊥) → IsTargetTaken edges price tree targets t c
  first_taken bound labels c k t home is exact at here none = record {
    place = k;
    stands = at;
    has = exact.attained t.0 c here;
    least = is.1;
    first = λ j u less stands walk. none j u less stands (exact.there u.0 c (walk, is.1 u.0 (j, u, stands, refl)) (let z = home u.0 (j, u, stands, refl) in omega (arith, z)));
  }

  -- some target has the cost of the sink as its label
  pub some_taken : (bound : ℕ → ℕ) (labels : List (Option ℕ)) (c : ℕ) → ((w : ℕ) → IsTarget targets w → bound w ≡ 0) → IsCostTo edges price tree targets c → AreExact edges price tree bound c labels
      → ((j : ℕ) (u : WireNo) → slice_get targets j ≡ Some u → label labels u.0 ≡ Some c → ⊥) → ⊥
  some_taken bound labels c home is exact none =
      let w = is.0 in
      none w.1.0 w.1.1 w.1.2 (ap (label labels) w.1.3 ∙ exact.there w.0 c (w.2, is.1 w.0 w.1) (let z = home w.0 w.1 in omega (arith, z)))

module _ (edges : List Edge) (price : ℕ → ℕ) (tree : List WireNo) (positive : (v : ℕ) → 1 ≤ price v) (n : ℕ) where
  -- the target taken where some target has a label below n
  abbrev Near : List WireNo → Type 0
  Near targets = (t : WireNo) × (c : ℕ) × IsTargetTaken edges price tree targets t c × (c < n)

  -- no walk of a cost below n leads to the wire
  abbrev Far : ℕ → Type 0
  Far w = (k : ℕ) → k < n → HasWalk edges price tree w k → ⊥

  abbrev AllFar : List WireNo → Type 0
  AllFar targets = (w : ℕ) → IsTarget targets w → Far w

  far_least : (w c : ℕ) → c < n → Far w → IsLeast edges price tree w c
  far_least w c less far start walk root is = elim (cases_lt (cost price walk) c) [
    | inl short ↦ absurd (far (cost price walk) (omega arith) (start, walk, root, is, refl))
    | inr le ↦ le
  ]

  target_cases : (u : WireNo) (targets : List WireNo) (w : ℕ) → IsTarget (u ∷ targets) w → (u.0 ≡ w) ⊎ IsTarget targets w
  target_cases u targets w h = by_place h.0 h.1 h.2 h.3
    where
      by_place : (k : ℕ) (t : WireNo) → slice_get (u ∷ targets) k ≡ Some t → t.0 ≡ w → (u.0 ≡ w) ⊎ IsTarget targets w
      by_place zero t at is = (let same : u ≡ t = (cc) in inl (ap (λ (x : WireNo). x.0) same ∙ is))
      by_place (suc k) t at is = inr (k, t, at, is)

  label_below : (w : ℕ) → ((c : ℕ) × IsLabel edges price tree w c × (c < n)) ⊎ Far w
  label_below w = elim (least_below edges price tree positive w n) [
    | inr far ↦ inr far
    | inl l ↦ elim (cases_lt l.0 n) [
      | inl less ↦ inl (l.0, l.1, less)
      | inr le ↦ inr (λ k k_lt walk. (let ge : l.0 ≤ k = subst (λ x. l.0 ≤ x) walk.4 (l.1.1 walk.0 walk.1 walk.2 walk.3) in omega arith))
    ]
  ]

  -- the first target is taken
  take_head : (u : WireNo) (targets : List WireNo) (c : ℕ) → IsLabel edges price tree u.0 c → c < n → ((w : ℕ) → IsTarget targets w → IsLeast edges price tree w c) → Near (u ∷ targets)
  take_head u targets c is less rest = (
    u,
    c,
    record {
      place = 0;
      stands = refl;
      has = is.0;
      least = λ w target. elim (target_cases u targets w target) [ inl same ↦ subst (λ x. IsLeast edges price tree x c) same is.1 | inr there ↦ rest w there ];
      first = λ k t k_lt. absurd (omega arith);
    },
    less,
  )

  -- a later target is taken
  take_tail : (u : WireNo) (targets : List WireNo) (h : Near targets) → IsLeast edges price tree u.0 h.1 → (HasWalk edges price tree u.0 h.1 → ⊥) → Near (u ∷ targets)
  take_tail u targets h least none = (
    h.0,
    h.1,
    record {
      place = suc h.2.place;
      stands = h.2.stands;
      has = h.2.has;
      least = λ w target. elim (target_cases u targets w target) [ inl same ↦ subst (λ x. IsLeast edges price tree x h.1) same least | inr there ↦ h.2.least w there ];
      first = λ k t k_lt at. by_place k t k_lt at;
    },
    h.3,
  )
    where
      by_place : (k : ℕ) (t : WireNo) → k < suc h.2.place → slice_get (u ∷ targets) k ≡ Some t → HasWalk edges price tree t.0 h.1 → ⊥
      by_place zero t k_lt at walk = (let same : t ≡ u = (cc) in none (subst (λ (x : WireNo). HasWalk edges price tree x.0 h.1) same walk))
      by_place (suc k) t k_lt at walk = h.2.first k t (omega arith) at walk

  by_head : (u : WireNo) (targets : List WireNo) → ((c : ℕ) × IsLabel edges price tree u.0 c × (c < n)) ⊎ Far u.0 → Near targets ⊎ AllFar targets → Near (u ∷ targets) ⊎ AllFar (u ∷ targets)
  by_head u targets (inl l) (inl h) = elim (cases_lt h.1 l.0) [
    | inl less ↦ inl (take_tail u targets h
        (λ start walk root is. (let le = l.1.1 start walk root is in omega (arith, le, less)))
        (λ walk. (let le : l.0 ≤ h.1 = subst (λ x. l.0 ≤ x) walk.4 (l.1.1 walk.0 walk.1 walk.2 walk.3) in omega arith)))
    | inr le ↦ inl (take_head u targets l.0 l.1 l.2 (λ w target start walk root is. (let ge = h.2.least w target start walk root is in omega (arith, ge, le))))
  ]
  by_head u targets (inl l) (inr far) = inl (take_head u targets l.0 l.1 l.2 (λ w target. far_least w l.0 l.2 (far w target)))
  by_head u targets (inr far) (inl h) = inl (take_tail u targets h (far_least u.0 h.1 h.3 far) (λ walk. far h.1 h.3 walk))
  by_head u targets (inr far) (inr all) = inr (λ w target. elim (target_cases u targets w target) [ inl same ↦ subst Far same far | inr there ↦ all w there ])

  nearest : (targets : List WireNo) → Near targets ⊎ AllFar targets
  nearest [] = inr (λ w target. (let at = target.2 in absurd (cc)))
  nearest (u ∷ targets) = by_head u targets (label_below u.0) (nearest targets)

pub choice_there : (edges : List Edge) (price : ℕ → ℕ) (tree targets : List WireNo) (positive : (v : ℕ) → 1 ≤ price v) (w c : ℕ) → IsTarget targets w → HasWalk edges price tree w c → (path : List Edge) × IsTakenTo edges price tree targets path
choice_there edges price tree targets positive w c target walk = elim (nearest edges price tree positive (suc c) targets) [
  | inl h ↦ (let t = taken_there edges price tree positive h.0.0 h.1 h.2.has in (t.0, (h.0, h.1, h.2, t.1)))
  | inr far ↦ absurd (far w target c (omega arith) walk)
]
