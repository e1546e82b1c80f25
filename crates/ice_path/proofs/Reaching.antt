-- There is a taken path wherever a walk leads: whether a walk of this cost leads to a wire is decided by going back from it.
use Rattle.std.proofs.Common.{◌≡◌, ℕ, zero, suc, ◌+◌, ◌-◌, ◌≤◌, ◌<◌, List, [], ◌∷◌, Some, slice_get, refl, sym, ap, ◌∙◌, subst, arith, inl, inr, ◌⊎◌}
use Rattle.std.specs.Prelude.{reverse}
use Rattle.std.proofs.lemmas.Bool.{cases_lt, cases_eq}
use Rattle.std.proofs.lemmas.List.{reverse-reverse}
use Rattle.ice_base.specs.declared.number.WireNo.{WireNo}
use Rattle.ice_graph.specs.declared.edge.Edge.{Edge}
use Rattle.ice_graph.specs.Rows.{rows_into}
use Rattle.ice_path.specs.Walks.{HasEdge, HasWalk, IsLabel, InTree, cost}
use Rattle.ice_path.specs.Paths.{IsStepBack, LeadBack, IsTaken}
use Rattle.ice_path.proofs.Taking.{label_unique, tree_label, walk_on, walk_ends, source_label, zero_in_tree, step_there, of_rows_into}

abbrev Decided : Type 0 → Type 0
Decided A = A ⊎ (A → ⊥)

tree_decided : (tree : List WireNo) (w : ℕ) → Decided (InTree tree w)
tree_decided [] w = inr (λ t. (let at = t.2 in absurd (cc)))
tree_decided (v ∷ tree) w = elim (cases_eq v.0 w) [
  | inl same ↦ inl (0, v, refl, same)
  | inr other ↦ by_tail other (tree_decided tree w)
]
  where
    by_head : (k : ℕ) (x : WireNo) → slice_get (v ∷ tree) k ≡ Some x → x.0 ≡ w → (v.0 ≡ w) ⊎ InTree tree w
    by_head zero x at is = (let same : v ≡ x = (cc) in inl (ap (λ (y : WireNo). y.0) same ∙ is))
    by_head (suc k) x at is = inr (k, x, at, is)

    by_tail : (v.0 ≡ w → ⊥) → Decided (InTree tree w) → Decided (InTree (v ∷ tree) w)
    by_tail other (inl t) = inl (suc t.0, t.1, t.2, t.3)
    by_tail other (inr none) = inr (λ t. elim (by_head t.0 t.1 t.2 t.3) [
      | inl same ↦ other same
      | inr there ↦ none there
    ])

-- the first of the edges of which this holds
abbrev First : (Edge → Type 0) → List Edge → Type 0
First D fs = (k : ℕ) × (e : Edge) × (slice_get fs k ≡ Some e) × D e × ((j : ℕ) (d : Edge) → j < k → slice_get fs j ≡ Some d → D d → ⊥)

first_decided : (D : Edge → Type 0) → ((e : Edge) → Decided (D e)) → (fs : List Edge) → First D fs ⊎ ((e : Edge) → HasEdge fs e → D e → ⊥)
first_decided D decide [] = inr (λ e has is. (let at = has.1 in absurd (cc)))
first_decided D decide (f ∷ fs) = by_head (decide f) (first_decided D decide fs)
  where
    none_at : (D f → ⊥) → ((j : ℕ) (d : Edge) → slice_get fs j ≡ Some d → D d → ⊥) → (j : ℕ) (d : Edge) → slice_get (f ∷ fs) j ≡ Some d → D d → ⊥
    none_at not' rest zero d at is = (let same : d ≡ f = (cc) in not' (subst D same is))
    none_at not' rest (suc j) d at is = rest j d at is

    before : (k : ℕ) → (D f → ⊥) → ((j : ℕ) (d : Edge) → j < k → slice_get fs j ≡ Some d → D d → ⊥) → (j : ℕ) (d : Edge) → j < suc k → slice_get (f ∷ fs) j ≡ Some d → D d → ⊥
    before k not' rest zero d lt at is = (let same : d ≡ f = (cc) in not' (subst D same is))
    before k not' rest (suc j) d lt at is = rest j d (omega arith) at is

    by_head : Decided (D f) → First D fs ⊎ ((e : Edge) → HasEdge fs e → D e → ⊥) → First D (f ∷ fs) ⊎ ((e : Edge) → HasEdge (f ∷ fs) e → D e → ⊥)
    by_head (inl yes') rest = inl (0, f, refl, yes', λ j d lt. absurd (omega arith))
    by_head (inr not') (inl t) = inl (suc t.0, t.1, t.2, t.3, before t.0 not' t.4)
    by_head (inr not') (inr none) = inr (λ e has is. none_at not' (λ j d at. none d (j, at)) has.0 e has.1 is)

module _ (edges : List Edge) (price : ℕ → ℕ) (tree : List WireNo) (positive : (v : ℕ) → 1 ≤ price v) where
  abbrev Leads : ℕ → ℕ → Type 0
  Leads w n = HasWalk edges price tree w n

  -- whether a walk of the cost n leads to the wire, from whether one of a lower cost leads to a wire
  decided_by : (w n : ℕ) → ((v k : ℕ) → k < n → Decided (Leads v k)) → Decided (Leads w n)
  decided_by w zero below = elim (tree_decided tree w) [
    | inl root ↦ inl (w, [], root, refl, refl)
    | inr none ↦ inr (λ walk. none (zero_in_tree edges price tree positive w walk))
  ]
  decided_by w (suc n) below = elim (cases_lt (suc n) (price w)) [
    | inl less ↦ inr (λ walk. elim (walk_ends edges price tree w (suc n) walk) [
      | inl t ↦ omega (arith, t.1)
      | inr t ↦ omega (arith, t.4)
    ])
    | inr le ↦ elim (first_decided (λ (e : Edge). Leads e.from.0 (suc n - price w)) (λ (e : Edge). below e.from.0 (suc n - price w) (omega (arith, positive w))) (rows_into edges w)) [
      | inl t ↦ (let into = of_rows_into edges w t.1 (t.0, t.2) in
          let sums : suc n - price w + price w ≡ suc n = omega arith in
          inl (subst (Leads w) sums (walk_on edges price tree w (suc n - price w) t.1 into.0 into.1 t.3)))
      | inr none ↦ inr (λ walk. elim (walk_ends edges price tree w (suc n) walk) [
        | inl t ↦ omega (arith, t.1)
        | inr t ↦ (let same : t.1 ≡ suc n - price w = omega (arith, t.4) in none t.0 t.2 (subst (Leads t.0.from.0) same t.3))
      ])
    ]
  ]

  decided_below : (m w n : ℕ) → n < m → Decided (Leads w n)
  decided_below zero w n lt = absurd (omega arith)
  decided_below (suc m) w n lt = decided_by w n (λ v k less. decided_below m v k (omega arith))

  decided : (w n : ℕ) → Decided (Leads w n)
  decided w n = decided_below (suc n) w n (omega arith)

  -- a wire to which a walk of a cost below n leads has a label
  pub least_below : (w n : ℕ) → ((c : ℕ) × IsLabel edges price tree w c) ⊎ ((k : ℕ) → k < n → Leads w k → ⊥)
  least_below w zero = inr (λ k lt walk. omega arith)
  least_below w (suc n) = by_last (least_below w n) (decided w n)
    where
      by_last : ((c : ℕ) × IsLabel edges price tree w c) ⊎ ((k : ℕ) → k < n → Leads w k → ⊥) → Decided (Leads w n) → ((c : ℕ) × IsLabel edges price tree w c) ⊎ ((k : ℕ) → k < suc n → Leads w k → ⊥)
      by_last (inl t) d = inl t
      by_last (inr none) (inl walk) = inl (
        n,
        (
          walk,
          λ start front root is. elim (cases_lt (cost price front) n) [
            | inl less ↦ absurd (none (cost price front) less (start, front, root, is, refl))
            | inr le ↦ le
          ],
        ),
      )
      by_last (inr none) (inr not') = inr (λ k lt walk. elim (cases_eq k n) [
        | inl same ↦ not' (subst (Leads w) same walk)
        | inr other ↦ none k (grind arith) walk
      ])

  label_there : (w n : ℕ) → Leads w n → (c : ℕ) × IsLabel edges price tree w c
  label_there w n walk = elim (least_below w (suc n)) [
    | inl t ↦ t
    | inr none ↦ absurd (none n (omega arith) walk)
  ]

  -- the step back from a wire of a label that isn't 0
  first_step : (w c : ℕ) → 0 < c → IsLabel edges price tree w c → (e : Edge) × (d : ℕ) × IsStepBack edges price tree w e × IsLabel edges price tree e.from.0 d × (d < c)
  first_step w c more h =
      let there = step_there edges price tree positive w c more h in
      elim (first_decided (λ (e : Edge). Leads e.from.0 there.1) (λ (e : Edge). decided e.from.0 there.1) (rows_into edges w)) [
        | inl t ↦ (
            let source = source_label edges price tree w c there.1 t.1 h (t.0, t.2) t.3 there.4 in (
              t.1,
              there.1,
              record {
                place = t.0;
                stands = t.2;
                makes = (there.1, source, subst (IsLabel edges price tree w) (sym there.4) h);
                first = λ k d lt at makes. (
                    let sums = label_unique edges price tree w (makes.0 + price w) c makes.2 h in
                    let same : makes.0 ≡ there.1 = omega (arith, sums, there.4) in
                    t.4 k d lt at (subst (Leads d.from.0) same makes.1.0));
              },
              source,
              omega (arith, there.4, positive w),
            ))
        | inr none ↦ absurd (none there.0 there.2 there.3.0)
      ]

  back_by : (w c : ℕ) → IsLabel edges price tree w c → ((v d : ℕ) → d < c → IsLabel edges price tree v d → (back : List Edge) × LeadBack edges price tree v back) → (back : List Edge) × LeadBack edges price tree w back
  back_by w zero h below = ([], zero_in_tree edges price tree positive w h.0)
  back_by w (suc c) h below =
      let t = first_step w (suc c) (omega arith) h in
      let rest = below t.0.from.0 t.1 t.4 t.3 in
      (t.0 ∷ rest.0, ((λ root. (let e = label_unique edges price tree w 0 (suc c) (tree_label edges price tree w root) h in omega (arith, e))), t.2, rest.1))

  back_there : (m w c : ℕ) → c < m → IsLabel edges price tree w c → (back : List Edge) × LeadBack edges price tree w back
  back_there zero w c lt h = absurd (omega arith)
  back_there (suc m) w c lt h = back_by w c h (λ v d less is. back_there m v d (omega arith) is)

  pub taken_there : (w n : ℕ) → Leads w n → (path : List Edge) × IsTaken edges price tree w path
  taken_there w n walk =
      let t = label_there w n walk in
      let back = back_there (suc t.0) w t.0 (omega arith) t.1 in
      (reverse back.0, subst (LeadBack edges price tree w) (sym (reverse-reverse back.0)) back.1)
