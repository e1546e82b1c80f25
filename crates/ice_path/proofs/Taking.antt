-- Taken paths: what they are, that there is one, and no other.
use Rattle.std.proofs.Common.{◌≡◌, ℕ, ◌+◌, ◌≤◌, ◌<◌, List, [], ◌∷◌, ◌++◌, Some, slice_get, refl, sym, ap, ◌∙◌, subst, arith, inl, inr, ◌⊎◌}
use Rattle.std.specs.Prelude.{reverse}
use Rattle.std.proofs.lemmas.Bool.{cases_lt, cases_eq, eq-eqb, eqb-true}
use Rattle.std.proofs.lemmas.List.{reverse-reverse}
use Rattle.std.proofs.lemmas.Grind.{reverse_onto}
use Rattle.ice_base.specs.declared.number.WireNo.{WireNo}
use Rattle.ice_graph.specs.declared.edge.Edge.{Edge}
use Rattle.ice_graph.specs.Rows.{rows_into, drives}
use Rattle.ice_path.specs.Walks.{HasEdge, HasWalk, IsWalk, IsLabel, InTree, cost}
use Rattle.ice_path.specs.Paths.{IsStepBack, LeadBack, IsTaken}
use Rattle.ice_path.proofs.Walking.{walk_more, cost_more, in_filter, of_filter}

-- an edge into the wire w is one of the rows into w
pub in_rows_into : (edges : List Edge) (w : ℕ) (e : Edge) → HasEdge edges e → e.to.0 ≡ w → HasEdge (rows_into edges w) e
in_rows_into edges w e has enters = in_filter (drives w) e (eq-eqb e.to.0 w enters) edges has.0 has.1

-- each row into w is an edge into w
pub of_rows_into : (edges : List Edge) (w : ℕ) (e : Edge) → HasEdge (rows_into edges w) e → HasEdge edges e × (e.to.0 ≡ w)
of_rows_into edges w e has = let t = of_filter (drives w) e edges has.0 has.1 in (t.0, eqb-true e.to.0 w t.1)

-- a walk that isn't empty has a last edge
last_edge : (edges : List Edge) (price : ℕ → ℕ) (a b : ℕ) (f : Edge) (walk : List Edge) → IsWalk edges a (f ∷ walk) b
    → (e : Edge) × (front : List Edge) × HasEdge edges e × (e.to.0 ≡ b) × IsWalk edges a front e.from.0 × (cost price front + price b ≡ cost price (f ∷ walk))
last_edge edges price a b f [] w = (f, [], w.0, w.2, sym w.1, (let same : price f.to.0 ≡ price b = ap price w.2 in omega (arith, same)))
last_edge edges price a b f (g ∷ walk) w = let t = last_edge edges price f.to.0 b g walk w.2 in (t.0, f ∷ t.1, t.2, t.3, (w.0, w.1, t.4), omega (arith, t.5))

module _ (edges : List Edge) (price : ℕ → ℕ) (tree : List WireNo) where
  -- a wire has one label
  pub label_unique : (w c d : ℕ) → IsLabel edges price tree w c → IsLabel edges price tree w d → c ≡ d
  label_unique w c d h k =
      let a : c ≤ d = subst (λ x. c ≤ x) k.0.4 (h.1 k.0.0 k.0.1 k.0.2 k.0.3) in
      let b : d ≤ c = subst (λ x. d ≤ x) h.0.4 (k.1 h.0.0 h.0.1 h.0.2 h.0.3) in
      omega arith

  -- the label of a wire of the tree is 0
  pub tree_label : (w : ℕ) → InTree tree w → IsLabel edges price tree w 0
  tree_label w root = ((w, [], root, refl, refl), λ start walk from is. omega arith)

  -- a walk with one edge more
  pub walk_on : (w n : ℕ) (e : Edge) → HasEdge edges e → e.to.0 ≡ w → HasWalk edges price tree e.from.0 n → HasWalk edges price tree w (n + price w)
  walk_on w n e has enters h = (
    h.0,
    h.1 ++ e ∷ [],
    h.2,
    subst (λ x. IsWalk edges h.0 (h.1 ++ e ∷ []) x) enters (walk_more edges h.0 e.from.0 h.1 e h.3 has refl),
    (let same : price e.to.0 ≡ price w = ap price enters in omega (arith, cost_more price h.1 e, h.4, same)),
  )

  -- a walk to the wire is none at all, or has a last edge
  pub walk_ends : (w n : ℕ) → HasWalk edges price tree w n
      → (InTree tree w × (n ≡ 0)) ⊎ ((e : Edge) × (d : ℕ) × HasEdge (rows_into edges w) e × HasWalk edges price tree e.from.0 d × (d + price w ≡ n))
  walk_ends w n h = go h.1 h.3 h.4
    where
      go : (walk : List Edge) → IsWalk edges h.0 walk w → cost price walk ≡ n
          → (InTree tree w × (n ≡ 0)) ⊎ ((e : Edge) × (d : ℕ) × HasEdge (rows_into edges w) e × HasWalk edges price tree e.from.0 d × (d + price w ≡ n))
      go [] is makes = inl (subst (InTree tree) is h.2, sym makes)
      go (f ∷ walk) is makes = (let t = last_edge edges price h.0 w f walk is in inr (t.0, cost price t.1, in_rows_into edges w t.0 t.2 t.3, (h.0, t.1, h.2, t.4, refl), t.5 ∙ makes))

  -- where the wire has a label, a row into it whose source has a walk that makes the label has the source's label
  pub source_label : (w c d : ℕ) (e : Edge) → IsLabel edges price tree w c → HasEdge (rows_into edges w) e → HasWalk edges price tree e.from.0 d → d + price w ≡ c → IsLabel edges price tree e.from.0 d
  source_label w c d e h row walk makes = (
    walk,
    λ start front root is. (
        let into = of_rows_into edges w e row in
        let more = walk_on w (cost price front) e into.0 into.1 (start, front, root, is, refl) in
        let le = h.1 more.0 more.1 more.2 more.3 in
        omega (arith, le, more.4, makes)),
  )

  module _ (positive : (v : ℕ) → 1 ≤ price v) where
    -- a wire with the label 0 is one of the tree
    pub zero_in_tree : (w : ℕ) → HasWalk edges price tree w 0 → InTree tree w
    zero_in_tree w h = elim (walk_ends w 0 h) [
      | inl t ↦ t.0
      | inr t ↦ absurd (omega (arith, positive w, t.4))
    ]

    -- a wire with a higher label has an edge into it that makes the label
    pub step_there : (w c : ℕ) → 0 < c → IsLabel edges price tree w c
        → (e : Edge) × (d : ℕ) × HasEdge (rows_into edges w) e × IsLabel edges price tree e.from.0 d × (d + price w ≡ c)
    step_there w c more h = elim (walk_ends w c h.0) [
      | inl t ↦ absurd (omega (arith, t.1))
      | inr t ↦ (t.0, t.1, t.2, source_label w c t.1 t.0 h t.2 t.3 t.4, t.4)
    ]

  -- two steps back from a wire are one
  step_unique : (w : ℕ) (d e : Edge) → IsStepBack edges price tree w d → IsStepBack edges price tree w e → d ≡ e
  step_unique w d e h k = elim (cases_lt h.place k.place) [
    | inl less ↦ absurd (k.first h.place d less h.stands h.makes)
    | inr le ↦ elim (cases_eq h.place k.place) [
      | inl same ↦ (let both : Some d ≡ Some e = sym h.stands ∙ (ap (λ j. slice_get (rows_into edges w) j) same ∙ k.stands) in (cc))
      | inr other ↦ absurd (h.first k.place e (grind arith) k.stands k.makes)
    ]
  ]

  back_unique : (w : ℕ) (one other : List Edge) → LeadBack edges price tree w one → LeadBack edges price tree w other → one ≡ other
  back_unique w [] [] h k = refl
  back_unique w [] (e ∷ other) h k = absurd (k.0 h)
  back_unique w (d ∷ one) [] h k = absurd (h.0 k)
  back_unique w (d ∷ one) (e ∷ other) h k =
      let same : d ≡ e = step_unique w d e h.1 k.1 in
      let rest = back_unique d.from.0 one other h.2 (subst (λ (x : Edge). LeadBack edges price tree x.from.0 other) (sym same) k.2) in
      ap (λ x. x ∷ one) same ∙ ap (λ xs. e ∷ xs) rest

  pub taken_unique : (w : ℕ) (one other : List Edge) → IsTaken edges price tree w one → IsTaken edges price tree w other → one ≡ other
  taken_unique w one other h k = sym (reverse-reverse one) ∙ (ap (λ xs. reverse xs) (back_unique w (reverse one) (reverse other) h k) ∙ reverse-reverse other)

  -- edges that lead back are a cheapest walk in the other direction
  back_cheapest : (w : ℕ) (back : List Edge) → LeadBack edges price tree w back
      → ((start : ℕ) × InTree tree start × IsWalk edges start (reverse back) w) × IsLabel edges price tree w (cost price (reverse back))
  back_cheapest w [] h = ((w, h, refl), tree_label w h)
  back_cheapest w (e ∷ back) h =
      let t = back_cheapest e.from.0 back h.2 in
      let row = of_rows_into edges w e (h.1.place, h.1.stands) in
      let turned : reverse (e ∷ back) ≡ reverse back ++ e ∷ [] = reverse_onto back e [] in
      let makes = h.1.makes in
      let same = label_unique e.from.0 makes.0 (cost price (reverse back)) makes.1 t.1 in
      let sums : makes.0 + price w ≡ cost price (reverse (e ∷ back)) = (
      let target : price e.to.0 ≡ price w = ap price row.1 in
      let whole : cost price (reverse (e ∷ back)) ≡ cost price (reverse back ++ e ∷ []) = ap (cost price) turned in
      omega (arith, cost_more price (reverse back) e, same, target, whole)) in
      let walk : IsWalk edges t.0.0 (reverse back ++ e ∷ []) w = subst (λ x. IsWalk edges t.0.0 (reverse back ++ e ∷ []) x) row.1 (walk_more edges t.0.0 e.from.0 (reverse back) e t.0.2 row.0 refl) in
      ((t.0.0, t.0.1, subst (λ p. IsWalk edges t.0.0 p w) (sym turned) walk), subst (IsLabel edges price tree w) sums makes.2)

  pub taken_cheapest : (w : ℕ) (path : List Edge) → IsTaken edges price tree w path
      → ((start : ℕ) × InTree tree start × IsWalk edges start path w) × IsLabel edges price tree w (cost price path)
  taken_cheapest w path h = subst (λ p. ((start : ℕ) × InTree tree start × IsWalk edges start p w) × IsLabel edges price tree w (cost price p)) (reverse-reverse path) (back_cheapest w (reverse path) h)
