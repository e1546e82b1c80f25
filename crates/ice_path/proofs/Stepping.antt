-- Steps back by labels that are exact.
use Rattle.std.proofs.Common.{◌≡◌, ℕ, zero, suc, ◌+◌, ◌-◌, ◌≤◌, ◌<◌, Bool, false, cond, List, [], ◌∷◌, ◌++◌, Option, Some, None, length, count_by, slice_get, sym, ap, ◌∙◌, subst, arith, inl, inr, append_assoc}
use Rattle.std.specs.Prelude.{nat_lt, reverse}
use Rattle.std.proofs.lemmas.Bool.{cases_lt, lt-ltb, le-ltb}
use Rattle.std.proofs.lemmas.List.{reverse-reverse, append-nil}
use Rattle.std.proofs.lemmas.List.Sums.{sum_by-cons, count_by-le-length}
use Rattle.ice_base.specs.declared.number.WireNo.{WireNo}
use Rattle.ice_graph.specs.declared.edge.Edge.{Edge}
use Rattle.ice_graph.specs.Rows.{rows_into}
use Rattle.ice_graph.specs.Network.{AreBetween}
use Rattle.ice_path.specs.Walks.{HasEdge, IsLabel, InTree}
use Rattle.ice_path.specs.Paths.{MakesLabel, IsStepBack, LeadBack, IsTaken}
use Rattle.ice_path.specs.Search.{label, AreExactBehind, IsFirstFrom}
use Rattle.ice_path.proofs.Taking.{label_unique, tree_label, zero_in_tree, source_label, step_there, of_rows_into}

-- the rows into a wire come from wires of the graph
pub rows_of : (edges : List Edge) (n w k : ℕ) (e : Edge) → AreBetween n edges → slice_get (rows_into edges w) k ≡ Some e → e.from.0 < n
rows_of edges n w k e between at = let t = of_rows_into edges w e (k, at) in (between t.0.0 e t.0.1).0

-- whether the label is below c
abbrev pub is_below : ℕ → Option ℕ → Bool
is_below c None = false
is_below c (Some l) = nat_lt l c

weight_less : (c d : ℕ) → d ≤ c → (o : Option ℕ) → cond (is_below d o) 1 0 ≤ cond (is_below c o) 1 0
weight_less c d le None = omega arith
weight_less c d le (Some l) = elim (cases_lt l d) [
  | inl less ↦ (
      let low : cond (is_below d (Some l)) 1 0 ≡ suc zero = ap (λ b. cond b 1 0) (lt-ltb l d less) in
      let high : cond (is_below c (Some l)) 1 0 ≡ suc zero = ap (λ b. cond b 1 0) (lt-ltb l c (omega arith)) in
      omega (arith, low, high))
  | inr more ↦ (let low : cond (is_below d (Some l)) 1 0 ≡ zero = ap (λ b. cond b 1 0) (le-ltb l d more) in omega (arith, low))
]

below_less : (c d : ℕ) → d ≤ c → (labels : List (Option ℕ)) → count_by (is_below d) labels ≤ count_by (is_below c) labels
below_less c d le [] = omega arith
below_less c d le (o ∷ labels) =
    let a = sum_by-cons (λ b. cond (is_below c b) 1 0) o labels in
    let b = sum_by-cons (λ b. cond (is_below d b) 1 0) o labels in
    omega (arith, a, b, weight_less c d le o, below_less c d le labels)

-- where a wire has the label d, fewer wires have a label below d than below c
pub fewer_below : (c d : ℕ) → d < c → (labels : List (Option ℕ)) (w : ℕ) → label labels w ≡ Some d → count_by (is_below d) labels + 1 ≤ count_by (is_below c) labels
fewer_below c d lt [] w at = absurd (cc)
fewer_below c d lt (o ∷ labels) zero at =
    let a = sum_by-cons (λ b. cond (is_below c b) 1 0) o labels in
    let b = sum_by-cons (λ b. cond (is_below d b) 1 0) o labels in
    let rest = below_less c d (omega arith) labels in
    let high : cond (is_below c o) 1 0 ≡ suc zero = ap (λ x. cond (is_below c x) 1 0) at ∙ ap (λ b. cond b 1 0) (lt-ltb d c lt) in
    let low : cond (is_below d o) 1 0 ≡ zero = ap (λ x. cond (is_below d x) 1 0) at ∙ ap (λ b. cond b 1 0) (le-ltb d d (omega arith)) in
    omega (arith, a, b, rest, high, low)
fewer_below c d lt (o ∷ labels) (suc w) at =
    let a = sum_by-cons (λ b. cond (is_below c b) 1 0) o labels in
    let b = sum_by-cons (λ b. cond (is_below d b) 1 0) o labels in
    omega (arith, a, b, weight_less c d (omega arith) o, fewer_below c d lt labels w at)

pub below_all : (c : ℕ) (labels : List (Option ℕ)) → count_by (is_below c) labels ≤ length labels
below_all c labels = count_by-le-length (is_below c) labels

module _ (edges : List Edge) (price : ℕ → ℕ) (tree : List WireNo) (positive : (v : ℕ) → 1 ≤ price v) (w c : ℕ) (more : 0 < c) (is : IsLabel edges price tree w c) where
  -- a wire of a label that isn't 0 is none of the tree
  pub off_tree : InTree tree w → ⊥
  off_tree root = let e = label_unique edges price tree w 0 c (tree_label edges price tree w root) is in omega (arith, e)

  -- its label is no less than its price
  pub price_within : price w ≤ c
  price_within = let t = step_there edges price tree positive w c more is in omega (arith, t.4)

  module _ (labels : List (Option ℕ)) (h : AreExactBehind edges price tree labels w c) where
    -- the source of a row into the wire is near where it makes the label
    near_source : (d : Edge) (l : ℕ) → HasEdge (rows_into edges w) d → l + price w ≡ c → l + h.bound d.from.0 ≤ h.most
    near_source d l row makes =
        let into = of_rows_into edges w d row in
        let step = h.falls d into.0 in
        let paid : price d.to.0 ≡ price w = ap price into.1 in
        let to : h.bound d.to.0 ≡ h.bound w = ap h.bound into.1 in
        let near = h.near in
        omega (arith, step, paid, to, near, makes)

    labelled : (d : Edge) → HasEdge (rows_into edges w) d → MakesLabel edges price tree w d → label labels d.from.0 ≡ Some (c - price w)
    labelled d row makes =
        let sums = label_unique edges price tree w (makes.0 + price w) c makes.2 is in
        let same : makes.0 ≡ c - price w = omega (arith, sums) in
        h.exact.there d.from.0 makes.0 makes.1 (near_source d makes.0 row sums) ∙ ap (λ k. Some k) same

    -- some row has a source of the label that is left
    pub row_there : IsFirstFrom labels (c - price w) (rows_into edges w) None → ⊥
    row_there none =
        let t = step_there edges price tree positive w c more is in
        none t.2.0 t.0 t.2.1 (labelled t.0 t.2 (t.1, t.3, subst (IsLabel edges price tree w) (sym t.4) is))

    pub source_is : (e : Edge) → IsFirstFrom labels (c - price w) (rows_into edges w) (Some e) → IsLabel edges price tree e.from.0 (c - price w)
    source_is e t = source_label edges price tree w c (c - price w) e is (t.0, t.1) (h.exact.attained e.from.0 (c - price w) t.2) (omega (arith, price_within))

    -- the labels are exact behind the source, too
    pub exact_behind : (e : Edge) → IsFirstFrom labels (c - price w) (rows_into edges w) (Some e) → AreExactBehind edges price tree labels e.from.0 (c - price w)
    exact_behind e t = record { bound = h.bound; most = h.most; falls = h.falls; exact = h.exact; near = near_source e (c - price w) (t.0, t.1) (omega (arith, price_within)) }

    -- the first such row is the step back
    pub first_is_step : (e : Edge) → IsFirstFrom labels (c - price w) (rows_into edges w) (Some e) → IsStepBack edges price tree w e
    first_is_step e t =
        let sums : c ≡ c - price w + price w = omega (arith, price_within) in
        record {
          place = t.0;
          stands = t.1;
          makes = (c - price w, source_is e t, subst (IsLabel edges price tree w) sums is);
          first = λ k d lt at makes. t.3 k d lt at (labelled d (k, at) makes);
        }

-- edges that lead back, with those behind them
pub record Goes (edges : List Edge) (price : ℕ → ℕ) (tree : List WireNo) (target w : ℕ) (path : List Edge) : Type 0 where
  pub on : (back : List Edge) → LeadBack edges price tree w back → LeadBack edges price tree target (path ++ back)

pub goes_none : (edges : List Edge) (price : ℕ → ℕ) (tree : List WireNo) (target : ℕ) (path : List Edge) → path ≡ [] → Goes edges price tree target target path
goes_none edges price tree target path empty = record { on = λ back h. subst (λ p. LeadBack edges price tree target (p ++ back)) (sym empty) h }

pub goes_on : (edges : List Edge) (price : ℕ → ℕ) (tree : List WireNo) (target w : ℕ) (path : List Edge) (e : Edge) → (InTree tree w → ⊥) → IsStepBack edges price tree w e
    → Goes edges price tree target w path → Goes edges price tree target e.from.0 (path ++ e ∷ [])
goes_on edges price tree target w path e off step h = record {
  on = λ back lead. subst (LeadBack edges price tree target) (sym (append_assoc path (e ∷ []) back)) (h.on (e ∷ back) (off, step, lead));
}

pub goes_home : (edges : List Edge) (price : ℕ → ℕ) (tree : List WireNo) (target w : ℕ) (path : List Edge) → ((v : ℕ) → 1 ≤ price v) → IsLabel edges price tree w 0
    → Goes edges price tree target w path → IsTaken edges price tree target (reverse path)
goes_home edges price tree target w path positive is h =
    let all = h.on [] (zero_in_tree edges price tree positive w is.0) in
    subst (LeadBack edges price tree target) (sym (reverse-reverse path)) (subst (LeadBack edges price tree target) (append-nil path) all)
