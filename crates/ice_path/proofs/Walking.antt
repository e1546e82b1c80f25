-- Walks with one edge more, and the edges that a test lets through.
use Rattle.std.proofs.Common.{◌≡◌, ℕ, zero, suc, ◌+◌, Bool, true, false, cond, List, [], ◌∷◌, ◌++◌, Some, slice_get, refl, sym, ◌∙◌, ap, subst, arith}
use Rattle.std.specs.List.{filter}
use Rattle.ice_graph.specs.declared.edge.Edge.{Edge}
use Rattle.ice_path.specs.Walks.{HasEdge, IsWalk, cost}

-- a walk with one edge more
pub walk_more : (edges : List Edge) (a b : ℕ) (path : List Edge) (e : Edge) → IsWalk edges a path b → HasEdge edges e → e.from.0 ≡ b → IsWalk edges a (path ++ e ∷ []) e.to.0
walk_more edges a b [] e here has leaves = (has, leaves ∙ sym here, refl)
walk_more edges a b (f ∷ path) e w has leaves = (w.0, w.1, walk_more edges f.to.0 b path e w.2 has leaves)

pub cost_more : (price : ℕ → ℕ) (path : List Edge) (e : Edge) → cost price (path ++ e ∷ []) ≡ cost price path + price e.to.0
cost_more price [] e = omega arith
cost_more price (f ∷ path) e = omega (arith, cost_more price path e)

module _ (test : Edge → Bool) (e : Edge) where
  -- an edge that passes is kept
  pub in_filter : test e ≡ true → (fs : List Edge) (k : ℕ) → slice_get fs k ≡ Some e → HasEdge (filter test fs) e
  in_filter passes [] k at = absurd (cc)
  in_filter passes (f ∷ fs) zero at =
      let same : f ≡ e = (cc) in
      let yes' : test f ≡ true = ap test same ∙ passes in
      subst (λ b. HasEdge (cond b (f ∷ filter test fs) (filter test fs)) e) (sym yes') (0, at)
  in_filter passes (f ∷ fs) (suc k) at = let rest = in_filter passes fs k at in by_head f fs (test f) rest
    where
      by_head : (f : Edge) (fs : List Edge) (b : Bool) → HasEdge (filter test fs) e → HasEdge (cond b (f ∷ filter test fs) (filter test fs)) e
      by_head f fs true rest = (suc rest.0, rest.1)
      by_head f fs false rest = rest

  kept_by : (f : Edge) (fs : List Edge) (b : Bool) → test f ≡ b → (k : ℕ) → slice_get (cond b (f ∷ filter test fs) (filter test fs)) k ≡ Some e
      → ((j : ℕ) → slice_get (filter test fs) j ≡ Some e → HasEdge fs e × (test e ≡ true)) → HasEdge (f ∷ fs) e × (test e ≡ true)
  kept_by f fs true is zero at go = (let same : f ≡ e = (cc) in ((0, at), ap test (sym same) ∙ is))
  kept_by f fs true is (suc k) at go = (let t = go k at in ((suc t.0.0, t.0.1), t.1))
  kept_by f fs false is k at go = (let t = go k at in ((suc t.0.0, t.0.1), t.1))

  -- an edge that is kept passes
  pub of_filter : (fs : List Edge) (k : ℕ) → slice_get (filter test fs) k ≡ Some e → HasEdge fs e × (test e ≡ true)
  of_filter [] k at = absurd (cc)
  of_filter (f ∷ fs) k at = kept_by f fs (test f) refl k at (λ j here. of_filter fs j here)
