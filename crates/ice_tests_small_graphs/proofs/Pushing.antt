-- What stands in a list after a push.
use Rattle.std.proofs.Common.{◌≡◌, ◌<◌, ◌≤◌, ◌+◌, ℕ, zero, suc, List, [], ◌∷◌, ◌++◌, Some, length, slice_get, subst, sym, ap, arith, inl, inr, ◌⊎◌}
use Rattle.std.proofs.lemmas.Option.{slice_get_within}
use Rattle.ice_graph.specs.declared.edge.Edge.{Edge}
use Rattle.ice_graph.specs.Network.{RowsRise}
use Rattle.ice_tests_small_graphs.specs.Rising.{AreRising}

-- an element after a push was there before, or is the one pushed
pub pushed : {A : Type 0} (xs : List A) (x e : A) (k : ℕ) → slice_get (xs ++ x ∷ []) k ≡ Some e → (slice_get xs k ≡ Some e) ⊎ ((k ≡ length xs) × (e ≡ x))
pushed [] x e zero at = (let same : e ≡ x = (cc) in inr (omega arith, same))
pushed [] x e (suc k) at = absurd (cc)
pushed (y ∷ xs) x e zero at = inl at
pushed (y ∷ xs) x e (suc k) at = elim (pushed xs x e k at) [
  | inl before ↦ inl before
  | inr t ↦ inr (omega (arith, t.0), t.1)
]

-- what each element is, each is after the push of one that is it
each_pushed : {A : Type 0} (P : A → Type 0) (xs : List A) (x : A) → ((k : ℕ) (e : A) → slice_get xs k ≡ Some e → P e) → P x → (k : ℕ) (e : A) → slice_get (xs ++ x ∷ []) k ≡ Some e → P e
each_pushed P xs x all one k e at = elim (pushed xs x e k at) [
  | inl before ↦ all k e before
  | inr t ↦ subst P (sym t.1) one
]

rise_pushed : (n least : ℕ) (edges : List Edge) (edge : Edge) → AreRising n least edges → least ≤ edge.row.0 → RowsRise (edges ++ edge ∷ [])
rise_pushed n least edges edge i above = λ j k d e lt at bt. elim (pushed edges edge d j at) [
  | inl early ↦ elim (pushed edges edge e k bt) [
    | inl before ↦ i.rise j k d e lt early before
    | inr t ↦ (let row : e.row.0 ≡ edge.row.0 = ap (λ (x : Edge). x.row.0) t.1 in omega (arith, row, i.below j d early, above))
  ]
  | inr t ↦ elim (pushed edges edge e k bt) [
    | inl before ↦ absurd (omega (arith, lt, t.0, slice_get_within edges k e before))
    | inr s ↦ absurd (omega (arith, lt, t.0, s.0))
  ]
]

-- one edge further
pub rising_pushed : (n least : ℕ) (edges new : List Edge) (edge : Edge) → AreRising n least edges → least ≤ edge.row.0 → (edge.from.0 < n) × (edge.to.0 < n) → new ≡ edges ++ edge ∷ []
    → AreRising n (edge.row.0 + 1) new
rising_pushed n least edges new edge i above within is = subst (AreRising n (edge.row.0 + 1)) (sym is) (record {
  between = each_pushed (λ (e : Edge). (e.from.0 < n) × (e.to.0 < n)) edges edge i.between within;
  rise = rise_pushed n least edges edge i above;
  below = each_pushed (λ (e : Edge). e.row.0 < edge.row.0 + 1) edges edge
      (λ k e at. (let early = i.below k e at in let late : e.row.0 < edge.row.0 + 1 = omega (arith, early, above) in late))
      (let own : edge.row.0 < edge.row.0 + 1 = omega arith in own);
})

-- no edges
pub rising_none : (n least : ℕ) → AreRising n least []
rising_none n least = record { between = λ k e at. absurd (cc); rise = λ j k d e lt at bt. absurd (cc); below = λ k e at. absurd (cc) }
