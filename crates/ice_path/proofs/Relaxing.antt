-- Labels that are lowered.
use Rattle.std.proofs.Common.{◌≡◌, ◌≢◌, ℕ, ◌+◌, ◌≤◌, ◌<◌, Bool, true, false, List, [], ◌∷◌, zero, suc, Option, Some, None, length, slice_get, slice_set, refl, sym, ap, ◌∙◌, subst, arith, inl, inr, ◌⊎◌, get_or-set_same, get_or-set_other}
use Rattle.std.proofs.lemmas.Bool.{cases_eq, false≢true}
use Rattle.ice_graph.specs.declared.edge.Edge.{Edge}
use Rattle.ice_path.specs.Search.{label, done, AtMost, Lowers, Relaxes}

-- a wire with a label is within the labels
pub label_within : (labels : List (Option ℕ)) (w l : ℕ) → label labels w ≡ Some l → w < length labels
label_within [] w l e = absurd (cc)
label_within (x ∷ labels) zero l e = omega arith
label_within (x ∷ labels) (suc w) l e = omega (arith, label_within labels w l e)

pub lowers_new : (labels : List (Option ℕ)) (w d : ℕ) → label labels w ≡ None → Lowers labels (slice_set labels w (Some d)) w d
lowers_new labels w d none = inl (refl, λ l e. let bad : Some l ≡ None = sym e ∙ none in absurd (cc))

pub lowers_less : (labels : List (Option ℕ)) (w d l : ℕ) → label labels w ≡ Some l → d < l → Lowers labels (slice_set labels w (Some d)) w d
lowers_less labels w d l here less = inl (refl, λ k e. let same : Some k ≡ Some l = sym e ∙ here in let eq : k ≡ l = (cc) in omega arith)

pub lowers_not : (labels : List (Option ℕ)) (w d l : ℕ) → label labels w ≡ Some l → l ≤ d → Lowers labels labels w d
lowers_not labels w d l here le = inr (refl, (l, here, le))

-- what one lowering leaves: the label of w is at most d, and each other label is as before
pub lowered_at : (ls new : List (Option ℕ)) (w d : ℕ) → w < length ls → Lowers ls new w d → AtMost new w d
lowered_at ls new w d lt (inl t) = (d, ap (λ xs. label xs w) t.0 ∙ get_or-set_same ls w (Some d) None lt, omega arith)
lowered_at ls new w d lt (inr t) = subst (λ xs. AtMost xs w d) (sym t.0) t.1

pub lowered_else : (ls new : List (Option ℕ)) (w d x : ℕ) → x ≢ w → Lowers ls new w d → label new x ≡ label ls x
lowered_else ls new w d x other (inl t) = ap (λ xs. label xs x) t.0 ∙ get_or-set_other ls w x (Some d) None other
lowered_else ls new w d x other (inr t) = ap (λ xs. label xs x) t.0

-- no label rises
pub lowered_all : (ls new : List (Option ℕ)) (w d x l : ℕ) → w < length ls → Lowers ls new w d → label ls x ≡ Some l → AtMost new x l
lowered_all ls new w d x l lt (inl t) e = elim (cases_eq x w) [
  | inl same ↦ (d, ap (label new) same ∙ (ap (λ xs. label xs w) t.0 ∙ get_or-set_same ls w (Some d) None lt), (let less = t.1 l (ap (label ls) (sym same) ∙ e) in omega arith))
  | inr other ↦ (l, lowered_else ls new w d x other (inl t) ∙ e, omega arith)
]
lowered_all ls new w d x l lt (inr t) e = (l, ap (λ xs. label xs x) t.0 ∙ e, omega arith)

pub lowered_made : (ls new : List (Option ℕ)) (w d x l : ℕ) → w < length ls → Lowers ls new w d → label new x ≡ Some l → (label ls x ≡ Some l) ⊎ ((x ≡ w) × (l ≡ d))
lowered_made ls new w d x l lt (inl t) e = elim (cases_eq x w) [
  | inl same ↦ (let now : label new x ≡ Some d = ap (label new) same ∙ (ap (λ xs. label xs w) t.0 ∙ get_or-set_same ls w (Some d) None lt) in let eq : Some l ≡ Some d = sym e ∙ now in let is : l ≡ d = (cc) in inr (same, is))
  | inr other ↦ inl (sym (lowered_else ls new w d x other (inl t)) ∙ e)
]
lowered_made ls new w d x l lt (inr t) e = inl (sym (ap (λ xs. label xs x) t.0) ∙ e)

module _ (rows : List Edge) (price : ℕ → ℕ) (leads : ℕ → Bool) (settled : List Bool) (c : ℕ) (old : List (Option ℕ)) where
  abbrev Far : ℕ → List (Option ℕ) → Type 0
  Far n new = Relaxes rows price leads settled c n old new

  -- an edge to a settled wire
  pub relax_skip : (n : ℕ) (e : Edge) (new : List (Option ℕ)) → slice_get rows n ≡ Some e → done settled e.to.0 ≡ true → Far n new → Far (n + 1) new
  relax_skip n e new here shut h = record {
    lower = h.lower;
    fixed = h.fixed;
    reached = λ k f lt at on open'. elim (cases_eq k n) [
      | inl same ↦ (let eq : Some f ≡ Some e = sym at ∙ (ap (λ i. slice_get rows i) same ∙ here) in let is : f ≡ e = (cc) in
          absurd (false≢true (sym open' ∙ (ap (λ (g : Edge). done settled g.to.0) is ∙ shut))))
      | inr other ↦ h.reached k f (grind arith) at on open'
    ];
    made = h.made;
  }

  -- an edge to a wire that leads nowhere
  pub relax_astray : (n : ℕ) (e : Edge) (new : List (Option ℕ)) → slice_get rows n ≡ Some e → leads e.to.0 ≡ false → Far n new → Far (n + 1) new
  relax_astray n e new here off h = record {
    lower = h.lower;
    fixed = h.fixed;
    reached = λ k f lt at on open'. elim (cases_eq k n) [
      | inl same ↦ (let eq : Some f ≡ Some e = sym at ∙ (ap (λ i. slice_get rows i) same ∙ here) in let is : f ≡ e = (cc) in
          absurd (false≢true (sym off ∙ (ap (λ (g : Edge). leads g.to.0) (sym is) ∙ on))))
      | inr other ↦ h.reached k f (grind arith) at on open'
    ];
    made = h.made;
  }

  -- an edge that lowers a label
  pub relax_step : (n : ℕ) (e : Edge) (mid new : List (Option ℕ)) → slice_get rows n ≡ Some e → done settled e.to.0 ≡ false → e.to.0 < length mid
      → Lowers mid new e.to.0 (c + price e.to.0) → Far n mid → Far (n + 1) new
  relax_step n e mid new here open' lt low h =
      let t : ℕ = e.to.0 in
      let d : ℕ = c + price t in record {
        lower = λ w l at. (let a = h.lower w l at in let s = lowered_all mid new t d w a.0 lt low a.1 in (s.0, s.1, omega (arith, s.2, a.2)));
        fixed = λ w shut. lowered_else mid new t d w (λ same. false≢true (sym open' ∙ (ap (done settled) (sym same) ∙ shut))) low ∙ h.fixed w shut;
        reached = λ k f less at on open''. elim (cases_eq k n) [
          | inl same ↦ (let eq : Some f ≡ Some e = sym at ∙ (ap (λ i. slice_get rows i) same ∙ here) in let is : f ≡ e = (cc) in
              subst (λ (g : Edge). AtMost new g.to.0 (c + price g.to.0)) (sym is) (lowered_at mid new t d lt low))
          | inr other ↦ (let a = h.reached k f (grind arith) at on open'' in let s = lowered_all mid new t d f.to.0 a.0 lt low a.1 in (s.0, s.1, omega (arith, s.2, a.2)))
        ];
        made = λ w l at. elim (lowered_made mid new t d w l lt low at) [
          | inl before ↦ h.made w l before
          | inr a ↦ inr (e, (n, here), sym a.0, a.1 ∙ ap (λ x. c + price x) (sym a.0))
        ];
      }

  -- an edge to a wire with a label that is no more than that of the wire from which it leads
  pub relax_reached : (n : ℕ) (e : Edge) (new : List (Option ℕ)) → slice_get rows n ≡ Some e → done settled e.to.0 ≡ false → e.to.0 < length new
      → AtMost new e.to.0 c → Far n new → Far (n + 1) new
  relax_reached n e new here open' lt most h = relax_step n e new new here open' lt (inr (refl, (most.0, most.1, omega (arith, most.2)))) h

pub relax_none : (rows : List Edge) (price : ℕ → ℕ) (leads : ℕ → Bool) (settled : List Bool) (c : ℕ) (labels : List (Option ℕ)) → Relaxes rows price leads settled c 0 labels labels
relax_none rows price leads settled c labels = record {
  lower = λ w l e. (l, e, omega arith);
  fixed = λ w shut. refl;
  reached = λ k e lt at on open'. absurd (omega arith);
  made = λ w l e. inl e;
}
