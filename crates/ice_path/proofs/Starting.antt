-- The wires of the tree get the label 0.
use Rattle.std.proofs.Common.{◌≡◌, ℕ, ◌+◌, ◌<◌, Bool, false, List, Option, Some, None, length, slice_get, slice_set, sym, ap, ◌∙◌, subst, arith, inl, inr, get_or-set_same, get_or-set_other}
use Rattle.std.proofs.lemmas.Bool.{cases_eq, false≢true}
use Rattle.std.specs.List.{Contains}
use Rattle.ice_base.specs.declared.number.WireNo.{WireNo}
use Rattle.ice_path.specs.declared.queue.Queue.{Queue}
use Rattle.ice_path.specs.Queue.{Entry, IsEmpty, Listed, OnList, entry}
use Rattle.ice_path.specs.Search.{label, done, Starts, Queues}
use Rattle.ice_path.proofs.Listing.{none_at}

pub starts_none : (tree : List WireNo) (leads : ℕ → Bool) (labels : List (Option ℕ)) (settled : List Bool) → ((w : ℕ) → label labels w ≡ None) → ((w : ℕ) → done settled w ≡ false) → Starts tree leads 0 labels settled
starts_none tree leads labels settled fresh open' = record {
  rooted = λ k v lt at on. absurd (omega arith);
  made = λ w l e. (let bad : Some l ≡ None = sym e ∙ fresh w in absurd (cc));
  fresh = open';
}

-- the wire has its label already
pub starts_again : (tree : List WireNo) (leads : ℕ → Bool) (k : ℕ) (labels : List (Option ℕ)) (settled : List Bool) (wire : WireNo) (l : ℕ) → label labels wire.0 ≡ Some l → slice_get tree k ≡ Some wire → Starts tree leads k labels settled → Starts tree leads (k + 1) labels settled
starts_again tree leads k labels settled wire l is at h = record {
  rooted = λ j v lt here on. elim (cases_eq j k) [
    | inl same ↦ (
        let eq : Some v ≡ Some wire = sym here ∙ (ap (λ i. slice_get tree i) same ∙ at) in
        let v_is : v ≡ wire = (cc) in
        let t = h.made wire.0 l is in
        ap (λ (x : WireNo). label labels x.0) v_is ∙ is ∙ ap (λ n. Some n) t.1)
    | inr other ↦ h.rooted j v (grind arith) here on
  ];
  made = h.made;
  fresh = h.fresh;
}

-- the wire leads nowhere
pub starts_astray : (tree : List WireNo) (leads : ℕ → Bool) (k : ℕ) (labels : List (Option ℕ)) (settled : List Bool) (wire : WireNo) → leads wire.0 ≡ false → slice_get tree k ≡ Some wire → Starts tree leads k labels settled → Starts tree leads (k + 1) labels settled
starts_astray tree leads k labels settled wire off at h = record {
  rooted = λ j v lt here on. elim (cases_eq j k) [
    | inl same ↦ (
        let eq : Some v ≡ Some wire = sym here ∙ (ap (λ i. slice_get tree i) same ∙ at) in
        let v_is : v ≡ wire = (cc) in
        absurd (false≢true (sym off ∙ (ap (λ (x : WireNo). leads x.0) (sym v_is) ∙ on))))
    | inr other ↦ h.rooted j v (grind arith) here on
  ];
  made = h.made;
  fresh = h.fresh;
}

-- the wire gets its label
pub starts_new : (tree : List WireNo) (leads : ℕ → Bool) (k : ℕ) (labels : List (Option ℕ)) (settled : List Bool) (wire : WireNo) → wire.0 < length labels → label labels wire.0 ≡ None → slice_get tree k ≡ Some wire → Starts tree leads k labels settled
    → Starts tree leads (k + 1) (slice_set labels wire.0 (Some 0)) settled
starts_new tree leads k labels settled wire lt is at h =
    let new : List (Option ℕ) = slice_set labels wire.0 (Some 0) in
    let here : label new wire.0 ≡ Some 0 = get_or-set_same labels wire.0 (Some 0) None lt in
    record {
      rooted = λ j v j_lt v_at on. elim (cases_eq j k) [
        | inl same ↦ (
            let eq : Some v ≡ Some wire = sym v_at ∙ (ap (λ i. slice_get tree i) same ∙ at) in
            let v_is : v ≡ wire = (cc) in
            ap (λ (x : WireNo). label new x.0) v_is ∙ here)
        | inr other ↦ (
            let was = h.rooted j v (grind arith) v_at on in
            elim (cases_eq v.0 wire.0) [
              | inl same ↦ ap (label new) same ∙ here
              | inr else' ↦ get_or-set_other labels wire.0 v.0 (Some 0) None else' ∙ was
            ])
      ];
      made = λ w l e. elim (cases_eq w wire.0) [
        | inl same ↦ (let now : Some l ≡ Some 0 = sym e ∙ (ap (label new) same ∙ here) in let l_is : l ≡ 0 = (cc) in ((k, wire, at, sym same), l_is))
        | inr other ↦ h.made w l (sym (get_or-set_other labels wire.0 w (Some 0) None other) ∙ e)
      ];
      fresh = h.fresh;
    }

-- an empty queue, where no wire has a label
pub queues_none : (bound : ℕ → ℕ) (settled : List Bool) (labels : List (Option ℕ)) (queue : Queue) → IsEmpty queue → ((w : ℕ) → label labels w ≡ None) → Queues bound settled labels queue
queues_none bound settled labels queue empty fresh = record {
  waits = λ w l e open'. (let bad : Some l ≡ None = sym e ∙ fresh w in absurd (cc));
  sound = λ s w waits. elim waits [
    | inl on ↦ absurd (unlisted s w on)
    | inr has ↦ (let t = subst (λ (xs : List Entry). Contains xs (entry s w)) empty.far has in absurd (omega (arith, t.1)))
  ];
  low = λ s w lt on. absurd (unlisted s w on);
}
  where
    unlisted : (s w : ℕ) → Listed queue.heads.items queue.entries.items s w → ⊥
    unlisted s w on = none_at queue.entries.items w (subst (λ k. OnList queue.entries.items k w) (empty.near s) on)
