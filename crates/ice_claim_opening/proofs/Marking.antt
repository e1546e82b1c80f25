-- Nets that lost a wire are marked one by one.
use Rattle.std.proofs.Common.{◌≡◌, ◌≢◌, ℕ, zero, suc, ◌+◌, ◌≤◌, ◌<◌, ◌⊎◌, List, [], ◌∷◌, ◌++◌, Some, None, Option, IfNone, IfSome, get_or, length, length-set, set, slice_get, slice_index_or, take, refl, sym, ap, subst, arith, inl, inr, ◌∙◌}
use Rattle.std.proofs.lemmas.List.{take_more}
use Rattle.std.proofs.lemmas.Option.{same_Some, slice_get_within}
use Rattle.std.specs.List.{sum_by, AllByRecursion}
use Rattle.std.proofs.lemmas.List.Sums.{sum_by-cons}
use Rattle.ice_base.specs.declared.number.WireNo.{WireNo}
use Rattle.ice_core.proofs.Sums.{is_at, at_itself, below_of}
use Rattle.ice_negotiate_defs.specs.declared.kept.Kept.{Kept}
use Rattle.ice_negotiate_defs.specs.declared.kept.Kept.TheVariants.{Lost}
use Rattle.ice_claim_opening.specs.declared.notes.Note.{Note}
use Rattle.ice_claim_opening.specs.Notes.{AreAllNotes}
use Rattle.ice_claim_opening.specs.Marks.{IsNotedLost, AreMarked}
use Rattle.ice_claim_opening.proofs.Noting.{last_or_before, not_some, still_there}
use Rattle.ice_negotiate_defs.proofs.Listing.{last_get}

pub marked_none : (kept : List Kept) → AreMarked kept [] kept
marked_none kept = record { long = refl; each = λ n one at. inl (at, λ wire lost. nothing wire lost) }
  where
    nothing : {n : ℕ} (wire : WireNo) → IsNotedLost [] n wire → ⊥
    nothing wire lost = absurd (let lt = slice_get_within [] lost.place lost.note lost.at in omega (arith, lt))

-- what a longer list of notes says of a net
lost_still : (notes : List Note) (last : Note) (n : ℕ) (wire : WireNo) → IsNotedLost notes n wire → IsNotedLost (notes ++ last ∷ []) n wire
lost_still notes last n wire lost = record { place = lost.place; note = lost.note; at = still_there notes last lost.note lost.place lost.at; of = lost.of; lost = lost.lost }

lost_before : (notes : List Note) (last : Note) (n : ℕ) (wire : WireNo) → ((last.net ≡ n) → (last.lost ≡ Some wire) → ⊥) → IsNotedLost (notes ++ last ∷ []) n wire → IsNotedLost notes n wire
lost_before notes last n wire other lost = elim (last_or_before notes last lost.note lost.place lost.at) [
  | inl here ↦ record { place = lost.place; note = lost.note; at = here; of = lost.of; lost = lost.lost }
  | inr end ↦ absurd (other (ap (λ (x : Note). x.net) end.1 ∙ lost.of) (ap (λ (x : Note). x.lost) end.1 ∙ lost.lost))
]

pub marked_kept : (before kept : List Kept) (notes : List Note) (last : Note) → AreMarked before notes kept → last.lost ≡ None → AreMarked before (notes ++ last ∷ []) kept
marked_kept before kept notes last h none = record {
  long = h.long;
  each = λ n one at. elim (h.each n one at) [
    | inl still ↦ inl (still.0, λ wire lost. still.1 wire (lost_before notes last n wire (λ of is. absurd (clash wire is)) lost))
    | inr gone ↦ inr (gone.0, lost_still notes last n gone.0 gone.1, gone.2)
  ];
}
  where
    clash : (wire : WireNo) → last.lost ≡ Some wire → ⊥
    clash wire is = absurd (not_some wire (sym none ∙ is))

get_set : (xs : List Kept) (i n : ℕ) (a b : Kept) → slice_get (set xs i a) n ≡ Some b → ((n ≡ i) × (a ≡ b)) ⊎ ((n ≢ i) × (slice_get xs n ≡ Some b))
get_set [] i n a b at = absurd (cc)
get_set (x ∷ xs) zero zero a b at = inl (refl, same_Some a b at)
get_set (x ∷ xs) zero (suc n) a b at = inr ((λ e. absurd (omega arith)), at)
get_set (x ∷ xs) (suc i) zero a b at = inr ((λ e. absurd (omega arith)), at)
get_set (x ∷ xs) (suc i) (suc n) a b at = elim (get_set xs i n a b at) [
  | inl here ↦ inl (ap suc here.0, here.1)
  | inr there ↦ inr ((λ e. there.0 (omega (arith, e))), there.1)
]

pub marked_lost : (before kept : List Kept) (notes : List Note) (last : Note) (wire : WireNo) → AreMarked before notes kept → last.lost ≡ Some wire → AreMarked before (notes ++ last ∷ []) (set kept last.net (Lost wire))
marked_lost before kept notes last wire h is = record {
  long = length-set kept last.net (Lost wire) ∙ h.long;
  each = λ n one at. elim (get_set kept last.net n (Lost wire) one at) [
    | inl here ↦ inr (wire, record { place = length notes; note = last; at = last_get notes last; of = sym here.0; lost = is }, sym here.1)
    | inr there ↦ elim (h.each n one there.1) [
      | inl still ↦ inl (still.0, λ other lost. still.1 other (lost_before notes last n other (λ of same. there.0 (sym of)) lost))
      | inr gone ↦ inr (gone.0, lost_still notes last n gone.0 gone.1, gone.2)
    ]
  ];
}

-- one note more
pub marked_more : (before kept after : List Kept) (notes : List Note) (i : ℕ) (d : Note) → i < length notes → AreMarked before (take i notes) kept → IfSome (slice_index_or notes i d).lost (λ wire. after ≡ set kept (slice_index_or notes i d).net (Lost wire)) → IfNone (slice_index_or notes i d).lost (after ≡ kept)
    → AreMarked before (take (i + 1) notes) after
marked_more before kept after notes i d lt h lost still = subst (λ (ns : List Note). AreMarked before ns after) (sym (take_more notes i d lt)) (by_loss (get_or notes i d).lost refl lost still)
  where
    by_loss : (o : Option WireNo) → (get_or notes i d).lost ≡ o → IfSome o (λ wire. after ≡ set kept (get_or notes i d).net (Lost wire)) → IfNone o (after ≡ kept) → AreMarked before (take i notes ++ get_or notes i d ∷ []) after
    by_loss None is some_lost none_lost = subst (λ (ks : List Kept). AreMarked before (take i notes ++ get_or notes i d ∷ []) ks) (sym none_lost) (marked_kept before kept (take i notes) (get_or notes i d) h is)
    by_loss (Some wire) is some_lost none_lost = subst (λ (ks : List Kept). AreMarked before (take i notes ++ get_or notes i d ∷ []) ks) (sym some_lost) (marked_lost before kept (take i notes) (get_or notes i d) wire h is)

-- each note is of a net
pub notes_below : (lists : List (List ℕ)) (workers : ℕ) (notes : List Note) → AreAllNotes lists workers notes → AllByRecursion (λ (note : Note). note.net < length lists) notes
notes_below lists workers notes h = each notes (λ x some_of. below_of (length lists) x (subst (λ k. 1 ≤ k) (h.nets (is_at x)) some_of))
  where
    each : (some_notes : List Note) → ((x : ℕ) → 1 ≤ sum_by (λ (note : Note). is_at x note.net) some_notes → x < length lists) → AllByRecursion (λ (note : Note). note.net < length lists) some_notes
    each [] below = tt
    each (note ∷ rest) below = (
      below note.net (omega (arith, sum_by-cons (λ (a : Note). is_at note.net a.net) note rest, at_itself note.net)),
      each rest (λ x some_of. below x (omega (arith, some_of, sum_by-cons (λ (a : Note). is_at x a.net) note rest))),
    )
