-- What a worker notes is what its part has.
use Rattle.std.proofs.Common.{◌≡◌, ◌≢◌, ℕ, zero, suc, ◌+◌, ◌≤◌, ◌<◌, ◌⊎◌, List, [], ◌∷◌, ◌++◌, Bool, true, false, None, Some, Option, cond, eqb, eq-eqb, ne_eqb, length, slice_get, refl, sym, ap, subst, arith, inl, inr, ◌∙◌}
use mathlib.Core.Option.{some, some-injective, some-ne-none}
use lib.ListN.{get_elem?}
use Rattle.std.proofs.lemmas.Bool.{cases_eq}
use Rattle.std.proofs.lemmas.Option.{same_Some, slice_get_within}
use Rattle.std.proofs.lemmas.List.Sums.{sum_by-cons, sum_by_push}
use Rattle.std.specs.List.{sum_by}
use Rattle.ice_base.specs.declared.number.WireNo.{WireNo}
use Rattle.ice_core.specs.Routes.{times, wires_of}
use Rattle.ice_core.proofs.Sums.{is_at, at_other, each_append, sum_at, sum_of_ones}
use Rattle.ice_words_hands.proofs.Lists.{nothing_of, one_of}
use Rattle.ice_claim.specs.declared.view.ClaimPart.{ClaimPart}
use Rattle.ice_claim.specs.declared.view.ClaimView.{ClaimView}
use Rattle.ice_claim.specs.Claims.{total, nets_by, claims_on, claims, takes_on, takes_pair, claiming, ending, losing, own, with_own}
use Rattle.ice_claim.specs.Rule.{IsAfter, IsShared}
use Rattle.ice_claim.proofs.Counting.{bit_of, on_of, on_pair}
use Rattle.ice_claim_opening.specs.declared.notes.Note.{Note}
use Rattle.ice_claim_opening.specs.Notes.{kept_on, unless_lost, AreNotes, AreInTurn, IsHeldBefore, IsLossNoted}
use Rattle.ice_claim_opening.specs.Workers.{took, Falls, IsFresh}
use Rattle.ice_claim_opening.proofs.Taking.{taken_for, took_nets, took_pairs, total_with}

-- ---- the numbers of nets fall
falls_more : (n m : ℕ) (nets : List ℕ) → n ≤ m → Falls n nets → Falls m nets
falls_more n m [] le falls = tt
falls_more n m (x ∷ nets) le falls = (omega (arith, falls.0, le), falls.1)

pub falls_next : (n m : ℕ) (nets : List ℕ) → n < m → IsAfter n nets → Falls m nets → Falls m (n ∷ nets)
falls_next n m [] lt after falls = (lt, tt)
falls_next n m (x ∷ nets) lt after falls = (lt, (after, falls.1))

pub falls_short : (n : ℕ) (nets : List ℕ) → Falls n nets → length nets ≤ n
falls_short n [] falls = omega arith
falls_short n (x ∷ nets) falls = omega (arith, falls.0, falls_short x nets falls.1)

-- a number that is drawn is none of those before
pub not_before : (n m : ℕ) (nets : List ℕ) → IsAfter n nets → Falls m nets → sum_by (is_at n) nets ≡ 0
not_before n m [] after falls = refl
not_before n m (x ∷ nets) after falls = (let other : n ≢ x = (λ e. absurd (omega arith)) in omega (arith, sum_by-cons (is_at n) x nets, at_other n x other, none n x nets after falls.1))
  where
    none : (k x : ℕ) (xs : List ℕ) → x < k → Falls x xs → sum_by (is_at k) xs ≡ 0
    none k x [] lt fall = refl
    none k x (y ∷ xs) lt fall = (let other : k ≢ y = (λ e. absurd (let below = fall.0 in omega arith)) in omega (arith, sum_by-cons (is_at k) y xs, at_other k y other, none k y xs (omega (arith, fall.0, lt)) fall.1))

-- ---- a note gives nothing to another net
kept_other : (lists : List (List ℕ)) (n w : ℕ) (note : Note) → is_at n note.net ≡ 0 → kept_on lists n w note ≡ 0
kept_other lists n w note other = by_test (eqb n note.net) other
  where
    by_test : (b : Bool) → cond {A = ℕ} b 1 0 ≡ 0 → cond b (unless_lost note.lost (times w (wires_of lists n))) 0 ≡ 0
    by_test true one = absurd (omega (arith, one))
    by_test false none = refl

-- a net that wasn't claimed has no wire
pub nothing_noted : (lists : List (List ℕ)) (parts : List ClaimPart) (notes : List Note) (n w : ℕ) → AreNotes lists parts notes → sum_by (claims_on n) parts ≡ 0 → sum_by (takes_pair n w) parts ≡ 0
nothing_noted lists parts notes n w h none = h.taken n w ∙ nothing_of (kept_on lists n w) (λ (note : Note). is_at n note.net) (kept_other lists n w) notes (sym (h.nets (is_at n)) ∙ none)

abbrev pub note_of : ℕ → Option WireNo → Note
note_of net lost = record { net = net; lost = lost }

pub not_some : (wire : WireNo) → None ≡ Some wire → ⊥
not_some wire e = absurd (cc)

-- ---- one net more
kept_here : (lists : List (List ℕ)) (net n w : ℕ) → kept_on lists n w (note_of net None) ≡ taken_for net (wires_of lists net) n w
kept_here lists net n w = elim (cases_eq n net) [
  | inl same ↦ rw (eq-eqb n net same) (ap (λ k. times w (wires_of lists k)) same)
  | inr other ↦ rw (ne_eqb n net other) refl
]

kept_none : (lists : List (List ℕ)) (net n w : ℕ) (wire : WireNo) → kept_on lists n w (note_of net (Some wire)) ≡ 0
kept_none lists net n w wire = by_test (eqb n net)
  where
    by_test : (b : Bool) → cond b (unless_lost (Some wire) (times w (wires_of lists n))) 0 ≡ 0
    by_test true = refl
    by_test false = refl

-- the net is kept
pub noted_kept : (lists : List (List ℕ)) (notes : List Note) (net : ℕ) (v claimed after : ClaimView) → 1 ≤ length v.parts → AreNotes lists v.parts notes → claimed ≡ with_own (claiming net) v → after ≡ with_own (took net (wires_of lists net)) claimed
    → 1 ≤ length claimed.parts → AreNotes lists after.parts (notes ++ note_of net None ∷ [])
noted_kept lists notes net v claimed after some_part h claimed_is after_is still =
    let ws = wires_of lists net in
    let at_claim = λ (k : ClaimPart → ℕ). total_with k (claiming net) v claimed some_part claimed_is in
    let at_end = λ (k : ClaimPart → ℕ). total_with k (took net ws) claimed after still after_is in
    record {
      nets = λ f. omega (arith, at_claim (nets_by f), at_end (nets_by f), ap (sum_by f) (took_nets net ws (own claimed)), sum_by-cons f net (own v).nets, sum_by_push (λ (note : Note). f note.net) notes (note_of net None), h.nets f);
      taken = λ n w. omega (arith, at_claim (takes_pair n w), at_end (takes_pair n w), took_pairs net ws (own claimed) n w, kept_here lists net n w, sum_by_push (kept_on lists n w) notes (note_of net None), h.taken n w);
      losses = each_append (IsLossNoted lists) notes (note_of net None ∷ []) h.losses ((λ wire is. absurd (not_some wire is)), tt);
    }

-- the net is given back
pub noted_given : (lists : List (List ℕ)) (notes : List Note) (net : ℕ) (wire : WireNo) (v claimed after : ClaimView) → 1 ≤ length v.parts → AreNotes lists v.parts notes → claimed ≡ with_own (claiming net) v → after ≡ with_own (losing net wire.0) claimed
    → 1 ≤ length claimed.parts → 1 ≤ times wire.0 (wires_of lists net) → IsShared lists net wire.0 → AreNotes lists after.parts (notes ++ note_of net (Some wire) ∷ [])
noted_given lists notes net wire v claimed after some_part h claimed_is after_is still listed elsewhere =
    let at_claim = λ (k : ClaimPart → ℕ). total_with k (claiming net) v claimed some_part claimed_is in
    let at_end = λ (k : ClaimPart → ℕ). total_with k (losing net wire.0) claimed after still after_is in
    record {
      nets = λ f. omega (arith, at_claim (nets_by f), at_end (nets_by f), sum_by-cons f net (own v).nets, sum_by_push (λ (note : Note). f note.net) notes (note_of net (Some wire)), h.nets f);
      taken = λ n w. omega (arith, at_claim (takes_pair n w), at_end (takes_pair n w), kept_none lists net n w wire, sum_by_push (kept_on lists n w) notes (note_of net (Some wire)), h.taken n w);
      losses = each_append (IsLossNoted lists) notes (note_of net (Some wire) ∷ []) h.losses ((λ other is. (let same : wire ≡ other = same_Some wire other is in subst (λ (u : WireNo). (1 ≤ times u.0 (wires_of lists net)) × IsShared lists net u.0) same (listed, elsewhere))), tt);
    }

-- None was drawn
pub noted_end : (lists : List (List ℕ)) (notes : List Note) (v after : ClaimView) → 1 ≤ length v.parts → AreNotes lists v.parts notes → after ≡ with_own ending v → AreNotes lists after.parts notes
noted_end lists notes v after some_part h is =
    let at_end = λ (k : ClaimPart → ℕ). total_with k ending v after some_part is in
    record {
      nets = λ f. omega (arith, at_end (nets_by f), h.nets f);
      taken = λ n w. omega (arith, at_end (takes_pair n w), h.taken n w);
      losses = h.losses;
    }

pub noted_none : (lists : List (List ℕ)) (v : ClaimView) → IsFresh v → AreNotes lists v.parts []
noted_none lists v fresh = subst (λ (ps : List ClaimPart). AreNotes lists ps []) (sym fresh) (record { nets = λ f. refl; taken = λ n w. refl; losses = tt })

-- how many nets were claimed
pub claims_noted : (lists : List (List ℕ)) (notes : List Note) (v : ClaimView) → AreNotes lists v.parts notes → total claims v ≡ length notes
claims_noted lists notes v h = h.nets (λ x. 1) ∙ sum_of_ones notes

-- ---- the nets in turn
pub turn_none : (lists : List (List ℕ)) → AreInTurn lists []
turn_none lists = record { turn = λ k note at. absurd (let lt = slice_get_within [] k note at in omega (arith, lt)); lost = λ k note wire at is. absurd (let lt = slice_get_within [] k note at in omega (arith, lt)) }

pub last_or_before : (notes : List Note) (last note : Note) (k : ℕ) → slice_get (notes ++ last ∷ []) k ≡ Some note → (slice_get notes k ≡ Some note) ⊎ ((k ≡ length notes) × (last ≡ note))
last_or_before [] last note zero at = inr (refl, same_Some last note at)
last_or_before [] last note (suc k) at = absurd (cc)
last_or_before (x ∷ notes) last note zero at = inl at
last_or_before (x ∷ notes) last note (suc k) at = elim (last_or_before notes last note k at) [
  | inl here ↦ inl here
  | inr end ↦ inr (ap suc end.0, end.1)
]

pub still_there : (notes : List Note) (last note : Note) (k : ℕ) → slice_get notes k ≡ Some note → slice_get (notes ++ last ∷ []) k ≡ Some note
still_there [] last note k at = absurd (cc)
still_there (x ∷ notes) last note zero at = at
still_there (x ∷ notes) last note (suc k) at = still_there notes last note k at

held_still : (lists : List (List ℕ)) (notes : List Note) (last : Note) (k w : ℕ) → IsHeldBefore lists notes k w → IsHeldBefore lists (notes ++ last ∷ []) k w
held_still lists notes last k w h = record { place = h.place; note = h.note; before = h.before; at = still_there notes last h.note h.place h.at; kept = h.kept; listed = h.listed }

pub turn_more : (lists : List (List ℕ)) (notes : List Note) (last : Note) → AreInTurn lists notes → last.net ≡ length notes → ((wire : WireNo) → last.lost ≡ Some wire → IsHeldBefore lists notes (length notes) wire.0) → AreInTurn lists (notes ++ last ∷ [])
turn_more lists notes last h turn lost = record {
  turn = λ k note at. elim (last_or_before notes last note k at) [
    | inl here ↦ h.turn k note here
    | inr end ↦ ap (λ (x : Note). x.net) (sym end.1) ∙ (turn ∙ sym end.0)
  ];
  lost = λ k note wire at is. elim (last_or_before notes last note k at) [
    | inl here ↦ held_still lists notes last k wire.0 (h.lost k note wire here is)
    | inr end ↦ subst (λ j. IsHeldBefore lists (notes ++ last ∷ []) j wire.0) (sym end.0) (held_still lists notes last (length notes) wire.0 (lost wire (ap (λ (x : Note). x.lost) end.1 ∙ is)))
  ];
}

-- ---- what one note gives
pub get_of : (xs : List Note) (k : ℕ) (note : Note) → get_elem? xs k ≡ some note → slice_get xs k ≡ Some note
get_of [] k note at = absurd (some-ne-none note (sym at))
get_of (x ∷ xs) zero note at = ap Some (some-injective x note at)
get_of (x ∷ xs) (suc k) note at = get_of xs k note at

unlost : (lost : Option WireNo) (k : ℕ) → 1 ≤ unless_lost lost k → (lost ≡ None) × (1 ≤ k)
unlost None k more = (refl, more)
unlost (Some wire) k more = absurd (omega (arith, more))

-- a note that gives a wire to a net says that this net is kept
pub kept_of : (lists : List (List ℕ)) (n w : ℕ) (note : Note) → 1 ≤ kept_on lists n w note → (n ≡ note.net) × (note.lost ≡ None) × (1 ≤ times w (wires_of lists n))
kept_of lists n w note some_here = elim (cases_eq n note.net) [
  | inl same ↦ (let here : 1 ≤ unless_lost note.lost (times w (wires_of lists n)) = subst (λ b. 1 ≤ cond b (unless_lost note.lost (times w (wires_of lists n))) 0) (eq-eqb n note.net same) some_here in let t = unlost note.lost (times w (wires_of lists n)) here in (same, t.0, t.1))
  | inr other ↦ absurd (let none : kept_on lists n w note ≡ 0 = rw (ne_eqb n note.net other) refl in omega (arith, none, some_here))
]

-- some note gives the wire to the net
pub noted_for : (lists : List (List ℕ)) (notes : List Note) (n w : ℕ) → 1 ≤ sum_by (kept_on lists n w) notes → (k : ℕ) × (note : Note) × (slice_get notes k ≡ Some note) × (n ≡ note.net) × (note.lost ≡ None) × (1 ≤ times w (wires_of lists n))
noted_for lists notes n w some_of =
    let noted = one_of (kept_on lists n w) notes some_of in
    let is = kept_of lists n w noted.1 noted.3 in
    (noted.0, noted.1, get_of notes noted.0 noted.1 noted.2, is.0, is.1, is.2)

-- a wire that the parts have is of a net that is noted as kept
pub held_before : (lists : List (List ℕ)) (parts : List ClaimPart) (notes : List Note) (w : ℕ) → AreNotes lists parts notes → AreInTurn lists notes → 1 ≤ sum_by (takes_on w) parts → IsHeldBefore lists notes (length notes) w
held_before lists parts notes w h turn some_of =
    let part = one_of (takes_on w) parts some_of in
    let pair = one_of (on_of w) part.1.taken part.3 in
    let n : ℕ = pair.1.net in
    let has : 1 ≤ sum_by (takes_pair n w) parts = omega (arith, on_pair w pair.1 pair.3, sum_at (bit_of n w) part.1.taken pair.0 pair.1 pair.2, sum_at (takes_pair n w) parts part.0 part.1 part.2) in
    let noted = noted_for lists notes n w (omega (arith, has, h.taken n w)) in
    let place : noted.1.net ≡ noted.0 = turn.turn noted.0 noted.1 noted.2 in
    record {
      place = noted.0;
      note = noted.1;
      before = slice_get_within notes noted.0 noted.1 noted.2;
      at = noted.2;
      kept = noted.4;
      listed = subst (λ k. 1 ≤ times w (wires_of lists k)) (noted.3 ∙ place) noted.5;
    }
