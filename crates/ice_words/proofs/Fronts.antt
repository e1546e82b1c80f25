-- Lawful parts were lawful all along.
use Rattle.std.proofs.Common.{◌≡◌, ℕ, zero, suc, ◌⊎◌, List, [], ◌∷◌, ◌++◌, length, take, slice_get, Some, true, false, true≢false, inl, inr, refl, sym, ap, subst, ◌∙◌, append_assoc, append-nil}
use Rattle.ice_words.specs.declared.view.Claim.{Claim}
use Rattle.ice_words.specs.declared.view.Part.{Part}
use Rattle.ice_core.specs.Routes.{wires_of}
use Rattle.ice_words.specs.Views.{no_part, with_released, with_held, newest_changed}
use Rattle.ice_words.specs.Rule.{MayRelease, MayHold}
use Rattle.ice_words.specs.Lawful.{AreFinished, IsNewestUnderWay, IsLawful}
use Rattle.ice_words.specs.Deeds.{Deed, claims, ends, releases, holds, May, after, done_all, AreDeeds, LawfulAllAlong}
use Rattle.ice_words.proofs.Steps.{next_left, cons_not_nil}

-- of the newest claim a front is released, and nothing is held before that is all
abbrev IsSteady : List (List ℕ) → List Claim → Type 0
IsSteady olds [] = Unit {0}
IsSteady olds (c ∷ cs) = (left : List ℕ) × (c.released ++ left ≡ wires_of olds c.task) × ((left ≡ []) ⊎ (c.held ≡ []))

steady_release : (olds : List (List ℕ)) (cs : List Claim) (task w : ℕ) → MayRelease olds cs task w → IsSteady olds cs → IsSteady olds (newest_changed (with_released w) cs)
steady_release olds [] task w may is = tt
steady_release olds (c ∷ cs) task w may is =
    let at : slice_get (wires_of olds c.task) (length c.released) ≡ Some w = subst (λ t. slice_get (wires_of olds t) (length c.released) ≡ Some w) (sym may.0) may.1 in
    let t = next_left c.released is.0 (wires_of olds c.task) w is.1 at in (
      t.0,
      append_assoc c.released (w ∷ []) t.0 ∙ (ap (λ xs. c.released ++ xs) (sym t.1) ∙ is.1),
      elim is.2 [
        | inl none ↦ absurd (cons_not_nil w t.0 (sym t.1 ∙ none))
        | inr none ↦ inr none
      ],
    )

steady_hold : (olds : List (List ℕ)) (cs : List Claim) (task w : ℕ) → MayHold olds cs task w → IsSteady olds (newest_changed (with_held w) cs)
steady_hold olds [] task w may = tt
steady_hold olds (c ∷ cs) task w may = ([], append-nil c.released ∙ may.1, inl refl)

steady_after : (olds : List (List ℕ)) (p : Part) (d : Deed) → May olds p d → IsSteady olds p.claims → IsSteady olds (after p d).claims
steady_after olds p (claims n) may is = (wires_of olds n, refl, inr refl)
steady_after olds p ends may is = is
steady_after olds p (releases task w) may is = steady_release olds p.claims task w may.1 is
steady_after olds p (holds task w) may is = steady_hold olds p.claims task w may.1

-- ---- one step back
still_going : (p : Part) → p.ended ≡ false → {P : Type 0} → p.ended ≡ true → P
still_going p going over = absurd (true≢false (sym over ∙ going))

pub before_claim : (olds news : List (List ℕ)) (n : ℕ) (cs : List Claim) → AreFinished olds news n cs → IsNewestUnderWay olds news cs
before_claim olds news n [] are = tt
before_claim olds news n (c ∷ cs) are = (record { left = []; released = append-nil c.released ∙ are.1.released; rest = []; held = append-nil c.held ∙ are.1.held; first = inl refl }, are.2)

before_release : (olds news : List (List ℕ)) (cs : List Claim) (task w : ℕ) → MayRelease olds cs task w → IsSteady olds cs → IsNewestUnderWay olds news (newest_changed (with_released w) cs) → IsNewestUnderWay olds news cs
before_release olds news [] task w may steady way = tt
before_release olds news (c ∷ cs) task w may steady way =
    let at : slice_get (wires_of olds c.task) (length c.released) ≡ Some w = subst (λ t. slice_get (wires_of olds t) (length c.released) ≡ Some w) (sym may.0) may.1 in
    let t = next_left c.released steady.0 (wires_of olds c.task) w steady.1 at in
    let none : c.held ≡ [] = elim steady.2 [
      | inl none ↦ absurd (cons_not_nil w t.0 (sym t.1 ∙ none))
      | inr none ↦ none
    ] in
    (record { left = steady.0; released = steady.1; rest = way.0.rest; held = way.0.held; first = inr none }, way.1)

before_hold : (olds news : List (List ℕ)) (cs : List Claim) (task w : ℕ) → MayHold olds cs task w → IsNewestUnderWay olds news (newest_changed (with_held w) cs) → IsNewestUnderWay olds news cs
before_hold olds news [] task w may way = tt
before_hold olds news (c ∷ cs) task w may way =
    (record { left = []; released = append-nil c.released ∙ may.1; rest = w ∷ way.0.rest; held = sym (append_assoc c.held (w ∷ []) way.0.rest) ∙ way.0.held; first = inl refl }, way.1)

lawful_before : (olds news : List (List ℕ)) (p : Part) (d : Deed) → May olds p d → IsSteady olds p.claims → IsLawful olds news (after p d) → IsLawful olds news p
lawful_before olds news p (claims n) may steady is = record { claims = before_claim olds news n p.claims is.claims.1; ended = still_going p may.0 }
lawful_before olds news p ends may steady is = record { claims = is.claims; ended = still_going p may.0 }
lawful_before olds news p (releases task w) may steady is = record { claims = before_release olds news p.claims task w may.1 steady is.claims; ended = still_going p may.0 }
lawful_before olds news p (holds task w) may steady is = record { claims = before_hold olds news p.claims task w may.1 is.claims; ended = still_going p may.0 }

-- ---- all steps back
lawful_at_first : (olds news : List (List ℕ)) (p : Part) (deeds : List Deed) → AreDeeds olds p deeds → IsSteady olds p.claims → IsLawful olds news (done_all p deeds) → IsLawful olds news p
lawful_at_first olds news p [] are steady is = is
lawful_at_first olds news p (d ∷ deeds) are steady is = lawful_before olds news p d are.0 steady (lawful_at_first olds news (after p d) deeds are.1 (steady_after olds p d are.0 steady) is)

lawful_fronts : (olds news : List (List ℕ)) (p : Part) (deeds : List Deed) (k : ℕ) → AreDeeds olds p deeds → IsSteady olds p.claims → IsLawful olds news (done_all p deeds) → IsLawful olds news (done_all p (take k deeds))
lawful_fronts olds news p deeds zero are steady is = lawful_at_first olds news p deeds are steady is
lawful_fronts olds news p [] (suc k) are steady is = is
lawful_fronts olds news p (d ∷ deeds) (suc k) are steady is = lawful_fronts olds news (after p d) deeds k are.1 (steady_after olds p d are.0 steady) is

pub lawful_all_along : LawfulAllAlong
lawful_all_along olds news deeds k are is = lawful_fronts olds news no_part deeds k are tt is
