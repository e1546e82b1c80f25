-- One task's steps, wire by wire.
use Rattle.std.proofs.Common.{◌≡◌, ℕ, Bool, ◌+◌, ◌≤◌, ◌<◌, List, [], ◌∷◌, length, length-take, take, drop, take-append-drop, get_or, slice_get, Some, refl, sym, ap, subst, arith, ◌∙◌}
use Rattle.std.proofs.lemmas.List.{take_more, take_all}
use Rattle.std.proofs.lemmas.Option.{slice_get-get_or}
use Rattle.ice_words.specs.declared.view.Claim.{Claim}
use Rattle.ice_words.specs.declared.view.Part.{Part}
use Rattle.ice_words.specs.declared.view.View.{View}
use Rattle.ice_core.specs.Routes.{numbers, times, wires_of}
use Rattle.ice_words.specs.Views.{with_own, own_changed, own, first_part, newest_changed, with_released, with_held, releasing, holding, released_at, held_at, posted}
use Rattle.ice_core.proofs.Sums.{times_append, times_push, at_itself}
use Rattle.ice_words.specs.Rule.{MayRelease, MayHold}
use Rattle.ice_base.specs.declared.number.WireNo.{WireNo}
use Rattle.ice_negotiate_defs.proofs.Wires.{numbers_long}
use Rattle.ice_worker.proofs.Wires.{number_at}
use Rattle.ice_worker.specs.Work.{changing, released_as, held_as, finished_as, IsNew, IsReady}

-- ---- two changes of the own part make one
own_twice : (f g : Part → Part) (ps : List Part) → own_changed f (own_changed g ps) ≡ own_changed (λ p. f (g p)) ps
own_twice f g [] = refl
own_twice f g (p ∷ ps) = refl

newest_twice : (f g : Claim → Claim) (cs : List Claim) → newest_changed f (newest_changed g cs) ≡ newest_changed (λ c. f (g c)) cs
newest_twice f g [] = refl
newest_twice f g (c ∷ cs) = refl

pub twice : (f g : Claim → Claim) (v : View) → with_own (changing f) (with_own (changing g) v) ≡ with_own (changing (λ c. f (g c))) v
twice f g v = ap (λ (ps : List Part). record { olds = v.olds; counts = v.counts; main = v.main; worker = v.worker; out = v.out; splits = v.splits; up = v.up; down = v.down; parts = ps }) (own_changes v.parts)
  where
    own_changes : (ps : List Part) → own_changed (changing f) (own_changed (changing g) ps) ≡ own_changed (changing (λ c. f (g c))) ps
    own_changes [] = refl
    own_changes (p ∷ ps) = ap (λ (cs : List Claim). record { claims = cs; ended = p.ended } ∷ ps) (newest_twice f g p.claims)

-- the same view with other parts
abbrev pub with_list : View → List Part → View
with_list v ps = record { olds = v.olds; counts = v.counts; main = v.main; worker = v.worker; out = v.out; splits = v.splits; up = v.up; down = v.down; parts = ps }

pub own_ended : (f : Claim → Claim) (v : View) → (own (with_own (changing f) v)).ended ≡ (own v).ended
own_ended f v = ended_of v.parts
  where
    ended_of : (ps : List Part) → (first_part (own_changed (changing f) ps)).ended ≡ (first_part ps).ended
    ended_of [] = refl
    ended_of (p ∷ ps) = refl

-- ---- releasing
pub release_none : (task : ℕ) (v : View) → IsNew task (own v).claims → v ≡ with_own (changing (released_as [])) v
release_none task v new = ap (with_list v) (sym (same_parts v.parts new))
  where
    same_claims : (cs : List Claim) → IsNew task cs → newest_changed (released_as []) cs ≡ cs
    same_claims [] new = refl
    same_claims (c ∷ cs) new = ap (λ (d : Claim). d ∷ cs) (subst (λ (d : Claim). released_as [] d ≡ d) (sym new) refl)

    same_parts : (ps : List Part) → IsNew task (first_part ps).claims → own_changed (changing (released_as [])) ps ≡ ps
    same_parts [] new = refl
    same_parts (p ∷ ps) new = ap (λ (cs : List Claim). record { claims = cs; ended = p.ended } ∷ ps) (same_claims p.claims new)

release_may_by : (task : ℕ) (v : View) (wires : List ℕ) (i : ℕ) → IsNew task (own v).claims → wires ≡ wires_of v.olds task → i < length wires
    → MayRelease v.olds (own (with_own (changing (released_as (take i wires))) v)).claims task (get_or wires i 0)
release_may_by task v wires i new is lt = parts_may v.parts new
  where
    long : length (take i wires) ≡ i
    long = omega (arith, length-take i wires)

    claims_may : (cs : List Claim) → IsNew task cs → MayRelease v.olds (newest_changed (released_as (take i wires)) cs) task (get_or wires i 0)
    claims_may [] new = new
    claims_may (c ∷ cs) new = (ap (λ (d : Claim). d.task) new, subst (λ k. slice_get (wires_of v.olds task) k ≡ Some (get_or wires i 0)) (sym long) (subst (λ ws. slice_get ws i ≡ Some (get_or wires i 0)) is (slice_get-get_or wires i 0 lt)))

    parts_may : (ps : List Part) → IsNew task (first_part ps).claims → MayRelease v.olds (first_part (own_changed (changing (released_as (take i wires))) ps)).claims task (get_or wires i 0)
    parts_may [] new = new
    parts_may (p ∷ ps) new = claims_may p.claims new

release_more_by : (v : View) (wires : List ℕ) (i : ℕ) → i < length wires → with_own (releasing (get_or wires i 0)) (with_own (changing (released_as (take i wires))) v) ≡ with_own (changing (released_as (take (i + 1) wires))) v
release_more_by v wires i lt = twice (with_released (get_or wires i 0)) (released_as (take i wires)) v ∙ ap (λ ws. with_own (changing (released_as ws)) v) (sym (take_more wires i 0 lt))

pub now_ready : (task : ℕ) (v : View) (wires : List ℕ) → IsNew task (own v).claims → wires ≡ wires_of v.olds task → IsReady v.olds task (own (with_own (changing (released_as wires)) v)).claims
now_ready task v wires new is = parts_ready v.parts new
  where
    claims_ready : (cs : List Claim) → IsNew task cs → IsReady v.olds task (newest_changed (released_as wires) cs)
    claims_ready [] new = new
    claims_ready (c ∷ cs) new = (ap (λ (d : Claim). d.task) new, is ∙ ap (wires_of v.olds) (sym (ap (λ (d : Claim). d.task) new)), ap (λ (d : Claim). d.held) new)

    parts_ready : (ps : List Part) → IsNew task (first_part ps).claims → IsReady v.olds task (first_part (own_changed (changing (released_as wires)) ps)).claims
    parts_ready [] new = new
    parts_ready (p ∷ ps) new = claims_ready p.claims new

-- ---- holding
pub hold_none : (task : ℕ) (v : View) → IsReady v.olds task (own v).claims → v ≡ with_own (changing (held_as [])) v
hold_none task v ready = ap (with_list v) (sym (same_parts v.parts ready))
  where
    same_claims : (cs : List Claim) → IsReady v.olds task cs → newest_changed (held_as []) cs ≡ cs
    same_claims [] ready = refl
    same_claims (c ∷ cs) ready = ap (λ (h : List ℕ). record { task = c.task; released = c.released; held = h } ∷ cs) (sym ready.2)

    same_parts : (ps : List Part) → IsReady v.olds task (first_part ps).claims → own_changed (changing (held_as [])) ps ≡ ps
    same_parts [] ready = refl
    same_parts (p ∷ ps) ready = ap (λ (cs : List Claim). record { claims = cs; ended = p.ended } ∷ ps) (same_claims p.claims ready)

not_yet : (wires : List ℕ) (i : ℕ) → ((w : ℕ) → times w wires ≤ 1) → i < length wires → times (get_or wires i 0) (take i wires) ≡ 0
not_yet wires i once lt =
    let w : ℕ = get_or wires i 0 in
    let whole : times w wires ≡ times w (take (i + 1) wires) + times w (drop (i + 1) wires) = ap (times w) (sym (take-append-drop (i + 1) wires)) ∙ times_append w (take (i + 1) wires) (drop (i + 1) wires) in
    let front : times w (take (i + 1) wires) ≡ times w (take i wires) + 1 = ap (times w) (take_more wires i 0 lt) ∙ (times_push w (take i wires) w ∙ ap (λ k. times w (take i wires) + k) (at_itself w)) in
    omega (arith, whole, front, once w)

hold_may_by : (task : ℕ) (v : View) (wires : List ℕ) (i : ℕ) → IsReady v.olds task (own v).claims → ((w : ℕ) → times w wires ≤ 1) → i < length wires
    → MayHold v.olds (own (with_own (changing (held_as (take i wires))) v)).claims task (get_or wires i 0)
hold_may_by task v wires i ready once lt = parts_may v.parts ready
  where
    claims_may : (cs : List Claim) → IsReady v.olds task cs → MayHold v.olds (newest_changed (held_as (take i wires)) cs) task (get_or wires i 0)
    claims_may [] ready = ready
    claims_may (c ∷ cs) ready = (ready.0, ready.1, not_yet wires i once lt)

    parts_may : (ps : List Part) → IsReady v.olds task (first_part ps).claims → MayHold v.olds (first_part (own_changed (changing (held_as (take i wires))) ps)).claims task (get_or wires i 0)
    parts_may [] ready = ready
    parts_may (p ∷ ps) ready = claims_may p.claims ready

hold_more_by : (v : View) (wires : List ℕ) (i : ℕ) → i < length wires → with_own (holding (get_or wires i 0)) (with_own (changing (held_as (take i wires))) v) ≡ with_own (changing (held_as (take (i + 1) wires))) v
hold_more_by v wires i lt = twice (with_held (get_or wires i 0)) (held_as (take i wires)) v ∙ ap (λ ws. with_own (changing (held_as ws)) v) (sym (take_more wires i 0 lt))

pub both : (v : View) (old new : List ℕ) → with_own (changing (held_as new)) (with_own (changing (released_as old)) v) ≡ with_own (changing (finished_as old new)) v
both v old new = twice (held_as new) (released_as old) v

-- ---- the same over wires
module _ (task : ℕ) (v : View) (wires : List WireNo) (i : ℕ) (d : WireNo) (lt : i < length wires) where
  short : i < length (numbers wires)
  short = omega (arith, numbers_long wires)

  pub release_may : IsNew task (own v).claims → numbers wires ≡ wires_of v.olds task → MayRelease v.olds (own (with_own (changing (released_as (take i (numbers wires)))) v)).claims task (get_or wires i d).0
  release_may new is = subst (λ w. MayRelease v.olds (own (with_own (changing (released_as (take i (numbers wires)))) v)).claims task w) (number_at wires i d lt) (release_may_by task v (numbers wires) i new is short)

  pub hold_may : IsReady v.olds task (own v).claims → ((w : ℕ) → times w (numbers wires) ≤ 1) → MayHold v.olds (own (with_own (changing (held_as (take i (numbers wires)))) v)).claims task (get_or wires i d).0
  hold_may ready once = subst (λ w. MayHold v.olds (own (with_own (changing (held_as (take i (numbers wires)))) v)).claims task w) (number_at wires i d lt) (hold_may_by task v (numbers wires) i ready once short)

  -- one wire more, where the hand's two numbers aside this was released, or held, before
  pub release_more : (n : ℕ) (u w : View) → posted u ≡ posted (with_own (changing (released_as (take i (numbers wires)))) v) → w ≡ released_at n (get_or wires i d).0 u → posted w ≡ posted (with_own (changing (released_as (take (i + 1) (numbers wires)))) v)
  release_more n u w before is =
      ap posted is ∙ (ap (λ (x : View). with_own (releasing (get_or wires i d).0) x) before
      ∙ (ap (λ k. posted (with_own (releasing k) (with_own (changing (released_as (take i (numbers wires)))) v))) (sym (number_at wires i d lt)) ∙ ap posted (release_more_by v (numbers wires) i short)))

  pub hold_more : (n : ℕ) (u w : View) → posted u ≡ posted (with_own (changing (held_as (take i (numbers wires)))) v) → w ≡ held_at n (get_or wires i d).0 u → posted w ≡ posted (with_own (changing (held_as (take (i + 1) (numbers wires)))) v)
  hold_more n u w before is =
      ap posted is ∙ (ap (λ (x : View). with_own (holding (get_or wires i d).0) x) before
      ∙ (ap (λ k. posted (with_own (holding k) (with_own (changing (held_as (take i (numbers wires)))) v))) (sym (number_at wires i d lt)) ∙ ap posted (hold_more_by v (numbers wires) i short)))

-- all of them
pub take_numbers : (wires : List WireNo) (i : ℕ) → length wires ≤ i → take i (numbers wires) ≡ numbers wires
take_numbers wires i le = take_all i (numbers wires) (omega (arith, numbers_long wires))

-- whether the hand was answered None doesn't change
pub ended_as : (f : Claim → Claim) (u v : View) (b : Bool) → posted u ≡ posted (with_own (changing f) v) → (own v).ended ≡ b → (own u).ended ≡ b
ended_as f u v b is e = ap (λ (x : View). (own x).ended) is ∙ (own_ended f v ∙ e)
