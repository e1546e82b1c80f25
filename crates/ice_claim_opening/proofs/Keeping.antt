-- A worker's nets, one by one.
use Rattle.std.proofs.Common.{◌≡◌, ℕ, zero, suc, ◌+◌, ◌-◌, ◌≤◌, ◌<◌, List, [], ◌∷◌, ◌++◌, None, Some, Option, IfNone, IfSome, true, false, vec_capacity, length, length-append, get_or, refl, sym, ap, subst, arith, ◌∙◌}
use Rattle.std.proofs.lemmas.List.Sums.{sum_by-cons}
use Rattle.std.proofs.lemmas.Option.{same_Some}
use Rattle.std.specs.Global.{Vec}
use Rattle.std.specs.List.{sum_by}
use Rattle.ice_base.specs.declared.number.WireNo.{WireNo}
use Rattle.ice_core.specs.Routes.{lists_of, numbers, times, wires_of}
use Rattle.ice_core.proofs.Sums.{is_at, at_itself}
use Rattle.ice_words_hands.specs.Parts.{own_changed, own_of}
use Rattle.ice_claim.specs.declared.view.ClaimPart.{ClaimPart}
use Rattle.ice_claim.specs.declared.view.ClaimView.{ClaimView}
use Rattle.ice_claim.specs.Claims.{total, claims_on, claims, ends_of, takes_on, takes_pair, no_part, claiming, losing, own, with_own}
use Rattle.ice_claim.specs.Grips.{Board, IsPassOf}
use Rattle.ice_claim.specs.Rule.{IsAfter, IsLone, IsShared}
use Rattle.ice_claim_opening.specs.declared.notes.Note.{Note}
use Rattle.ice_claim_opening.specs.declared.workers.Job.{Job}
use Rattle.ice_claim_opening.specs.Notes.{AreInTurn, AreNotes, IsHeldBefore}
use Rattle.ice_claim_opening.specs.Workers.{took, Falls, HasWorked, IsFresh, IsGathered, IsSplit, IsTableOf, IsWaiting}
use Rattle.ice_claim_opening.proofs.Taking.{lone_as, own_with, took_ended, took_nets, total_with}
use Rattle.ice_claim_opening.proofs.Noting.{claims_noted, falls_next, held_before, noted_given, noted_kept, noted_none, not_before, not_some, falls_short, note_of, nothing_noted, turn_more, turn_none}

-- what a worker's pass is between two nets, where it began from the view `start`
pub record IsBetween (lists : List (List ℕ)) (start v : ClaimView) (notes : List Note) : Type 0 where
  pub view : v ≡ with_own (λ p. own v) start
  pub going : (own v).ended ≡ false
  pub falls : Falls (length lists) (own v).nets
  pub many : length (own v).nets ≡ length notes
  pub noted : AreNotes lists v.parts notes
  pub lone : IsLone start → AreInTurn lists notes

one_part : (start v : ClaimView) → IsFresh start → v ≡ with_own (λ p. own v) start → v.parts ≡ own v ∷ []
one_part start v fresh is = ap (λ (u : ClaimView). u.parts) is ∙ ap (own_changed (λ (p : ClaimPart). own v)) fresh

some_part : (start v : ClaimView) → IsFresh start → v ≡ with_own (λ p. own v) start → 1 ≤ length v.parts
some_part start v fresh is = omega (arith, ap length (one_part start v fresh is))

alone_sum : (k : ClaimPart → ℕ) (p : ClaimPart) → sum_by k (p ∷ []) ≡ k p
alone_sum k p = omega (arith, sum_by-cons k p [])

still_part : (f : ClaimPart → ClaimPart) (v after : ClaimView) → v.parts ≡ own v ∷ [] → after ≡ with_own f v → after.parts ≡ f (own v) ∷ []
still_part f v after one is = ap (λ (u : ClaimView). u.parts) is ∙ ap (own_changed f) one

own_after : (f : ClaimPart → ClaimPart) (v after : ClaimView) → v.parts ≡ own v ∷ [] → after ≡ with_own f v → own after ≡ f (own v)
own_after f v after one is = ap own is ∙ own_with f v (omega (arith, ap length one))

-- a view that differs from another in its parts alone
abbrev with_list : ClaimView → List ClaimPart → ClaimView
with_list v ps = record { lists = v.lists; main = v.main; worker = v.worker; out = v.out; splits = v.splits; parts = ps }

view_after : (f : ClaimPart → ClaimPart) (start v after : ClaimView) → IsFresh start → v ≡ with_own (λ p. own v) start → after ≡ with_own f v → after ≡ with_own (λ p. own after) start
view_after f start v after fresh is after_is =
    let one = one_part start v fresh is in
    let mine = own_after f v after one after_is in
    after_is ∙ (ap (λ (u : ClaimView). with_list u (own_changed f v.parts)) is ∙ ap (with_list start) (ap (own_changed f) one ∙ (ap (λ (p : ClaimPart). p ∷ []) (sym mine) ∙ sym (ap (own_changed (λ (p : ClaimPart). own after)) fresh))))

pub between_none : (lists : List (List ℕ)) (start : ClaimView) (notes : List Note) → IsFresh start → notes ≡ [] → IsBetween lists start start notes
between_none lists start notes fresh none = subst (IsBetween lists start start) (sym none) (record {
  view = ap (with_list start) (fresh ∙ sym (ap (own_changed (λ (p : ClaimPart). own start)) fresh ∙ ap (λ (p : ClaimPart). p ∷ []) mine));
  going = ap (λ (p : ClaimPart). p.ended) mine;
  falls = subst (λ (p : ClaimPart). Falls (length lists) p.nets) (sym mine) tt;
  many = ap (λ (p : ClaimPart). length p.nets) mine;
  noted = noted_none lists start fresh;
  lone = λ alone. turn_none lists;
})
  where
    mine : own start ≡ no_part
    mine = ap (own_of no_part) fresh

module _ (lists : List (List ℕ)) (start v claimed : ClaimView) (notes : List Note) (net : ℕ) (fresh : IsFresh start) (h : IsBetween lists start v notes) (after : IsAfter net (own v).nets) (claimed_is : claimed ≡ with_own (claiming net) v) where
  one : v.parts ≡ own v ∷ []
  one = one_part start v fresh h.view

  here : 1 ≤ length v.parts
  here = omega (arith, ap length one)

  pub claimed_part : claimed.parts ≡ claiming net (own v) ∷ []
  claimed_part = still_part (claiming net) v claimed one claimed_is

  pub claimed_some : 1 ≤ length claimed.parts
  claimed_some = omega (arith, ap length claimed_part)

  pub claimed_own : own claimed ≡ claiming net (own v)
  claimed_own = own_after (claiming net) v claimed one claimed_is

  pub claims_it : 1 ≤ total (claims_on net) claimed
  claims_it = omega (arith, total_with (claims_on net) (claiming net) v claimed here claimed_is, sum_by-cons (is_at net) net (own v).nets, at_itself net)

  -- it has nothing for the net yet
  pub has_none : (w : ℕ) → total (takes_pair net w) claimed ≡ 0
  has_none w =
      let before : sum_by (claims_on net) v.parts ≡ 0 = ap (sum_by (claims_on net)) one ∙ (alone_sum (claims_on net) (own v) ∙ not_before net (length lists) (own v).nets after h.falls) in
      omega (arith, total_with (takes_pair net w) (claiming net) v claimed here claimed_is, nothing_noted lists v.parts notes net w h.noted before)

  -- there is room for one note more
  pub room_left : net < length lists → length notes < length lists
  room_left lt = omega (arith, falls_short (length lists) (net ∷ (own v).nets) (falls_next net (length lists) (own v).nets lt after h.falls), h.many)

  -- the number is that of the next note, where no other pass is out
  next_turn : (IsLone v → total ends_of v ≡ 0 → net ≡ total claims v) → IsLone start → net ≡ length notes
  next_turn drawn alone =
      let ends : total ends_of v ≡ 0 = ap (sum_by ends_of) one ∙ (alone_sum ends_of (own v) ∙ none_ended) in
      drawn (subst IsLone (sym h.view) (lone_as (λ p. own v) start (with_own (λ p. own v) start) refl alone)) ends ∙ claims_noted lists notes v h.noted
    where
      none_ended : ends_of (own v) ≡ 0
      none_ended = rw h.going refl

  -- one net more is done
  module _ (lt : net < length lists) (drawn : IsLone v → total ends_of v ≡ 0 → net ≡ total claims v) (next : ClaimView) where
    done_by : (f : ClaimPart → ClaimPart) (note : Note) → next ≡ with_own f claimed → ((p : ClaimPart) → (f p).nets ≡ p.nets) → ((p : ClaimPart) → (f p).ended ≡ p.ended) → AreNotes lists next.parts (notes ++ note ∷ []) → (IsLone start → AreInTurn lists (notes ++ note ∷ []))
        → IsBetween lists start next (notes ++ note ∷ [])
    done_by f note is nets ended noted turn =
        let mine : own next ≡ f (own claimed) = ap own is ∙ own_with f claimed claimed_some in
        let listed : (own next).nets ≡ net ∷ (own v).nets = ap (λ (p : ClaimPart). p.nets) mine ∙ (nets (own claimed) ∙ ap (λ (p : ClaimPart). p.nets) claimed_own) in
        record {
          view = view_after f start claimed next fresh (view_after (claiming net) start v claimed fresh h.view claimed_is) is;
          going = ap (λ (p : ClaimPart). p.ended) mine ∙ (ended (own claimed) ∙ (ap (λ (p : ClaimPart). p.ended) claimed_own ∙ h.going));
          falls = subst (Falls (length lists)) (sym listed) (falls_next net (length lists) (own v).nets lt after h.falls);
          many = omega (arith, ap length listed, h.many, pushed notes note);
          noted = noted;
          lone = turn;
        }
      where
        pushed : (xs : List Note) (x : Note) → 1 + length xs ≡ length (xs ++ x ∷ [])
        pushed xs x = omega (arith, length-append xs (x ∷ []))

    pub net_done : (lost : Option WireNo) → IfNone lost (next ≡ with_own (took net (wires_of lists net)) claimed) → IfSome lost (λ wire. next ≡ with_own (losing net wire.0) claimed) → IfSome lost (λ wire. (1 ≤ times wire.0 (wires_of lists net)) × IsShared lists net wire.0)
        → (IsLone claimed → IfSome lost (λ wire. 1 ≤ total (takes_on wire.0) claimed)) → IsBetween lists start next (notes ++ note_of net lost ∷ [])
    net_done None kept given because lone =
        done_by (took net (wires_of lists net)) (note_of net None) kept (took_nets net (wires_of lists net)) (took_ended net (wires_of lists net))
        (noted_kept lists notes net v claimed next here h.noted claimed_is kept claimed_some)
        (λ alone. turn_more lists notes (note_of net None) (h.lone alone) (next_turn drawn alone) (λ wire is. absurd (not_some wire is)))
    net_done (Some wire) kept given because lone =
        done_by (losing net wire.0) (note_of net (Some wire)) given (λ p. refl) (λ p. refl)
        (noted_given lists notes net wire v claimed next here h.noted claimed_is given claimed_some because.0 because.1)
        (λ alone. turn_more lists notes (note_of net (Some wire)) (h.lone alone) (next_turn drawn alone) (λ other is. held alone other (same_Some wire other is)))
      where
        held : IsLone start → (other : WireNo) → wire ≡ other → IsHeldBefore lists notes (length notes) other.0
        held alone other is =
            let out = lone (lone_as (claiming net) v claimed claimed_is (subst IsLone (sym h.view) (lone_as (λ p. own v) start (with_own (λ p. own v) start) refl alone))) in
            let before : 1 ≤ sum_by (takes_on wire.0) v.parts = omega (arith, out, total_with (takes_on wire.0) (claiming net) v claimed here claimed_is) in
            subst (λ (u : WireNo). IsHeldBefore lists notes (length notes) u.0) is (held_before lists v.parts notes wire.0 h.noted (h.lone alone) before)

-- ---- the lists of nets
pub as_long : (lists : List (Vec WireNo)) → length (lists_of lists) ≡ length lists
as_long [] = refl
as_long (v ∷ lists) = ap suc (as_long lists)

pub list_of_net : (lists : List (Vec WireNo)) (n : ℕ) (v : Vec WireNo) → n < length lists → v ≡ get_or lists n v → wires_of (lists_of lists) n ≡ numbers v.items
list_of_net [] n v lt is = absurd (omega arith)
list_of_net (u ∷ lists) zero v lt is = ap (λ (x : Vec WireNo). numbers x.items) (sym is)
list_of_net (u ∷ lists) (suc n) v lt is = list_of_net lists n v (omega (arith, lt)) is

pub fewer_left : (n before after : ℕ) → before < n → after ≡ before + 1 → n - after < n - before
fewer_left n before after lt is = omega (arith, lt, is)

-- ---- when a worker is done
-- a pass that was answered None says so
pub ended_some : (start v : ClaimView) → IsFresh start → v ≡ with_own (λ p. own v) start → (own v).ended ≡ true → 1 ≤ total ends_of v
ended_some start v fresh is ended =
    let none : ends_of (own v) ≡ 1 = rw ended refl in
    omega (arith, ap (sum_by ends_of) (one_part start v fresh is), alone_sum ends_of (own v), none)

pub worked : (board : Board) (job after : Job) → IsWaiting board job → IsPassOf board after.pass → after.pass.view ≡ with_own (λ p. own after.pass.view) job.pass.view → (own after.pass.view).ended ≡ true → AreNotes board.lists after.pass.view.parts after.notes.items → HasWorked board after
worked board job after h of is ended noted = record {
  of = of;
  worker = ap (λ (v : ClaimView). v.worker) is ∙ h.worker;
  notes = noted;
  ended = ended_some job.pass.view after.pass.view h.fresh is ended;
}

pub room_of : (board : Board) (lists : List (Vec WireNo)) (job : Job) → IsWaiting board job → IsTableOf board (lists_of lists) → length lists ≤ vec_capacity job.notes
room_of board lists job h table = omega (arith, h.room, ap length table.same, as_long lists)

-- the main pass where nothing was split off
pub lone_split : (v : ClaimView) → IsSplit 0 v → IsLone v
lone_split v h = record { main = h.main; out = h.out }

pub gathered_alone : (lists : List (List ℕ)) (v after : ClaimView) (notes : List Note) → IsSplit 0 v → after ≡ with_own (λ p. own after) v → AreNotes lists after.parts notes → IsGathered lists 0 after notes
gathered_alone lists v after notes h is noted = record {
  main = ap (λ (u : ClaimView). u.main) is ∙ h.main;
  out_is = ap (λ (u : ClaimView). u.out) is ∙ h.out;
  of_all = noted;
}
