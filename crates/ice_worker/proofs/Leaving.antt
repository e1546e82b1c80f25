-- A task's net is left out of the counts of its old wires, and brought back.
use Rattle.std.proofs.Common.{◌≡◌, ℕ, ◌+◌, ◌-◌, ◌≤◌, ◌<◌, Bool, true, false, cond, List, length, take, get_or, slice_set, slice_index, refl, sym, ap, ◌∙◌, subst, arith, inl, inr, get_or-set_same, get_or-set_other, length-set}
use Rattle.std.proofs.lemmas.Bool.{cases_eq}
use Rattle.std.proofs.lemmas.List.{take_all}
use Rattle.std.proofs.lemmas.Grind.{same_number_lists}
use Rattle.ice_base.specs.declared.number.WireNo.{WireNo}
use Rattle.ice_core.specs.Moves.{stands_in}
use Rattle.ice_core.proofs.Moving.{wire_at, stands_other, stands_same}
use Rattle.ice_negotiate_defs.proofs.Leaving.{LeftOut}
use Rattle.ice_worker.specs.Tasks.{AreLeft}

less_none : (b : Bool) (n : ℕ) → b ≡ false → n - cond b 1 0 ≡ n
less_none true n e = absurd (cc)
less_none false n e = omega arith

-- one wire more is left out
pub out_more : (counts others : List ℕ) (wires : List WireNo) (i : ℕ) (d : WireNo) → i < length wires → (get_or wires i d).0 < length counts → LeftOut counts wires i others
    → LeftOut counts wires (i + 1) (slice_set others (get_or wires i d).0 (slice_index counts (get_or wires i d).0 - 1))
out_more counts others wires i d lt small h =
    let wire : ℕ = (get_or wires i d).0 in
    let n : ℕ = slice_index counts wire - 1 in
    let at = wire_at wires i d lt in
    let long = h.long in
    record {
      long = length-set others wire n ∙ h.long;
      each = λ w w_lt. elim (cases_eq w wire) [
        | inl eq ↦ subst (λ x. slice_index (slice_set others wire n) x ≡ slice_index counts x - cond (stands_in (take (i + 1) wires) x) 1 0) (sym eq)
            (get_or-set_same others wire n 0 (omega arith) ∙ ap (λ b. slice_index counts wire - cond b 1 0) (sym (stands_same wires i (get_or wires i d) wire at refl)))
        | inr other ↦ get_or-set_other others wire w n 0 other ∙ h.each w w_lt ∙ ap (λ b. slice_index counts w - cond b 1 0) (sym (stands_other wires i (get_or wires i d) w at other))
      ];
    }

-- none is left out yet
pub out_none : (counts others : List ℕ) (wires : List WireNo) → others ≡ counts → LeftOut counts wires 0 others
out_none counts others wires same = record { long = ap length same; each = λ w lt. ap (λ ns. slice_index ns w) same ∙ sym (less_none false (slice_index counts w) refl) }

pub out_all : (counts others : List ℕ) (wires : List WireNo) (i : ℕ) → length wires ≤ i → LeftOut counts wires i others → AreLeft counts wires others
out_all counts others wires i le h = record {
  long = h.long;
  each = λ w lt. h.each w lt ∙ ap (λ ws. slice_index counts w - cond (stands_in ws w) 1 0) (take_all i wires le);
}

-- the counts are right off the wires, and on the first i of them
pub record AreBack (counts : List ℕ) (wires : List WireNo) (i : ℕ) (others : List ℕ) : Type 0 where
  pub long : length others ≡ length counts
  pub off : (w : ℕ) → w < length counts → stands_in wires w ≡ false → slice_index others w ≡ slice_index counts w
  pub on : (w : ℕ) → w < length counts → stands_in (take i wires) w ≡ true → slice_index others w ≡ slice_index counts w

pub back_none : (counts others : List ℕ) (wires : List WireNo) → AreLeft counts wires others → AreBack counts wires 0 others
back_none counts others wires h = record {
  long = h.long;
  off = λ w lt out. h.each w lt ∙ less_none (stands_in wires w) (slice_index counts w) out;
  on = λ w lt in_none. absurd (cc);
}

pub back_more : (counts others : List ℕ) (wires : List WireNo) (i : ℕ) (d : WireNo) → i < length wires → (get_or wires i d).0 < length counts → AreBack counts wires i others
    → AreBack counts wires (i + 1) (slice_set others (get_or wires i d).0 (slice_index counts (get_or wires i d).0))
back_more counts others wires i d lt small h =
    let wire : ℕ = (get_or wires i d).0 in
    let n : ℕ = slice_index counts wire in
    let at = wire_at wires i d lt in
    let long = h.long in
    let here : slice_index (slice_set others wire n) wire ≡ slice_index counts wire = get_or-set_same others wire n 0 (omega arith) in
    record {
      long = length-set others wire n ∙ h.long;
      off = λ w w_lt out. elim (cases_eq w wire) [
        | inl eq ↦ subst (λ x. slice_index (slice_set others wire n) x ≡ slice_index counts x) (sym eq) here
        | inr other ↦ get_or-set_other others wire w n 0 other ∙ h.off w w_lt out
      ];
      on = λ w w_lt stands. elim (cases_eq w wire) [
        | inl eq ↦ subst (λ x. slice_index (slice_set others wire n) x ≡ slice_index counts x) (sym eq) here
        | inr other ↦ get_or-set_other others wire w n 0 other ∙ h.on w w_lt (sym (stands_other wires i (get_or wires i d) w at other) ∙ stands)
      ];
    }

pub back_all : (counts others : List ℕ) (wires : List WireNo) (i : ℕ) → length wires ≤ i → AreBack counts wires i others → others ≡ counts
back_all counts others wires i le h = same_number_lists others counts h.long (λ w lt. by_test (stands_in wires w) w (subst (λ n. w < n) h.long lt) refl)
  where
    by_test : (b : Bool) (w : ℕ) → w < length counts → stands_in wires w ≡ b → slice_index others w ≡ slice_index counts w
    by_test true w lt is = h.on w lt (ap (λ ws. stands_in ws w) (take_all i wires le) ∙ is)
    by_test false w lt is = h.off w lt is
