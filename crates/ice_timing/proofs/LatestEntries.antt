-- The latest of some entries, as they are gone over.
use Rattle.std.proofs.Common.{◌≡◌, ◌⊎◌, ℕ, zero, suc, ◌+◌, ◌<◌, ◌≤◌, List, [], ◌∷◌, length, get_or, Some, inl, inr, refl, sym, ap, ◌∙◌, subst, arith}
use Rattle.std.proofs.lemmas.Bool.{cases_eq}
use Rattle.std.proofs.lemmas.Option.{slice_get-get_or}
use Rattle.ice_base_values.specs.Order.{At, Has}
use Rattle.ice_base_values.proofs.Members.{At_within, Has_read}
use Rattle.ice_base_values.proofs.Places.{At_same}
use Rattle.ice_chip.specs.Database.{Parts}
use Rattle.ice_bits.specs.Configuration.{Bits}
use Rattle.ice_timing_delays.specs.declared.delays.Delays.{Delays}
use Rattle.ice_timing.specs.declared.end.Entry.{Entry}
use Rattle.ice_timing.specs.declared.latest_end.Moment.{Moment}
use Rattle.ice_timing.specs.Arriving.{ArrivalsData, AreArrivalsOf}
use Rattle.ice_timing.specs.Timed.{IsMoment, IsLatestEntry}

-- the moment of an entry by these arrivals, whatever chip they are those of
abbrev pub Reaches : ArrivalsData → Delays → Entry → ℕ → Type 0
Reaches a d entry at = (parts : Parts) (bits : Bits) (extras : List (ℕ × ℕ × ℕ)) → AreArrivalsOf parts bits extras d a → IsMoment parts bits extras d entry at

pub record IsLatestEntrySoFar (a : ArrivalsData) (d : Delays) (entries : List Entry) (count : ℕ) (m : Moment) : Type 0 where
  pub one : Has entries m.entry
  pub moment : Reaches a d m.entry m.at
  pub most : (j : ℕ) (other : Entry) → j < count → At entries j other → (at : ℕ) × Reaches a d other at × (at ≤ m.at)

pub first_entry : (a : ArrivalsData) (d : Delays) (entries : List Entry) (e : Entry) (m : Moment) → 0 < length entries → m.entry ≡ get_or entries 0 e
    → Reaches a d (get_or entries 0 e) m.at → IsLatestEntrySoFar a d entries 0 m
first_entry a d entries e m lt is reaches = record {
  one = subst (Has entries) (sym is) (Has_read entries 0 e lt);
  moment = subst (λ x. Reaches a d x m.at) (sym is) reaches;
  most = λ j other below. absurd (omega (arith, below));
}

pub one_entry_more : (a : ArrivalsData) (d : Delays) (entries : List Entry) (i : ℕ) (e : Entry) (old here new : Moment) → i < length entries
    → IsLatestEntrySoFar a d entries i old → here.entry ≡ get_or entries i e → Reaches a d (get_or entries i e) here.at
    → (new ≡ old) ⊎ (new ≡ here) → old.at ≤ new.at → here.at ≤ new.at → IsLatestEntrySoFar a d entries (i + 1) new
one_entry_more a d entries i e old here new lt so_far is reaches either above behind = record {
  one = elim either [
    | inl same ↦ subst (λ (m : Moment). Has entries m.entry) (sym same) so_far.one
    | inr same ↦ subst (λ (m : Moment). Has entries m.entry) (sym same) (subst (Has entries) (sym is) (Has_read entries i e lt))
  ];
  moment = elim either [
    | inl same ↦ subst (λ (m : Moment). Reaches a d m.entry m.at) (sym same) so_far.moment
    | inr same ↦ subst (λ (m : Moment). Reaches a d m.entry m.at) (sym same) (subst (λ x. Reaches a d x here.at) (sym is) reaches)
  ];
  most = λ j other below there. elim (cases_eq j i) [
    | inl same ↦ (let one : get_or entries i e ≡ other = At_same entries i (get_or entries i e) other (slice_get-get_or entries i e lt) (subst (λ k. At entries k other) same there) in
        (here.at, subst (λ x. Reaches a d x here.at) one reaches, behind))
    | inr ne ↦ (let old_one = so_far.most j other (omega (arith, below, ne)) there in let le = old_one.2 in (old_one.0, old_one.1, omega (arith, le, above)))
  ];
}

pub entries_seen : (a : ArrivalsData) (d : Delays) (entries : List Entry) (i : ℕ) (m : Moment) → length entries ≤ i → IsLatestEntrySoFar a d entries i m
    → (parts : Parts) (bits : Bits) (extras : List (ℕ × ℕ × ℕ)) → AreArrivalsOf parts bits extras d a → IsLatestEntry parts bits extras d entries m
entries_seen a d entries i m le so_far parts bits extras are = record {
  one = so_far.one;
  moment = so_far.moment parts bits extras are;
  most = λ other has.
      (let lt = At_within entries has.0 other has.1 in
      let found = so_far.most has.0 other (omega (arith, le, lt)) has.1 in
      (found.0, found.1 parts bits extras are, found.2));
}

pub no_entries : (entries : List Entry) → length entries ≡ 0 → entries ≡ []
no_entries [] e = refl
no_entries (x ∷ entries) e = cc
