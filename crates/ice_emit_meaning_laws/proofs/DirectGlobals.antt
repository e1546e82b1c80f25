-- The extra bits that are set are those of the globals that direct buffers have.
use Rattle.std.proofs.Common.{◌≡◌, inl, inr, ℕ, zero, suc, ◌<◌, Bool, true, false, Option, None, Some, List, [], ◌∷◌, refl, sym, ap, ◌∙◌, arith, true≢false}
use Rattle.std.specs.Prelude.{◌==◌, ◌&&◌, filter, nat_eq, slice_get, slice_index_or}
use Rattle.std.proofs.lemmas.Bool.{and_from, and_parts, or_cases, or_left, or_right, false_from_ne_true}
use Rattle.std.proofs.lemmas.Option.{none-some, same_Some}
use Rattle.ice_base.proofs.Keys.{nat_same, nat_self}
use Rattle.ice_base_values.specs.Order.{At, Has}
use Rattle.ice_base_values.proofs.Members.{Has_any, Has_filter, Has_map, any_Has, filter_Has}
use Rattle.ice_chip.specs.Lookups.{padin_of}
use Rattle.ice_decode.specs.Direct.{same_extra, is_extra_of, is_padin, padins, takes_pad}
use Rattle.ice_decode.specs.Direct as decoding
use Rattle.ice_pads.specs.Globals.{numbers}
use Rattle.ice_place_defs.specs.Plan.{is_direct}
use Rattle.ice_emit_rows_laws.proofs.Mapped.{Has_mapped_by, mapped_by_Has}
use Rattle.ice_emit_defs.specs.Written.{takes_direct, plan_extras}
use Rattle.ice_emit_meaning_laws.proofs.Premises.{Premises}

-- ---- extra bits
extra_self : (e : ℕ × ℕ × ℕ) → same_extra e e ≡ true
extra_self e = and_from ((e.0 == e.0) && (e.1 == e.1)) (e.2 == e.2) (and_from (e.0 == e.0) (e.1 == e.1) (nat_self e.0) (nat_self e.1)) (nat_self e.2)

extra_same : (a b : ℕ × ℕ × ℕ) → same_extra a b ≡ true → a ≡ b
extra_same (a, x, y) (b, z, w) e =
    let two = and_parts ((a == b) && (x == z)) (y == w) e in
    let one = and_parts (a == b) (x == z) two.0 in
    let first = nat_same a b one.0 in
    let second = nat_same x z one.1 in
    let third = nat_same y w two.1 in
    λ i. (first i, second i, third i)

own_is : (o : Option (ℕ × ℕ × ℕ)) (e : ℕ × ℕ × ℕ) → is_extra_of o e ≡ true → o ≡ Some e
own_is None e is = absurd (true≢false (sym is))
own_is (Some own) e is = ap (λ (x : ℕ × ℕ × ℕ). Some x) (extra_same own e is)

-- ---- buffers that are direct
direct_taken : (globals : List ℕ) (direct : List Bool) (b n : ℕ) → At globals b n → slice_index_or direct b false ≡ true → takes_direct globals direct n ≡ true
direct_taken [] direct b n at is = absurd (none-some n at)
direct_taken (m ∷ globals) [] b n at is = absurd (true≢false (sym is))
direct_taken (m ∷ globals) (d ∷ direct) zero n at is =
    or_left (d && nat_eq n m) (takes_direct globals direct n) (and_from d (nat_eq n m) is (ap (nat_eq n) (same_Some m n at) ∙ nat_self n))
direct_taken (m ∷ globals) (d ∷ direct) (suc b) n at is = or_right (d && nat_eq n m) (takes_direct globals direct n) (direct_taken globals direct b n at is)

taken_direct : (globals : List ℕ) (direct : List Bool) (n : ℕ) → takes_direct globals direct n ≡ true → (b : ℕ) × At globals b n × (slice_index_or direct b false ≡ true)
taken_direct [] direct n is = absurd (true≢false (sym is))
taken_direct (m ∷ globals) [] n is = absurd (true≢false (sym is))
taken_direct (m ∷ globals) (d ∷ direct) n is = elim (or_cases (d && nat_eq n m) (takes_direct globals direct n) is) [
  | inl here ↦ let both = and_parts d (nat_eq n m) here in (0, ap (λ (k : ℕ). Some k) (sym (nat_same n m both.1)), both.0)
  | inr there ↦ let more = taken_direct globals direct n there in (suc more.0, more.1, more.2)
]

among_eight : (m : ℕ) → m < 8 → Has numbers m
among_eight zero lt = (0, refl)
among_eight (suc zero) lt = (1, refl)
among_eight (suc (suc zero)) lt = (2, refl)
among_eight (suc (suc (suc zero))) lt = (3, refl)
among_eight (suc (suc (suc (suc zero)))) lt = (4, refl)
among_eight (suc (suc (suc (suc (suc zero))))) lt = (5, refl)
among_eight (suc (suc (suc (suc (suc (suc zero)))))) lt = (6, refl)
among_eight (suc (suc (suc (suc (suc (suc (suc zero))))))) lt = (7, refl)
among_eight (suc (suc (suc (suc (suc (suc (suc (suc m)))))))) lt = absurd (omega (arith, lt))

module _ (g : Premises) where
  abbrev takes : ℕ → Bool
  takes n = takes_direct g.plan.globals g.plan.direct n

  -- an extra bit that is set is that of the global of a direct buffer
  pub record IsOfBuffer (e : ℕ × ℕ × ℕ) : Type 0 where
    pub buffer : ℕ
    pub global : ℕ
    pub at : At g.plan.globals buffer global
    pub direct : is_direct g.plan buffer ≡ true
    pub extra : padin_of g.parts global ≡ Some e
    pub number : Has numbers global

  of_buffer : (e : ℕ × ℕ × ℕ) → Has (plan_extras g.parts g.plan) e → IsOfBuffer e
  of_buffer e has =
      let found = Has_mapped_by (padin_of g.parts) (filter takes numbers) e has in
      let both = filter_Has takes numbers found.0 found.1 in
      let buffer = taken_direct g.plan.globals g.plan.direct found.0 both.1 in
      record { buffer = buffer.0; global = found.0; at = buffer.1; direct = buffer.2; extra = found.2; number = both.0 }

  set_extra : (e : ℕ × ℕ × ℕ) → Has g.extras e → Has (plan_extras g.parts g.plan) e
  set_extra e (i, at) = (i, ap (λ (es : List (ℕ × ℕ × ℕ)). slice_get es i) (sym g.extras_are) ∙ at)

  -- it is some global's
  pub is_known : (e : ℕ × ℕ × ℕ) → Has g.extras e → is_padin g.parts e ≡ true
  is_known e has =
      let of = of_buffer e (set_extra e has) in
      let own = Has_map (padin_of g.parts) decoding.globals of.global of.number in
      Has_any (λ o. is_extra_of o e) (padins g.parts) (padin_of g.parts of.global) own.0 own.1 (ap (λ o. is_extra_of o e) of.extra ∙ extra_self e)

  -- the global of a direct buffer has the level of a pad
  pub direct_takes : (b n : ℕ) → At g.plan.globals b n → is_direct g.plan b ≡ true → takes_pad g.parts g.extras n ≡ true
  direct_takes b n at is =
      let own = g.placed.pads.direct b n at is in
      let there = Has_filter takes numbers n (among_eight n (g.placed.pads.named b n at).below) (direct_taken g.plan.globals g.plan.direct b n at is) in
      let set = mapped_by_Has (padin_of g.parts) (filter takes numbers) n own.extra there own.extra_of in
      let here : At g.extras set.0 own.extra = ap (λ (es : List (ℕ × ℕ × ℕ)). slice_get es set.0) g.extras_are ∙ set.1 in
      Has_any (is_extra_of (padin_of g.parts n)) g.extras own.extra set.0 here (ap (λ o. is_extra_of o own.extra) own.extra_of ∙ extra_self own.extra)

  -- that of another has not
  pub fed_takes_not : (b n : ℕ) → At g.plan.globals b n → is_direct g.plan b ≡ false → takes_pad g.parts g.extras n ≡ false
  fed_takes_not b n at not_direct = false_from_ne_true (takes_pad g.parts g.extras n) (λ is. true≢false (sym (taken is) ∙ not_direct))
    where
      taken : takes_pad g.parts g.extras n ≡ true → is_direct g.plan b ≡ true
      taken is =
          let found = any_Has (is_extra_of (padin_of g.parts n)) g.extras is in
          let of = of_buffer found.0 (set_extra found.0 found.1) in
          let own = g.placed.pads.direct of.buffer of.global of.at of.direct in
          let extra : padin_of g.parts n ≡ Some own.extra = own_is (padin_of g.parts n) found.0 found.2 ∙ sym of.extra ∙ own.extra_of in
          let same : n ≡ of.global = own.alone n extra in
          let buffer : of.buffer ≡ b = g.placed.pads.single of.buffer b n (of.at ∙ ap (λ (k : ℕ). Some k) (sym same)) at in
          ap (is_direct g.plan) (sym buffer) ∙ of.direct
