-- No two carries share a look-up table, and one shares a table of its own pair.
use Rattle.std.proofs.Common.{◌≡◌, ℕ, ◌<◌, true, Some, List, length, refl, ap, sym, ◌∙◌, subst, arith, inl, inr}
use Rattle.std.proofs.lemmas.Bool.{cases_lt}
use Rattle.std.proofs.lemmas.Option.{slice_get_within}
use Rattle.ice_cells.specs.declared.share.Pair.{Pair}
use Rattle.ice_cells.specs.declared.share.Role.{Role}
use Rattle.ice_cells.specs.declared.share.Role.TheVariants.{Gives, Takes, Neither}
use Rattle.ice_cells.specs.Pairs.{gives, takes, role, givers, takers, lut_by, lut_of}
use Rattle.ice_cells.proofs.SamePairs.{same_pair_is, same_pair_self}
use Rattle.ice_cells.proofs.RangeFilters.{place_of_passing, passing_at}

gives_is : (p : Pair) (r : Role) → gives p r ≡ true → r ≡ Gives p
gives_is p (Gives q) e = ap Gives (same_pair_is q p e)
gives_is p (Takes q) e = cc
gives_is p Neither e = cc

-- the carry c takes the table a
pub record IsTaking (roles : List Role) (c a : ℕ) : Type 0 where
  pub pair : Pair
  pub carry : role roles c ≡ Takes pair
  pub lut : role roles a ≡ Gives pair
  pub place : length (takers roles pair c) ≡ length (givers roles pair a)

pub taking : (roles : List Role) (c a : ℕ) → lut_of roles c ≡ Some a → IsTaking roles c a
taking roles c a e = by (role roles c) refl e
  where
    by : (r : Role) → role roles c ≡ r → lut_by roles c r ≡ Some a → IsTaking roles c a
    by (Gives p) f g = cc
    by Neither f g = cc
    by (Takes p) f g =
        let passing = passing_at (λ j. gives p (role roles j)) (length roles) (length (takers roles p c)) a g in
        record { pair = p; carry = f; lut = gives_is p (role roles a) passing.passes; place = passing.place }

-- a later carry of the pair has more before it
more_before : (roles : List Role) (p : Pair) (c d : ℕ) → role roles c ≡ Takes p → c < d → length (takers roles p c) < length (takers roles p d)
more_before roles p c d is lt =
    slice_get_within (takers roles p d) (length (takers roles p c)) c (place_of_passing (λ j. takes p (role roles j)) d c lt (ap (takes p) is ∙ same_pair_self p))

gives_same : (p q : Pair) (r : Role) → r ≡ Gives p → r ≡ Gives q → p ≡ q
gives_same p q r e f = let g : Gives p ≡ Gives q = sym e ∙ f in cc

pub one_carry : (roles : List Role) (c d a : ℕ) → lut_of roles c ≡ Some a → lut_of roles d ≡ Some a → c ≡ d
one_carry roles c d a e f =
    let one = taking roles c a e in
    let two = taking roles d a f in
    let same : two.pair ≡ one.pair = gives_same two.pair one.pair (role roles a) two.lut one.lut in
    let carry : role roles d ≡ Takes one.pair = two.carry ∙ ap Takes same in
    let place : length (takers roles one.pair d) ≡ length (givers roles one.pair a) = subst (λ p. length (takers roles p d) ≡ length (givers roles p a)) same two.place in
    elim (cases_lt c d) [
      | inl before ↦ (let more = more_before roles one.pair c d one.carry before in let first = one.place in absurd (omega arith))
      | inr behind ↦ elim (cases_lt d c) [
        | inl other ↦ (let more = more_before roles one.pair d c carry other in let first = one.place in absurd (omega arith))
        | inr equal ↦ (let g : c ≡ d = omega arith in g)
      ]
    ]
