-- The numbers of the cells that pass carries on.
use Rattle.std.proofs.Common.{◌≡◌, ◌⊎◌, ℕ, zero, suc, ◌+◌, Bool, true, false, Option, None, Some, List, [], ◌∷◌, length, refl, ap, sym, ◌∙◌, subst, arith, inl, inr}
use Rattle.std.specs.Prelude.{option_map}
use Rattle.std.specs.List.{find}
use Rattle.std.proofs.lemmas.Bool.{eq-eqb, eqb-true}
use Rattle.std.proofs.lemmas.Option.{none-some, same_Some}
use Rattle.ice_base_values.specs.Order.{At, Has}
use Rattle.ice_base_values.proofs.Members.{At_parts, Has_none, Has_find, find_Has}
use Rattle.ice_base_values.proofs.ListPlaces.{Has_left, Has_right}
use Rattle.ice_cells.specs.declared.follow.Follow.{Follow}
use Rattle.ice_cells.specs.Chains.{Head, Fed, end, takes_in, passes_out, one_if, feeds, fed_if, fed_from, place_at, number_at, number_by}
use Rattle.ice_cells.specs.Tables.{is_place}
use Rattle.ice_carry_chains.proofs.RunLists.{feeds_before, one_further}

none_more : (k : ℕ) → k + 0 ≡ k
none_more k = omega arith

-- the last carry of a run, with the cell that passes it on, where that has the number k
abbrev pub fed_of : List Follow → Head → ℕ → Fed
fed_of marks x k = (end marks (length marks) x.0, k + one_if (takes_in x))

if_has : (b : Bool) (p : Fed) → b ≡ true → Has (fed_if b p) p
if_has true p e = (0, refl)
if_has false p e = cc

if_back : (b : Bool) (p q : Fed) → Has (fed_if b p) q → (b ≡ true) × (p ≡ q)
if_back true p q (zero, at) = (refl, same_Some p q at)
if_back true p q (suc i, at) = absurd (none-some q at)
if_back false p q (i, at) = absurd (none-some q at)

pub fed_there : (marks : List Follow) (k : ℕ) (heads : List Head) (r : ℕ) (x : Head) → At heads r x → passes_out marks x ≡ true
    → Has (fed_from marks k heads) (fed_of marks x (k + feeds_before marks heads r))
fed_there marks k [] r x at e = absurd (none-some x at)
fed_there marks k (h ∷ heads) zero x at e =
    Has_left (fed_if (passes_out marks h) (fed_of marks h k)) (fed_from marks (k + feeds marks h) heads) (fed_of marks x (k + 0))
    (subst (λ (p : Fed). Has (fed_if (passes_out marks h) (fed_of marks h k)) p) (λ i. fed_of marks (same_Some h x at i) (sym (none_more k) i))
    (if_has (passes_out marks h) (fed_of marks h k) (ap (passes_out marks) (same_Some h x at) ∙ e)))
fed_there marks k (h ∷ heads) (suc r) x at e =
    Has_right (fed_if (passes_out marks h) (fed_of marks h k)) (fed_from marks (k + feeds marks h) heads) (fed_of marks x (k + (feeds marks h + feeds_before marks heads r)))
    (subst (λ n. Has (fed_from marks (k + feeds marks h) heads) (fed_of marks x n)) (one_further k (feeds marks h) (feeds_before marks heads r)) (fed_there marks (k + feeds marks h) heads r x at e))

pub record IsFed (marks : List Follow) (k : ℕ) (heads : List Head) (p : Fed) : Type 0 where
  pub run : ℕ
  pub head : Head
  pub at : At heads run head
  pub passes : passes_out marks head ≡ true
  pub is : fed_of marks head (k + feeds_before marks heads run) ≡ p

pub fed_back : (marks : List Follow) (k : ℕ) (heads : List Head) (p : Fed) → Has (fed_from marks k heads) p → IsFed marks k heads p
fed_back marks k [] p has = absurd (Has_none p has)
fed_back marks k (h ∷ heads) p (i, at) = by (At_parts (fed_if (passes_out marks h) (fed_of marks h k)) (fed_from marks (k + feeds marks h) heads) i p at) (fed_back marks (k + feeds marks h) heads p)
  where
    by : At (fed_if (passes_out marks h) (fed_of marks h k)) i p ⊎ ((j : ℕ) × (i ≡ length (fed_if (passes_out marks h) (fed_of marks h k)) + j) × At (fed_from marks (k + feeds marks h) heads) j p)
        → (Has (fed_from marks (k + feeds marks h) heads) p → IsFed marks (k + feeds marks h) heads p) → IsFed marks k (h ∷ heads) p
    by (inl here) rest =
        let back = if_back (passes_out marks h) (fed_of marks h k) p (i, here) in
        record { run = 0; head = h; at = refl; passes = back.0; is = ap (fed_of marks h) (none_more k) ∙ back.1 }
    by (inr (j, e, there)) rest =
        let old = rest (j, there) in
        record { run = suc old.run; head = old.head; at = old.at; passes = old.passes; is = ap (fed_of marks old.head) (sym (one_further k (feeds marks h) (feeds_before marks heads old.run))) ∙ old.is }

-- ---- numbers by cells
pub number_there : (pairs : List Fed) (c m : ℕ) → Has pairs (c, m) → (n : ℕ) × (number_by pairs c ≡ Some n)
number_there pairs c m has =
    let there = Has_find (λ (pair : Fed). is_place c (place_at pair)) pairs (c, m) has (eq-eqb c c refl) in
    ((there.0).1, ap (option_map number_at) there.1)

pub number_back : (pairs : List Fed) (c m : ℕ) → number_by pairs c ≡ Some m → Has pairs (c, m)
number_back pairs c m e = by (find (λ (pair : Fed). is_place c (place_at pair)) pairs) refl e
  where
    by : (o : Option Fed) → find (λ (pair : Fed). is_place c (place_at pair)) pairs ≡ o → option_map number_at o ≡ Some m → Has pairs (c, m)
    by None f g = absurd (none-some m g)
    by (Some pair) f g =
        let back = find_Has (λ (pair : Fed). is_place c (place_at pair)) pairs pair f in
        let place : pair.0 ≡ c = eqb-true pair.0 c back.1 in
        let number : pair.1 ≡ m = same_Some pair.1 m g in
        subst (λ (p : Fed). Has pairs p) (λ i. (place i, number i)) back.0
