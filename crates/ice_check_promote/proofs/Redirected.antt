-- Tables of what is read where clocks have buffers, as they are made.
use Rattle.std.proofs.Common.{◌≡◌, ℕ, zero, suc, ◌+◌, ◌<◌, ◌≤◌, List, [], ◌∷◌, ◌++◌, length, drop, get_or, set, All, inl, inr, sym, ap, ◌∙◌, subst, arith, length-set, get_or-set_same, get_or-set_other, drop_of_length-le}
use Rattle.std.specs.List.{range_with_len}
use Rattle.std.proofs.lemmas.Bool.Decides.{eqb_tells}
use Rattle.std.proofs.lemmas.List.{drop_more}
use Rattle.std.proofs.lemmas.List.FromFn.{length-range_with_len, get_or-range_with_len}
use Rattle.ice_check_promote.specs.Promoted.{buffered}
use Rattle.ice_check_promote.specs.Filling.{AreReadAs}

-- the same where the first buffer's signal has any number
pub record AreReadFrom (count next : ℕ) (clocks table : List ℕ) : Type 0 where
  pub long : length table ≡ count
  pub reads : (s : ℕ) → s < count → get_or table s 0 ≡ buffered next clocks s

own : (count s : ℕ) → s < count → get_or (range_with_len 0 count) s 0 ≡ s
own count s lt = get_or-range_with_len 0 count s 0 lt ∙ (let e : 0 + s ≡ s = omega arith in e)

-- without buffers each signal is read itself
pub none_redirected : (count place : ℕ) (clocks table : List ℕ) → length clocks ≤ place → table ≡ range_with_len 0 count → AreReadFrom count (count + place) (drop place clocks) table
none_redirected count place clocks table le e =
    subst (λ (list : List ℕ). AreReadFrom count (count + place) list table) (sym (drop_of_length-le clocks le))
    (subst (λ (list : List ℕ). AreReadFrom count (count + place) [] list) (sym e) (record { long = length-range_with_len 0 count; reads = own count }))

-- one clock more, before the others
redirect : (count next clock : ℕ) (clocks old : List ℕ) → clock < count → AreReadFrom count (next + 1) clocks old → AreReadFrom count next (clock ∷ clocks) (set old clock next)
redirect count next clock clocks old lt h = record {
  long = length-set old clock next ∙ h.long;
  reads = λ s below.
      elim (eqb_tells clock s) [
        | inl same ↦ rw same.0 (subst (λ t. get_or (set old clock next) t 0 ≡ next) same.1 (get_or-set_same old clock next 0 (let long = h.long in omega (arith, lt, long))))
        | inr other ↦ rw other.0 (get_or-set_other old clock s next 0 (λ e. other.1 (sym e)) ∙ h.reads s below)
      ];
}

pub more_redirected : (count place d : ℕ) (clocks old : List ℕ) → place < length clocks → All (λ clock. clock < count) clocks
    → AreReadFrom count (count + (place + 1)) (drop (place + 1) clocks) old → AreReadFrom count (count + place) (drop place clocks) (set old (get_or clocks place d) (count + place))
more_redirected count place d clocks old lt below h =
    subst (λ (list : List ℕ). AreReadFrom count (count + place) list (set old (get_or clocks place d) (count + place))) (sym (drop_more clocks place d lt))
    (redirect count (count + place) (get_or clocks place d) (drop (place + 1) clocks) old (below place d lt)
    (subst (λ next. AreReadFrom count next (drop (place + 1) clocks) old) (let e : count + (place + 1) ≡ count + place + 1 = omega arith in e) h))

pub all_redirected : (count : ℕ) (clocks table : List ℕ) → AreReadFrom count (count + 0) (drop 0 clocks) table → AreReadAs count clocks table
all_redirected count clocks table h = record {
  long = h.long;
  reads = λ s lt. h.reads s lt ∙ ap (λ next. buffered next clocks s) (let e : count + 0 ≡ count = omega arith in e);
}

-- one number more, behind the others
from_more : (a n : ℕ) → range_with_len a (n + 1) ≡ range_with_len a n ++ (a + n) ∷ []
from_more a zero = ap (λ m. m ∷ []) (let e : a ≡ a + 0 = omega arith in e)
from_more a (suc n) =
    ap (range_with_len a) (let e : suc n + 1 ≡ suc (n + 1) = omega arith in e)
    ∙ ap (λ ms. a ∷ ms) (from_more (a + 1) n ∙ ap (λ m. range_with_len (a + 1) n ++ m ∷ []) (let e : a + 1 + n ≡ a + suc n = omega arith in e))

pub numbers_more : (n : ℕ) → range_with_len 0 (n + 1) ≡ range_with_len 0 n ++ n ∷ []
numbers_more n = from_more 0 n ∙ ap (λ m. range_with_len 0 n ++ m ∷ []) (let e : 0 + n ≡ n = omega arith in e)
