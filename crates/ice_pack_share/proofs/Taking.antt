-- Look-up tables by their turns, and what carries take.
use Rattle.std.proofs.Common.{◌≡◌, ℕ, zero, suc, ◌+◌, ◌<◌, ◌≤◌, Bool, true, false, cond, Option, Some, List, [], ◌∷◌, ◌++◌, append-nil, length, get_or, refl, ap, sym, ◌∙◌, eqb, arith, inl, inr}
use Rattle.std.specs.Prelude.{◌&&◌, ◌==◌, if◌then◌else◌, slice_get}
use Rattle.std.specs.List.{filter, range_with_len}
use Rattle.std.proofs.lemmas.Bool.{eq-eqb, ne_eqb, cases_eq}
use Rattle.std.proofs.lemmas.List.{length-append, get_or_default}
use Rattle.std.proofs.lemmas.List.FromFn.{map-range_with_len_more, length-range_with_len}
use Rattle.ice_cells.specs.declared.share.Pair.{Pair}
use Rattle.ice_cells.specs.declared.share.Role.{Role}
use Rattle.ice_cells.specs.declared.share.Role.TheVariants.{Gives, Takes, Neither}
use Rattle.ice_cells.specs.Pairs.{gives, takes, role, givers, lut_by, lut_of}
use Rattle.ice_cells.specs.Tables.{table}
use Rattle.ice_cells.proofs.RangeFilters.{filter_more}
use Rattle.ice_pack_share.specs.declared.pairing.Turn.{Turn}
use Rattle.ice_pack_share.specs.Turns.{turn_of, lut_taken, count_in, one_if, lut_at, AreByTurn, AreCounted}

length_filter : (test : ℕ → Bool) (xs : List ℕ) → length (filter test xs) ≤ length xs
length_filter test [] = omega arith
length_filter test (x ∷ xs) = by (test x) (length_filter test xs)
  where
    by : (b : Bool) → length (filter test xs) ≤ length xs → length (cond b (x ∷ filter test xs) (filter test xs)) ≤ suc (length xs)
    by true le = omega arith
    by false le = omega arith

pub few_counted : (has : Pair → Role → Bool) (roles : List Role) (i : ℕ) (counts : List (Pair × ℕ)) → AreCounted has roles i counts → (p : Pair) → count_in counts p ≤ i
few_counted has roles i counts are p =
    let e = are p in let le = length_filter (λ j. has p (role roles j)) (range_with_len 0 i) in let l = length-range_with_len 0 i in omega arith

get_at : (xs : List ℕ) (x : ℕ) → slice_get (xs ++ x ∷ []) (length xs) ≡ Some x
get_at [] x = refl
get_at (y ∷ xs) x = get_at xs x

get_other : (xs : List ℕ) (x k : ℕ) → (k ≡ length xs → ⊥) → slice_get (xs ++ x ∷ []) k ≡ slice_get xs k
get_other [] x zero ne = absurd (ne refl)
get_other [] x (suc k) ne = refl
get_other (y ∷ xs) x zero ne = refl
get_other (y ∷ xs) x (suc k) ne = get_other xs x k (λ e. ne (ap suc e))

push_get : (xs : List ℕ) (x k : ℕ) → slice_get (xs ++ x ∷ []) k ≡ cond (eqb (length xs) k) (Some x) (slice_get xs k)
push_get xs x k = elim (cases_eq k (length xs)) [
  | inl e ↦ ap (slice_get (xs ++ x ∷ [])) e ∙ get_at xs x ∙ ap (λ b. cond b (Some x) (slice_get xs k)) (sym (eq-eqb (length xs) k (sym e)))
  | inr ne ↦ get_other xs x k ne ∙ ap (λ b. cond b (Some x) (slice_get xs k)) (sym (ne_eqb (length xs) k (λ e. ne (sym e))))
]

-- one more cell
pub by_turn_more : (roles : List Role) (i : ℕ) (d : Role) (old new : List (Turn × ℕ)) (counts : List (Pair × ℕ)) → i < length roles → AreByTurn roles i old → AreCounted gives roles i counts
    → ((p : Pair) (k : ℕ) → lut_at new (turn_of p k) ≡ (if gives p (get_or roles i d) && (count_in counts p == k) then Some i else lut_at old (turn_of p k))) → AreByTurn roles (i + 1) new
by_turn_more roles i d old new counts lt were are put p k =
    put p k ∙ ap (λ r. cond (gives p r && (count_in counts p == k)) (Some i) (lut_at old (turn_of p k))) (get_or_default roles i d Neither lt)
    ∙ by (gives p (role roles i)) ∙ ap (λ xs. slice_get xs k) (sym (filter_more (λ j. gives p (role roles j)) i))
  where
    by : (b : Bool) → cond (b && (count_in counts p == k)) (Some i) (lut_at old (turn_of p k)) ≡ slice_get (givers roles p i ++ cond b (i ∷ []) []) k
    by true = ap (λ n. cond (n == k) (Some i) (lut_at old (turn_of p k))) (are p) ∙ ap (λ o. cond (length (givers roles p i) == k) (Some i) o) (were p k) ∙ sym (push_get (givers roles p i) i k)
    by false = were p k ∙ ap (λ xs. slice_get xs k) (sym (append-nil (givers roles p i)))

pub counted_more : (has : Pair → Role → Bool) (roles : List Role) (i : ℕ) (d : Role) (old new : List (Pair × ℕ)) → i < length roles → AreCounted has roles i old
    → ((p : Pair) → count_in new p ≡ count_in old p + one_if (has p (get_or roles i d))) → AreCounted has roles (i + 1) new
counted_more has roles i d old new lt were step p =
    step p ∙ ap (λ r. count_in old p + one_if (has p r)) (get_or_default roles i d Neither lt) ∙ by (has p (role roles i)) ∙ ap length (sym (filter_more (λ j. has p (role roles j)) i))
  where
    before : List ℕ
    before = filter (λ j. has p (role roles j)) (range_with_len 0 i)

    by : (b : Bool) → count_in old p + one_if b ≡ length (before ++ cond b (i ∷ []) [])
    by true = let e = were p in let l = length-append before (i ∷ []) in omega arith
    by false = let e = were p in let l = length-append before [] in omega arith

pub none_counted : (has : Pair → Role → Bool) (roles : List Role) → AreCounted has roles 0 []
none_counted has roles p = refl

pub none_by_turn : (roles : List Role) → AreByTurn roles 0 []
none_by_turn roles p k = refl

taken_is : (roles : List Role) (i : ℕ) (luts : List (Turn × ℕ)) (counts : List (Pair × ℕ)) → AreByTurn roles (length roles) luts → AreCounted takes roles i counts → (r : Role) → lut_taken luts counts r ≡ lut_by roles i r
taken_is roles i luts counts all are (Gives p) = refl
taken_is roles i luts counts all are (Takes p) = all p (count_in counts p) ∙ ap (slice_get (givers roles p (length roles))) (are p)
taken_is roles i luts counts all are Neither = refl

pub luts_more : (roles : List Role) (i : ℕ) (d : Role) (by_turn : List (Turn × ℕ)) (counts : List (Pair × ℕ)) (luts : List (Option ℕ)) (lut : Option ℕ) → i < length roles
    → AreByTurn roles (length roles) by_turn → AreCounted takes roles i counts → luts ≡ table (lut_of roles) i → lut ≡ lut_taken by_turn counts (get_or roles i d) → luts ++ lut ∷ [] ≡ table (lut_of roles) (i + 1)
luts_more roles i d by_turn counts luts lut lt all are is e =
    let l : lut ≡ lut_of roles i = e ∙ ap (lut_taken by_turn counts) (get_or_default roles i d Neither lt) ∙ taken_is roles i by_turn counts all are (role roles i) in
    ap (λ xs. xs ++ lut ∷ []) is ∙ ap (λ x. table (lut_of roles) i ++ x ∷ []) l ∙ sym (map-range_with_len_more (lut_of roles) 0 i i (omega arith))
