-- Tables, and what goes by and changes them.
use Rattle.std.proofs.Common.{◌≡◌, ℕ, zero, suc, ◌<◌, Bool, true, false, cond, Option, None, Some, List, [], ◌∷◌, refl, ap, sym, ◌∙◌, length, option_map, get_or, set, inl, inr, arith, replicate}
use Rattle.std.specs.List.{find}
use Rattle.std.proofs.lemmas.Bool.{cases_eq, eq-eqb, ne_eqb}
use Rattle.std.proofs.lemmas.List.{ext_get_or, length-set, get_or-set_same, get_or-set_other, get_or-replicate, length-replicate}
use Rattle.std.proofs.lemmas.List.FromFn.{length-map-range_with_len, get_or-map-range_with_len}
use Rattle.ice_net.specs.Meaning.{number_of, table_bit}
use Rattle.ice_cells.specs.Tables.{table, is_place, gathered, put_at, scattered, keep}

pub length-table : {X : Type 0} (f : ℕ → X) (n : ℕ) → length (table f n) ≡ n
length-table f n = length-map-range_with_len f 0 n

pub get_or-table : {X : Type 0} (f : ℕ → X) (n w : ℕ) (d : X) → w < n → get_or (table f n) w d ≡ f w
get_or-table f n w d lt = get_or-map-range_with_len f 0 n w w d lt (omega arith)

-- a list is the table of a function where each of its entries is
pub table_from : {X : Type 0} (f : ℕ → X) (n : ℕ) (xs : List X) (d : X) → length xs ≡ n → ((w : ℕ) → w < n → get_or xs w d ≡ f w) → xs ≡ table f n
table_from f n xs d long are =
    ext_get_or d xs (table f n) (long ∙ sym (length-table f n))
    (λ w lt. let below : w < n = omega arith in are w below ∙ sym (get_or-table f n w d below))

pub table_same : {X : Type 0} (f g : ℕ → X) (n : ℕ) → ((w : ℕ) → w < n → f w ≡ g w) → table f n ≡ table g n
table_same f g zero same = refl
table_same {X} f g (suc n) same = table_from g (suc n) (table f (suc n)) (f 0) (length-table f (suc n)) (λ w lt. get_or-table f (suc n) w (f 0) lt ∙ same w lt)

pub replicate_table : {X : Type 0} (n : ℕ) (x : X) → replicate n x ≡ table (λ j. x) n
replicate_table n x = table_from (λ j. x) n (replicate n x) x (length-replicate n x) (λ w lt. get_or-replicate n w x x lt)

module _ {U R : Type 0} (place : R → Option ℕ) (after : U → R → U) (d : U) where
  abbrev one : (ℕ → U) → R → Option ℕ → ℕ → U
  one f r p j = cond (is_place j p) (after (f j) r) (f j)

  put_table : (f : ℕ → U) (n : ℕ) (r : R) (p : Option ℕ) → put_at after d (table f n) r p ≡ table (one f r p) n
  put_table f n r None = refl
  put_table f n r (Some k) =
      table_from (one f r (Some k)) n (set (table f n) k x) d (length-set (table f n) k x ∙ length-table f n)
      (λ w lt. elim (cases_eq w k) [
        | inl e ↦ here w lt e
        | inr ne ↦ get_or-set_other (table f n) k w x d ne ∙ get_or-table f n w d lt ∙ ap (λ b. cond b (after (f w) r) (f w)) (sym (ne_eqb k w (λ e. ne (sym e))))
      ])
    where
      x : U
      x = after (get_or (table f n) k d) r

      here : (w : ℕ) → w < n → w ≡ k → get_or (set (table f n) k x) w d ≡ one f r (Some k) w
      here w lt e =
          let long : k < length (table f n) = let l = length-table f n in omega arith in
          let at : get_or (table f n) k d ≡ f k = get_or-table f n k d (omega arith) in
          ap (λ i. get_or (set (table f n) k x) i d) e ∙ get_or-set_same (table f n) k x d long ∙ ap (λ u. after u r) at
          ∙ ap (λ b. cond b (after (f k) r) (f k)) (sym (eq-eqb k k refl)) ∙ ap (λ i. one f r (Some k) i) (sym e)

  -- what has gone by a table has gone by each of its places
  pub scattered_table : (f : ℕ → U) (n : ℕ) (rs : List R) → scattered place after d (table f n) rs ≡ table (λ j. gathered place after j (f j) rs) n
  scattered_table f n [] = refl
  scattered_table f n (r ∷ rs) = ap (λ us. scattered place after d us rs) (put_table f n r (place r)) ∙ scattered_table (one f r (place r)) n rs

-- what stands at a place is the value of the first thing of that place
module _ {R V : Type 0} (place : R → Option ℕ) (value : R → V) (j : ℕ) where
  gathered_held : (rs : List R) (x : V) → gathered place (keep value) j (Some x) rs ≡ Some x
  gathered_held [] x = refl
  gathered_held (r ∷ rs) x = by (is_place j (place r)) (gathered_held rs x)
    where
      by : (b : Bool) → gathered place (keep value) j (Some x) rs ≡ Some x → gathered place (keep value) j (cond b (Some x) (Some x)) rs ≡ Some x
      by true rest = rest
      by false rest = rest

  pub gathered_kept : (rs : List R) → gathered place (keep value) j None rs ≡ option_map value (find (λ r. is_place j (place r)) rs)
  gathered_kept [] = refl
  gathered_kept (r ∷ rs) = by (is_place j (place r)) (gathered_kept rs) (gathered_held rs (value r))
    where
      by : (b : Bool) → gathered place (keep value) j None rs ≡ option_map value (find (λ r. is_place j (place r)) rs) → gathered place (keep value) j (Some (value r)) rs ≡ Some (value r)
          → gathered place (keep value) j (cond b (Some (value r)) None) rs ≡ option_map value (cond b (Some r) (find (λ r. is_place j (place r)) rs))
      by true none held = held
      by false none held = none

-- a list of all places that keeps the first thing of each
pub scattered_kept : {R V : Type 0} (place : R → Option ℕ) (value : R → V) (n : ℕ) (rs : List R)
    → scattered place (keep value) None (replicate n None) rs ≡ table (λ j. option_map value (find (λ r. is_place j (place r)) rs)) n
scattered_kept place value n rs =
    ap (λ us. scattered place (keep value) None us rs) (replicate_table n None) ∙ scattered_table place (keep value) None (λ j. None) n rs
    ∙ table_same _ (λ j. option_map value (find (λ r. is_place j (place r)) rs)) n (λ j lt. gathered_kept place value j rs)

-- the table that hands its first input on
pub passes : (b : Bool) → table_bit 43690 (number_of (b ∷ false ∷ false ∷ false ∷ [])) ≡ b
passes true = refl
passes false = refl
