-- New trees in the place of old ones, at places of which no two are the same.
use Rattle.std.proofs.Common.{◌≡◌, ◌≢◌, ℕ, zero, suc, ◌+◌, ◌<◌, List, [], ◌∷◌, ◌++◌, Some, length, take, get_or, slice_get, slice_set, length-set, refl, sym, ap, ◌∙◌, arith}
use Rattle.std.proofs.lemmas.Option.{slice_get_within, slice_get-get_or, get_or_from_slice_get}
use Rattle.std.proofs.lemmas.List.{length-take-le, take_more}
use Rattle.std.proofs.lemmas.List.Sums.{sum_by-cons}
use Rattle.std.specs.List.{sum_by}
use Rattle.ice_base.specs.declared.number.NetNo.{NetNo}
use Rattle.ice_negotiate_round.specs.Moving.{placed}

-- no two of these are the same
abbrev pub AreApart : List NetNo → Type 0
AreApart moved = (j k : ℕ) (net : NetNo) → slice_get moved j ≡ Some net → slice_get moved k ≡ Some net → j ≡ k

abbrev pub AreBelow : ℕ → List NetNo → Type 0
AreBelow n moved = (k : ℕ) (net : NetNo) → slice_get moved k ≡ Some net → net.0 < n

-- the number n is none of these
abbrev pub IsNone : List NetNo → ℕ → Type 0
IsNone moved n = (k : ℕ) (net : NetNo) → slice_get moved k ≡ Some net → net.0 ≢ n

abbrev numbered : ℕ → NetNo
numbered n = record { 0 = n }

same_net : (a b : NetNo) → a.0 ≡ b.0 → a ≡ b
same_net a b e = ap numbered e

pub apart_rest : (x : NetNo) (moved : List NetNo) → AreApart (x ∷ moved) → AreApart moved
apart_rest x moved apart j k net a b = (let e : suc j ≡ suc k = apart (suc j) (suc k) net a b in omega arith)

pub below_rest : (n : ℕ) (x : NetNo) (moved : List NetNo) → AreBelow n (x ∷ moved) → AreBelow n moved
below_rest n x moved below k net at = below (suc k) net at

-- the first is none of the others
pub first_apart : (x : NetNo) (moved : List NetNo) → AreApart (x ∷ moved) → IsNone moved x.0
first_apart x moved apart k net at same = (let place : zero ≡ suc k = apart zero (suc k) x refl (at ∙ ap Some (same_net net x same)) in omega arith)

module _ {A : Type 0} where
  got_same : (xs : List A) (i : ℕ) (a : A) → i < length xs → slice_get (slice_set xs i a) i ≡ Some a
  got_same [] i a lt = absurd (omega arith)
  got_same (x ∷ xs) zero a lt = refl
  got_same (x ∷ xs) (suc i) a lt = got_same xs i a (omega arith)

  got_other : (xs : List A) (i : ℕ) (a : A) (k : ℕ) → k ≢ i → slice_get (slice_set xs i a) k ≡ slice_get xs k
  got_other [] i a k other = refl
  got_other (x ∷ xs) zero a zero other = absurd (other refl)
  got_other (x ∷ xs) zero a (suc k) other = refl
  got_other (x ∷ xs) (suc i) a zero other = refl
  got_other (x ∷ xs) (suc i) a (suc k) other = got_other xs i a k (λ e. other (ap suc e))

  pub placed_long : (xs : List A) (moved : List NetNo) (news : List A) → length (placed xs moved news) ≡ length xs
  placed_long xs [] news = refl
  placed_long xs (x ∷ moved) [] = refl
  placed_long xs (x ∷ moved) (new ∷ news) = length-set (placed xs moved news) x.0 new ∙ placed_long xs moved news

  -- a net that doesn't move keeps its item
  pub placed_other : (xs : List A) (moved : List NetNo) (news : List A) (n : ℕ) → IsNone moved n → slice_get (placed xs moved news) n ≡ slice_get xs n
  placed_other xs [] news n none = refl
  placed_other xs (x ∷ moved) [] n none = refl
  placed_other xs (x ∷ moved) (new ∷ news) n none =
      got_other (placed xs moved news) x.0 new n (λ e. none 0 x refl (sym e)) ∙ placed_other xs moved news n (λ k net at. none (suc k) net at)

  -- a net that moves has its new one
  pub placed_here : (xs : List A) (moved : List NetNo) (news : List A) (k : ℕ) (net : NetNo) → AreApart moved → AreBelow (length xs) moved → length news ≡ length moved → slice_get moved k ≡ Some net → slice_get (placed xs moved news) net.0 ≡ slice_get news k
  placed_here xs [] news k net apart below long at = absurd (let none : List NetNo = [] in let lt : k < 0 = slice_get_within none k net at in omega arith)
  placed_here xs (x ∷ moved) [] k net apart below long at = absurd (omega arith)
  placed_here xs (x ∷ moved) (new ∷ news) zero net apart below long at =
      let same : net.0 ≡ x.0 = ap (λ (y : NetNo). y.0) (sym (get_or_from_slice_get (x ∷ moved) 0 net x at)) in
      let lt : x.0 < length (placed xs moved news) = omega (arith, below 0 x refl, placed_long xs moved news) in
      ap (slice_get (slice_set (placed xs moved news) x.0 new)) same ∙ got_same (placed xs moved news) x.0 new lt
  placed_here xs (x ∷ moved) (new ∷ news) (suc k) net apart below long at =
      got_other (placed xs moved news) x.0 new net.0 (first_apart x moved apart k net at) ∙ placed_here xs moved news k net (apart_rest x moved apart) (below_rest (length xs) x moved below) (omega arith) at

  -- ---- what is counted over the items
  sum_replaced : (g : A → ℕ) (xs : List A) (n : ℕ) (old new : A) → slice_get xs n ≡ Some old → sum_by g (slice_set xs n new) + g old ≡ sum_by g xs + g new
  sum_replaced g [] n old new at = absurd (let none : List A = [] in let lt : n < 0 = slice_get_within none n old at in omega arith)
  sum_replaced g (t ∷ xs) zero old new at = omega (arith, sum_by-cons g new xs, sum_by-cons g t xs, ap g (get_or_from_slice_get (t ∷ xs) 0 old t at))
  sum_replaced g (t ∷ xs) (suc n) old new at = omega (arith, sum_by-cons g t (slice_set xs n new), sum_by-cons g t xs, sum_replaced g xs n old new at)

  pub placed_sum : (g : A → ℕ) (h : NetNo → ℕ) (xs : List A) (moved : List NetNo) (news : List A) → ((net : NetNo) (a : A) → slice_get xs net.0 ≡ Some a → h net ≡ g a)
      → AreApart moved → AreBelow (length xs) moved → length news ≡ length moved → sum_by g (placed xs moved news) + sum_by h moved ≡ sum_by g xs + sum_by g news
  placed_sum g h xs [] [] is apart below long = refl
  placed_sum g h xs [] (new ∷ news) is apart below long = absurd (omega arith)
  placed_sum g h xs (x ∷ moved) [] is apart below long = absurd (omega arith)
  placed_sum g h xs (x ∷ moved) (new ∷ news) is apart below long =
      let lt = below 0 x refl in
      let there = slice_get-get_or xs x.0 new lt in
      let kept = placed_other xs moved news x.0 (first_apart x moved apart) ∙ there in
      omega (
        arith,
        sum_replaced g (placed xs moved news) x.0 (get_or xs x.0 new) new kept,
        is x (get_or xs x.0 new) there,
        sum_by-cons h x moved,
        sum_by-cons g new news,
        placed_sum g h xs moved news is (apart_rest x moved apart) (below_rest (length xs) x moved below) (omega arith),
      )

  -- ---- the last is put first
  pub placed_last : (xs : List A) (moved : List NetNo) (news : List A) (x : NetNo) (new : A) → length news ≡ length moved → placed xs (moved ++ x ∷ []) (news ++ new ∷ []) ≡ placed (slice_set xs x.0 new) moved news
  placed_last xs [] [] x new long = refl
  placed_last xs [] (y ∷ news) x new long = absurd (omega arith)
  placed_last xs (m ∷ moved) [] x new long = absurd (omega arith)
  placed_last xs (m ∷ moved) (y ∷ news) x new long = ap (λ (ts : List A). slice_set ts m.0 y) (placed_last xs moved news x new (omega arith))

  pub placed_step : (xs : List A) (moved : List NetNo) (news ys : List A) (new : A) (m k n : ℕ) (d : NetNo) → news ≡ ys ++ new ∷ [] → length ys ≡ m → k ≡ m → n ≡ m + 1 → m < length moved
      → placed (slice_set xs (get_or moved k d).0 new) (take m moved) ys ≡ placed xs (take n moved) news
  placed_step xs moved news ys new m k n d are long k_is n_is lt =
      let fewer : length (take m moved) ≡ m = length-take-le m moved (omega arith) in
      ap (λ i. placed (slice_set xs (get_or moved i d).0 new) (take m moved) ys) k_is
      ∙ (sym (placed_last xs (take m moved) ys (get_or moved m d) new (omega (arith, long, fewer)))
      ∙ (ap (λ ns. placed xs ns (ys ++ new ∷ [])) (sym (take_more moved m d lt))
      ∙ (ap (λ i. placed xs (take i moved) (ys ++ new ∷ [])) (sym n_is) ∙ ap (placed xs (take n moved)) (sym are))))
