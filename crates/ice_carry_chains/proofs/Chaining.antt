-- Chains, step by step, and the order of runs.
use Rattle.std.proofs.Common.{◌≡◌, ℕ, suc, ◌+◌, ◌-◌, ◌<◌, ◌≤◌, Bool, true, false, cond, Option, None, Some, List, [], ◌∷◌, length, map, refl, ap, ◌∙◌, replicate, arith}
use Rattle.std.specs.List.{find, filter_map, cons_option, range_with_len}
use Rattle.std.specs.Option.{option_map_or, option_or}
use Rattle.ice_cells.specs.Chains.{Head, next, chain, end, leads, leader, heads, keep_first, all_led, present_of, Fed, place_at, number_at, numbers_by, all_noted}
use Rattle.ice_cells.specs.declared.follow.Follow.{Follow}
use Rattle.ice_cells.specs.Tables.{is_place, gathered}
use Rattle.ice_cells.proofs.TableLaws.{replicate_table, scattered_table, scattered_kept, table_same}

one_more : (i k : ℕ) → i < k → k - i ≡ suc (k - (i + 1))
one_more i k lt = omega arith

pub chain_on : (marks : List Follow) (i k at d : ℕ) → i < k → next marks at ≡ Some d → chain marks (k - i) at ≡ at ∷ chain marks (k - (i + 1)) d
chain_on marks i k at d lt e = ap (λ n. chain marks n at) (one_more i k lt) ∙ ap (λ o. at ∷ option_map_or (chain marks (k - (i + 1))) o []) e

pub chain_stops : (marks : List Follow) (i k at : ℕ) → i < k → next marks at ≡ None → chain marks (k - i) at ≡ at ∷ []
chain_stops marks i k at lt e = ap (λ n. chain marks n at) (one_more i k lt) ∙ ap (λ o. at ∷ option_map_or (chain marks (k - (i + 1))) o []) e

pub end_on : (marks : List Follow) (i k at d : ℕ) → i < k → next marks at ≡ Some d → end marks (k - i) at ≡ end marks (k - (i + 1)) d
end_on marks i k at d lt e = ap (λ n. end marks n at) (one_more i k lt) ∙ ap (λ o. option_map_or (end marks (k - (i + 1))) o at) e

pub end_stops : (marks : List Follow) (i k at : ℕ) → i < k → next marks at ≡ None → end marks (k - i) at ≡ at
end_stops marks i k at lt e = ap (λ n. end marks n at) (one_more i k lt) ∙ ap (λ o. option_map_or (end marks (k - (i + 1))) o at) e

none_left : (i k : ℕ) → k ≤ i → k - i ≡ 0
none_left i k le = omega arith

pub chain_over : (marks : List Follow) (i k at : ℕ) → k ≤ i → chain marks (k - i) at ≡ []
chain_over marks i k at le = ap (λ n. chain marks n at) (none_left i k le)

pub end_over : (marks : List Follow) (i k at : ℕ) → k ≤ i → end marks (k - i) at ≡ at
end_over marks i k at le = ap (λ n. end marks n at) (none_left i k le)

-- ---- the first carry that leads by a cell
gathered_first : (lead : Head → Option ℕ) (c : ℕ) (rs : List Head) (u : Option Head) → gathered lead keep_first c u rs ≡ option_or u (find (λ r. is_place c (lead r)) rs)
gathered_first lead c [] None = refl
gathered_first lead c [] (Some x) = refl
gathered_first lead c (r ∷ rs) None = by (is_place c (lead r)) (gathered_first lead c rs)
  where
    by : (b : Bool) → ((u : Option Head) → gathered lead keep_first c u rs ≡ option_or u (find (λ r. is_place c (lead r)) rs))
        → gathered lead keep_first c (cond b (Some r) None) rs ≡ option_or None (cond b (Some r) (find (λ r. is_place c (lead r)) rs))
    by true rest = rest (Some r)
    by false rest = rest None
gathered_first lead c (r ∷ rs) (Some x) = by (is_place c (lead r)) (gathered_first lead c rs (Some x))
  where
    by : (b : Bool) → gathered lead keep_first c (Some x) rs ≡ Some x → gathered lead keep_first c (cond b (Some x) (Some x)) rs ≡ Some x
    by true rest = rest
    by false rest = rest

present_map : (f : ℕ → Option Head) (xs : List ℕ) → present_of (map f xs) ≡ filter_map f xs
present_map f [] = refl
present_map f (x ∷ xs) = ap (cons_option (f x)) (present_map f xs)

pub heads_found : (marks : List Follow) (carries found : List Head) (start leaders : List (Option Head)) → start ≡ replicate (length marks) None → leaders ≡ all_led marks start carries
    → found ≡ present_of leaders → found ≡ heads marks carries
heads_found marks carries found start leaders e f g =
    g ∙ ap present_of (f ∙ ap (λ us. all_led marks us carries) (e ∙ replicate_table (length marks) None) ∙ scattered_table (leads marks) keep_first None (λ c. None) (length marks) carries
    ∙ table_same _ (leader marks carries) (length marks) (λ c lt. gathered_first (leads marks) c carries None))
    ∙ present_map (leader marks carries) (range_with_len 0 (length marks))

pub numbers_found : (pairs : List Fed) (count : ℕ) (start numbers : List (Option ℕ)) → start ≡ replicate count None → numbers ≡ all_noted start pairs → numbers ≡ numbers_by pairs count
numbers_found pairs count start numbers e f = f ∙ ap (λ us. all_noted us pairs) e ∙ scattered_kept place_at number_at count pairs
