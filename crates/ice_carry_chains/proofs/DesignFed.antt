-- The last carries of chains, and which carries are passed on.
use Rattle.std.proofs.Common.{◌≡◌, ℕ, zero, suc, ◌+◌, ◌<◌, ◌≤◌, true, Option, None, Some, List, length, get_or, refl, ap, sym, ◌∙◌, subst, arith}
use Rattle.std.specs.Prelude.{slice_index_or, option_and_then}
use Rattle.std.specs.List.{flat_map}
use Rattle.std.proofs.lemmas.List.{length-append}
use Rattle.std.proofs.lemmas.Option.{slice_get-get_or}
use Rattle.ice_base_values.specs.Order.{At, Has}
use Rattle.ice_base_values.proofs.Members.{At_within}
use Rattle.ice_cells.specs.declared.design.Design.{Design}
use Rattle.ice_cells.specs.declared.follow.Follow.TheVariants.{Nobody, Other}
use Rattle.ice_cells.specs.Chains.{next, next_by, chain, end, is_other, takes_in, passes_out, one_if, feed_cells, fed_from, number_by}
use Rattle.ice_cells.specs.Follows.{follow, follows}
use Rattle.ice_cells.specs.Runs.{run_heads, cells_fed, fed_numbers}
use Rattle.ice_cells.proofs.TableLaws.{get_or-table}
use Rattle.ice_carry_chains.specs.Before.{HasCarry, IsBeforeRuns}
use Rattle.ice_carry_chains.proofs.ChainLaws.{behind, chain_at, chain_has}
use Rattle.ice_carry_chains.proofs.DesignChains.{stands_behind, carry_below, few, end_is}
use Rattle.ice_carry_chains.proofs.DesignRuns.{feed_number}
use Rattle.ice_carry_chains.proofs.FedNumbers.{fed_there, number_there}

none_more : (k : ℕ) → k + 0 ≡ k
none_more k = omega arith

pub next_place : (b j : ℕ) → b + suc j ≡ suc (b + j)
next_place b j = omega arith

one_place : (b l i : ℕ) → b + l ≡ suc (b + i) → b + l ≡ suc (b + i)
one_place b l i e = e

within_more : (c n m : ℕ) → c < n → n ≤ m → c < m
within_more c n m lt le = omega arith

-- ---- the last carry of a chain
pub record ChainEnd (d : Design) (h : ℕ) : Type 0 where
  pub place : ℕ
  pub count : length (chain (follows d) (length (follows d)) h) ≡ suc place
  pub at : At (chain (follows d) (length (follows d)) h) place (end (follows d) (length (follows d)) h)
  pub last : next (follows d) (end (follows d) (length (follows d)) h) ≡ None

module _ (d : Design) (ready : IsBeforeRuns d) where
  pub chain_end : (h : ℕ) → HasCarry d h → ChainEnd d h
  chain_end h has = by (length row) refl
    where
      row : List ℕ
      row = chain (follows d) (length (follows d)) h

      some : 0 < length row
      some = At_within row 0 h (chain_has (follows d) (length (follows d)) h 0 h (few d ready h 0 h has refl) refl)

      at_end : (i c : ℕ) → length row ≡ suc i → At row i c → ChainEnd d h
      at_end i c e at = ends (next (follows d) c) refl
        where
          here : behind (follows d) i h ≡ Some c
          here = chain_at (follows d) (length (follows d)) h i c at

          more : (n : ℕ) → n ≡ suc i → suc i < n → ⊥
          more n f lt = omega arith

          ends : (o : Option ℕ) → next (follows d) c ≡ o → ChainEnd d h
          ends None f =
              let is : end (follows d) (length (follows d)) h ≡ c = end_is (follows d) (length (follows d)) i h c (few d ready h i c has here) here f in
              record { place = i; count = e; at = at ∙ ap Some (sym is); last = ap (next (follows d)) is ∙ f }
          ends (Some k) f =
              let further : behind (follows d) (suc i) h ≡ Some k = ap (option_and_then (next (follows d))) here ∙ f in
              absurd (more (length row) e (At_within row (suc i) k (chain_has (follows d) (length (follows d)) h (suc i) k (few d ready h (suc i) k has further) further)))

      none : (n : ℕ) → 0 < n → n ≡ 0 → ⊥
      none n lt e = omega arith

      below : (n i : ℕ) → n ≡ suc i → i < n
      below n i e = omega arith

      by : (n : ℕ) → length row ≡ n → ChainEnd d h
      by zero e = absurd (none (length row) some e)
      by (suc i) e = at_end i (get_or row i 0) e (slice_get-get_or row i 0 (below (length row) i e))

  -- ---- cells that pass carries on
  abbrev pairs : List (ℕ × ℕ)
  pairs = fed_from (follows d) (length d.cells) (run_heads d)

  few_cells : length d.cells ≤ length (cells_fed d)
  few_cells = let e = length-append d.cells (flat_map (feed_cells (follows d)) (run_heads d)) in omega arith

  fed_is : (k : ℕ) → k < length d.cells → slice_index_or (fed_numbers d) k None ≡ number_by pairs k
  fed_is k lt = get_or-table (number_by pairs) (length (cells_fed d)) k None (within_more k (length d.cells) (length (cells_fed d)) lt few_cells)

  pub mark_is : (k : ℕ) → k < length d.cells → slice_index_or (follows d) k Nobody ≡ follow d k
  mark_is k lt = get_or-table (follow d) (length d.cells) k Nobody lt

  -- a carry that is read otherwise than by one that follows is passed on
  pub other_fed : (k : ℕ) → HasCarry d k → follow d k ≡ Other → (n : ℕ) × (slice_index_or (fed_numbers d) k None ≡ Some n)
  other_fed k has e =
      let stands = stands_behind d ready k has in
      let mark : slice_index_or (follows d) k Nobody ≡ Other = mark_is k (carry_below d ready k has) ∙ e in
      let is : end (follows d) (length (follows d)) stands.head.0 ≡ k = end_is (follows d) (length (follows d)) stands.place stands.head.0 k stands.within stands.behind_it (ap next_by mark) in
      let passes : passes_out (follows d) stands.head ≡ true = ap (λ c. is_other (slice_index_or (follows d) c Nobody)) is ∙ ap is_other mark in
      let there = fed_there (follows d) (length d.cells) (run_heads d) stands.run stands.head stands.at passes in
      let number = number_there pairs k (feed_number d stands.run + one_if (takes_in stands.head)) (subst (λ c. Has pairs (c, feed_number d stands.run + one_if (takes_in stands.head))) is there) in
      (number.0, fed_is k (carry_below d ready k has) ∙ number.1)
