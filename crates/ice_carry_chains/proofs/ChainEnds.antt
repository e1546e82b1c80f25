-- A chain has no more carries than there are cells, where ranks rise from carry to carry.
use Rattle.std.proofs.Common.{◌≡◌, ℕ, zero, suc, ◌<◌, ◌≤◌, Bool, true, false, Option, None, Some, List, [], ◌∷◌, length, refl, ap, arith, eqb}
use Rattle.std.specs.Prelude.{◌||◌}
use Rattle.std.specs.List.{AllByRecursion, IsDistinct, list_any}
use Rattle.std.specs.Option.{option_map_or}
use Rattle.std.proofs.lemmas.Bool.{ne_eqb, eqb-true}
use Rattle.std.proofs.lemmas.Map.Steps.{length-le_from_distinct_below}
use Rattle.ice_cells.specs.Chains.{next, chain}
use Rattle.ice_cells.specs.declared.follow.Follow.{Follow}

all_weaker : (P Q : ℕ → Type 0) → ((y : ℕ) → P y → Q y) → (xs : List ℕ) → AllByRecursion P xs → AllByRecursion Q xs
all_weaker P Q w [] all = tt
all_weaker P Q w (x ∷ xs) all = (w x all.0, all_weaker P Q w xs all.1)

below_from : (n : ℕ) (xs : List ℕ) → AllByRecursion (λ y. y < n) xs → (q : ℕ) → list_any (eqb q) xs ≡ true → q < n
below_from n [] all q e = cc
below_from n (x ∷ xs) all q e = by (eqb q x) refl e (below_from n xs all.1 q)
  where
    by : (b : Bool) → eqb q x ≡ b → (b || list_any (eqb q) xs) ≡ true → (list_any (eqb q) xs ≡ true → q < n) → q < n
    by true f g rest = (let same : q ≡ x = eqb-true q x f in let lt = all.0 in omega arith)
    by false f g rest = rest g

module _ (marks : List Follow) (rank : ℕ → ℕ) (rises : (a c : ℕ) → next marks a ≡ Some c → rank a < rank c) (n : ℕ) (below : (a c : ℕ) → next marks a ≡ Some c → c < n) where
  chain_ranks : (k d : ℕ) → AllByRecursion (λ y. rank d ≤ rank y) (chain marks k d)
  chain_ranks zero d = tt
  chain_ranks (suc k) d = (omega arith, by (next marks d) refl (chain_ranks k))
    where
      by : (o : Option ℕ) → next marks d ≡ o → ((e : ℕ) → AllByRecursion (λ y. rank e ≤ rank y) (chain marks k e)) → AllByRecursion (λ y. rank d ≤ rank y) (option_map_or (chain marks k) o [])
      by None f rest = tt
      by (Some e) f rest = let lt = rises d e f in all_weaker (λ y. rank e ≤ rank y) (λ y. rank d ≤ rank y) (λ y le. omega arith) (chain marks k e) (rest e)

  chain_distinct : (k h : ℕ) → IsDistinct eqb (chain marks k h)
  unfolding IsDistinct
  chain_distinct zero h = tt
  chain_distinct (suc k) h = by (next marks h) refl (chain_distinct k)
    where
      by : (o : Option ℕ) → next marks h ≡ o → ((e : ℕ) → IsDistinct eqb (chain marks k e))
          → AllByRecursion (λ y. eqb h y ≡ false) (option_map_or (chain marks k) o []) × IsDistinct eqb (option_map_or (chain marks k) o [])
      by None f rest = (tt, tt)
      by (Some e) f rest =
          let lt = rises h e f in
          (all_weaker (λ y. rank e ≤ rank y) (λ y. eqb h y ≡ false) (λ y le. ne_eqb h y (λ same. let g : rank h ≡ rank y = ap rank same in omega arith)) (chain marks k e) (chain_ranks k e), rest e)

  chain_below : (k h : ℕ) → h < n → AllByRecursion (λ y. y < n) (chain marks k h)
  chain_below zero h lt = tt
  chain_below (suc k) h lt = (lt, by (next marks h) refl (chain_below k))
    where
      by : (o : Option ℕ) → next marks h ≡ o → ((e : ℕ) → e < n → AllByRecursion (λ y. y < n) (chain marks k e)) → AllByRecursion (λ y. y < n) (option_map_or (chain marks k) o [])
      by None f rest = tt
      by (Some e) f rest = rest e (below h e f)

  -- no chain is longer than there are cells
  pub chain_short : (k h : ℕ) → h < n → length (chain marks k h) ≤ n
  chain_short k h lt = length-le_from_distinct_below (chain marks k h) n (chain_distinct k h) (below_from n (chain marks k h) (chain_below k h lt))
