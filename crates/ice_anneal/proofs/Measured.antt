-- Swap-least by one measure, and by another that is the same on placements.
use Rattle.std.proofs.Common.{◌≡◌, ℕ, List, length, set, ◌∙◌, arith}
use Rattle.std.specs.Prelude.{Option}
use Rattle.std.specs.List.{swap}
use Rattle.std.proofs.lemmas.List.{length-set}
use Rattle.std.proofs.lemmas.List.Edits.{length-swap}
use Rattle.ice_base.specs.declared.number.TileAt.{TileAt}
use Rattle.ice_anneal.specs.Least.{IsSwapLeast}

pub measured : (f g : List TileAt → ℕ) (n : ℕ) (chunks : List (Option (ℕ × ℕ))) (stretches : List (List TileAt)) (at : List TileAt) → ((xs : List TileAt) → length xs ≡ n → f xs ≡ g xs) → length at ≡ n → IsSwapLeast f chunks stretches at
    → IsSwapLeast g chunks stretches at
measured f g n chunks stretches at same count least = record {
  exchanges = λ c d lc ld rc rd.
      (let here = same at count in
      let there = same (swap at c d) (length-swap at c d ∙ count) in
      let le = least.exchanges c d lc ld rc rd in
      omega arith);
  moves = λ c t lc rc site apart.
      (let here = same at count in
      let there = same (set at c t) (length-set at c t ∙ count) in
      let le = least.moves c t lc rc site apart in
      omega arith);
}
