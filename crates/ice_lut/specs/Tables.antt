-- Tables made from one another. A table has an entry for each number that the levels of its four inputs make.
use Rattle.std.specs.Prelude.{ℕ, Bool, false, Option, None, Some, List, [], ◌∷◌, map, slice_set, slice_index_or}
use Rattle.std.specs.List.{range_with_len}
use Rattle.std.proofs.Common.{suc}
use Rattle.ice_base_values.specs.System.{reading}
use Rattle.ice_net.specs.Meaning.{number_of, table_bit}

-- the levels of the four inputs whose number this is
abbrev pub levels_of : ℕ → List Bool
levels_of number = map (table_bit number) (0 ∷ 1 ∷ 2 ∷ 3 ∷ [])

-- the table that gives this of the levels of its four inputs
unfoldable pub table_of : (List Bool → Bool) → ℕ
table_of gives = number_of (map (λ j. gives (levels_of j)) (range_with_len 0 16))

-- the table that gives for every input what this table gives with one input at a level
abbrev pub with_constant : ℕ → ℕ → Bool → ℕ
with_constant table input level = table_of (λ xs. table_bit table (number_of (slice_set xs input level)))

-- the level of an input, and 0 where there is none
abbrev pub level_at : List Bool → Option ℕ → Bool
level_at xs input = reading false (λ k. slice_index_or xs k false) input

-- the levels of inputs that are taken from others
abbrev pub levels_from : List (Option ℕ) → List Bool → List Bool
levels_from from xs = map (level_at xs) from

-- the table that gives for every input what this table gives when its input k is the new input `from[k]`, or 0 where that is None
abbrev pub rewired : ℕ → List (Option ℕ) → ℕ
rewired table from = table_of (λ xs. table_bit table (number_of (levels_from from xs)))

-- the inputs of these numbers
abbrev pub inputs_of : List ℕ → List (Option ℕ)
inputs_of order = map (λ k. Some k) order

-- the table whose input `order[k]` is input k of this one
abbrev pub permuted : ℕ → List ℕ → ℕ
permuted table order = table_of (λ xs. table_bit table (number_of (map (λ k. slice_index_or xs k false) order)))

-- the table that gives the level of an input
abbrev pub passing : ℕ → ℕ
passing input = table_of (λ xs. slice_index_or xs input false)

-- ---- several constant inputs
-- the table with an input constant, if there is a level for it
abbrev pub folded_one : ℕ → ℕ → Option Bool → ℕ
folded_one table k None = table
folded_one table k (Some level) = with_constant table k level

-- the table in which each input that has a level is constant, the inputs numbered from k
abbrev pub folded : ℕ → ℕ → List (Option Bool) → ℕ
folded table k [] = table
folded table k (level ∷ levels) = folded (folded_one table k level) (suc k) levels

-- levels, of which those that are given are that
abbrev pub overlaid : List (Option Bool) → List Bool → List Bool
overlaid [] xs = xs
overlaid (level ∷ levels) [] = []
overlaid (None ∷ levels) (x ∷ xs) = x ∷ overlaid levels xs
overlaid (Some level ∷ levels) (x ∷ xs) = level ∷ overlaid levels xs

-- ---- the bits of a logic cell
-- where each entry of a table stands among the twenty bits of a logic cell
abbrev pub table_places : List ℕ
table_places = 4 ∷ 14 ∷ 15 ∷ 5 ∷ 6 ∷ 16 ∷ 17 ∷ 7 ∷ 3 ∷ 13 ∷ 12 ∷ 2 ∷ 1 ∷ 11 ∷ 10 ∷ 0 ∷ []

-- the others: the carry's and the flip-flop's
abbrev pub other_places : List ℕ
other_places = 8 ∷ 9 ∷ 18 ∷ 19 ∷ []
