-- Clusters of the cells in an order that ranks give.
use Rattle.std.specs.Prelude.{ℕ, nat_lt, if◌then◌else◌, List, [], ◌∷◌, slice_index_or}
use Rattle.ice_cells.specs.declared.cluster.Clusters.{Clusters}
use Rattle.ice_cells.specs.declared.design.Design.{Design}
use Rattle.ice_cells.specs.Clusterings.{clusters_with}
use Rattle.ice_cells.specs.Clusters.{loose_flops, loose_plains}
use Rattle.ice_cells.specs.Sets.{FlopCell}

-- in front of the first item whose rank is not lower
abbrev pub put_by : {X : Type 0} → (X → ℕ) → X → List X → List X
put_by rank x [] = x ∷ []
put_by rank x (y ∷ ys) = if nat_lt (rank y) (rank x) then y ∷ put_by rank x ys else x ∷ y ∷ ys

-- items by rising rank; those of one rank stay in order
abbrev pub by_rank : {X : Type 0} → (X → ℕ) → List X → List X
by_rank rank [] = []
by_rank rank (x ∷ xs) = put_by rank x (by_rank rank xs)

-- the rank of a cell; 0 behind the end of the list
abbrev pub rank_in : List ℕ → ℕ → ℕ
rank_in ranks c = slice_index_or ranks c 0

abbrev pub flop_rank : List ℕ → FlopCell → ℕ
flop_rank ranks flop = rank_in ranks flop.0

abbrev pub flops_ranked : List ℕ → Design → List FlopCell
flops_ranked ranks d = by_rank (flop_rank ranks) (loose_flops d.cells d.runs)

abbrev pub plains_ranked : List ℕ → Design → List ℕ
plains_ranked ranks d = by_rank (rank_in ranks) (loose_plains d.cells d.runs)

-- the clusters of the cells in that order
abbrev pub clusters_by : List ℕ → Design → Clusters
clusters_by ranks d = clusters_with d (flops_ranked ranks d) (plains_ranked ranks d)
