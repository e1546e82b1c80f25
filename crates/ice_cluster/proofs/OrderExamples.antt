-- A few cells in groups by ranks, found by computing.
use Rattle.std.proofs.Common.{◌≡◌, ℕ, false, None, Some, List, [], ◌∷◌, map, refl}
use Rattle.ice_cells.specs.declared.cell.Control.{Control}
use Rattle.ice_cells.specs.declared.root.Root.TheVariants.{PadIn}
use Rattle.ice_cells.specs.Clusterings.{groups_by}
use Rattle.ice_cells.specs.Ranks.{by_rank, flop_rank, rank_in}
use Rattle.ice_cells.specs.Sets.{FlopCell}
use Rattle.ice_cluster.proofs.Counted.{group_cells}

-- cells of one rank stay in order, and one behind the list's end has rank 0
ranked : by_rank (rank_in (2 ∷ 1 ∷ 2 ∷ 1 ∷ [])) (0 ∷ 1 ∷ 2 ∷ 3 ∷ 4 ∷ []) ≡ 4 ∷ 1 ∷ 3 ∷ 0 ∷ 2 ∷ []
ranked = refl

abbrev clocked : ℕ → Control
clocked pad = record { clock = Some (PadIn pad); falling = false; enable = None; reset = None }

-- flip-flops 1 and 3 of one clock, and 2 of another; plain cells 0 and 4
abbrev flops : List FlopCell
flops = (1, clocked 0) ∷ (2, clocked 1) ∷ (3, clocked 0) ∷ []

abbrev plains : List ℕ
plains = 0 ∷ 4 ∷ []

unordered : map group_cells (groups_by [] [] flops plains) ≡ (1 ∷ 3 ∷ 0 ∷ 4 ∷ []) ∷ (2 ∷ []) ∷ []
unordered = refl

-- the flip-flop that comes first brings its control set first
abbrev ranks : List ℕ
ranks = 4 ∷ 3 ∷ 1 ∷ 2 ∷ 0 ∷ []

ordered : map group_cells (groups_by [] [] (by_rank (flop_rank ranks) flops) (by_rank (rank_in ranks) plains)) ≡ (2 ∷ 4 ∷ 0 ∷ []) ∷ (3 ∷ 1 ∷ []) ∷ []
ordered = refl
