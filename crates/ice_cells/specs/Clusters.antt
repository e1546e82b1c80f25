-- Clusters: the chunks of the runs, flip-flops by their control sets, and plain cells in the free slots.
use Rattle.std.specs.Prelude.{ℕ, ◌==◌, ◌+◌, ◌-◌, Bool, true, false, List, [], ◌∷◌, ◌++◌, map, filter_map, flat_map, take, drop, length, replicate, Option, None, Some, slice_get, slice_index_or, option_map}
use Rattle.std.specs.List.{range_with_len, list_any}
use Rattle.std.specs.Option.{option_map_or}
use Rattle.ice_cells.specs.declared.cell.Control.{Control}
use Rattle.ice_cells.specs.declared.cell.LogicCell.{LogicCell}
use Rattle.ice_cells.specs.declared.cluster.Cluster.{Cluster}
use Rattle.ice_cells.specs.declared.cluster.Clusters.{Clusters}
use Rattle.ice_cells.specs.declared.cluster.TileCells.{TileCells}
use Rattle.ice_cells.specs.declared.design.Design.{Design}
use Rattle.ice_cells.specs.declared.design.Run.{Run}
use Rattle.ice_cells.specs.Pieces.{pieces_count, piece, control_at, first_control}
use Rattle.ice_cells.specs.Sets.{FlopCell, sets_of, cells_with}
use Rattle.ice_cells.specs.Tables.{table, scattered}

-- ---- groups before plain cells fill them
-- piece k of run r
abbrev pub run_piece : List LogicCell → ℕ → List ℕ → ℕ → TileCells
run_piece cells r members k = record { cells = piece members k; control = first_control cells (piece members k); run = Some (r, k) }

abbrev pub run_pieces : List LogicCell → ℕ → Run → List TileCells
run_pieces cells r run = map (run_piece cells r run.cells) (range_with_len 0 (pieces_count run.cells))

-- the pieces of runs, the first of which has that number
abbrev pub runs_pieces : List LogicCell → ℕ → List Run → List TileCells
runs_pieces cells r [] = []
runs_pieces cells r (run ∷ runs) = run_pieces cells r run ++ runs_pieces cells (r + 1) runs

abbrev pub set_piece : Control → List ℕ → ℕ → TileCells
set_piece control members k = record { cells = piece members k; control = Some control; run = None }

abbrev pub set_pieces : Control → List ℕ → List TileCells
set_pieces control members = map (set_piece control members) (range_with_len 0 (pieces_count members))

abbrev pub sets_pieces : List FlopCell → List TileCells
sets_pieces flops = flat_map (λ control. set_pieces control (cells_with flops control)) (sets_of flops)

abbrev pub plain_piece : List ℕ → ℕ → TileCells
plain_piece members k = record { cells = piece members k; control = None; run = None }

abbrev pub plain_pieces : List ℕ → List TileCells
plain_pieces members = map (plain_piece members) (range_with_len 0 (pieces_count members))

-- ---- plain cells in the free slots, group by group
abbrev pub room : TileCells → ℕ
room group = 8 - length group.cells

abbrev pub filled_one : TileCells → List ℕ → TileCells
filled_one group plains = record { cells = group.cells ++ take (room group) plains; control = group.control; run = group.run }

abbrev pub filled : List TileCells → List ℕ → List TileCells
filled [] plains = []
filled (group ∷ groups) plains = filled_one group plains ∷ filled groups (drop (room group) plains)

-- the plain cells that are left then
abbrev pub left : List TileCells → List ℕ → List ℕ
left [] plains = plains
left (group ∷ groups) plains = left groups (drop (room group) plains)

-- the groups so far with those that are opened behind them, and the plain cells that are left
abbrev pub ends : List TileCells → List ℕ → List TileCells → List TileCells × List ℕ
ends opened plains groups = (groups ++ filled opened plains, left opened plains)

-- ---- which cells stand in runs, which have a flip-flop, and which are plain
abbrev pub run_cells : Run → List ℕ
run_cells run = run.cells

abbrev pub is_held : List Run → ℕ → Bool
is_held runs c = list_any (λ d. d == c) (flat_map run_cells runs)

abbrev pub flop_if : Bool → ℕ → Option Control → Option FlopCell
flop_if true c control = None
flop_if false c control = option_map (λ (x : Control). (c, x)) control

abbrev pub held_list : List Run → ℕ → List Bool
held_list runs n = table (is_held runs) n

abbrev pub flop_at : List Bool → List LogicCell → ℕ → Option FlopCell
flop_at held cells c = flop_if (slice_index_or held c false) c (control_at cells c)

abbrev pub flops_by : List Bool → List LogicCell → List FlopCell
flops_by held cells = filter_map (flop_at held cells) (range_with_len 0 (length cells))

abbrev pub loose_flops : List LogicCell → List Run → List FlopCell
loose_flops cells runs = flops_by (held_list runs (length cells)) cells

abbrev pub plain_if : Bool → ℕ → Option Control → Option ℕ
plain_if true c control = None
plain_if false c None = Some c
plain_if false c (Some control) = None

abbrev pub plain_at : List Bool → List LogicCell → ℕ → Option ℕ
plain_at held cells c = plain_if (slice_index_or held c false) c (control_at cells c)

abbrev pub plains_by : List Bool → List LogicCell → List ℕ
plains_by held cells = filter_map (plain_at held cells) (range_with_len 0 (length cells))

abbrev pub loose_plains : List LogicCell → List Run → List ℕ
loose_plains cells runs = plains_by (held_list runs (length cells)) cells

-- ---- all groups of cells that go into one tile
abbrev pub opened : List LogicCell → List Run → List TileCells
opened cells runs = runs_pieces cells 0 runs ++ sets_pieces (loose_flops cells runs)

abbrev pub groups_of : List LogicCell → List Run → List TileCells
groups_of cells runs = filled (opened cells runs) (loose_plains cells runs) ++ plain_pieces (left (opened cells runs) (loose_plains cells runs))

-- ---- the clusters
-- the eight slots of a tile: the cells, and behind them the free slots
abbrev pub slots : List ℕ → List (Option ℕ)
slots cells = map (λ c. Some c) cells ++ replicate (8 - length cells) None

abbrev pub with_slots : TileCells → Cluster
with_slots group = record { cells = slots group.cells; control = group.control; run = group.run }

abbrev pub clusters_of : Design → Clusters
clusters_of d = record { list = map with_slots (groups_of d.cells d.runs) }

-- how many tiles of logic cells a design needs
abbrev pub need : Design → ℕ
need d = length (clusters_of d).list

-- ---- the same, step by step
abbrev pub group_of : List ℕ → Option Control → Option (ℕ × ℕ) → TileCells
group_of members control run = record { cells = members; control = control; run = run }

-- the pieces of the cells of control set k
abbrev pub group_pieces : List Control → ℕ → List ℕ → List TileCells
group_pieces sets k members = option_map_or (λ control. set_pieces control members) (slice_get sets k) []

abbrev pub groups_pieces : List Control → ℕ → List (List ℕ) → List TileCells
groups_pieces sets k [] = []
groups_pieces sets k (members ∷ groups) = group_pieces sets k members ++ groups_pieces sets (k + 1) groups

-- cells that stand in runs, all cells at once
abbrev pub all_held : List Bool → List ℕ → List Bool
all_held held cells = scattered (λ (c : ℕ). Some c) (λ (b : Bool) (c : ℕ). true) false held cells
