-- The sinks of the nets of a placed design, in order: what reads a root, and the wires at which the root may arrive there.
use Rattle.std.specs.Prelude.{ℕ, Bool, ◌&&◌, not, Option, None, Some, List, [], ◌∷◌, ◌++◌, map, filter_map, option_map, if◌then◌else◌}
use Rattle.std.specs.List.{list_any}
use Rattle.ice_base.specs.declared.number.TileAt.{TileAt}
use Rattle.ice_base.specs.declared.number.WireNo.{WireNo}
use Rattle.ice_chip.specs.Database.{Parts}
use Rattle.ice_chip.specs.Lookups.{wire_named}
use Rattle.ice_cells.specs.declared.cell.Control.{Control}
use Rattle.ice_cells.specs.declared.cell.LogicCell.{LogicCell}
use Rattle.ice_cells.specs.declared.root.Root.{Root}
use Rattle.ice_cells.specs.Same.{same_root}
use Rattle.ice_place_defs.specs.Plan.{Plan}
use Rattle.ice_place_defs.specs.Loads.{Pin, Input, pin_name, Load, pads_loads, fed_roots, globals_loads, cell_loads, control_loads, clusters_give}

-- a sink of a root, with the wires of which the root has to reach one
abbrev pub End : Type 0
End = Root × List WireNo

abbrev pub wire_no : ℕ → WireNo
wire_no w = record { 0 = w }

-- the wire of a pin, where the tile has it
abbrev pub pin_wire : Parts → TileAt → Pin → Option WireNo
pin_wire parts t pin = option_map wire_no (wire_named parts t (pin_name pin))

abbrev pub pin_wires : Parts → TileAt → List Pin → List WireNo
pin_wires parts t pins = filter_map (pin_wire parts t) pins

-- a load is a sink with one target
abbrev pub load_end : Parts → Load → End
load_end parts load = (load.root, pin_wires parts load.tile (load.pin ∷ []))

-- ---- free cells
-- a cell is free where it has no carry and takes none into its last input: its signals may arrive at any of its inputs
abbrev pub is_free : LogicCell → Bool
is_free cell = not cell.carry && not cell.carry_to_in3

abbrev pub is_seen : List Root → Root → Bool
is_seen seen root = list_any (same_root root) seen

-- one sink for each root that is read, at the place of the first input that reads it
abbrev pub free_ends : List WireNo → List Root → List (Option Root) → List End
free_ends targets seen [] = []
free_ends targets seen (None ∷ ins) = free_ends targets seen ins
free_ends targets seen (Some root ∷ ins) = if is_seen seen root then free_ends targets seen ins else (root, targets) ∷ free_ends targets (root ∷ seen) ins

abbrev pub inputs_of : ℕ → List Pin
inputs_of i = Input i 0 ∷ Input i 1 ∷ Input i 2 ∷ Input i 3 ∷ []

abbrev pub cell_ends : Parts → TileAt → ℕ → LogicCell → List End
cell_ends parts t i cell = if is_free cell then free_ends (pin_wires parts t (inputs_of i)) [] cell.ins else map (load_end parts) (cell_loads t i cell)

-- ---- all sinks
abbrev pub control_ends : Parts → TileAt → Option Control → List End
control_ends parts t control = map (load_end parts) (control_loads t control)

-- the pads, the global buffers, and then cluster by cluster the cells and what they share
abbrev pub ends : Parts → Plan → List End
ends parts plan =
    map (load_end parts) (pads_loads plan.ports plan.design.pads) ++ map (load_end parts) (globals_loads parts plan.globals (fed_roots plan.direct plan.design.globals))
    ++ clusters_give (cell_ends parts) (control_ends parts) plan.design.cells plan.at plan.clusters
