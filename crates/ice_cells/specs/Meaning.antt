-- What a design means: the level of each node, and one step. Levels are given port by port.
use Rattle.std.specs.Prelude.{◌≡◌, ℕ, ◌+◌, ◌*◌, Bool, true, false, Option, None, Some, List, [], ◌∷◌, length, map, if◌then◌else◌, slice_get, slice_index_or, unwrap_or}
use Rattle.std.specs.List.{range_with_len}
use Rattle.std.specs.Option.{option_map_or}
use Rattle.ice_base_values.specs.System.{System, value, reading, gapped, machine_shows}
use Rattle.ice_net.specs.declared.driver.Drive.{Drive}
use Rattle.ice_net.specs.declared.kind.Reset.{Reset}
use Rattle.ice_net.specs.Meaning.{number_of, table_bit, majority, State}
use Rattle.ice_net.specs.Kinds.{is_edge, fired}
use Rattle.ice_net.specs.Drives.{pad_drive}
use Rattle.ice_cells.specs.declared.cell.Control.{Control}
use Rattle.ice_cells.specs.declared.cell.LogicCell.{LogicCell}
use Rattle.ice_cells.specs.declared.design.Design.{Design}
use Rattle.ice_cells.specs.declared.design.DesignPad.{DesignPad}
use Rattle.ice_cells.specs.declared.root.Root.{Root}
use Rattle.ice_cells.specs.declared.root.Root.TheVariants.{PadIn, CellOut, GlobalOut, CarryOut}
use Rattle.ice_cells.specs.Nodes.{Node, Net, Level, net, carry_into}

-- ---- what nodes read
-- what an input of a cell reads
abbrev pub input : LogicCell → ℕ → Option Node
input cell k = net (slice_index_or cell.ins k None)

-- the last input reads its root, or what comes into the cell's carry
abbrev pub last_input : Design → ℕ → LogicCell → Option Node
last_input d c cell = if cell.carry_to_in3 then carry_into d c else input cell 3

-- what the table of a cell reads
abbrev pub cell_inputs : Design → ℕ → LogicCell → List (Option Node)
cell_inputs d c cell = input cell 0 ∷ input cell 1 ∷ input cell 2 ∷ last_input d c cell ∷ []

-- the output of a cell depends on its inputs where it has no flip-flop
abbrev pub output_reads : Option (Control × Reset) → List (Option Node) → List (Option Node)
output_reads None inputs = inputs
output_reads (Some flop) inputs = []

-- a carry depends on the inputs 1 and 2 of its cell, and on what comes into it
abbrev pub carry_reads : Design → ℕ → LogicCell → List (Option Node)
carry_reads d c cell = if cell.carry then input cell 1 ∷ input cell 2 ∷ carry_into d c ∷ [] else []

abbrev pub node_reads : Design → Node → List (Option Node)
node_reads d (Net (PadIn k)) = []
node_reads d (Net (CellOut c)) = option_map_or (λ (cell : LogicCell). output_reads cell.flop (cell_inputs d c cell)) (slice_get d.cells c) []
node_reads d (Net (GlobalOut g)) = option_map_or (λ root. net root ∷ []) (slice_get d.globals g) []
node_reads d (Net (CarryOut c)) = option_map_or (carry_reads d c) (slice_get d.cells c) []
node_reads d (Level level) = []

-- ---- what nodes make of what they read
-- the output of a cell is its flip-flop's, where it has one, and else what its table gives
abbrev pub output_makes : LogicCell → Option (Control × Reset) → Bool → List Bool → Bool
output_makes cell None kept xs = table_bit cell.table (number_of xs)
output_makes cell (Some flop) kept xs = kept

abbrev pub node_makes : Design → List Bool → List Bool → Node → List Bool → Bool
node_makes d levels kept (Net (PadIn k)) xs = slice_index_or levels k false
node_makes d levels kept (Net (CellOut c)) xs = option_map_or (λ (cell : LogicCell). output_makes cell cell.flop (slice_index_or kept c false) xs) (slice_get d.cells c) false
node_makes d levels kept (Net (GlobalOut g)) xs = slice_index_or xs 0 false
node_makes d levels kept (Net (CarryOut c)) xs = majority (slice_index_or xs 0 false) (slice_index_or xs 1 false) (slice_index_or xs 2 false)
node_makes d levels kept (Level level) xs = level

-- ---- the level of a node
-- the design as a system of nodes at one moment. A missing input reads 0.
abbrev pub system_of : Design → List Bool → List Bool → System Node Bool
system_of d levels kept = gapped (node_reads d) false (node_makes d levels kept)

-- how many nodes there are: pads, outputs and carries of cells, global buffers, and the two constants
abbrev pub count_nodes : Design → ℕ
count_nodes d = length d.pads + 2 * length d.cells + length d.globals + 2

-- As many steps back as there are nodes, and one more, are enough where there is no loop.
abbrev pub node_level : Design → List Bool → List Bool → Node → Bool
node_level d levels kept node = unwrap_or (value (system_of d levels kept) (count_nodes d + 1) node) false

-- each node has a value, whatever the levels and whatever is kept
pub record HasValues (d : Design) : Type 0 where
  pub each : (levels kept : List Bool) (node : Node) → (x : Bool) × (value (system_of d levels kept) (count_nodes d + 1) node ≡ Some x)

-- ---- one step
-- what is read at a root that may be missing, by the levels of nodes
abbrev pub at_root : Bool → (Node → Bool) → Option Root → Bool
at_root bare v root = reading bare (λ (r : Root). v (Net r)) root

-- what the table of a cell gives
abbrev pub given : Design → (Node → Bool) → ℕ → LogicCell → Bool
given d v c cell = table_bit cell.table (number_of (map (reading false v) (cell_inputs d c cell)))

-- what a flip-flop keeps after a step: a missing enable reads 1, and all else that is missing reads 0
abbrev pub flop_keeps : (Node → Bool) → Option (Control × Reset) → Bool → Bool → Option Bool → Bool
flop_keeps v None datum kept clock = false
flop_keeps v (Some flop) datum kept clock =
    fired flop.1 (is_edge flop.0.falling clock (at_root false v flop.0.clock)) (at_root true v flop.0.enable) (at_root false v flop.0.reset) datum kept

abbrev pub flop_clock : (Node → Bool) → Option (Control × Reset) → Option Bool
flop_clock v None = None
flop_clock v (Some flop) = Some (at_root false v flop.0.clock)

abbrev pub cell_keeps : Design → (Node → Bool) → State → ℕ → Bool
cell_keeps d v state c =
    option_map_or (λ (cell : LogicCell). flop_keeps v cell.flop (given d v c cell) (slice_index_or state.kept c false) (slice_index_or state.clocks c None)) (slice_get d.cells c) false

abbrev pub cell_clock : Design → (Node → Bool) → ℕ → Option Bool
cell_clock d v c = option_map_or (λ (cell : LogicCell). flop_clock v cell.flop) (slice_get d.cells c) None

-- what is kept after a step in which the nodes have the levels v, by what was kept before it
abbrev pub state_after : Design → (Node → Bool) → State → State
state_after d v state = record {
  kept = map (cell_keeps d v state) (range_with_len 0 (length d.cells));
  clocks = map (cell_clock d v) (range_with_len 0 (length d.cells));
}

-- what a pad drives
abbrev pub pad_drives : (Node → Bool) → DesignPad → Drive
pad_drives v pad = pad_drive pad.pin_type (at_root false v pad.drive) (at_root false v pad.enable)

-- one step: all values are taken with what was kept before it; what it changes is seen from the next step on
abbrev pub step : Design → State → List Bool → State × List Drive
step d state levels = (state_after d (node_level d levels state.kept) state, map (pad_drives (node_level d levels state.kept)) d.pads)

-- at the start all flip-flops are 0, and no clock has been seen
abbrev pub start : Design → State
start d = record { kept = map (λ (cell : LogicCell). false) d.cells; clocks = map (λ (cell : LogicCell). None) d.cells }

-- what the pad of each port drives, step by step, for a list of levels
abbrev pub shows : Design → List (List Bool) → List (List Drive)
shows d levels = machine_shows (step d) (start d) levels
