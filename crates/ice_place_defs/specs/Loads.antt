-- The loads of a placed design: the pins of tiles that read roots, in the order in which nets join them.
use Rattle.std.specs.Prelude.{ℕ, ◌+◌, Bool, if◌then◌else◌, Option, None, Some, List, [], ◌∷◌, ◌++◌, slice_get, slice_index_or}
use Rattle.std.specs.Option.{option_map_or}
use Rattle.ice_base.specs.declared.number.TileAt.{TileAt}
use Rattle.ice_chip.specs.Database.{Parts}
use Rattle.ice_chip.specs.Lookups.{global_of}
use Rattle.ice_chip.specs.Names.{input_name, output_enable_name}
use Rattle.ice_chip.specs.WireNames.{clock_name, clock_enable_name, set_reset_name, fabout_name}
use Rattle.ice_chip.specs.declared.rows.Pad.{Pad}
use Rattle.ice_chip_sockets.specs.Sockets.{driven_name}
use Rattle.ice_cells.specs.declared.cell.Control.{Control}
use Rattle.ice_cells.specs.declared.cell.LogicCell.{LogicCell}
use Rattle.ice_cells.specs.declared.cluster.Cluster.{Cluster}
use Rattle.ice_cells.specs.declared.design.DesignPad.{DesignPad}
use Rattle.ice_cells.specs.declared.root.Root.{Root}
use Rattle.ice_place_defs.specs.Plan.{Plan}

-- a pin of a tile that reads
pub data Pin : Type 0 where
  -- input k of cell i
  Input : ℕ → ℕ → Pin
  -- what the flip-flops of a tile share
  Clock : Pin
  Enable : Pin
  SetReset : Pin
  -- what feeds a global
  Feed : Pin
  -- what a pad is driven with, and what enables it
  Drive : ℕ → Pin
  DriveEnable : ℕ → Pin

-- the name of its wire
abbrev pub pin_name : Pin → List ℕ
pin_name (Input i k) = input_name i k
pin_name Clock = clock_name
pin_name Enable = clock_enable_name
pin_name SetReset = set_reset_name
pin_name Feed = fabout_name
pin_name (Drive pio) = driven_name pio
pin_name (DriveEnable pio) = output_enable_name pio

pub record Load : Type 0 where
  pub root : Root
  pub tile : TileAt
  pub pin : Pin

-- a pin reads a root, or nothing
abbrev pub load_at : TileAt → Pin → Option Root → List Load
load_at t pin None = []
load_at t pin (Some root) = (record { root = root; tile = t; pin = pin }) ∷ []

-- ---- pads
abbrev pub pad_loads : Pad → DesignPad → List Load
pad_loads place pad = load_at place.tile (Drive place.pio) pad.drive ++ load_at place.tile (DriveEnable place.pio) pad.enable

abbrev pub pads_loads : List Pad → List DesignPad → List Load
pads_loads [] pads = []
pads_loads (place ∷ places) [] = []
pads_loads (place ∷ places) (pad ∷ pads) = pad_loads place pad ++ pads_loads places pads

-- ---- global buffers
-- what a global buffer reads in the tile that feeds its global: nothing where it is direct
abbrev pub fed_root : Bool → Option Root → Option Root
fed_root direct root = if direct then None else root

-- the same of each
abbrev pub fed_roots : List Bool → List (Option Root) → List (Option Root)
fed_roots [] roots = roots
fed_roots (d ∷ direct) [] = []
fed_roots (d ∷ direct) (root ∷ roots) = fed_root d root ∷ fed_roots direct roots

abbrev pub feed_load : Option Root → TileAt → List Load
feed_load root t = load_at t Feed root

abbrev pub global_loads : Parts → ℕ → Option Root → List Load
global_loads parts n root = option_map_or (feed_load root) (global_of parts n) []

abbrev pub globals_loads : Parts → List ℕ → List (Option Root) → List Load
globals_loads parts [] roots = []
globals_loads parts (n ∷ ns) [] = []
globals_loads parts (n ∷ ns) (root ∷ roots) = global_loads parts n root ++ globals_loads parts ns roots

-- ---- cells
abbrev pub cell_loads : TileAt → ℕ → LogicCell → List Load
cell_loads t i cell =
    load_at t (Input i 0) (slice_index_or cell.ins 0 None) ++ load_at t (Input i 1) (slice_index_or cell.ins 1 None)
    ++ load_at t (Input i 2) (slice_index_or cell.ins 2 None) ++ load_at t (Input i 3) (slice_index_or cell.ins 3 None)

abbrev pub control_loads : TileAt → Option Control → List Load
control_loads t None = []
control_loads t (Some control) = load_at t Clock control.clock ++ load_at t Enable control.enable ++ load_at t SetReset control.reset

-- ---- clusters: what each cell gives, slot by slot, and then what is given by the control set that a tile's flip-flops share
abbrev pub slot_gives : {A : Type 0} → (TileAt → ℕ → LogicCell → List A) → List LogicCell → TileAt → ℕ → Option ℕ → List A
slot_gives of_cell cells t i None = []
slot_gives of_cell cells t i (Some c) = option_map_or (of_cell t i) (slice_get cells c) []

-- the slots of a tile, the first of which has that number
abbrev pub slots_give : {A : Type 0} → (TileAt → ℕ → LogicCell → List A) → List LogicCell → TileAt → ℕ → List (Option ℕ) → List A
slots_give of_cell cells t i [] = []
slots_give of_cell cells t i (slot ∷ slots) = slot_gives of_cell cells t i slot ++ slots_give of_cell cells t (i + 1) slots

abbrev pub clusters_give : {A : Type 0} → (TileAt → ℕ → LogicCell → List A) → (TileAt → Option Control → List A) → List LogicCell → List TileAt → List Cluster → List A
clusters_give of_cell of_control cells [] clusters = []
clusters_give of_cell of_control cells (t ∷ at) [] = []
clusters_give of_cell of_control cells (t ∷ at) (cluster ∷ clusters) =
    slots_give of_cell cells t 0 cluster.cells ++ of_control t cluster.control ++ clusters_give of_cell of_control cells at clusters

-- ---- all loads
abbrev pub loads : Parts → Plan → List Load
loads parts plan =
    pads_loads plan.ports plan.design.pads ++ globals_loads parts plan.globals (fed_roots plan.direct plan.design.globals)
    ++ clusters_give cell_loads control_loads plan.design.cells plan.at plan.clusters
