-- The bits of functions that are set.
use Rattle.std.specs.Prelude.{ℕ, zero, suc, ◌&&◌, not, Bool, false, Option, None, Some, List, [], ◌∷◌, ◌++◌, flat_map, nat_lt, slice_get, slice_index_or, if◌then◌else◌}
use Rattle.std.specs.List.{range_with_len, list_any}
use Rattle.std.specs.Option.{option_map_or}
use Rattle.ice_base.specs.declared.number.TileAt.{TileAt}
use Rattle.ice_chip.specs.Database.{Parts, same_pad}
use Rattle.ice_chip.specs.Names.{cell_function, falling_clock_function, pin_type_function, input_enable_function, column_buffer_function}
use Rattle.ice_chip.specs.FunctionNames.{carry_set_function, pull_up_function}
use Rattle.ice_chip.specs.Indices.{enables_of}
use Rattle.ice_chip.specs.Lookups.{ieren_of, colbuf_of, names_of}
use Rattle.ice_chip.specs.declared.rows.Pad.{Pad}
use Rattle.ice_net.specs.declared.kind.Reset.{Reset}
use Rattle.ice_net.specs.declared.kind.Reset.TheVariants.{Nothing, SyncReset, AsyncReset, SyncSet, AsyncSet}
use Rattle.ice_net.specs.Meaning.{table_bit}
use Rattle.ice_decode.specs.declared.driver.Switch.{Switch}
use Rattle.ice_decode.specs.Meaning.{global_at}
use Rattle.ice_lut.specs.Tables.{table_places}
use Rattle.ice_cells.specs.declared.cell.Control.{Control}
use Rattle.ice_cells.specs.declared.cell.LogicCell.{LogicCell}
use Rattle.ice_cells.specs.declared.cluster.Cluster.{Cluster}
use Rattle.ice_cells.specs.declared.design.Design.{Design}
use Rattle.ice_cells.specs.declared.design.DesignPad.{DesignPad}
use Rattle.ice_cells.specs.declared.design.Run.{Run}
use Rattle.ice_emit_rows_laws.specs.Settings.{Setting}
use Rattle.ice_place_defs.specs.Plan.{Plan}
use Rattle.ice_place_defs.specs.Loads.{slots_give}
use Rattle.ice_chip_rams.specs.Sites.{sites}
use Rattle.ice_ram.specs.Ram.{Kept}
use Rattle.ice_ram.specs.declared.setup.Setup.{Setup}
use Rattle.ice_emit_defs.specs.Arrivals.{Held, written_table}
use Rattle.ice_emit_defs.specs.Rams.{site_settings}
pub use Rattle.ice_emit_defs.specs.SettingLists.{setting, setting_if}

-- ---- cells: the table's entries, whether the carry and the flip-flop are in use, and how the flip-flop is set or reset
abbrev pub table_settings : TileAt → List ℕ → ℕ → List Setting
table_settings t name table = flat_map (λ j. setting_if (table_bit table j) t name (slice_index_or table_places j 0)) (range_with_len 0 16)

abbrev pub reset_settings : TileAt → List ℕ → Reset → List Setting
reset_settings t name Nothing = []
reset_settings t name SyncReset = []
reset_settings t name AsyncReset = setting t name 19 ∷ []
reset_settings t name SyncSet = setting t name 18 ∷ []
reset_settings t name AsyncSet = setting t name 18 ∷ setting t name 19 ∷ []

abbrev pub flop_settings : TileAt → List ℕ → Option (Control × Reset) → List Setting
flop_settings t name None = []
flop_settings t name (Some flop) = setting t name 9 ∷ reset_settings t name flop.1

abbrev pub cell_settings : Parts → Held → TileAt → ℕ → LogicCell → List Setting
cell_settings parts held t i cell =
    table_settings t (cell_function i) (written_table parts held t i cell) ++ setting_if cell.carry t (cell_function i) 8 ++ flop_settings t (cell_function i) cell.flop

-- ---- clusters: the edge of the clock, and the carry into a run
abbrev pub edge_settings : TileAt → Option Control → List Setting
edge_settings t None = []
edge_settings t (Some control) = setting_if control.falling t falling_clock_function 0

abbrev pub is_set : List Run → ℕ → Bool
is_set runs r = option_map_or (λ (run : Run). run.set) (slice_get runs r) false

abbrev pub carry_settings : List Run → TileAt → Option (ℕ × ℕ) → List Setting
carry_settings runs t None = []
carry_settings runs t (Some (r, zero)) = setting_if (is_set runs r) t carry_set_function 0
carry_settings runs t (Some (r, suc k)) = []

abbrev pub cluster_settings : Parts → Held → Design → TileAt → Cluster → List Setting
cluster_settings parts held d t cluster =
    slots_give (cell_settings parts held) d.cells t 0 cluster.cells ++ edge_settings t cluster.control ++ carry_settings d.runs t cluster.run

abbrev pub clusters_settings : Parts → Held → Design → List TileAt → List Cluster → List Setting
clusters_settings parts held d [] clusters = []
clusters_settings parts held d (t ∷ at) [] = []
clusters_settings parts held d (t ∷ at) (cluster ∷ clusters) = cluster_settings parts held d t cluster ++ clusters_settings parts held d at clusters

-- ---- pads of ports in IO tiles: their types, and pull-ups that are off; a pin of a block RAM, whose number is 2 or more, has neither
abbrev pub type_settings : Pad → ℕ → List Setting
type_settings pad pin_type = flat_map (λ k. setting_if (table_bit pin_type k) pad.tile (pin_type_function pad.pio k) 0) (range_with_len 0 6)

abbrev pub off_setting : Pad → List Setting
off_setting place = setting place.tile (pull_up_function place.pio) 0 ∷ []

abbrev pub pull_up_settings : Parts → Pad → Bool → List Setting
pull_up_settings parts pad pullup = if pullup then [] else option_map_or off_setting (ieren_of parts pad) []

abbrev pub port_settings : Parts → Pad → Bool → DesignPad → List Setting
port_settings parts pad pullup wanted = if nat_lt pad.pio 2 then type_settings pad wanted.pin_type ++ pull_up_settings parts pad pullup else []

abbrev pub ports_settings : Parts → List Pad → List Bool → List DesignPad → List Setting
ports_settings parts [] pullups pads = []
ports_settings parts (pad ∷ ports) [] pads = []
ports_settings parts (pad ∷ ports) (pullup ∷ pullups) [] = []
ports_settings parts (pad ∷ ports) (pullup ∷ pullups) (wanted ∷ pads) = port_settings parts pad pullup wanted ++ ports_settings parts ports pullups pads

-- ---- input enables: a bit that is 1 disables, so it is set where no pad that it enables is read
abbrev pub read_pads : List Pad → List DesignPad → List Pad
read_pads [] pads = []
read_pads (pad ∷ ports) [] = []
read_pads (pad ∷ ports) (wanted ∷ pads) = if wanted.reads then pad ∷ read_pads ports pads else read_pads ports pads

abbrev pub is_read_pad : List Pad → Pad → Bool
is_read_pad read pad = list_any (same_pad pad) read

-- some pad that is read, also by a direct global buffer alone, is enabled at this place
abbrev pub is_needed : List (Pad × Pad) → List Pad → Pad → Bool
is_needed enables read place = list_any (λ (row : Pad × Pad). same_pad row.1 place && is_read_pad read row.0) enables

abbrev pub enable_settings : List (Pad × Pad) → List Pad → Pad × Pad → List Setting
enable_settings enables read row = setting_if (not (is_needed enables read row.1)) row.1.tile (input_enable_function row.1.pio) 0

-- ---- column buffers: those of the globals that wanted rows take, in tiles that one serves
abbrev pub buffer_at : TileAt → ℕ → TileAt → List Setting
buffer_at t n served = setting served (column_buffer_function n) 0 ∷ []

abbrev pub global_settings : Parts → TileAt → Option ℕ → List Setting
global_settings parts t None = []
global_settings parts t (Some n) = option_map_or (buffer_at t n) (colbuf_of parts t) []

abbrev pub buffer_settings : Parts → Switch → List Setting
buffer_settings parts s = global_settings parts s.tile (global_at s.tile (names_of parts s.source.0))

-- ---- all of them, beside those of block RAMs
abbrev pub settings : Parts → Plan → List Bool → List (Setup × Kept) → Held → List Switch → List Setting
settings parts plan pullups rams held wanted =
    clusters_settings parts held plan.design plan.at plan.clusters ++ ports_settings parts plan.ports pullups plan.design.pads
    ++ flat_map (enable_settings (enables_of parts) (read_pads plan.ports plan.design.pads)) (enables_of parts) ++ flat_map (buffer_settings parts) wanted
    ++ site_settings (sites parts) rams
