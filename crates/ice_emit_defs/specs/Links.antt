-- The rows that are wanted: those of the trees, and those that carry a run into last inputs and across tiles.
use Rattle.std.specs.Prelude.{ℕ, zero, suc, Option, None, Some, List, [], ◌∷◌, ◌++◌, filter_map, flat_map, option_map, slice_get, if◌then◌else◌}
use Rattle.std.specs.Option.{option_and_then}
use Rattle.ice_base.specs.declared.number.RowNo.{RowNo}
use Rattle.ice_base.specs.declared.number.TileAt.{TileAt}
use Rattle.ice_chip.specs.Database.{Parts, SwitchGroup, SwitchRow}
use Rattle.ice_chip.specs.Lookups.{wire_named}
use Rattle.ice_chip.specs.Listings.{rows_of}
use Rattle.ice_chip.specs.Names.{input_name}
use Rattle.ice_chip.specs.WireNames.{carry_out_name, carry_in_name, first_carry_name}
use Rattle.ice_decode.specs.declared.driver.Switch.{Switch}
use Rattle.ice_decode.specs.Drivers.{switch}
use Rattle.ice_bits_rows.specs.FirstSound.{first_sound}
use Rattle.ice_cells.specs.declared.cell.LogicCell.{LogicCell}
use Rattle.ice_cells.specs.declared.cluster.Cluster.{Cluster}
use Rattle.ice_place_defs.specs.Plan.{Plan}
use Rattle.ice_place_defs.specs.Loads.{slots_give}

-- ---- rows by their numbers
abbrev pub switch_of_row : ℕ → SwitchGroup × SwitchRow → Switch
switch_of_row n row = switch row.0 n row.1

abbrev pub switch_numbered : Parts → ℕ → Option Switch
switch_numbered parts n = option_map (switch_of_row n) (slice_get (rows_of parts.groups) n)

abbrev pub tree_switch : Parts → RowNo → Option Switch
tree_switch parts row = switch_numbered parts row.0

-- ---- links
abbrev pub listed : Option Switch → List Switch
listed None = []
listed (Some s) = s ∷ []

-- the first sound row from the one wire to the other
abbrev pub link_row : Parts → ℕ → ℕ → Option Switch
link_row parts target source = option_and_then (switch_numbered parts) (first_sound parts source target)

abbrev pub link_into : Parts → Option ℕ → ℕ → Option Switch
link_into parts source target = option_and_then (link_row parts target) source

abbrev pub link : Parts → Option ℕ → Option ℕ → List Switch
link parts source target = listed (option_and_then (link_into parts source) target)

-- the wire of the carry that comes into cell i: that of the cell below, or the carry into the tile
abbrev pub carry_source : Parts → TileAt → ℕ → Option ℕ
carry_source parts t zero = wire_named parts t first_carry_name
carry_source parts t (suc i) = wire_named parts t (carry_out_name i)

-- a cell whose last input takes the carry
abbrev pub cell_links : Parts → TileAt → ℕ → LogicCell → List Switch
cell_links parts t i cell = if cell.carry_to_in3 then link parts (carry_source parts t i) (wire_named parts t (input_name i 3)) else []

-- the carry of the tile below comes into the tile of every chunk of a run but the first
abbrev pub chunk_links : Parts → TileAt → Option (ℕ × ℕ) → List Switch
chunk_links parts t None = []
chunk_links parts t (Some (run, zero)) = []
chunk_links parts t (Some (run, suc k)) = link parts (wire_named parts t carry_in_name) (wire_named parts t first_carry_name)

abbrev pub cluster_links : Parts → List LogicCell → TileAt → Cluster → List Switch
cluster_links parts cells t cluster = slots_give (cell_links parts) cells t 0 cluster.cells ++ chunk_links parts t cluster.run

abbrev pub all_links : Parts → List LogicCell → List TileAt → List Cluster → List Switch
all_links parts cells [] clusters = []
all_links parts cells (t ∷ at) [] = []
all_links parts cells (t ∷ at) (cluster ∷ clusters) = cluster_links parts cells t cluster ++ all_links parts cells at clusters

-- ---- all wanted rows
abbrev pub wanted : Parts → Plan → List (List RowNo) → List Switch
wanted parts plan trees = filter_map (tree_switch parts) (flat_map (λ (rows : List RowNo). rows) trees) ++ all_links parts plan.design.cells plan.at plan.clusters
