-- Which pads are read, and where their inputs are enabled, as they are gathered.
use Rattle.std.specs.Prelude.{not, List, [], ◌∷◌, flat_map, if◌then◌else◌}
use Rattle.std.specs.List.{list_any}
use Rattle.ice_chip.specs.Names.{input_enable_function}
use Rattle.ice_chip.specs.Database.{same_pad}
use Rattle.ice_chip.specs.declared.rows.Pad.{Pad}
use Rattle.ice_cells.specs.declared.design.DesignPad.{DesignPad}
use Rattle.ice_emit_rows_laws.specs.Settings.{Setting}
use Rattle.ice_emit_defs.specs.Functions.{setting_if}

-- the pad of a port, if something reads it
abbrev pub read_pads_at : DesignPad → Pad → List Pad
read_pads_at port pad = if port.reads then pad ∷ [] else []

-- where the input of a pad is enabled, if the pad is one of those that are read
abbrev pub one_needed : List Pad → Pad × Pad → List Pad
one_needed read row = if list_any (same_pad row.0) read then row.1 ∷ [] else []

abbrev pub needed_places : List Pad → List (Pad × Pad) → List Pad
needed_places read enables = flat_map (one_needed read) enables

-- the input is disabled, unless it is needed there
abbrev pub disabled_unless : List Pad → Pad → List Setting
disabled_unless needed enable = setting_if (not (list_any (same_pad enable) needed)) enable.tile (input_enable_function enable.pio) 0

abbrev pub disabled_by : List Pad → Pad × Pad → List Setting
disabled_by needed row = disabled_unless needed row.1
