-- At which inputs of free cells their signals arrive, by the wires that trees hold; and the tables that follow.
use Rattle.std.specs.Prelude.{ℕ, nat_eq, Bool, false, Option, None, Some, List, map, position, if◌then◌else◌}
use Rattle.std.specs.List.{list_any}
use Rattle.ice_base.specs.declared.number.TileAt.{TileAt}
use Rattle.ice_base.specs.declared.number.WireNo.{WireNo}
use Rattle.ice_chip.specs.Database.{Parts}
use Rattle.ice_lut.specs.Tables.{rewired}
use Rattle.ice_cells.specs.declared.cell.LogicCell.{LogicCell}
use Rattle.ice_cells.specs.declared.root.Root.{Root}
use Rattle.ice_emit_nets.specs.Ends.{pin_wire, inputs_of, is_free}

-- the wires that the tree of each root's net holds; none where the root has no net
abbrev pub Held : Type 0
Held = Root → List WireNo

abbrev pub holds : List WireNo → Option WireNo → Bool
holds wires None = false
holds wires (Some wire) = list_any (λ w. nat_eq w.0 wire.0) wires

-- the first input of a cell whose wire the tree holds
abbrev pub arrival : Parts → List WireNo → TileAt → ℕ → Option ℕ
arrival parts wires t i = position (λ pin. holds wires (pin_wire parts t pin)) (inputs_of i)

-- the input at which a signal arrives that is read
abbrev pub input_from : Parts → Held → TileAt → ℕ → Option Root → Option ℕ
input_from parts held t i None = None
input_from parts held t i (Some root) = arrival parts (held root) t i

-- the table of a cell as it is written: that of a free cell reads its signals where they arrive
abbrev pub written_table : Parts → Held → TileAt → ℕ → LogicCell → ℕ
written_table parts held t i cell = if is_free cell then rewired cell.table (map (input_from parts held t i) cell.ins) else cell.table
