-- The wires of all roots.
use Rattle.std.specs.Prelude.{Option, List, length, option_map}
use Rattle.std.specs.Option.{option_and_then}
use Rattle.ice_base.specs.declared.number.WireNo.{WireNo}
use Rattle.ice_chip.specs.Database.{Parts}
use Rattle.ice_cells.specs.Tables.{table}
use Rattle.ice_cells.specs.declared.root.Root.{Root}
use Rattle.ice_place_defs.specs.Plan.{Plan, Slot}
use Rattle.ice_emit_nets.specs.declared.wires.DrivenWires.{DrivenWires}
use Rattle.ice_emit_nets.specs.Ends.{wire_no}
use Rattle.ice_emit_nets.specs.Nets.{slot_wire, pad_root, cell_root, global_root, root_wire}

-- the wire of each pad, each cell and each global buffer
pub record RootWires : Type 0 where
  pub pads : List (Option WireNo)
  pub cells : List (Option WireNo)
  pub globals : List (Option WireNo)

abbrev pub wires_in : DrivenWires → RootWires
wires_in wires = record { pads = wires.pads.items; cells = wires.cells.items; globals = wires.globals.items }

abbrev pub slot_no : Parts → Option Slot → Option WireNo
slot_no parts slot = option_map wire_no (option_and_then (slot_wire parts) slot)

abbrev pub root_no : Parts → Plan → Root → Option WireNo
root_no parts plan root = option_map wire_no (root_wire parts plan root)

abbrev pub root_wires : Parts → Plan → RootWires
root_wires parts plan = record {
  pads = table (λ k. root_no parts plan (pad_root k)) (length plan.ports);
  cells = table (λ c. root_no parts plan (cell_root c)) (length plan.design.cells);
  globals = table (λ g. root_no parts plan (global_root g)) (length plan.globals);
}
