-- The nets of a placed design.
use Rattle.std.specs.Prelude.{ℕ, Option, None, Some, List, [], ◌∷◌, ◌++◌, map, filter_map, length, slice_get, if◌then◌else◌}
use Rattle.std.specs.List.{range_with_len}
use Rattle.std.specs.Option.{option_and_then}
use Rattle.ice_base.specs.declared.number.WireNo.{WireNo}
use Rattle.ice_chip.specs.Database.{Parts}
use Rattle.ice_chip.specs.Lookups.{wire_named}
use Rattle.ice_chip_sockets.specs.Sockets.{given_name}
use Rattle.ice_chip.specs.WireNames.{output_name}
use Rattle.ice_chip.specs.declared.rows.Pad.{Pad}
use Rattle.ice_cells.specs.declared.root.Root.{Root}
use Rattle.ice_cells.specs.declared.root.Root.TheVariants.{PadIn, CellOut, GlobalOut, CarryOut}
use Rattle.ice_cells.specs.Same.{same_root}
use Rattle.ice_core.specs.declared.net.Net.{Net}
use Rattle.ice_pads.specs.Globals.{global_wire}
use Rattle.ice_place_defs.specs.Plan.{Plan, Slot, slot_of}
use Rattle.ice_emit_nets.specs.Ends.{End, ends}

-- ---- roots
abbrev pub pad_wire : Parts → Pad → Option ℕ
pad_wire parts pad = wire_named parts pad.tile (given_name pad.pio)

abbrev pub slot_wire : Parts → Slot → Option ℕ
slot_wire parts slot = wire_named parts slot.0 (output_name slot.1)

-- the wire that a root drives: the one that a pad gives its level to, the output of a cell, or a global; carries are no roots of nets
abbrev pub root_wire : Parts → Plan → Root → Option ℕ
root_wire parts plan (PadIn k) = option_and_then (pad_wire parts) (slice_get plan.ports k)
root_wire parts plan (CellOut c) = option_and_then (slot_wire parts) (slot_of plan c)
root_wire parts plan (GlobalOut g) = option_and_then (global_wire parts) (slice_get plan.globals g)
root_wire parts plan (CarryOut c) = None

abbrev pub pad_root : ℕ → Root
pad_root k = PadIn k

abbrev pub cell_root : ℕ → Root
cell_root c = CellOut c

abbrev pub global_root : ℕ → Root
global_root g = GlobalOut g

-- all roots: pads in the order of ports, cells, globals
abbrev pub roots : Plan → List Root
roots plan =
    map pad_root (range_with_len 0 (length plan.ports)) ++ map cell_root (range_with_len 0 (length plan.design.cells))
    ++ map global_root (range_with_len 0 (length plan.globals))

-- ---- nets
-- a net without its number: the wire that drives it, and the targets of its sinks
abbrev pub Bare : Type 0
Bare = ℕ × List (List WireNo)

abbrev pub target_of : Root → End → Option (List WireNo)
target_of root sink = if same_root sink.0 root then Some sink.1 else None

abbrev pub sinks_of : List End → Root → List (List WireNo)
sinks_of all root = filter_map (target_of root) all

-- a root without sinks has no net
abbrev pub net_with : Option ℕ → List (List WireNo) → Option Bare
net_with None sinks = None
net_with (Some wire) [] = None
net_with (Some wire) (sink ∷ sinks) = Some (wire, sink ∷ sinks)

abbrev pub net_of : Parts → Plan → List End → Root → Option Bare
net_of parts plan all root = net_with (root_wire parts plan root) (sinks_of all root)

-- the nets of a placed design, in the order of their roots
abbrev pub nets_of : Parts → Plan → List Bare
nets_of parts plan = filter_map (net_of parts plan (ends parts plan)) (roots plan)

-- ---- nets as routing takes them, numbered in order
abbrev pub bare_net : Net → Bare
bare_net net = (net.root.0, net.sinks.items)

abbrev pub net_number : Net → ℕ
net_number net = net.net.0
