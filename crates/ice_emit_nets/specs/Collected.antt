-- Nets, collected from the wires and the sinks of roots.
use Rattle.std.specs.Prelude.{◌≡◌, Option, None, Some, List, [], ◌∷◌, ◌++◌, map, length, is_some, slice_get, if◌then◌else◌}
use Rattle.std.specs.List.{range_with_len}
use Rattle.ice_base.specs.declared.number.WireNo.{WireNo}
use Rattle.ice_core.specs.declared.net.Net.{Net}
use Rattle.ice_emit_nets.specs.Nets.{Bare, bare_net, net_number}
use Rattle.ice_emit_nets.specs.Rooted.{RootWires}
use Rattle.ice_emit_nets.specs.Sorted.{Sorted}

-- the net of a root, if it has a wire and sinks
abbrev pub one_net : Option WireNo → List (List WireNo) → List Bare
one_net None sinks = []
one_net (Some wire) sinks = if is_some (slice_get sinks 0) then (wire.0, sinks) ∷ [] else []

abbrev pub kind_nets : List (Option WireNo) → List (List (List WireNo)) → List Bare
kind_nets [] lists = []
kind_nets (wire ∷ wires) [] = []
kind_nets (wire ∷ wires) (sinks ∷ lists) = one_net wire sinks ++ kind_nets wires lists

abbrev pub all_nets : RootWires → Sorted → List Bare
all_nets wires lists = kind_nets wires.pads lists.pads ++ kind_nets wires.cells lists.cells ++ kind_nets wires.globals lists.globals

abbrev pub bare_nets : List Net → List Bare
bare_nets nets = map bare_net nets

-- each net has its place as its number
abbrev pub AreNumbered : List Net → Type 0
AreNumbered nets = map net_number nets ≡ range_with_len 0 (length nets)
