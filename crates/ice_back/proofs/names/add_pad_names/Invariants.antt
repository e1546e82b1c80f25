use Rattle.std.proofs.Common.{◌≡◌}
use Rattle.std.specs.List.{flat_map}
use Rattle.ice_chip.specs.Views.{package_view}
use Rattle.ice_back_laws.specs.Numbers.{pad_names}
use Rattle.ice_back.specs.Adding.{with_names, HasRoomForNames}
use Rattle.ice_back.specs.Naming.{names_of_pins}
use Rattle.ice_back.proofs.names.add_pad_names.Given as goal

abbrev pub invariant-loop-pin : goal.invariant-loop-pin
invariant-loop-pin l =
    HasRoomForNames l.netlist (names_of_pins l.seen.keys l.pin-iterator)
    × (with_names l.fn.netlist (flat_map (pad_names (package_view l.«package»)) (package_view l.«package»).pads) ≡ with_names l.netlist (names_of_pins l.seen.keys l.pin-iterator))
