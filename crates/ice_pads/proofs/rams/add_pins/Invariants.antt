use Rattle.std.proofs.Common.{◌≡◌, drop}
use Rattle.ice_pads.specs.Assign.{with_pins}
use Rattle.ice_pads.proofs.rams.add_pins.Given as goal

abbrev pub invariant-loop-place : goal.invariant-loop-place
invariant-loop-place l = with_pins l.chip l.netlist l.pins l.place l.chosen.items (drop l.place l.wants) ≡ with_pins l.chip l.netlist l.pins 0 l.fn.chosen.items l.wants
