use Rattle.std.proofs.Common.{◌≡◌, ◌++◌, drop}
use Rattle.ice_pads.specs.Globals.{fed_pins}
use Rattle.ice_pads.proofs.choices.fed_pins.Given as goal

abbrev pub invariant-loop-k : goal.invariant-loop-k
invariant-loop-k l = l.pins.items ++ fed_pins (drop l.k l.direct) (drop l.k l.buffers) ≡ fed_pins l.direct l.buffers
