use Rattle.std.proofs.Common.{◌≡◌, drop, find}
use Rattle.ice_chip_laws.specs.Pins.{is_pin_name, pin_of}
use Rattle.ice_chip_laws.proofs.pins.first_pin.Given as goal

abbrev pub invariant-loop-name : goal.invariant-loop-name
invariant-loop-name l = pin_of l.chip l.fn.wire.0 ≡ find (is_pin_name l.chip) (drop l.name-index l.name-items)
