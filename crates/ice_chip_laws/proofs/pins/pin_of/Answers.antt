use Rattle.std.proofs.Common.{sym, subst}
use Rattle.ice_chip_laws.specs.Pins.{IsOnePin}
use Rattle.ice_chip_laws.proofs.PinLaws.{pin_is_one}
use Rattle.ice_chip_laws.proofs.pins.pin_of.Goals as goal

pub returns-clause-one : goal.returns-clause-one
returns-clause-one c =
    subst (IsOnePin c.args.chip.now c.args.wire.0) (sym c.first_pin.ensures) (pin_is_one c.args.chip.now c.chip_is_lawful.ensures.pins c.args.wire.0)
