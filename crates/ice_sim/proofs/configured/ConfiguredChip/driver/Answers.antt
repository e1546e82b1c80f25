use Rattle.std.proofs.Common.{◌<◌, ◌∙◌, List, length, get_or, ap, sym, subst}
use Rattle.ice_bits.specs.Configuration.{bits_of}
use Rattle.ice_decode.specs.declared.driver.Driver.{Driver}
use Rattle.ice_decode.specs.declared.driver.Driver.TheVariants.{Nothing}
use Rattle.ice_sim.specs.ConfiguredChips.{ConfiguredData}
use Rattle.ice_decode.proofs.DriverTables.{driver_within, driver_found}
use Rattle.ice_decode.specs.Tables.{ComesFrom}
use Rattle.ice_decode.proofs.Switches.{comes_from}
use Rattle.ice_sim.proofs.configured.ConfiguredChip.driver.Goals as goal
use Rattle.ice_sim.proofs.configured.ConfiguredChip.driver.Goals.{After-drivers}

within : (c : After-drivers) → c.args.wire.0 < c.self.inside.chip.now.wires
within c = subst (λ (d : ConfiguredData). c.args.wire.0 < d.parts.wires) (sym c.self.view_is) c.requires

pub bounds-drivers-wire : goal.bounds-drivers-wire
bounds-drivers-wire c =
    let a = (goal.at.bounds-drivers-wire c).After-drivers in
    subst (λ (l : List Driver). c.args.wire.0 < length l) (sym c.drivers.ensures)
    (driver_within c.self.inside.chip.now (bits_of c.self.inside.circuit.now.configuration) c.self.inside.circuit.now.drivers c.args.wire.0 c.self.invariant.circuit.driven_by (within a))

pub returns-clause-source : goal.returns-clause-source
returns-clause-source c =
    let a = (goal.at.returns-clause-source c).After-drivers in
    subst (λ (d : ConfiguredData). ComesFrom d.parts.wires (get_or c.drivers.result.now c.args.wire.0 Nothing)) c.self.view_is
    (comes_from c.self.inside.chip.now (bits_of c.self.inside.circuit.now.configuration) c.args.wire.0 (get_or c.drivers.result.now c.args.wire.0 Nothing) c.self.invariant.chip.read
    (ap (λ (l : List Driver). get_or l c.args.wire.0 Nothing) c.drivers.ensures
    ∙ driver_found c.self.inside.chip.now (bits_of c.self.inside.circuit.now.configuration) c.self.inside.circuit.now.drivers c.args.wire.0 Nothing c.self.invariant.circuit.driven_by (within a)))
