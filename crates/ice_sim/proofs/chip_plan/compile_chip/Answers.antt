use Rattle.std.proofs.Common.{IfOk, sym, subst}
use Rattle.ice_bits.specs.Configuration.{bits_of}
use Rattle.ice_sim.specs.ConfiguredChips.{ConfiguredData, AreStoresOf}
use Rattle.ice_sim.specs.ChipRuns.{IsCompiled}
use Rattle.ice_decode.specs.Loops.{IsOrderOf}
use Rattle.ice_sim.proofs.chip_plan.compile_chip.Goals as goal

pub compile_configured-requires-clause-stores : goal.compile_configured-requires-clause-stores
compile_configured-requires-clause-stores c = subst (λ (d : ConfiguredData). AreStoresOf d.parts c.args.stores.now) (sym c.in_ok-configured.ensures) c.requires.stores

pub compile_configured-requires-clause-order : goal.compile_configured-requires-clause-order
compile_configured-requires-clause-order c =
    subst (λ (d : ConfiguredData). IsOrderOf d.parts (bits_of d.configuration) d.configuration.extras c.order.result.now) (sym c.in_ok-configured.ensures)
    (subst (IsOrderOf c.args.chip.now (bits_of c.args.circuit.now.configuration) c.args.circuit.now.configuration.extras) (sym c.order.ensures) c.requires.circuit.ordered)

pub returns : goal.returns
returns c =
    subst (λ (d : ConfiguredData). IfOk c.compile_configured.result (λ compiled. IsCompiled d.parts (bits_of d.configuration) d.configuration.extras d.bonded compiled.0 compiled.1.items)) c.in_ok-configured.ensures
    c.compile_configured.ensures
