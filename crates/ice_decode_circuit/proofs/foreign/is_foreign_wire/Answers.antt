use Rattle.std.proofs.Common.{sym, ◌∙◌}
use Rattle.std.specs.List.{list_any}
use Rattle.std.proofs.lemmas.List.{at_drop_all}
use Rattle.ice_chip.proofs.Passing.{any_passed, any_here}
use Rattle.ice_bits.specs.Configuration.{bits_of}
use Rattle.ice_decode.specs.ForeignSources.{is_foreign_name}
use Rattle.ice_decode_circuit.proofs.foreign.is_foreign_wire.Goals as goal

pub loop-placed-preserved : goal.loop-placed-preserved
loop-placed-preserved c =
    c.loop-placed.invariant
    ∙ any_passed (is_foreign_name c.args.chip.now (bits_of c.args.bits.now)) c.names-placed-items.result.now c.loop-placed.placed-index c.placed-item.result c.loop-placed-test.true c.placed-item.is
    c.if-is_foreign_name.ensures

pub returns : goal.returns
returns c =
    sym (c.loop-placed.invariant
    ∙ at_drop_all (list_any (is_foreign_name c.args.chip.now (bits_of c.args.bits.now))) c.names-placed-items.result.now c.loop-placed.placed-index c.loop-placed-test.false)

pub returns-then-is_foreign_name : goal.returns-then-is_foreign_name
returns-then-is_foreign_name c =
    sym (c.loop-placed.invariant
    ∙ any_here (is_foreign_name c.args.chip.now (bits_of c.args.bits.now)) c.names-placed-items.result.now c.loop-placed.placed-index c.placed-item.result c.loop-placed-test.true c.placed-item.is
    c.if-is_foreign_name.ensures)
