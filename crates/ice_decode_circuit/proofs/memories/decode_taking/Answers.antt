use Rattle.std.proofs.Common.{Bool, inr, sym, subst, rules}
use Rattle.std.proofs.lemmas.Result.{err_from_is_err_and}
use Rattle.ice_bits.specs.Configuration.{bits_of}
use Rattle.ice_decode.specs.declared.fault.DecodeFault.TheVariants.{ForeignSource}
use Rattle.ice_decode.specs.Memories.{IsTaken, IsRefusedFor}
use Rattle.ice_decode_circuit.proofs.PlainFaults.{refused_for}
use Rattle.ice_decode_circuit.proofs.memories.decode_taking.Goals as goal

pub returns-in_err-circuit-clause-fault : goal.returns-in_err-circuit-clause-fault
returns-in_err-circuit-clause-fault c =
    let p = err_from_is_err_and c.from_residual.result c.from_residual.ensures.1 in
    rw (p.1, p.2) (refused_for c.args.rams c.args.chip.now (bits_of c.args.bits.now) c.args.bits.now.extras c.in_err-circuit.field-0.0 c.in_err-circuit.ensures.fault)

pub returns-then-rams-clause-taken : goal.returns-then-rams-clause-taken
returns-then-rams-clause-taken c =
    subst (λ (r : Bool). IsTaken r c.args.chip.now (bits_of c.args.bits.now) c.args.bits.now.extras) (sym c.if-rams.true) c.in_ok-circuit.ensures.circuit.faultless

pub returns-in-None-clause-taken : goal.returns-in-None-clause-taken
returns-in-None-clause-taken c =
    subst (λ (r : Bool). IsTaken r c.args.chip.now (bits_of c.args.bits.now) c.args.bits.now.extras) (sym c.if-rams.false)
    (record { faultless = c.in_ok-circuit.ensures.circuit.faultless; memories = search rules })

pub returns-in-Some-clause-fault : goal.returns-in-Some-clause-fault
returns-in-Some-clause-fault c =
    subst (λ (r : Bool). IsRefusedFor r c.args.chip.now (bits_of c.args.bits.now) c.args.bits.now.extras (ForeignSource c.in-Some.wire)) (sym c.if-rams.false)
    (inr (record { faultless = c.in_ok-circuit.ensures.circuit.faultless; first = search rules }))
