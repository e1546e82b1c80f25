use Rattle.std.proofs.Common.{sym, subst}
use Rattle.ice_decode.specs.Refusals.{IsCircuitOf}
use Rattle.ice_decode_circuit.proofs.decoding.circuit_of.Goals as goal

pub returns : goal.returns
returns c = subst (IsCircuitOf c.args.chip.now c.args.bits.now) (sym c.of.ensures) (record {
  same = c.in_ok-bits.ensures;
  faultless = c.requires.faultless;
  driven_by = c.requires.drivers;
  fed_by_pads = c.requires.direct;
  ordered = c.requires.order;
})
