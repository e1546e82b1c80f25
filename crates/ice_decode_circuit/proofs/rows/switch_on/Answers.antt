use Rattle.ice_bits.specs.Configuration.{bits_of}
use Rattle.ice_decode_circuit.proofs.RowsOn.{on_here}
use Rattle.ice_decode_circuit.proofs.rows.switch_on.Goals as goal

pub returns : goal.returns
returns c =
    on_here (bits_of c.args.bits.now) c.args.group.now c.in_ok-place.place c.index-row.result.now c.in_ok-place.ensures.within c.index-row.ensures c.in_ok-place.ensures.number
