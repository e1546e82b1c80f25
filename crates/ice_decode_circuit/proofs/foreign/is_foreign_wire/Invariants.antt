use Rattle.std.proofs.Common.{◌≡◌, drop}
use Rattle.std.specs.List.{list_any}
use Rattle.ice_bits.specs.Configuration.{bits_of}
use Rattle.ice_decode.specs.ForeignSources.{is_foreign_name, is_foreign_wire}
use Rattle.ice_decode_circuit.proofs.foreign.is_foreign_wire.Given as goal

abbrev pub invariant-loop-placed : goal.invariant-loop-placed
invariant-loop-placed l = is_foreign_wire l.chip (bits_of l.bits) l.fn.wire.0 ≡ list_any (is_foreign_name l.chip (bits_of l.bits)) (drop l.placed-index l.placed-items)
