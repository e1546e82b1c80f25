use Rattle.std.proofs.Common.{◌≡◌, take, length}
use Rattle.ice_decode.specs.Tables.{AreSources}
use Rattle.ice_decode_circuit.proofs.tables.sources_of.Given as goal

abbrev pub invariant-loop-switch : goal.invariant-loop-switch
invariant-loop-switch l = record { long : length l.sources.items ≡ l.wires; sources : AreSources (take l.switch-index l.switches) l.sources.items }
