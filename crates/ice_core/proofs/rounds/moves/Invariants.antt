use Rattle.std.proofs.Common.{◌≡◌, drop}
use Rattle.std.specs.List.{list_any}
use Rattle.ice_core.specs.Moves.{leaves_at}
use Rattle.ice_core.proofs.rounds.moves.Given as goal

abbrev pub invariant-loop-wire : goal.invariant-loop-wire
invariant-loop-wire l = list_any (leaves_at l.round l.counts l.seen) (drop l.wire-index l.wires) ≡ list_any (leaves_at l.round l.counts l.seen) l.wires
