use Rattle.std.proofs.Common.{take}
use Rattle.ice_anneal_board.specs.Noting.{Noted}
use Rattle.ice_anneal_board.proofs.wiring.note_net.Given as goal

abbrev pub invariant-loop-node : goal.invariant-loop-node
invariant-loop-node l = Noted l.initial.touching.items l.touching.items l.net (take l.node-index l.nodes)
