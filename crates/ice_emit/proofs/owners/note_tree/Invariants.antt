use Rattle.std.proofs.Common.{◌≡◌, drop}
use Rattle.ice_emit.specs.Holding.{noted, tree_holdings}
use Rattle.ice_emit.proofs.owners.note_tree.Given as goal

abbrev pub invariant-loop-wire : goal.invariant-loop-wire
invariant-loop-wire l = noted l.owners.items (tree_holdings l.number (drop l.wire-index l.wires)) ≡ noted l.initial.owners.items (tree_holdings l.number l.wires)
