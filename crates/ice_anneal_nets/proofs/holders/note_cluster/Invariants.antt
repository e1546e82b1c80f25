use Rattle.std.proofs.Common.{◌≡◌, drop}
use Rattle.ice_anneal_nets.specs.Holders.{noted, slots_held}
use Rattle.ice_anneal_nets.proofs.holders.note_cluster.Given as goal

abbrev pub invariant-loop-cell : goal.invariant-loop-cell
invariant-loop-cell l = noted l.nodes.items (slots_held l.k (drop l.cell-index l.cells)) ≡ noted l.initial.nodes.items (slots_held l.k l.cells)
