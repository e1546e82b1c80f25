use Rattle.std.proofs.Common.{◌≡◌, ◌++◌, drop}
use Rattle.ice_anneal_nets.specs.Nodes.{nodes_in}
use Rattle.ice_anneal_nets.specs.Sorted.{nets_by}
use Rattle.ice_anneal_nets.proofs.building.add_nets.Given as goal

abbrev pub invariant-loop-k : goal.invariant-loop-k
invariant-loop-k l = nodes_in l.nets.items ++ nets_by (drop l.k l.roots) (drop l.k l.readers) ≡ nodes_in l.initial.nets.items ++ nets_by l.roots l.readers
