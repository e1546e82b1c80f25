use Rattle.std.proofs.Common.{◌≡◌}
use Rattle.std.specs.Prelude.{option_map, slice_get}
use Rattle.ice_cells.specs.Tables.{table}
use Rattle.ice_anneal_nets.specs.Nodes.{pad_node}
use Rattle.ice_anneal_nets.proofs.building.pad_nodes.Given as goal

abbrev pub invariant-loop-k : goal.invariant-loop-k
invariant-loop-k l = l.nodes.items ≡ table (λ k. option_map pad_node (slice_get l.ports k)) l.k
