use Rattle.std.proofs.Common.{◌≡◌, length, ap, ◌∙◌, arith}
use Rattle.std.specs.Prelude.{option_map, slice_get}
use Rattle.ice_cells.specs.Tables.{table}
use Rattle.ice_anneal_nets.specs.Nodes.{pad_node}
use Rattle.ice_anneal_nets.proofs.ByRoots.{table_more}
use Rattle.ice_anneal_nets.proofs.building.pad_nodes.Goals as goal

pub loop-k-preserved : goal.loop-k-preserved
loop-k-preserved c =
    table_more (λ k. option_map pad_node (slice_get c.args.ports.now k)) c.loop-k.nodes.items c.push.new.self.items c.pad_node.result c.loop-k.k c.in_ok-push.ensures.items c.loop-k.invariant c.pad_node.ensures

pub returns : goal.returns
returns c =
    let all : c.loop-k.k ≡ length c.args.ports.now = omega (arith, c.loop-k-test.false, c.loop-k.auto.k-end) in
    c.loop-k.invariant ∙ ap (table (λ k. option_map pad_node (slice_get c.args.ports.now k))) all
