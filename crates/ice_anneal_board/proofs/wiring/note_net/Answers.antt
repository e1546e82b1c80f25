use Rattle.std.proofs.Common.{take, get_or, sym, subst}
use Rattle.std.proofs.lemmas.List.{take_more}
use Rattle.ice_anneal_board.specs.declared.net.Node.{Node}
use Rattle.ice_anneal_board.specs.declared.net.Node.TheVariants.{Cluster as of_cluster}
use Rattle.ice_anneal_board.specs.Noting.{Noted}
use Rattle.ice_anneal_board.proofs.Notes.{more_noted}
use Rattle.ice_anneal_board.proofs.wiring.note_net.Goals as goal

pub loop-node-preserved : goal.loop-node-preserved
loop-node-preserved c =
    let nodes = c.args.nodes.now in
    let k = c.loop-node.node-index in
    let d : Node = of_cluster 0 in
    subst (λ l. Noted c.args.touching.now.items c.note_node.new.touching.items c.args.net l) (sym (take_more nodes k d c.loop-node-test.true))
    (more_noted c.args.touching.now.items c.loop-node.touching.items c.note_node.new.touching.items c.args.net (take k nodes) (get_or nodes k d) c.loop-node.invariant c.in_ok-note_node.ensures)
