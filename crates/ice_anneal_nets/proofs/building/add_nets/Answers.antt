use Rattle.std.proofs.Common.{refl, None, get_or, ◌∷◌, [], ◌++◌, drop, ◌+◌, ap, ◌∙◌, arith}
use Rattle.ice_anneal_board.specs.declared.net.NetNodes.{NetNodes}
use Rattle.ice_anneal_nets.specs.Nodes.{nodes_in}
use Rattle.ice_anneal_nets.specs.Sorted.{net_by, nets_by}
use Rattle.ice_anneal_nets.proofs.Joining.{step_joined, end_joined}
use Rattle.ice_anneal_nets.proofs.ByRoots.{nets_more, nets_end, pushed}
use Rattle.ice_anneal_nets.proofs.building.add_nets.Goals as goal

pub loop-k-preserved : goal.loop-k-preserved
loop-k-preserved c =
    let roots = c.args.roots.now in
    let lists = c.args.readers.now in
    let k = c.loop-k.k in
    let root = get_or roots k None in
    let net : NetNodes = record { nodes = c.in_ok-nodes_of.field-0 } in
    step_joined (nodes_in c.loop-k.nets.items) (nodes_in c.push.new.self.items) (net_by c.index-readers-k.result root ∷ []) (nets_by (drop (k + 1) roots) (drop (k + 1) lists)) (nets_by (drop k roots) (drop k lists))
    (nodes_in c.args.nets.now.items ++ nets_by roots lists)
    (nets_more roots lists k root None c.index-readers-k.result _ (omega arith) (omega arith) refl c.index-readers-k.is)
    (pushed c.loop-k.nets.items c.push.new.self.items net (net_by c.index-readers-k.result root) c.in_ok-push.ensures.items
    (c.in_ok-nodes_of.ensures ∙ ap (λ l. net_by l root) c.as_slice.ensures))
    c.loop-k.invariant

pub returns : goal.returns
returns c =
    let roots = c.args.roots.now in
    let lists = c.args.readers.now in
    let k = c.loop-k.k in
    end_joined (nodes_in c.loop-k.nets.items) (nets_by (drop k roots) (drop k lists)) (nodes_in c.args.nets.now.items ++ nets_by roots lists) (nets_end roots lists k (omega arith)) c.loop-k.invariant
