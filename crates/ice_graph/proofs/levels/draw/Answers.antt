use Rattle.std.proofs.Common.{◌∙◌, slice_index_or, arith}
use Rattle.std.proofs.lemmas.Option.{slice_get-get_or}
use Rattle.ice_graph.specs.declared.edge.Edge.{Edge}
use Rattle.ice_graph.proofs.Drawing.{draws_none, draws_more}
use Rattle.ice_graph.proofs.levels.draw.Goals as goal

abbrev none : Edge
none = record { row = record { 0 = 0 }; from = record { 0 = 0 }; to = record { 0 = 0 } }

pub loop-edge-init : goal.loop-edge-init
loop-edge-init c = draws_none c.args.edges.now c.args.level.now c.args.next.now c.requires.copy

pub loop-edge-preserved : goal.loop-edge-preserved
loop-edge-preserved c =
    let i = c.loop-edge.invariant in
    let e : Edge = slice_index_or c.args.edges.now c.loop-edge.edge-index none in
    let at = slice_get-get_or c.args.edges.now c.loop-edge.edge-index none c.loop-edge-test.true in
    let lt = (c.requires.between c.loop-edge.edge-index e at).0 in
    draws_more c.args.edges.now c.loop-edge.edge-index c.args.level.now c.loop-edge.next e (let long = i.long in omega (arith, lt, long)) at i
