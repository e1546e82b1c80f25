use Rattle.std.proofs.Common.{get_or, arith}
use Rattle.std.proofs.lemmas.Option.{slice_get-get_or}
use Rattle.ice_base.specs.declared.number.TileAt.{TileAt}
use Rattle.ice_graph.specs.declared.edge.Edge.{Edge}
use Rattle.ice_graph.proofs.Growing.{boxes_more}
use Rattle.ice_graph.proofs.boxes.grow_all.Goals as goal

abbrev no_edge : Edge
no_edge = record { row = record { 0 = 0 }; from = record { 0 = 0 }; to = record { 0 = 0 } }

abbrev origin : TileAt
origin = record { x = 0; y = 0 }

pub loop-i-preserved : goal.loop-i-preserved
loop-i-preserved c =
    let lt = c.loop-i-test.true in
    let e : Edge = get_or c.args.edges.now c.loop-i.i no_edge in
    let at = slice_get-get_or c.args.edges.now c.loop-i.i no_edge lt in
    let there = slice_get-get_or c.args.places.now c.loop-i.i origin (omega (arith, lt, c.requires.places)) in
    let ends = c.requires.between c.loop-i.i e at in
    boxes_more c.args.edges.now c.args.places.now c.loop-i.i e (get_or c.args.places.now c.loop-i.i origin) at there c.args.wires c.loop-i.boxes c.grow.new.boxes c.grow-in-loop-i.new.boxes ends.0 ends.1 c.grow.ensures c.grow-in-loop-i.ensures c.loop-i.invariant
