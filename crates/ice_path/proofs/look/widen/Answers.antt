use Rattle.std.proofs.Common.{◌∙◌}
use Rattle.ice_graph.specs.declared.edge.Edge.{Edge}
use Rattle.std.proofs.lemmas.Option.{slice_get-get_or}
use Rattle.ice_path.proofs.Looking.{widens_more}
use Rattle.ice_path.proofs.look.widen.Goals as goal

abbrev none : Edge
none = record { row = record { 0 = 0 }; from = record { 0 = 0 }; to = record { 0 = 0 } }

pub loop-row-preserved : goal.loop-row-preserved
loop-row-preserved c =
    let i = c.loop-row.invariant in
    let e = c.meet.ensures in
    let at = slice_get-get_or c.args.rows.now c.loop-row.row-index none c.loop-row-test.true in
    record {
      widens = widens_more c.args.rows.now c.args.cost c.loop-row.row-index c.args.near.now c.loop-row.near c.meet.new.near _ at e.meets i.widens;
      waits = λ settled h. e.waits settled (i.waits settled h);
      order = e.order;
      room = e.room;
      capacity = e.capacity ∙ i.capacity;
      touches = e.touches;
      space = e.space ∙ i.space;
    }
