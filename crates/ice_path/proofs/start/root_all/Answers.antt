use Rattle.std.proofs.Common.{◌∙◌}
use Rattle.std.proofs.lemmas.Option.{slice_get-get_or}
use Rattle.ice_base.specs.declared.number.WireNo.{WireNo}
use Rattle.ice_path.proofs.start.root_all.Goals as goal

pub loop-wire-preserved : goal.loop-wire-preserved
loop-wire-preserved c =
    let i = c.loop-wire.invariant in
    let e = c.root.ensures in
    let none : WireNo = record { 0 = 0 } in
    record {
      starts = e.starts c.args.tree.now c.loop-wire.wire-index c.args.settled.now (slice_get-get_or c.args.tree.now c.loop-wire.wire-index none c.loop-wire-test.true) i.starts;
      waits = e.waits c.args.settled.now i.waits;
      order = e.order;
      room = e.room;
      capacity = e.capacity ∙ i.capacity;
      touches = e.touches;
      space = e.space ∙ i.space;
    }
