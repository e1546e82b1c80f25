use Rattle.std.proofs.Common.{◌∙◌}
use Rattle.std.proofs.lemmas.Option.{slice_get-get_or}
use Rattle.ice_base.specs.declared.number.WireNo.{WireNo}
use Rattle.ice_path.proofs.Looking.{are_met_more}
use Rattle.ice_path.proofs.look.meet_all.Goals as goal

abbrev none : WireNo
none = record { 0 = 0 }

pub loop-target-preserved : goal.loop-target-preserved
loop-target-preserved c =
    let i = c.loop-target.invariant in
    let e = c.meet.ensures in
    let at = slice_get-get_or c.args.targets.now c.loop-target.target-index none c.loop-target-test.true in
    record {
      met = are_met_more c.args.targets.now c.loop-target.target-index c.loop-target.near c.meet.new.near _ at e.meets i.met;
      waits = λ settled. e.waits settled (i.waits settled);
      order = e.order;
      room = e.room;
      capacity = e.capacity ∙ i.capacity;
      touches = e.touches;
      space = e.space ∙ i.space;
    }
