use Rattle.ice_place.proofs.Joining.{slice_more, all_slices}
use Rattle.ice_place.proofs.first.add_all.Goals as goal

pub loop-slice-preserved : goal.loop-slice-preserved
loop-slice-preserved c = slice_more c.args.slices.now c.loop-slice.slice-index _ c.args.tiles.now.items c.loop-slice.tiles.items c.add.new.tiles.items c.loop-slice-test.true c.loop-slice.invariant c.in_ok-add.ensures

pub returns : goal.returns
returns c = all_slices c.args.slices.now c.loop-slice.slice-index c.args.tiles.now.items c.loop-slice.tiles.items c.loop-slice-test.false c.loop-slice.invariant
