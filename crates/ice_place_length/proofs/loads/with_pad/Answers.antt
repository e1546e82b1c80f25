use Rattle.ice_place_defs.specs.Loads.{load_at, Drive, DriveEnable}
use Rattle.ice_place_length.specs.Grown.{box_in}
use Rattle.ice_place_length.proofs.Growing.{then_grown}
use Rattle.ice_place_length.proofs.loads.with_pad.Goals as goal

pub returns : goal.returns
returns c =
    let place = c.args.place in
    let pad = c.args.pad.now in
    then_grown c.args.root (box_in c.args.span) (box_in c.grown_at-span.result) (box_in c.grown_at.result) (load_at place.tile (Drive place.pio) pad.drive) (load_at place.tile (DriveEnable place.pio) pad.enable)
    (c.grown_at-span.ensures (Drive place.pio)) (c.grown_at.ensures (DriveEnable place.pio))
