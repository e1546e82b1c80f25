use Rattle.ice_place_defs.specs.Loads.{Clock, Enable, SetReset}
use Rattle.ice_place_length.specs.Grown.{box_in}
use Rattle.ice_place_length.proofs.Growing.{control_none, control_some}
use Rattle.ice_place_length.proofs.loads.with_control.Goals as goal

pub returns-in-None : goal.returns-in-None
returns-in-None c = control_none c.args.root (box_in c.args.span) c.args.tile c.args.control c.in-None.is

pub returns-in-Some : goal.returns-in-Some
returns-in-Some c =
    control_some c.args.root (box_in c.args.span) (box_in c.grown_at-span.result) (box_in c.grown_at-span-in-Some.result) (box_in c.grown_at.result) c.args.tile c.args.control c.in-Some.control c.in-Some.is
    (c.grown_at-span.ensures Clock) (c.grown_at-span-in-Some.ensures Enable) (c.grown_at.ensures SetReset)
