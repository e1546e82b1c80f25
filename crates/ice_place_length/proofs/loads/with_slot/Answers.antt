use Rattle.ice_place_length.specs.Grown.{box_in}
use Rattle.ice_place_length.proofs.Growing.{slot_none}
use Rattle.ice_place_length.proofs.loads.with_slot.Goals as goal

pub returns-in-None : goal.returns-in-None
returns-in-None c = λ i. slot_none c.args.root (box_in c.args.span) c.args.tile c.args.cells.now i c.args.slot c.in-None.is
