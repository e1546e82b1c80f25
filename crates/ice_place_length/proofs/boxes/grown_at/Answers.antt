use Rattle.ice_place_length.specs.Grown.{box_in}
use Rattle.ice_place_length.proofs.Growing.{reads_none}
use Rattle.ice_place_length.proofs.boxes.grown_at.Goals as goal

pub returns-in-None : goal.returns-in-None
returns-in-None c = λ pin. reads_none c.args.root (box_in c.args.span) c.args.tile pin c.args.reads c.in-None.is
