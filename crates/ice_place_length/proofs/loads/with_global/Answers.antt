use Rattle.std.proofs.Common.{sym}
use Rattle.ice_place_length.specs.Grown.{box_in}
use Rattle.ice_place_length.proofs.Growing.{global_none}
use Rattle.ice_place_length.proofs.loads.with_global.Goals as goal

pub returns-in-None : goal.returns-in-None
returns-in-None c = global_none c.args.chip.now c.args.root (box_in c.args.span) c.args.number c.args.reads (sym c.in-None.ensures)
