use Rattle.std.proofs.Common.{refl}
use Rattle.ice_chip_read.specs.Views.{reading_view}
use Rattle.ice_chip_read.proofs.PlainLines.{nothing_taken}
use Rattle.ice_chip_read.proofs.text.take_empty.Goals as goal

pub returns : goal.returns
returns c =
    nothing_taken (reading_view c.args.reading.now) (reading_view c.args.reading.now) c.args.number c.args.text.now c.in_ok-behind.behind.now _ c.in_ok-behind.ensures refl
