use Rattle.std.proofs.Common.{subst}
use Rattle.ice_chip.specs.IsRead.{IsRead}
use Rattle.ice_chip_read.specs.Views.{reading_view}
use Rattle.ice_chip_read.proofs.ReadParts.{rows_are_read}
use Rattle.ice_chip_read.proofs.read.finish.Goals as goal

pub build-requires : goal.build-requires
build-requires c = subst IsRead c.in_ok-parts.ensures (rows_are_read (reading_view c.args.reading) c.requires)
