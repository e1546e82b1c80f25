use Rattle.ice_asc.proofs.RoundTrips.{chip_says}
use Rattle.ice_asc.proofs.laws.written_is_read.Goals as goal

pub returns : goal.returns
returns c = chip_says
