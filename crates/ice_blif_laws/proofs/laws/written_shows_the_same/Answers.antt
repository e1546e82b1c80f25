use Rattle.ice_blif_laws.proofs.Written.{written_shows_the_same}
use Rattle.ice_blif_laws.proofs.laws.written_shows_the_same.Goals as goal

pub returns : goal.returns
returns c = written_shows_the_same
