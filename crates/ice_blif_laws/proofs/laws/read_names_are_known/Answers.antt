use Rattle.ice_blif_laws.proofs.WordNames.{read_names}
use Rattle.ice_blif_laws.proofs.laws.read_names_are_known.Goals as goal

pub returns : goal.returns
returns c text n e = read_names text n e
