use Rattle.ice_blif_laws.proofs.NamesOnce.{texts_name_once}
use Rattle.ice_blif_laws.proofs.laws.texts_name_once.Goals as goal

pub returns : goal.returns
returns c = texts_name_once
