use Rattle.ice_blif_laws.proofs.ClosedTexts.{text_closed}
use Rattle.ice_blif_laws.proofs.laws.texts_say_closed_netlists.Goals as goal

pub returns : goal.returns
returns c = text_closed
