use Rattle.ice_asc_laws.proofs.TextSays.{text_says}
use Rattle.ice_asc_laws.proofs.laws.texts_say_rows_of_tiles.Goals as goal

pub returns : goal.returns
returns c = text_says
