use Rattle.ice_chip_read_laws.proofs.TextLines.{text_rows}
use Rattle.ice_chip_read_laws.proofs.laws.chip_texts_say_rows.Goals as goal

pub returns : goal.returns
returns c = text_rows
