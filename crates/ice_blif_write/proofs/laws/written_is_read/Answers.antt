use Rattle.ice_blif_write.proofs.TextRead.{text_read}
use Rattle.ice_blif_write.proofs.laws.written_is_read.Goals as goal

pub returns : goal.returns
returns c = text_read
