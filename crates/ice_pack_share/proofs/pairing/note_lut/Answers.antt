use Rattle.ice_pack_share.proofs.Counting.{noted}
use Rattle.ice_pack_share.proofs.pairing.note_lut.Goals as goal

pub returns-in_ok-put_lut-clause-luts : goal.returns-in_ok-put_lut-clause-luts
returns-in_ok-put_lut-clause-luts c = noted c.args.role c.in-Gives.pair c.in-Gives.is _ _ _ _ _ c.in_ok-turn.ensures.before c.in_ok-put_lut.ensures
