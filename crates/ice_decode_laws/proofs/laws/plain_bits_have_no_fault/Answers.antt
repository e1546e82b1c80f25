use Rattle.ice_decode_laws.proofs.NoneFound.{no_fault}
use Rattle.ice_decode_laws.proofs.laws.plain_bits_have_no_fault.Goals as goal

pub returns : goal.returns
returns c = no_fault
