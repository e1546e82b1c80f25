use Rattle.ice_bits.proofs.FunctionBits.{reads_by_name}
use Rattle.ice_bits.proofs.laws.function_bits_are_those_of_the_name.Goals as goal

pub returns : goal.returns
returns c = reads_by_name
