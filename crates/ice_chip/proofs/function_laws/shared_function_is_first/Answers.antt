use Rattle.ice_chip.specs.SharedFunction.{bit_uses}
use Rattle.ice_chip.proofs.FirstOfAll.{first_is_shared}
use Rattle.ice_chip.proofs.function_laws.shared_function_is_first.Goals as goal

pub returns : goal.returns
returns c = λ parts. first_is_shared (bit_uses parts)
