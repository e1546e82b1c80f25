use Rattle.ice_chip_names.proofs.FunctionNamesRead.{function_names_read}
use Rattle.ice_chip_names.proofs.function_names.function_names_are_read.Goals as goal

pub returns : goal.returns
returns c = function_names_read
