use Rattle.ice_chip_laws.proofs.FunctionLaws.{functions_are}
use Rattle.ice_chip_laws.proofs.GroupLaws.{groups_are}
use Rattle.ice_chip_laws.proofs.NameLaws.{names_are}
use Rattle.ice_chip_laws.proofs.PinLaws.{pins_are}
use Rattle.ice_chip_laws.proofs.RowNumbers.{rows_are}
use Rattle.ice_chip_laws.proofs.ServerLaws.{servers_are}
use Rattle.ice_chip_laws.proofs.TileLaws.{tiles_are}
use Rattle.ice_chip_laws.proofs.UseLaws.{bits_are}
use Rattle.ice_chip_laws.proofs.laws.lookups_are_lawful.Goals as goal

pub returns : goal.returns
returns c = λ parts chip. record {
  tiles = tiles_are parts chip;
  names = names_are parts chip;
  pins = pins_are parts chip;
  functions = functions_are parts chip c.lacks_function_is_first.ensures;
  bits = bits_are parts chip c.shared_function_is_first.ensures c.lacks_function_is_first.ensures;
  groups = groups_are parts chip;
  rows = rows_are parts chip;
  servers = servers_are parts chip c.lacks_function_is_first.ensures;
}
