use Rattle.ice_chip_names.specs.RamNames.{ram_names}
use Rattle.ice_chip_names.proofs.ram_names.ram_name.Goals as goal

pub returns : goal.returns
unfolding ram_names
returns c = c.name_at.ensures
