use Rattle.ice_back_laws.proofs.Sound.{is_sound}
use Rattle.ice_back_laws.proofs.laws.netlist_is_sound.Goals as goal

pub returns : goal.returns
returns c = is_sound c.lookups_are_lawful.ensures
