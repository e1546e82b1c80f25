use Rattle.ice_back_laws.proofs.Steps.{netlist_shows}
use Rattle.ice_back_laws.proofs.laws.netlist_shows_what_bits_show.Goals as goal

pub returns : goal.returns
returns c = netlist_shows c.lookups_are_lawful.ensures
