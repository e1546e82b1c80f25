use Rattle.ice_back_laws.proofs.Driving.{is_connected}
use Rattle.ice_back_laws.proofs.laws.netlist_is_connected.Goals as goal

pub returns : goal.returns
returns c = is_connected c.lookups_are_lawful.ensures
