use Rattle.ice_back_laws.proofs.Loopless.{has_no_loop}
use Rattle.ice_back_laws.proofs.laws.netlist_has_no_loop.Goals as goal

pub returns : goal.returns
returns c = has_no_loop c.lookups_are_lawful.ensures
