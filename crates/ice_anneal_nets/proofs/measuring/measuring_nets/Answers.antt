use Rattle.ice_place_defs.specs.Plan.{plan_in}
use Rattle.ice_anneal_nets.specs.Nodes.{plan_at}
use Rattle.ice_anneal_nets.proofs.Bridge.{same_length}
use Rattle.ice_anneal_nets.proofs.Fits.{nets_fit}
use Rattle.ice_anneal_nets.proofs.measuring.measuring_nets.Goals as goal

pub returns-clause-nets : goal.returns-clause-nets
returns-clause-nets c = nets_fit c.args.placed.now.chip.now (plan_in c.args.placed.now) c.in_ok-nets.nets.items c.in_ok-nets.ensures

pub returns-clause-lengths : goal.returns-clause-lengths
returns-clause-lengths c at e = same_length c.args.placed.now.chip.now (plan_at c.args.placed.now at) c.in_ok-nets.nets.items e c.in_ok-nets.ensures
