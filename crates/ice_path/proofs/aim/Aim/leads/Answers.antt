use Rattle.std.proofs.Common.{[]}
use Rattle.ice_path.proofs.Aiming.{leads_is}
use Rattle.ice_path.proofs.aim.Aim.leads.Goals as goal

pub returns : goal.returns
returns c = leads_is (record { wires = 0; edges = []; boxes = []; spread = 0 }) c.args.self.now c.args.wire.0 c.number_at.result c.number_at.ensures
