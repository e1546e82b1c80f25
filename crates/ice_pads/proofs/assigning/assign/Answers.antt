use Rattle.std.proofs.Common.{subst}
use Rattle.ice_chip.specs.Database.{Parts}
use Rattle.ice_pads.specs.Answers.{Answers}
use Rattle.ice_pads.specs.Assign.{assign_of}
use Rattle.ice_pads.proofs.assigning.assign.Goals as goal

pub returns : goal.returns
returns c =
    subst (λ (parts : Parts). Answers c.assign_by.result (assign_of parts c.args.name.now c.args.pcf.now c.args.netlist.now c.args.closing c.args.design.now))
    c.in_ok-index.ensures c.assign_by.ensures
