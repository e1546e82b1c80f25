use Rattle.std.proofs.Common.{ap, ◌∙◌}
use Rattle.ice_cells.specs.Runs.{runs_of}
use Rattle.ice_flow_build.proofs.laying.design_of.Goals as goal

pub returns-clause-design : goal.returns-clause-design
returns-clause-design c = c.in_ok-design.ensures ∙ ap runs_of c.in_ok-packed.ensures
