use Rattle.ice_flow_build_cmd.proofs.BuildLaws.{former_rows}
use Rattle.ice_flow_build_cmd.proofs.laws.causes_have_former_rows.Goals as goal

pub returns : goal.returns
returns c = former_rows
