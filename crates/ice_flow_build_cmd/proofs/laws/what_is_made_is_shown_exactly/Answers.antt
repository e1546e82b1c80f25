use Rattle.ice_flow_build_cmd.proofs.Shown.{made_shown_exactly}
use Rattle.ice_flow_build_cmd.proofs.laws.what_is_made_is_shown_exactly.Goals as goal

pub returns : goal.returns
returns c = made_shown_exactly
