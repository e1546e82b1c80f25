use Rattle.ice_flow_words.proofs.Worked.{worked}
use Rattle.ice_flow_words.proofs.laws.worked_examples.Goals as goal

pub returns : goal.returns
returns c = worked
