use Rattle.ice_negotiate_defs.proofs.Leading.{rounds_lead, trees_lead}
use Rattle.ice_negotiate_defs.proofs.laws.trees_lead.Goals as goal

pub returns-clause-trees : goal.returns-clause-trees
returns-clause-trees c = trees_lead

pub returns-clause-rounds : goal.returns-clause-rounds
returns-clause-rounds c = rounds_lead
