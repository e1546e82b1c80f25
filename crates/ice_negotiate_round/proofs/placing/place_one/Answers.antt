use Rattle.ice_negotiate_round.proofs.PlacingTrees.{placed}
use Rattle.ice_negotiate_round.proofs.placing.place_one.Goals as goal

pub returns-clause-covers : goal.returns-clause-covers
returns-clause-covers c = λ wanted covers. placed c.args.graph.now c.args.prices.now c.args.tasks.now c.args.news.now c.args.made wanted c.requires.made covers
