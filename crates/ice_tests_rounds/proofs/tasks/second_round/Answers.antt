use Rattle.std.proofs.Common.{rules, ◌≡◌, [], ◌∷◌, sym, subst}
use Rattle.ice_worker.specs.Tasks.{ArePlayable}
use Rattle.ice_tests_rounds.proofs.Short.{second_ready}
use Rattle.ice_tests_rounds.proofs.tasks.second_round.Goals as goal

pub returns : goal.returns
returns g c =
    let items : c.expect-tasks.result.items ≡ c.task_to-one.result ∷ [] = search rules in
    subst (ArePlayable c.args.graph.now c.prices_of-prices.result) (sym items)
    (second_ready c.args.graph.now c.args.third c.prices_of-prices.result c.task_to-one.result c.requires.third c.requires.wires c.prices_of-prices.ensures.round c.prices_of-prices.ensures.history c.prices_of-prices.ensures.counts c.task_to-one.ensures.task c.task_to-one.ensures.old)
