use Rattle.std.proofs.Common.{Some, ap, arith, length, sym, subst}
use Rattle.ice_core.specs.Moves.{AreWithin, IsOccupancy}
use Rattle.ice_graph.specs.declared.tree.Tree.{Tree}
use Rattle.std.proofs.Common.{List}
use Rattle.ice_negotiate_defs.specs.Fitting.{wholes}
use Rattle.ice_negotiate_defs.specs.Rounds.{BeginsWith}
use Rattle.ice_negotiate.proofs.Keeping.{begun_long, begun_within}
use Rattle.ice_negotiate.proofs.Stating.{before_begun, ready_begun}
use Rattle.ice_negotiate.proofs.rounds.start_from.Goals as goal

pub first_prices-requires-clause-within : goal.first_prices-requires-clause-within
first_prices-requires-clause-within c =
    subst (AreWithin c.args.graph.now.wires) (sym c.deref.ensures.value) (begun_within c.args.graph.now c.args.nets.now c.args.kept.now c.in_ok-trees.trees.items c.requires.kept c.in_ok-trees.ensures c.requires.nets c.is_graph.ensures.between)

pub first_prices-requires-clause-trees : goal.first_prices-requires-clause-trees
first_prices-requires-clause-trees c =
    omega (arith, ap length c.deref.ensures.value, begun_long c.args.graph.now c.args.nets.now c.args.kept.now c.in_ok-trees.trees.items c.requires.kept c.in_ok-trees.ensures, c.requires.few)

pub first_logs-requires-clause-begun : goal.first_logs-requires-clause-begun
first_logs-requires-clause-begun c = subst (BeginsWith (Some (wholes c.args.kept.now))) (sym c.deref-2.ensures.value) c.in_ok-trees.ensures

pub returns-clause-ready : goal.returns-clause-ready
returns-clause-ready c =
    let p = c.in_ok-prices.ensures in
    ready_begun c.args.graph.now c.args.nets.now c.in_ok-prices.prices.round c.in_ok-prices.prices.history c.in_ok-prices.prices.counts c.in_ok-left_nets.field-0 c.in_ok-trees.trees c.in_ok-logs.logs c.new.result
    c.args.kept.now c.requires.kept p.fresh p.histories p.long (subst (λ (ts : List Tree). IsOccupancy c.in_ok-prices.prices.counts.items ts) c.deref.ensures.value p.counts) c.in_ok-left_nets.ensures c.in_ok-trees.ensures

pub returns-clause-before : goal.returns-clause-before
returns-clause-before c =
    let p = c.in_ok-prices.ensures in
    let l = c.in_ok-logs.ensures in
    before_begun c.args.graph.now c.args.nets.now c.in_ok-prices.prices.round c.in_ok-prices.prices.history c.in_ok-prices.prices.counts c.in_ok-left_nets.field-0 c.in_ok-trees.trees c.in_ok-logs.logs c.new.result
    c.args.kept.now l.0 c.requires.kept p.fresh p.long (subst (λ (ts : List Tree). IsOccupancy c.in_ok-prices.prices.counts.items ts) c.deref.ensures.value p.counts) c.in_ok-left_nets.ensures c.in_ok-trees.ensures l.1 l.2 c.new.ensures.items
