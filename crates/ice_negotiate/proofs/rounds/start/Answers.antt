use Rattle.std.proofs.Common.{rules}
use Rattle.ice_negotiate.proofs.Stating.{before_bare, ready_bare}
use Rattle.ice_negotiate.proofs.rounds.start.Goals as goal

pub returns-clause-ready : goal.returns-clause-ready
returns-clause-ready c = ready_bare c.args.graph.now c.args.nets.now 1 c.in_ok-vec.field-0 c.in_ok-vec-2.field-0 c.in_ok-all_nets.field-0 c.in_ok-bare_trees.field-0 c.new.result c.new-2.result
    (search rules) (search rules) c.in_ok-all_nets.ensures c.in_ok-bare_trees.ensures.long c.in_ok-bare_trees.ensures.bare (search rules) (search rules)

pub returns-clause-before : goal.returns-clause-before
returns-clause-before c = before_bare c.args.graph.now c.args.nets.now 1 c.in_ok-vec.field-0 c.in_ok-vec-2.field-0 c.in_ok-all_nets.field-0 c.in_ok-bare_trees.field-0 c.new.result c.new-2.result
    (search rules) (search rules) c.in_ok-all_nets.ensures c.in_ok-bare_trees.ensures.bare c.new.ensures.items c.new-2.ensures.items (search rules)
