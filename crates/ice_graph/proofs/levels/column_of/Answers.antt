use Rattle.std.proofs.Common.{◌+◌, List, sym, subst}
use Rattle.ice_graph.specs.Levels.{IsColumnOf, lists_of}
use Rattle.ice_graph.proofs.Hopping.{column_more}
use Rattle.ice_graph.proofs.levels.column_of.Goals as goal

pub loop-wire-preserved : goal.loop-wire-preserved
loop-wire-preserved c = subst (IsColumnOf (lists_of c.args.levels.now) (c.loop-wire.wire + 1) c.args.bit) (sym c.in_ok-push.ensures.items) (column_more (lists_of c.args.levels.now) c.loop-wire.wire c.args.bit c.loop-wire.column.items c.first_level.result c.loop-wire.invariant c.first_level.ensures)
