use Rattle.std.proofs.Common.{IfSome, refl, subst, arith}
use Rattle.ice_core.specs.Congestion.{price}
use Rattle.ice_path.specs.Aims.{bound_in}
use Rattle.ice_path.specs.Search.{AreExact}
use Rattle.ice_path.proofs.back.take_path.Goals as goal

pub walk_back-requires-clause-exact : goal.walk_back-requires-clause-exact
walk_back-requires-clause-exact c =
    let t = c.taken_target-target.ensures in
    let home = c.requires.aim.home c.taken_target-target.result.0 (t.place, c.taken_target-target.result, t.stands, refl) in
    record {
      bound = bound_in c.args.graph.now c.args.aim.now;
      most = c.in-Some.cost;
      falls = c.requires.aim.falls;
      exact = subst (λ o. IfSome o (λ n. AreExact c.args.graph.now.edges (price c.args.prices.now) c.args.tree.now (bound_in c.args.graph.now c.args.aim.now) n c.args.labels.now)) c.in-Some.is c.requires.exact;
      near = omega (arith, home);
    }
