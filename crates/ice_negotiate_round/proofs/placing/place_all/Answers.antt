use Rattle.std.proofs.Common.{ℕ, ◌+◌, ◌≤◌, All, List, Some, length, ap, arith, subst, sym, ◌∙◌}
use Rattle.std.proofs.lemmas.List.Elements.{All-pop, All-push}
use Rattle.ice_graph.specs.declared.tree.Tree.{Tree}
use Rattle.ice_worker.specs.declared.kit.Kit.{Kit}
use Rattle.ice_worker.specs.Tasks.{IsMade}
use Rattle.ice_worker.specs.Kits.{IsKitOf, made_by}
use Rattle.ice_negotiate_round.specs.declared.jobs.Done.{Done}
use Rattle.ice_negotiate_round.specs.Played.{made_at, made_in}
use Rattle.ice_negotiate_round.proofs.PlacingTrees.{covers_same, dones_push, dones_none}
use Rattle.ice_negotiate_round.proofs.placing.place_all.Goals as goal

pub place_some-requires-clause-made : goal.place_some-requires-clause-made
place_some-requires-clause-made c =
    let P : Done → Type 0 = λ (d : Done). All (IsMade c.args.graph.now c.args.prices.now c.args.tasks.now) (made_by d.kit) in
    let t = All-pop P c.loop-done.dones.items c.pop.new.self.items (Some c.in-Some.done) c.in-Some.ensures.items c.loop-done.invariant.made in
    subst (λ (ms : List (ℕ × Tree)). All (IsMade c.args.graph.now c.args.prices.now c.args.tasks.now) ms) (sym c.take_trees-trees.ensures.trees) t.1

pub loop-done-preserved : goal.loop-done-preserved
loop-done-preserved c =
    let graph = c.args.graph.now in
    let r = c.args.prices.now in
    let tasks = c.args.tasks.now in
    let P : Done → Type 0 = λ (d : Done). All (IsMade graph r tasks) (made_by d.kit) in
    let Q : Done → Type 0 = λ (d : Done). IsKitOf graph d.kit in
    let K : Kit → Type 0 = IsKitOf graph in
    let d = c.in-Some.done in
    let rest = c.pop.new.self.items in
    let t = All-pop P c.loop-done.dones.items rest (Some d) c.in-Some.ensures.items c.loop-done.invariant.made in
    let u = All-pop Q c.loop-done.dones.items rest (Some d) c.in-Some.ensures.items c.loop-done.invariant.of in
    record {
      long = c.place_some.ensures.long ∙ c.loop-done.invariant.long;
      made = t.0;
      of = u.0;
      covers = λ before.
          let all = c.loop-done.invariant.covers before in
          let one = covers_same graph r tasks c.loop-done.news (λ t. made_in t c.loop-done.dones.items) (λ t. made_at t c.take_trees-trees.result.items + made_in t rest) (λ t. omega (arith, ap (made_in t) c.in-Some.ensures.items, dones_push t rest d, ap (made_at t) c.take_trees-trees.ensures.trees)) all in
          c.place_some.ensures.covers (λ t. made_in t rest) one;
      many = omega (arith, c.in_ok-push.ensures.len, c.in-Some.ensures.len, c.loop-done.invariant.many);
      kits = subst (λ (ks : List Kit). All K ks) (sym c.in_ok-push.ensures.items) (All-push K c.loop-done.kits.items _ c.loop-done.invariant.kits (c.take_trees-trees.ensures.kit graph u.1));
    }

pub returns-clause-covers : goal.returns-clause-covers
returns-clause-covers c = λ before.
    let all = c.loop-done.invariant.covers before in
    let none : length c.loop-done.dones.items ≤ 0 = omega (arith, c.in_default.ensures.cases, c.loop-done.dones.ok) in
    covers_same c.args.graph.now c.args.prices.now c.args.tasks.now c.loop-done.news (λ t. made_in t c.loop-done.dones.items) (λ t. 0) (λ t. dones_none t c.loop-done.dones.items none) all
