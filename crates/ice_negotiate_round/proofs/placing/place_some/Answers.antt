use Rattle.std.proofs.Common.{ℕ, ◌+◌, ◌≤◌, Some, length, cond, nat_eq, ap, arith, ◌∙◌}
use Rattle.std.proofs.lemmas.List.Elements.{All-pop}
use Rattle.ice_graph.specs.declared.tree.Tree.{Tree}
use Rattle.ice_worker.specs.Tasks.{IsMade}
use Rattle.ice_negotiate_round.specs.Played.{made_at}
use Rattle.ice_negotiate_round.proofs.PlacingTrees.{covers_same, made_push, made_none}
use Rattle.ice_negotiate_round.proofs.placing.place_some.Goals as goal

pub place_one-requires-clause-made : goal.place_one-requires-clause-made
place_one-requires-clause-made c =
    let P : (ℕ × Tree) → Type 0 = IsMade c.args.graph.now c.args.prices.now c.args.tasks.now in
    let t = All-pop P c.loop-made.trees.items c.pop.new.self.items (Some c.in-Some.made) c.in-Some.ensures.items c.loop-made.invariant.made in
    t.1

pub loop-made-preserved : goal.loop-made-preserved
loop-made-preserved c =
    let graph = c.args.graph.now in
    let r = c.args.prices.now in
    let tasks = c.args.tasks.now in
    let P : (ℕ × Tree) → Type 0 = IsMade graph r tasks in
    let m = c.in-Some.made in
    let rest = c.pop.new.self.items in
    let t = All-pop P c.loop-made.trees.items rest (Some m) c.in-Some.ensures.items c.loop-made.invariant.made in
    record {
      long = c.place_one.ensures.long ∙ c.loop-made.invariant.long;
      made = t.0;
      covers = λ wanted before.
          let all = c.loop-made.invariant.covers wanted before in
          let one = covers_same graph r tasks c.loop-made.news (λ t. made_at t c.loop-made.trees.items + wanted t) (λ t. cond (nat_eq m.0 t) 1 0 + (made_at t rest + wanted t)) (λ t. omega (arith, ap (made_at t) c.in-Some.ensures.items, made_push t rest m)) all in
          c.place_one.ensures.covers (λ t. made_at t rest + wanted t) one;
    }

pub returns-clause-covers : goal.returns-clause-covers
returns-clause-covers c = λ wanted before.
    let all = c.loop-made.invariant.covers wanted before in
    let none : length c.loop-made.trees.items ≤ 0 = omega (arith, c.in_default.ensures.cases, c.loop-made.trees.ok) in
    covers_same c.args.graph.now c.args.prices.now c.args.tasks.now c.loop-made.news (λ t. made_at t c.loop-made.trees.items + wanted t) wanted (λ t. omega (arith, made_none t c.loop-made.trees.items none)) all
