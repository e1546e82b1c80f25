use Rattle.std.proofs.Common.{◌∙◌, ℕ, min, List, sym, subst, arith}
use Rattle.std.specs.List.{Contains}
use Rattle.std.proofs.lemmas.Bool.{false≢true}
use Rattle.ice_path.proofs.Aiming.{near_aim, rest_falls}
use Rattle.ice_path.proofs.Looking.{beyond_is}
use Rattle.ice_path.proofs.scratch.find_ahead.Goals as goal

pub look_back-requires-clause-guides : goal.look_back-requires-clause-guides
look_back-requires-clause-guides c = c.guides_of-guides.ensures c.args.graph.now.wires c.requires.targets

pub find-least-requires-clause-fits : goal.find-least-requires-clause-fits
find-least-requires-clause-fits c = record {
  targets = c.requires.targets;
  guides = c.guides_of-guides.ensures c.args.graph.now.wires c.requires.targets;
  low = λ w d at. (let le = c.look_back.ensures.small.0 w d at in omega (arith, le));
  beyond = λ k. (let le = c.look_back.ensures.small.1 k in omega (arith, le));
}

pub find-least-requires-clause-aim : goal.find-least-requires-clause-aim
find-least-requires-clause-aim c =
    near_aim _ _ c.args.prices.now (rest_falls c.args.graph.now c.args.hops.now c.guides_of-guides.result.now c.is_graph.ensures.bounds c.requires.hops.falls) c.look_back.ensures.knows
    (λ w d at. (let le = c.look_back.ensures.small.0 w d at in omega (arith, le)))
    (λ k. (let e = beyond_is c.look_back.new.beyond k c.look_back.ensures.long.2 in let le = c.look_back.ensures.small.1 (min k 63) in omega (arith, e, le)))

pub wipe-requires-clause-only : goal.wipe-requires-clause-only
wipe-requires-clause-only c = record {
  labelled = λ w l at. subst (λ (xs : List ℕ). Contains xs w) (sym c.deref.ensures.value) (c.look_back.ensures.labelled w l at);
  closed = λ w is. absurd (false≢true (sym (c.find-least.ensures.settled w) ∙ is));
}
