use Rattle.std.proofs.Common.{◌∙◌, List, refl, subst}
use Rattle.ice_base.specs.declared.number.NetNo.{NetNo}
use Rattle.ice_negotiate_defs.specs.Logs.{AreTreesOf}
use Rattle.ice_negotiate.proofs.Keeping.{keeping_below}
use Rattle.ice_negotiate.proofs.logs.opening_log.Goals as goal

pub moved_trees-requires : goal.moved_trees-requires
moved_trees-requires c = keeping_below c.args.kept.now c.args.trees.now c.deref.result.now (c.deref.ensures.value ∙ c.in_ok-keeping.ensures) c.requires.begun

pub returns : goal.returns
returns c = record {
  number = refl;
  history = c.new.ensures.items;
  over = c.new-2.ensures.items;
  before = c.args.trees.now;
  begins = c.requires.begun;
  moved = subst (λ (ns : List NetNo). AreTreesOf c.args.trees.now ns c.in_ok-moved.moved.items) (c.deref.ensures.value ∙ c.in_ok-keeping.ensures) c.in_ok-moved.ensures;
}
