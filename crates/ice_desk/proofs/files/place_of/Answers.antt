use Rattle.std.proofs.Common.{◌∙◌, arith, rules}
use Rattle.ice_desk.proofs.FilesByName.{placed_0, not_placed, found_here, none_left}
use Rattle.ice_desk.proofs.files.place_of.Goals as goal

pub returns-then-eq-clause-some : goal.returns-then-eq-clause-some
returns-then-eq-clause-some c =
    placed_0 _ _ _ (c.loop-i.invariant ∙ found_here c.args.name.now c.args.files.now c.loop-i.i c.index-files-i.result (omega arith) c.index-files-i.is (search rules))

pub returns-clause-none : goal.returns-clause-none
returns-clause-none c = not_placed c.args.name.now c.args.files.now 0 (c.loop-i.invariant ∙ none_left c.args.name.now c.args.files.now c.loop-i.i (omega arith))
