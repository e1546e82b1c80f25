use Rattle.std.proofs.Common.{◌+◌, ◌∙◌, drop, ap, sym, arith}
use Rattle.std.proofs.lemmas.List.{drop_more, drop_all}
use Rattle.ice_cells.specs.Chains.{all_led}
use Rattle.ice_carry_chains.proofs.head.note_leaders.Goals as goal

pub loop-c-preserved : goal.loop-c-preserved
loop-c-preserved c =
    ap (λ leaders. all_led c.args.marks.now leaders (drop (c.loop-c.c-index + 1) c.args.carries.now)) c.note_leader.ensures
    ∙ ap (all_led c.args.marks.now c.loop-c.leaders.items) (sym (drop_more c.args.carries.now c.loop-c.c-index _ (omega arith)))
    ∙ c.loop-c.invariant

pub returns : goal.returns
returns c = ap (all_led c.args.marks.now c.loop-c.leaders.items) (sym (drop_all c.loop-c.c-index c.args.carries.now (omega arith))) ∙ c.loop-c.invariant
