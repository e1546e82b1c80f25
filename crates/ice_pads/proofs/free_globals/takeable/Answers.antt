use Rattle.std.proofs.Common.{sym, ap, ◌∙◌}
use Rattle.ice_pads.specs.Globals.{is_global}
use Rattle.ice_pads.proofs.Turns.{kept, left_out, all_filtered}
use Rattle.ice_pads.proofs.free_globals.takeable.Goals.{then-is_global+in_ok-push, else-is_global}
use Rattle.ice_pads.proofs.free_globals.takeable.Goals as goal

pub loop-number-preserved : goal.loop-number-preserved
loop-number-preserved c =
    elim c.if-is_global.branch [
      | then-is_global+in_ok-push w ↦
          kept (is_global c.args.chip.now) c.args.numbers.now c.loop-number.number-index _ c.loop-number.found.items c.if-is_global.found.items _ c.loop-number-test.true
          (sym c.is_global.ensures ∙ w.if-is_global.true) c.loop-number.invariant (ap (λ v. v.items) w.found-is ∙ w.in_ok-push.ensures.items)
      | else-is_global w ↦
          left_out (is_global c.args.chip.now) c.args.numbers.now c.loop-number.number-index _ c.loop-number.found.items c.if-is_global.found.items _ c.loop-number-test.true
          (sym c.is_global.ensures ∙ w.if-is_global.false) c.loop-number.invariant (ap (λ v. v.items) w.found-is)
    ]

pub returns : goal.returns
returns c = all_filtered (is_global c.args.chip.now) c.args.numbers.now c.loop-number.number-index c.loop-number.found.items _ c.loop-number-test.false c.loop-number.invariant
