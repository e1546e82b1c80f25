use Rattle.std.proofs.Common.{[], drop, sym, ap, ◌∙◌}
use Rattle.std.specs.List.{cons_option}
use Rattle.ice_emit_defs.specs.Written.{extras_among}
use Rattle.ice_emit.specs.Views.{with_extras}
use Rattle.ice_emit.proofs.ExtraBits.{extras_more, extras_same, extras_end}
use Rattle.ice_emit.proofs.extras.add_among.Goals.{then-takes_direct+in_ok-add_extra, else-takes_direct}
use Rattle.ice_emit.proofs.extras.add_among.Goals as goal

pub loop-number-preserved : goal.loop-number-preserved
loop-number-preserved c =
    elim c.if-takes_direct.branch [
      | then-takes_direct+in_ok-add_extra w ↦
          extras_more c.args.chip.now c.args.globals.now c.args.direct.now c.args.numbers.now c.loop-number.number-index 0 c.loop-number.bits c.if-takes_direct.bits _ c.loop-number-test.true
          (sym c.takes_direct.ensures ∙ w.if-takes_direct.true)
          (w.bits-is ∙ w.in_ok-add_extra.ensures ∙ ap (λ o. with_extras (cons_option o []) c.loop-number.bits) w.padin_of.ensures) c.loop-number.invariant
      | else-takes_direct w ↦
          extras_same c.args.chip.now c.args.globals.now c.args.direct.now c.args.numbers.now c.loop-number.number-index 0 c.if-takes_direct.bits _ c.loop-number-test.true
          (sym c.takes_direct.ensures ∙ w.if-takes_direct.false) (ap (with_extras (extras_among c.args.chip.now c.args.globals.now c.args.direct.now (drop c.loop-number.number-index c.args.numbers.now))) w.bits-is ∙ c.loop-number.invariant)
    ]

pub returns : goal.returns
returns c = extras_end c.args.chip.now c.args.globals.now c.args.direct.now c.args.numbers.now c.loop-number.number-index c.loop-number.bits _ c.loop-number-test.false c.loop-number.invariant
