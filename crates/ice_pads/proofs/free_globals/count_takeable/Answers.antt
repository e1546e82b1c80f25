use Rattle.std.proofs.Common.{◌+◌, take, filter, length, cond, sym, ap, ◌∙◌, arith}
use Rattle.std.proofs.lemmas.List.Filters.{length-filter_more}
use Rattle.std.proofs.lemmas.List.{take_all}
use Rattle.ice_pads.specs.Globals.{is_global}
use Rattle.ice_pads.proofs.free_globals.count_takeable.Goals.{then-is_global, else-is_global}
use Rattle.ice_pads.proofs.free_globals.count_takeable.Goals as goal

pub loop-number-preserved : goal.loop-number-preserved
loop-number-preserved c =
    let more = length-filter_more (is_global c.args.chip.now) c.args.numbers.now c.loop-number.number-index 0 c.loop-number-test.true in
    elim c.if-is_global.branch [
      | then-is_global w ↦
          record {
            counted = let here = sym c.is_global.ensures ∙ w.if-is_global.true in let e = more ∙ ap (λ b. length (filter (is_global c.args.chip.now) (take c.loop-number.number-index c.args.numbers.now)) + cond b 1 0) here in omega (arith, e);
            few = omega arith;
          }
      | else-is_global w ↦
          record {
            counted = let here = sym c.is_global.ensures ∙ w.if-is_global.false in let e = more ∙ ap (λ b. length (filter (is_global c.args.chip.now) (take c.loop-number.number-index c.args.numbers.now)) + cond b 1 0) here in omega (arith, e);
            few = omega arith;
          }
    ]

pub returns : goal.returns
returns c = c.loop-number.invariant.counted ∙ ap (λ numbers. length (filter (is_global c.args.chip.now) numbers)) (take_all c.loop-number.number-index c.args.numbers.now c.loop-number-test.false)
