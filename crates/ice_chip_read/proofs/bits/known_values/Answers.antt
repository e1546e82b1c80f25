use Rattle.std.proofs.Common.{◌+◌, Bool, List, ◌++◌, drop, option_map, sym, ap, ◌∙◌}
use Rattle.ice_base.specs.Places.{values_in}
use Rattle.ice_base.proofs.KnownLists.{value_joins, values_end}
use Rattle.ice_chip_read.specs.Lines.{known_values}
use Rattle.ice_chip_read.proofs.bits.known_values.Goals as goal

pub loop-digit-preserved : goal.loop-digit-preserved
loop-digit-preserved c =
    value_joins c.args.digits.now c.loop-digit.digit-index c.loop-digit.values.items c.in-Some.value c.loop-digit.invariant c.loop-digit-test.true (sym c.digit_value.ensures ∙ c.in-Some.is)
    ∙ ap (λ (front : List Bool). option_map (λ xs. front ++ xs) (values_in (drop (c.loop-digit.digit-index + 1) c.args.digits.now))) (sym c.in_ok-push.ensures.ok)

pub returns : goal.returns
returns c = ap (known_values c.args.line) (values_end c.args.digits.now c.loop-digit.digit-index c.loop-digit.values.items c.loop-digit.invariant c.loop-digit-test.false)
