use Rattle.std.proofs.Common.{◌+◌, ◌++◌, drop, option_map, sym, ap, ◌∙◌, arith}
use Rattle.ice_base.specs.Places.{values_in}
use Rattle.ice_base.proofs.KnownLists.{all_begin, value_joins, value_stops, values_end}
use Rattle.ice_asc.specs.Grammar.{known_row}
use Rattle.ice_asc.proofs.words.known_bits.Goals as goal

pub loop-digit-init : goal.loop-digit-init
loop-digit-init c = all_begin (values_in c.args.digits.now) ∙ ap (λ items. option_map (λ bits. items ++ bits) (values_in c.args.digits.now)) (sym c.in_ok-row.ensures.items)

pub returns-in_default : goal.returns-in_default
returns-in_default c =
    ap (known_row c.args.line)
    (value_stops c.args.digits.now c.loop-digit.digit-index c.loop-digit.row.items c.loop-digit.invariant (omega arith) (sym c.digit_value.ensures ∙ c.in_default.is))

pub loop-digit-preserved : goal.loop-digit-preserved
loop-digit-preserved c =
    value_joins c.args.digits.now c.loop-digit.digit-index c.loop-digit.row.items c.in-Some.bit c.loop-digit.invariant (omega arith) (sym c.digit_value.ensures ∙ c.in-Some.is)
    ∙ ap (λ items. option_map (λ bits. items ++ bits) (values_in (drop (c.loop-digit.digit-index + 1) c.args.digits.now))) (sym c.in_ok-push.ensures.items)

pub returns : goal.returns
returns c =
    ap (known_row c.args.line) (values_end c.args.digits.now c.loop-digit.digit-index c.loop-digit.row.items c.loop-digit.invariant (omega arith))
