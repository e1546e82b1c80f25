use Rattle.std.proofs.Common.{◌+◌, ◌++◌, drop, option_map, sym, ap, ◌∙◌, arith}
use Rattle.ice_base.proofs.KnownLists.{all_begin}
use Rattle.ice_asc.specs.Grammar.{known_values}
use Rattle.ice_asc.specs.Hex.{hex_value}
use Rattle.ice_asc.proofs.Known.{all_in, one_joins, one_stops, all_end}
use Rattle.ice_asc.proofs.hex.known_values.Goals as goal

pub loop-digit-init : goal.loop-digit-init
loop-digit-init c =
    all_begin (all_in hex_value c.args.digits.now) ∙ ap (λ items. option_map (λ values. items ++ values) (all_in hex_value c.args.digits.now)) (sym c.in_ok-values.ensures.items)

pub returns-in_default : goal.returns-in_default
returns-in_default c =
    ap (known_values c.args.line)
    (one_stops hex_value c.args.digits.now c.loop-digit.digit-index c.loop-digit.values.items c.loop-digit.invariant (omega arith) (sym c.hex_value.ensures ∙ c.in_default.is))

pub loop-digit-preserved : goal.loop-digit-preserved
loop-digit-preserved c =
    one_joins hex_value c.args.digits.now c.loop-digit.digit-index c.loop-digit.values.items c.in-Some.value c.loop-digit.invariant (omega arith) (sym c.hex_value.ensures ∙ c.in-Some.is)
    ∙ ap (λ items. option_map (λ values. items ++ values) (all_in hex_value (drop (c.loop-digit.digit-index + 1) c.args.digits.now))) (sym c.in_ok-push.ensures.items)

pub returns : goal.returns
returns c =
    ap (known_values c.args.line) (all_end hex_value c.args.digits.now c.loop-digit.digit-index c.loop-digit.values.items c.loop-digit.invariant (omega arith))
