use Rattle.std.proofs.Common.{◌+◌, Bool, List, [], ◌∷◌, ◌++◌, length, drop, option_map, length-append, sym, ap, ◌∙◌, arith}
use Rattle.ice_base.specs.Places.{values_in}
use Rattle.ice_base.proofs.KnownLists.{value_joins, values_end}
use Rattle.ice_chip_read.proofs.bits.few_values.Goals as goal

pub push_reserved-requires : goal.push_reserved-requires
push_reserved-requires c = omega (arith, c.loop-digit.invariant.room, c.loop-digit.invariant.count, c.loop-digit-test.true, c.if-digits-gt-FEW_VALUES.false)

pub loop-digit-preserved : goal.loop-digit-preserved
loop-digit-preserved c =
    let i = c.loop-digit.invariant in
    let value : Bool = c.in_ok-value.value in
    let long = length-append c.loop-digit.values.items (value ∷ []) in
    record {
      room = c.push_reserved.ensures.capacity ∙ i.room;
      count = ap length c.push_reserved.ensures.items ∙ omega (arith, long, i.count);
      read =
          value_joins c.args.digits.now c.loop-digit.digit-index c.loop-digit.values.items value i.read c.loop-digit-test.true (sym c.digit_value.ensures ∙ c.in_ok-value.was)
          ∙ ap (λ (front : List Bool). option_map (λ xs. front ++ xs) (values_in (drop (c.loop-digit.digit-index + 1) c.args.digits.now))) (sym c.push_reserved.ensures.items);
    }

pub returns : goal.returns
returns c = values_end c.args.digits.now c.loop-digit.digit-index c.loop-digit.values.items c.loop-digit.invariant.read c.loop-digit-test.false
