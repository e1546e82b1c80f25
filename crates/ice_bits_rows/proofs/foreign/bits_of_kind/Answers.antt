use Rattle.std.proofs.Common.{List, Some, map, sym, ap, ◌∙◌, arith}
use Rattle.std.specs.Prelude.{◌||◌}
use Rattle.std.proofs.lemmas.List.{at_drop_all}
use Rattle.ice_base.proofs.Booleans.{or_false}
use Rattle.ice_chip.specs.Views.{function_view}
use Rattle.ice_chip.specs.declared.sections.Function.{Function}
use Rattle.ice_bits_rows.specs.Bundles.{has_bit, is_of_function}
use Rattle.ice_bits_rows.proofs.ForeignBits.{function_more}
use Rattle.ice_bits_rows.proofs.foreign.bits_of_kind.Goals as goal

pub returns : goal.returns
returns c = λ b.
    sym (or_false (has_bit c.loop-function.bits.items b))
    ∙ ap (λ z. has_bit c.loop-function.bits.items b || z) (sym (at_drop_all (λ (fs : List Function). is_of_function (map function_view fs) (Some c.args.kind) b) c.args.functions.now c.loop-function.function-index (omega arith)))
    ∙ c.loop-function.invariant b

pub loop-function-preserved : goal.loop-function-preserved
loop-function-preserved c = λ b.
    function_more c.args.kind c.args.functions.now c.loop-function.function-index c.function-item.result b (has_bit c.loop-function.bits.items b) (has_bit c.add_function.new.bits.items b) c.loop-function-test.true c.function-item.is (c.in_ok-add_function.ensures b)
    ∙ c.loop-function.invariant b
