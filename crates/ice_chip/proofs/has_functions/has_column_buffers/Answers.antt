use Rattle.std.proofs.Common.{map, sym, ap, ◌∙◌}
use Rattle.ice_chip.specs.Names.{column_buffer_function}
use Rattle.ice_chip.specs.LacksFunction.{has_function}
use Rattle.ice_chip.specs.Views.{function_view}
use Rattle.ice_chip.proofs.EachNumber.{lacks_one, one_more}
use Rattle.ice_chip.proofs.has_functions.has_column_buffers.Goals as goal

pub returns-then-not-has_function : goal.returns-then-not-has_function
returns-then-not-has_function c =
    let fs = map function_view c.args.functions.now in
    let same = ap (λ name. has_function c.args.kind name fs) (sym c.column_buffer_function.ensures) in
    sym (lacks_one c.args.kind column_buffer_function c.loop-n.n 8 fs c.loop-n-test.true (same ∙ sym c.has_function.ensures ∙ c.if-not-has_function.true))

pub loop-n-preserved : goal.loop-n-preserved
loop-n-preserved c =
    let fs = map function_view c.args.functions.now in
    let same = ap (λ name. has_function c.args.kind name fs) (sym c.column_buffer_function.ensures) in
    one_more c.args.kind column_buffer_function c.loop-n.n fs c.loop-n.invariant (same ∙ sym c.has_function.ensures ∙ c.if-not-has_function.false)
