use Rattle.std.proofs.Common.{map, sym, ap, ◌∙◌}
use Rattle.ice_chip.specs.Names.{pin_type_function}
use Rattle.ice_chip.specs.LacksFunction.{has_function}
use Rattle.ice_chip.specs.Views.{function_view}
use Rattle.ice_chip.specs.declared.rows.TileKind.TheVariants.{Io}
use Rattle.ice_chip.proofs.EachNumber.{lacks_one, one_more}
use Rattle.ice_chip_build.proofs.lacking.has_pin_type.Goals as goal

pub returns-then-not-has_function : goal.returns-then-not-has_function
returns-then-not-has_function c =
    let fs = map function_view c.args.functions.now in
    let same = ap (λ name. has_function Io name fs) (sym c.pin_type_function.ensures) in
    sym (lacks_one Io (pin_type_function c.args.pio) c.loop-place.place 6 fs c.loop-place-test.true (same ∙ sym c.has_function.ensures ∙ c.if-not-has_function.true))

pub loop-place-preserved : goal.loop-place-preserved
loop-place-preserved c =
    let fs = map function_view c.args.functions.now in
    let same = ap (λ name. has_function Io name fs) (sym c.pin_type_function.ensures) in
    one_more Io (pin_type_function c.args.pio) c.loop-place.place fs c.loop-place.invariant (same ∙ sym c.has_function.ensures ∙ c.if-not-has_function.false)
