use Rattle.std.proofs.Common.{◌≡◌, ◌<◌, true, get_or, length, sym, ◌∙◌, arith}
use Rattle.std.specs.Char.{is_ascii_digit}
use Rattle.ice_base.proofs.Digits.{short_below}
use Rattle.ice_chip_read.proofs.Numbers.{digit_read, none_read}
use Rattle.ice_chip_read.proofs.front.number_ahead.Goals as goal

pub loop-k-init : goal.loop-k-init
loop-k-init c = none_read c.args.text.now

pub longer-number-requires-clause-number : goal.longer-number-requires-clause-number
longer-number-requires-clause-number c = short_below c.loop-k.number c.loop-k.k c.loop-k.invariant.below (omega (arith, c.loop-k-test.true, c.min-k-end.ensures))

pub loop-k-preserved : goal.loop-k-preserved
loop-k-preserved c =
    let text = c.args.text.now in
    let within : c.loop-k.k < length text = omega (arith, c.loop-k-test.true, c.min-k-end.ensures) in
    let digit : is_ascii_digit (get_or text c.loop-k.k 0) ≡ true = sym c.is_ascii_digit.ensures.value ∙ c.if-not-is_ascii_digit.false in
    digit_read text c.loop-k.k c.loop-k.number c.longer-number.result c.loop-k.invariant within digit c.longer-number.ensures
