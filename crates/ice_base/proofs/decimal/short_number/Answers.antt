use Rattle.std.proofs.Common.{◌≡◌, true, get_or, sym, ◌∙◌, arith}
use Rattle.std.specs.Char.{is_ascii_digit}
use Rattle.ice_base.proofs.Digits.{digits_end, no_digit, short_joins, short_below}
use Rattle.ice_base.proofs.decimal.short_number.Goals as goal

pub longer-number-requires-clause-number : goal.longer-number-requires-clause-number
longer-number-requires-clause-number c =
    short_below c.loop-digit.number c.loop-digit.digit-index c.loop-digit.invariant.below (omega (arith, c.loop-digit-test.true, c.requires.short))

pub loop-digit-preserved : goal.loop-digit-preserved
loop-digit-preserved c =
    let word = c.args.word.now in
    let digit : is_ascii_digit (get_or word c.loop-digit.digit-index 0) ≡ true = sym c.is_ascii_digit.ensures.value ∙ c.if-not-is_ascii_digit.false in
    let next = short_joins word c.loop-digit.digit-index c.loop-digit.number c.longer-number.result c.loop-digit.invariant.read c.loop-digit.invariant.below c.loop-digit-test.true digit c.longer-number.ensures c.requires.short in
    record { read = next.0; below = next.1 }

pub returns-then-not-is_ascii_digit : goal.returns-then-not-is_ascii_digit
returns-then-not-is_ascii_digit c =
    sym (no_digit c.args.word.now c.loop-digit.digit-index c.loop-digit.number c.loop-digit.invariant.read c.loop-digit-test.true (sym c.is_ascii_digit.ensures.value ∙ c.if-not-is_ascii_digit.true))

pub returns : goal.returns
returns c =
    digits_end c.args.word.now c.loop-digit.digit-index c.loop-digit.number c.loop-digit.invariant.read c.loop-digit-test.false c.requires.some (omega (arith, c.requires.short))
