use Rattle.std.proofs.Common.{◌≡◌, ◌+◌, ◌*◌, false, length, length-set, ap, ◌∙◌, arith, set, get_or}
use Rattle.std.proofs.lemmas.List.Edits.{fill_by_more}
use Rattle.std.proofs.lemmas.List.FromFn.{fill_by_all}
use Rattle.ice_asc.specs.Hex.{row_bit}
use Rattle.ice_asc.proofs.hex.row_word.Goals as goal

pub loop-bit-preserved : goal.loop-bit-preserved
loop-bit-preserved c = record {
  long = length-set c.loop-bit.word c.from.result c.row_bit.result ∙ c.loop-bit.invariant.long;
  filled = λ j lt.
      ap (λ p. get_or (set c.loop-bit.word p c.row_bit.result) j false) c.from.ensures
      ∙ ap (λ y. get_or (set c.loop-bit.word c.loop-bit.bit y) j false) c.row_bit.ensures
      ∙ fill_by_more (λ b. row_bit c.args.values.now (16 * c.args.number + b)) c.loop-bit.word c.loop-bit.bit false
      (let long : length c.loop-bit.word ≡ 16 = c.loop-bit.invariant.long in omega (arith, c.loop-bit-test.true)) c.loop-bit.invariant.filled j lt;
}

pub returns : goal.returns
returns c = fill_by_all (λ b. row_bit c.args.values.now (16 * c.args.number + b)) c.loop-bit.word 16 false c.loop-bit.invariant.long (λ k lt. c.loop-bit.invariant.filled k (omega arith))
