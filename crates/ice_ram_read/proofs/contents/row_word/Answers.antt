use Rattle.std.proofs.Common.{◌≡◌, ◌+◌, ◌*◌, ◌%◌, false, length, length-set, ap, ◌∙◌, arith, set, get_or}
use Rattle.std.proofs.lemmas.List.Edits.{fill_by_more}
use Rattle.std.proofs.lemmas.List.FromFn.{fill_by_all}
use Rattle.ice_ram_read.specs.RamData.{digit_at, row_word}
use Rattle.ice_ram_read.proofs.contents.row_word.Goals as goal

pub loop-bit-preserved : goal.loop-bit-preserved
loop-bit-preserved c = record {
  long = length-set c.loop-bit.word c.loop-bit.bit c.digit_at.result ∙ c.loop-bit.invariant.long;
  filled = λ j lt.
      ap (λ y. get_or (set c.loop-bit.word c.loop-bit.bit y) j false) c.digit_at.ensures
      ∙ fill_by_more (λ k. digit_at c.args.digits.now (16 * (c.args.i % 16) + k)) c.loop-bit.word c.loop-bit.bit false
      (let long : length c.loop-bit.word ≡ 16 = c.loop-bit.invariant.long in omega (arith, c.loop-bit-test.true)) c.loop-bit.invariant.filled j lt;
}

pub returns : goal.returns
unfolding row_word
returns c = fill_by_all (λ k. digit_at c.args.digits.now (16 * (c.args.i % 16) + k)) c.loop-bit.word 16 false c.loop-bit.invariant.long (λ k lt. c.loop-bit.invariant.filled k (omega arith))
