use Rattle.std.proofs.Common.{◌≡◌, false, length, length-set, ap, ◌∙◌, arith, set, get_or}
use Rattle.std.proofs.lemmas.List.Edits.{fill_by_more}
use Rattle.std.proofs.lemmas.List.FromFn.{fill_by_all}
use Rattle.ice_ram.specs.Ram.{written_bit, written_word}
use Rattle.ice_ram.proofs.word.written_word.Goals as goal

pub loop-k-preserved : goal.loop-k-preserved
loop-k-preserved c = record {
  long = length-set c.loop-k.word c.from.result c.written_bit.result ∙ c.loop-k.invariant.long;
  filled = λ j lt.
      ap (λ p. get_or (set c.loop-k.word p c.written_bit.result) j false) c.from.ensures
      ∙ ap (λ y. get_or (set c.loop-k.word c.loop-k.k y) j false) c.written_bit.ensures
      ∙ fill_by_more (written_bit c.args.mode c.args.pins.now c.args.old.now) c.loop-k.word c.loop-k.k false
      (let long : length c.loop-k.word ≡ 16 = c.loop-k.invariant.long in omega (arith, c.loop-k-test.true)) c.loop-k.invariant.filled j lt;
}

pub returns : goal.returns
unfolding written_word
returns c = fill_by_all (written_bit c.args.mode c.args.pins.now c.args.old.now) c.loop-k.word 16 false c.loop-k.invariant.long (λ k lt. c.loop-k.invariant.filled k (omega arith))
