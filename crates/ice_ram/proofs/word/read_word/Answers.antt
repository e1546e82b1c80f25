use Rattle.std.proofs.Common.{◌≡◌, false, length, length-set, ap, ◌∙◌, arith, set, get_or}
use Rattle.std.proofs.lemmas.List.Edits.{fill_by_more}
use Rattle.std.proofs.lemmas.List.FromFn.{fill_by_all}
use Rattle.ice_ram.specs.Ram.{read_bit, read_word}
use Rattle.ice_ram.proofs.word.read_word.Goals as goal

pub loop-p-preserved : goal.loop-p-preserved
loop-p-preserved c = record {
  long = length-set c.loop-p.word c.from.result c.read_bit.result ∙ c.loop-p.invariant.long;
  filled = λ j lt.
      ap (λ p. get_or (set c.loop-p.word p c.read_bit.result) j false) c.from.ensures
      ∙ ap (λ y. get_or (set c.loop-p.word c.loop-p.p y) j false) c.read_bit.ensures
      ∙ fill_by_more (read_bit c.args.mode c.args.pins.now c.args.old.now) c.loop-p.word c.loop-p.p false
      (let long : length c.loop-p.word ≡ 16 = c.loop-p.invariant.long in omega (arith, c.loop-p-test.true)) c.loop-p.invariant.filled j lt;
}

pub returns : goal.returns
unfolding read_word
returns c = fill_by_all (read_bit c.args.mode c.args.pins.now c.args.old.now) c.loop-p.word 16 false c.loop-p.invariant.long (λ k lt. c.loop-p.invariant.filled k (omega arith))
