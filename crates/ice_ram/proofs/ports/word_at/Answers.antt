use Rattle.std.proofs.Common.{◌≡◌, ◌+◌, false, length, length-set, ap, ◌∙◌, arith, set, get_or}
use Rattle.std.proofs.lemmas.List.Edits.{fill_by_more}
use Rattle.ice_ram.specs.Ports.{taken_at, taken_from}
use Rattle.ice_ram.proofs.PortLists.{filled_from}
use Rattle.ice_ram.proofs.ports.word_at.Goals as goal

pub loop-bit-preserved : goal.loop-bit-preserved
loop-bit-preserved c = record {
  long = length-set c.loop-bit.word c.loop-bit.bit c.taken_at.result ∙ c.loop-bit.invariant.long;
  filled = λ j lt.
      ap (λ y. get_or (set c.loop-bit.word c.loop-bit.bit y) j false) c.taken_at.ensures
      ∙ fill_by_more (λ x. taken_at c.args.drives.now (c.args.k + x)) c.loop-bit.word c.loop-bit.bit false
      (let long : length c.loop-bit.word ≡ 16 = c.loop-bit.invariant.long in omega (arith, c.loop-bit-test.true)) c.loop-bit.invariant.filled j lt;
}

pub returns : goal.returns
unfolding taken_from
returns c = filled_from (taken_at c.args.drives.now) c.args.k c.loop-bit.word 16 false c.loop-bit.invariant.long (λ j lt. c.loop-bit.invariant.filled j (omega arith))
