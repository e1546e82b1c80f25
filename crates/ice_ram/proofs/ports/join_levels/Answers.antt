use Rattle.std.proofs.Common.{◌+◌, ◌*◌, false, length, length-set, ap, ◌∙◌, arith, set, get_or}
use Rattle.std.proofs.lemmas.List.Edits.{fill_by_more}
use Rattle.std.proofs.lemmas.List.FromFn.{fill_by_all}
use Rattle.ice_ram.specs.Ports.{port_level}
use Rattle.ice_ram.proofs.ports.join_levels.Goals as goal

pub loop-k-preserved : goal.loop-k-preserved
loop-k-preserved c = record {
  long = length-set c.loop-k.out c.loop-k.k c.port_level.result ∙ c.loop-k.invariant.long;
  filled = λ j lt.
      ap (λ y. get_or (set c.loop-k.out c.loop-k.k y) j false) c.port_level.ensures
      ∙ fill_by_more (port_level c.args.first c.args.levels.now c.args.rams.now) c.loop-k.out c.loop-k.k false (omega (arith, c.loop-k-test.true)) c.loop-k.invariant.filled j lt;
}

pub returns : goal.returns
returns c = fill_by_all (port_level c.args.first c.args.levels.now c.args.rams.now) c.loop-k.out (c.args.first + 74 * length c.args.rams.now) false c.loop-k.invariant.long (λ k lt. c.loop-k.invariant.filled k (omega (arith, c.loop-k.invariant.long)))
