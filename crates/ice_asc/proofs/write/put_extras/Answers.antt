use Rattle.std.proofs.Common.{subst, All, arith}
use Rattle.std.proofs.lemmas.Grind.{common_steps}
use Rattle.std.proofs.lemmas.List.{take_all}
use Rattle.std.proofs.lemmas.List.Elements.{All-more}
use Rattle.ice_asc.specs.RoundTrip.{IsSmall}
use Rattle.ice_asc.proofs.write.put_extras.Goals as goal

pub loop-extra-preserved : goal.loop-extra-preserved
loop-extra-preserved c = record {
  written = grind (arith, common_steps);
  small = All-more IsSmall c.args.extras.now c.loop-extra.extra-index _ (omega arith) c.loop-extra.invariant.small c.in_ok-put_extra.ensures.small;
}

pub returns-clause-small : goal.returns-clause-small
returns-clause-small c = subst (All IsSmall) (take_all c.loop-extra.extra-index c.args.extras.now c.loop-extra-test.false) c.loop-extra.invariant.small
