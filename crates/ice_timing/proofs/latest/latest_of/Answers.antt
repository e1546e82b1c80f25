use Rattle.std.proofs.Common.{◌<◌, length, rules}
use Rattle.ice_timing.proofs.Numbers.{none_so_far, one_more, all_seen}
use Rattle.ice_timing.proofs.latest.latest_of.Goals as goal

pub later-latest-requires-clause-one : goal.later-latest-requires-clause-one
later-latest-requires-clause-one c = c.loop-number.invariant.within

pub later-latest-requires-clause-other : goal.later-latest-requires-clause-other
later-latest-requires-clause-other c = c.requires c.loop-number.number-index 0 c.loop-number-test.true

pub loop-number-init : goal.loop-number-init
loop-number-init c =
    let some : 0 < length c.args.numbers.now = search rules in
    none_so_far c.args.at.now c.args.numbers.now 0 c.requires some

pub loop-number-preserved : goal.loop-number-preserved
loop-number-preserved c =
    one_more c.args.at.now c.args.numbers.now c.loop-number.number-index 0 c.loop-number.latest c.later-latest.result c.requires c.loop-number-test.true c.loop-number.invariant
    c.later-latest.ensures.either c.later-latest.ensures.one c.later-latest.ensures.other

pub returns-clause-some : goal.returns-clause-some
returns-clause-some c = all_seen c.args.at.now c.args.numbers.now c.loop-number.number-index c.loop-number.latest c.loop-number-test.false c.loop-number.invariant
