use Rattle.std.proofs.Common.{◌<◌, length, rules}
use Rattle.ice_timing.proofs.LatestEntries.{first_entry, one_entry_more, entries_seen}
use Rattle.ice_timing.proofs.latest_end.latest_entry.Goals as goal

pub loop-entry-init : goal.loop-entry-init
loop-entry-init c =
    let some : 0 < length c.args.entries.now = search rules in
    first_entry c.args.arrivals.now c.args.delays.now c.args.entries.now _ c.moment_of-latest.result some c.moment_of-latest.ensures.entry (λ parts bits extras are. c.moment_of-latest.ensures.moment parts bits extras are)

pub loop-entry-preserved : goal.loop-entry-preserved
loop-entry-preserved c =
    one_entry_more c.args.arrivals.now c.args.delays.now c.args.entries.now c.loop-entry.entry-index _ c.loop-entry.latest c.moment_of.result c.later-latest.result c.loop-entry-test.true c.loop-entry.invariant
    c.moment_of.ensures.entry (λ parts bits extras are. c.moment_of.ensures.moment parts bits extras are) c.later-latest.ensures.either c.later-latest.ensures.one c.later-latest.ensures.other

pub returns-clause-some : goal.returns-clause-some
returns-clause-some c = λ parts bits extras are.
    entries_seen c.args.arrivals.now c.args.delays.now c.args.entries.now c.loop-entry.entry-index c.loop-entry.latest c.loop-entry-test.false c.loop-entry.invariant parts bits extras are
