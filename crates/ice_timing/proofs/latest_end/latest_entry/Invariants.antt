use Rattle.ice_timing.proofs.LatestEntries.{IsLatestEntrySoFar}
use Rattle.ice_timing.proofs.latest_end.latest_entry.Given as goal

abbrev pub invariant-loop-entry : goal.invariant-loop-entry
invariant-loop-entry l =
    IsLatestEntrySoFar l.arrivals l.delays l.entries l.entry-index l.latest
