use Rattle.std.proofs.Common.{◌≡◌, ◌++◌, take}
use Rattle.ice_timing.specs.Entries.{entries_by}
use Rattle.ice_timing.proofs.ends.add_entries.Given as goal

abbrev pub invariant-loop-last : goal.invariant-loop-last
invariant-loop-last l =
    l.entries.items ≡ l.fn.entries.items ++ entries_by l.end l.door (take l.last-index l.lasts)
