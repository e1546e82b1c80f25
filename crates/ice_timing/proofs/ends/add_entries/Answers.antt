use Rattle.std.proofs.Common.{None}
use Rattle.ice_timing.proofs.EntryLists.{entries_more}
use Rattle.ice_timing.proofs.ends.add_entries.Goals as goal

pub loop-last-preserved : goal.loop-last-preserved
loop-last-preserved c =
    entries_more c.args.end c.args.door c.args.entries.now.items c.loop-last.entries.items c.add_entry.new.entries.items c.args.lasts.now c.loop-last.last-index None c.loop-last-test.true
    c.loop-last.invariant c.in_ok-add_entry.ensures
