use Rattle.ice_timing.specs.Entries.{ram_entries}
use Rattle.ice_timing.proofs.EntryLists.{joined_more}
use Rattle.ice_timing.proofs.ends.add_rams.Goals as goal

pub loop-site-preserved : goal.loop-site-preserved
loop-site-preserved c =
    joined_more (ram_entries c.args.chip.now) c.args.entries.now.items c.loop-site.entries.items c.add_ram.new.entries.items c.args.sites.now c.loop-site.site-index _
    c.loop-site-test.true c.loop-site.invariant c.in_ok-add_ram.ensures
