use Rattle.ice_bits.specs.Configuration.{bits_of}
use Rattle.ice_timing.specs.Entries.{flop_entries}
use Rattle.ice_timing.proofs.EntryLists.{joined_more}
use Rattle.ice_timing.proofs.ends.add_flops.Goals as goal

pub loop-cell-preserved : goal.loop-cell-preserved
loop-cell-preserved c =
    joined_more (flop_entries c.args.chip.now (bits_of c.args.bits.now) c.args.tile) c.args.entries.now.items c.loop-cell.entries.items c.add_flop.new.entries.items c.args.cells.now c.loop-cell.cell-index 0
    c.loop-cell-test.true c.loop-cell.invariant c.in_ok-add_flop.ensures
