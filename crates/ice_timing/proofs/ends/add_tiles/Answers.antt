use Rattle.ice_bits.specs.Configuration.{bits_of}
use Rattle.ice_timing.specs.Entries.{tile_entries}
use Rattle.ice_timing.proofs.EntryLists.{joined_more}
use Rattle.ice_timing.proofs.ends.add_tiles.Goals as goal

pub loop-tile-preserved : goal.loop-tile-preserved
loop-tile-preserved c =
    joined_more (tile_entries c.args.chip.now (bits_of c.args.bits.now)) c.args.entries.now.items c.loop-tile.entries.items c.add_flops.new.entries.items c.args.tiles.now c.loop-tile.tile-index _
    c.loop-tile-test.true c.loop-tile.invariant c.in_ok-add_flops.ensures
