use Rattle.ice_bits.specs.Configuration.{bits_of}
use Rattle.ice_timing.specs.Entries.{io_entries}
use Rattle.ice_timing.proofs.EntryLists.{joined_more, pads_all}
use Rattle.ice_timing.proofs.ends.add_pads.Goals as goal

pub loop-tile-preserved : goal.loop-tile-preserved
loop-tile-preserved c =
    joined_more (io_entries c.args.chip.now (bits_of c.args.bits.now)) c.args.entries.now.items c.loop-tile.entries.items c.add_tile_pads.new.entries.items c.tiles-tile-items.result.now c.loop-tile.tile-index _
    c.loop-tile-test.true c.loop-tile.invariant c.in_ok-add_tile_pads.ensures

pub returns : goal.returns
returns c =
    pads_all c.args.chip.now (bits_of c.args.bits.now) c.args.entries.now.items c.loop-tile.entries.items c.tiles-tile-items.result.now c.loop-tile.tile-index c.tiles-tile-items.ensures
    c.loop-tile-test.false c.loop-tile.invariant
