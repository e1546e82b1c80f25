use Rattle.std.proofs.Common.{◌≡◌, ◌++◌, take}
use Rattle.std.specs.List.{flat_map}
use Rattle.ice_bits.specs.Configuration.{bits_of}
use Rattle.ice_timing.specs.Entries.{io_entries}
use Rattle.ice_timing.proofs.ends.add_pads.Given as goal

abbrev pub invariant-loop-tile : goal.invariant-loop-tile
invariant-loop-tile l =
    l.entries.items ≡ l.fn.entries.items ++ flat_map (io_entries l.chip (bits_of l.bits)) (take l.tile-index l.tile-items)
