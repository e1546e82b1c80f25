use Rattle.std.proofs.Common.{◌≡◌, ◌++◌, take}
use Rattle.std.specs.List.{flat_map}
use Rattle.ice_bits.specs.Configuration.{bits_of}
use Rattle.ice_timing.specs.Entries.{flop_entries}
use Rattle.ice_timing.proofs.ends.add_flops.Given as goal

abbrev pub invariant-loop-cell : goal.invariant-loop-cell
invariant-loop-cell l =
    l.entries.items ≡ l.fn.entries.items ++ flat_map (flop_entries l.chip (bits_of l.bits) l.tile) (take l.cell-index l.cells)
