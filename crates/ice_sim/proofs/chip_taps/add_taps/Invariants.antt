use Rattle.std.proofs.Common.{◌≡◌, ◌++◌, drop, length, map}
use Rattle.ice_bits.specs.Configuration.{bits_of}
use Rattle.ice_sim.specs.Layouts.{output_feed, taps_from}
use Rattle.ice_sim.proofs.chip_taps.add_taps.Given as goal

abbrev pub invariant-loop-pad : goal.invariant-loop-pad
invariant-loop-pad l =
    (l.fn.feeds.items ++ map (output_feed l.configured.parts (bits_of l.configured.configuration)) l.configured.bonded
    ≡ l.feeds.items ++ map (output_feed l.configured.parts (bits_of l.configured.configuration)) (drop l.pad-index l.pad-items))
    × (taps_from l.configured.parts (bits_of l.configured.configuration) l.slots (length l.fn.feeds.items) l.configured.bonded
    ≡ l.taps.items ++ taps_from l.configured.parts (bits_of l.configured.configuration) l.slots (length l.feeds.items) (drop l.pad-index l.pad-items))
