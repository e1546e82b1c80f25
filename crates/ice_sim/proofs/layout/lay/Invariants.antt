use Rattle.std.proofs.Common.{◌≡◌, length, drop}
use Rattle.ice_bits.specs.Configuration.{bits_of}
use Rattle.ice_sim.specs.Layouts.{layout_of, laid}
use Rattle.ice_sim.proofs.layout.lay.Given as goal

abbrev pub invariant-loop-point : goal.invariant-loop-point
invariant-loop-point l =
    (length l.slots ≡ length l.fn.slots)
    × (laid l.configured.parts (bits_of l.configured.configuration) l.configured.configuration.extras l.configured.bonded l.order (layout_of l.fn.slots l.fn.feeds.items)
    ≡ laid l.configured.parts (bits_of l.configured.configuration) l.configured.configuration.extras l.configured.bonded (drop l.point-index l.order) (layout_of l.slots l.feeds.items))
