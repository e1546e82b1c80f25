use Rattle.std.proofs.Common.{◌≡◌, ◌++◌, length, drop}
use Rattle.std.specs.List.{flat_map}
use Rattle.ice_bits.specs.Configuration.{bits_of}
use Rattle.ice_sim.specs.Layouts.{cell_stores, keepers_from, feeds_from}
use Rattle.ice_sim.proofs.chip_flops.add_flops.Given as goal

abbrev pub invariant-loop-place : goal.invariant-loop-place
invariant-loop-place l =
    (l.fn.feeds.items ++ feeds_from l.configured.parts (bits_of l.configured.configuration) l.configured.bonded l.slots (length l.fn.feeds.items) (flat_map cell_stores l.cells)
    ≡ l.feeds.items ++ feeds_from l.configured.parts (bits_of l.configured.configuration) l.configured.bonded l.slots (length l.feeds.items) (flat_map cell_stores (drop l.place l.cells)))
    × (keepers_from l.configured.parts (bits_of l.configured.configuration) l.configured.bonded l.slots 0 (length l.fn.feeds.items) (flat_map cell_stores l.cells)
    ≡ l.keepers.items ++ keepers_from l.configured.parts (bits_of l.configured.configuration) l.configured.bonded l.slots l.place (length l.feeds.items) (flat_map cell_stores (drop l.place l.cells)))
