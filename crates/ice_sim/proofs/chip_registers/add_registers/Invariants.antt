use Rattle.std.proofs.Common.{◌≡◌, ◌+◌, ◌*◌, ◌++◌, length, drop}
use Rattle.std.specs.List.{flat_map}
use Rattle.ice_bits.specs.Configuration.{bits_of}
use Rattle.ice_decode.specs.Pads.{pad_stores}
use Rattle.ice_sim.specs.Layouts.{keepers_from, feeds_from}
use Rattle.ice_sim.proofs.chip_registers.add_registers.Given as goal

abbrev pub invariant-loop-number : goal.invariant-loop-number
invariant-loop-number l =
    (l.fn.feeds.items ++ feeds_from l.configured.parts (bits_of l.configured.configuration) l.configured.bonded l.slots (length l.fn.feeds.items) (flat_map pad_stores l.pads)
    ≡ l.feeds.items ++ feeds_from l.configured.parts (bits_of l.configured.configuration) l.configured.bonded l.slots (length l.feeds.items) (flat_map pad_stores (drop l.number l.pads)))
    × (l.fn.keepers.items ++ keepers_from l.configured.parts (bits_of l.configured.configuration) l.configured.bonded l.slots l.first (length l.fn.feeds.items) (flat_map pad_stores l.pads)
    ≡ l.keepers.items ++ keepers_from l.configured.parts (bits_of l.configured.configuration) l.configured.bonded l.slots (l.first + 2 * l.number) (length l.feeds.items) (flat_map pad_stores (drop l.number l.pads)))
