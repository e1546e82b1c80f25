use Rattle.std.proofs.Common.{◌≡◌, ◌++◌, map, option_map}
use Rattle.ice_base.specs.Lists.{all_known}
use Rattle.ice_base.specs.Places.{bit_named}
use Rattle.ice_chip_read.proofs.bits.bits.Given as goal

abbrev pub invariant-loop-name : goal.invariant-loop-name
invariant-loop-name l =
    (goal.iterator-loop-name).can_next l.names × (goal.iterator-loop-name).is_finite l.names
    × (all_known (map (bit_named l.columns) l.fn.names) ≡ option_map (λ bits. l.bits.items ++ bits) (all_known (map (bit_named l.columns) l.names)))
