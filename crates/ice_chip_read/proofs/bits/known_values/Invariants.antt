use Rattle.std.proofs.Common.{◌≡◌, ◌++◌, map, drop, option_map}
use Rattle.ice_base.specs.Lists.{all_known}
use Rattle.ice_base.specs.Places.{digit_value}
use Rattle.ice_chip_read.proofs.bits.known_values.Given as goal

abbrev pub invariant-loop-digit : goal.invariant-loop-digit
invariant-loop-digit l = all_known (map digit_value l.digits) ≡ option_map (λ values. l.values.items ++ values) (all_known (map digit_value (drop l.digit-index l.digits)))
