use Rattle.std.proofs.Common.{◌≡◌, ◌++◌, map, drop, option_map}
use Rattle.ice_base.specs.Lists.{all_known}
use Rattle.ice_base.specs.Places.{digit_value}
use Rattle.ice_asc.proofs.words.known_bits.Given as goal

abbrev pub invariant-loop-digit : goal.invariant-loop-digit
invariant-loop-digit l = all_known (map digit_value l.digits) ≡ option_map (λ bits. l.row.items ++ bits) (all_known (map digit_value (drop l.digit-index l.digits)))
