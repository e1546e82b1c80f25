use Rattle.std.proofs.Common.{◌≡◌, ◌++◌, length, map, drop, option_map}
use Rattle.ice_base.specs.Lists.{all_known}
use Rattle.ice_base.specs.Places.{digit_value}
use Rattle.ice_chip_read.proofs.bits.few_values.Given as goal

abbrev pub invariant-loop-digit : goal.invariant-loop-digit
invariant-loop-digit l = record {
  room : l.values.capacity ≡ 8;
  count : length l.values.items ≡ l.digit-index;
  read : all_known (map digit_value l.digits) ≡ option_map (λ values. l.values.items ++ values) (all_known (map digit_value (drop l.digit-index l.digits)));
}
