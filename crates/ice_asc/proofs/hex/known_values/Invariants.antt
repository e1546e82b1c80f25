use Rattle.std.proofs.Common.{◌≡◌, ◌++◌, map, drop, option_map}
use Rattle.ice_base.specs.Lists.{all_known}
use Rattle.ice_asc.specs.Hex.{hex_value}
use Rattle.ice_asc.proofs.hex.known_values.Given as goal

abbrev pub invariant-loop-digit : goal.invariant-loop-digit
invariant-loop-digit l = all_known (map hex_value l.digits) ≡ option_map (λ values. l.values.items ++ values) (all_known (map hex_value (drop l.digit-index l.digits)))
