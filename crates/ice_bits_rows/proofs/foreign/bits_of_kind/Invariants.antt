use Rattle.std.proofs.Common.{◌≡◌, Some, drop, map}
use Rattle.std.specs.Prelude.{◌||◌}
use Rattle.ice_base.specs.declared.bit.BitAt.{BitAt}
use Rattle.ice_chip.specs.Views.{function_view}
use Rattle.ice_bits_rows.specs.Bundles.{has_bit, is_of_function}
use Rattle.ice_bits_rows.proofs.foreign.bits_of_kind.Given as goal

abbrev pub invariant-loop-function : goal.invariant-loop-function
invariant-loop-function l = (b : BitAt)
    → (has_bit l.bits.items b || is_of_function (map function_view (drop l.function-index l.functions)) (Some l.kind) b) ≡ is_of_function (map function_view l.functions) (Some l.kind) b
