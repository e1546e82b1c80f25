use Rattle.std.proofs.Common.{◌≡◌, drop, map, None}
use Rattle.ice_chip.specs.LacksFunction.{wrong_bits}
use Rattle.ice_chip.specs.Views.{function_view, parts_view}
use Rattle.ice_chip_build.proofs.lacking.wrong_bits.Given as goal

abbrev pub invariant-loop-function : goal.invariant-loop-function
invariant-loop-function l = wrong_bits (parts_view l.parts).tiles None (parts_view l.parts).functions ≡ wrong_bits (parts_view l.parts).tiles l.known (map function_view (drop l.function-index l.parts.functions.items))
