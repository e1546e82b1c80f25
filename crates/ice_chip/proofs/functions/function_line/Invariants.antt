use Rattle.std.proofs.Common.{◌≡◌, drop, map}
use Rattle.ice_chip.specs.Views.{function_view}
use Rattle.ice_chip.specs.Functions.{function_line}
use Rattle.ice_chip.proofs.functions.function_line.Given as goal

abbrev pub invariant-loop-function : goal.invariant-loop-function
invariant-loop-function l = function_line l.kind l.name (map function_view l.functions) ≡ function_line l.kind l.name (map function_view (drop l.function-index l.functions))
