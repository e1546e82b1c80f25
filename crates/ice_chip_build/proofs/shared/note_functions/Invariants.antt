use Rattle.std.proofs.Common.{◌≡◌, drop, map}
use Rattle.ice_chip_build.specs.BitsUsed.{with_functions}
use Rattle.ice_chip_build.specs.UsedViews.{used_view}
use Rattle.ice_chip.specs.Views.{function_view}
use Rattle.ice_chip_build.proofs.shared.note_functions.Given as goal

abbrev pub invariant-loop-function : goal.invariant-loop-function
invariant-loop-function l = with_functions (used_view l.fn.used) (map function_view l.functions) ≡ with_functions (used_view l.used) (map function_view (drop l.function-index l.functions))
