use Rattle.std.proofs.Common.{◌≡◌, true, map}
use Rattle.ice_chip.specs.Names.{column_buffer_function}
use Rattle.ice_chip.specs.LacksFunction.{has_each}
use Rattle.ice_chip.specs.Views.{function_view}
use Rattle.ice_chip.proofs.has_functions.has_column_buffers.Given as goal

abbrev pub invariant-loop-n : goal.invariant-loop-n
invariant-loop-n l = has_each l.kind column_buffer_function l.n (map function_view l.functions) ≡ true
