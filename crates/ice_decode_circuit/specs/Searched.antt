-- What the search for an order of all points finds.
use Rattle.std.specs.Prelude.{ℕ, List}
use Rattle.ice_chip.specs.Database.{Parts}
use Rattle.ice_bits.specs.Configuration.{Bits}
use Rattle.ice_decode_circuit.specs.declared.evaluation.Found.{Found}
use Rattle.ice_decode_circuit.specs.declared.evaluation.Found.TheVariants.{Order, Loop}
use Rattle.ice_decode.specs.Loops.{IsLoop, IsOrderOf}

-- an order of evaluation of all points, or a loop
abbrev pub IsSearched : Parts → Bits → List (ℕ × ℕ × ℕ) → Found → Type 0
IsSearched parts bits extras (Order order) = IsOrderOf parts bits extras order.items
IsSearched parts bits extras (Loop wires) = IsLoop parts bits extras wires
