use Rattle.std.proofs.Common.{◌≡◌, [], drop, map}
use Rattle.ice_chip.specs.Views.{function_view}
use Rattle.ice_decode_circuit.specs.ForeignPlaces.{foreign_places}
use Rattle.ice_decode_circuit.proofs.foreign.foreign_places.Given as goal

abbrev pub invariant-loop-function : goal.invariant-loop-function
invariant-loop-function l =
    foreign_places [] (map function_view l.functions) ≡ foreign_places l.places.keys (map function_view (drop l.function-index l.functions))
