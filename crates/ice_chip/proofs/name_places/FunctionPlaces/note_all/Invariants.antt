use Rattle.std.proofs.Common.{◌≡◌, drop, map}
use Rattle.ice_chip.specs.NamePlaces.{by_kind, function_places}
use Rattle.ice_chip.specs.Views.{function_view}
use Rattle.ice_chip.proofs.name_places.FunctionPlaces.note_all.Given as goal

abbrev pub invariant-loop-place : goal.invariant-loop-place
invariant-loop-place l = function_places (by_kind l.fn.self) 0 (map function_view l.functions) ≡ function_places (by_kind l.self) l.place (map function_view (drop l.place l.functions))
