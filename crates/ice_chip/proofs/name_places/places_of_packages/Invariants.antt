use Rattle.std.proofs.Common.{◌≡◌, [], drop, map}
use Rattle.ice_chip.specs.NamePlaces.{by_text, package_places}
use Rattle.ice_chip.specs.Views.{package_view}
use Rattle.ice_chip.proofs.name_places.places_of_packages.Given as goal

abbrev pub invariant-loop-place : goal.invariant-loop-place
invariant-loop-place l = package_places [] 0 (map package_view l.packages) ≡ package_places (by_text l.places.entries) l.place (map package_view (drop l.place l.packages))
