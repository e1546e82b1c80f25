use Rattle.std.proofs.Common.{◌≡◌, drop, map}
use Rattle.ice_chip.specs.Views.{name_view, parts_view}
use Rattle.ice_chip.specs.SharedPins.{shared_from}
use Rattle.ice_chip_build.proofs.pins.pin_again.Given as goal

abbrev pub invariant-loop-name : goal.invariant-loop-name
invariant-loop-name l = shared_from (parts_view l.parts).tiles l.fn.seen.entries (parts_view l.parts).names ≡ shared_from (parts_view l.parts).tiles l.seen.entries (map name_view (drop l.name-index l.parts.names.items))
