use Rattle.std.proofs.Common.{◌≡◌, drop, map}
use Rattle.ice_chip_build.specs.PlacedTexts.{by_placed}
use Rattle.ice_chip.specs.Views.{name_view, parts_view}
use Rattle.ice_chip.specs.WholeFaults.{name_of_two_wires}
use Rattle.ice_chip_build.proofs.named.name_again.Given as goal

abbrev pub invariant-loop-name : goal.invariant-loop-name
invariant-loop-name l = name_of_two_wires (parts_view l.parts).tiles (by_placed l.fn.seen.entries) (parts_view l.parts).names ≡ name_of_two_wires (parts_view l.parts).tiles (by_placed l.seen.entries) (map name_view (drop l.name-index l.parts.names.items))
