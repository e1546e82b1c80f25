-- Names at places without where they lie in memory.
use Rattle.std.specs.Prelude.{List, map}
use Rattle.ice_chip.specs.declared.placed.PlacedName.{PlacedName}
use Rattle.ice_chip_build.specs.declared.named.PlacedText.{PlacedText}
use Rattle.ice_chip.specs.declared.name_lines.WireLine.{WireLine}

abbrev pub placed_text : PlacedText → PlacedName
placed_text placed = record { tile = placed.tile; name = placed.text.now }

abbrev pub by_placed : List (PlacedText × WireLine) → List (PlacedName × WireLine)
by_placed entries = map (λ entry. (placed_text entry.0, entry.1)) entries
