-- The chip that a text says.
use Rattle.std.specs.Prelude.{◌≡◌, ℕ, List, Result, Ok}
use Rattle.ice_chip.specs.Answers.{chip_of}
use Rattle.ice_chip.specs.Database.{Parts}
use Rattle.ice_chip.specs.declared.fault.ChipFault.{ChipFault}
use Rattle.ice_chip_read.specs.Faults.{◌>>=◌}
use Rattle.ice_chip_read.specs.Lines.{plain_says, chip_text_says}
use Rattle.ice_chip_read.specs.Reading.{Reading}

-- The rows of a chip text, or the first fault of its lines, or where these have none the first fault of the whole.
abbrev pub chip_says : List ℕ → Result Parts ChipFault
chip_says text = chip_text_says text >>= chip_of

-- some lines say these rows, and none of them has a fault
abbrev pub AreReadOfLines : Reading → Type 0
AreReadOfLines r = (ls : List (ℕ × List (List ℕ))) × (plain_says ls ≡ Ok r)
