-- What a chip text says is what the reader makes of it.
use Rattle.std.specs.Prelude.{◌≡◌, ℕ, Some, List, Ok}
use Rattle.ice_chip.specs.Database.{Parts}
use Rattle.ice_chip_read.specs.Lines.{chip_text_says}
use Rattle.ice_chip_read_laws.specs.ChipText.{chip_rows}

-- a text that the reader takes says the rows that the reader makes of it
abbrev pub ChipTextsSayRows : Type 0
ChipTextsSayRows = (text : List ℕ) (parts : Parts) → chip_text_says text ≡ Ok parts → chip_rows text ≡ Some parts
