-- A chip that a text says has the rows that the lines of the text say.
use Rattle.std.proofs.Common.{◌≡◌, ℕ, Option, None, Some, List, Result, Ok, Err, ap}
use Rattle.ice_chip.specs.Answers.{chip_of, unless_fault}
use Rattle.ice_chip.specs.Database.{Parts}
use Rattle.ice_chip.specs.Whole.{whole_fault}
use Rattle.ice_chip.specs.declared.fault.ChipFault.{ChipFault}
use Rattle.ice_chip_read.specs.Faults.{◌>>=◌}
use Rattle.ice_chip_read.specs.Lines.{chip_text_says}
use Rattle.ice_chip_read.specs.Whole.{chip_says}

same_rows : (rows parts : Parts) (fault : Option ChipFault) → unless_fault rows fault ≡ Ok parts → rows ≡ parts
same_rows rows parts None e = cc
same_rows rows parts (Some fault) e = absurd (cc)

of_lines : (said : Result Parts ChipFault) (parts : Parts) → said >>= chip_of ≡ Ok parts → said ≡ Ok parts
of_lines (Err fault) parts e = absurd (cc)
of_lines (Ok rows) parts e = ap (λ (p : Parts). Ok p) (same_rows rows parts (whole_fault rows) e)

pub rows_said : (text : List ℕ) (parts : Parts) → chip_says text ≡ Ok parts → chip_text_says text ≡ Ok parts
rows_said text parts e = of_lines (chip_text_says text) parts e
