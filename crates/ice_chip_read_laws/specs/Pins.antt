-- The names of pins, in a chip that a text says.
use Rattle.std.specs.Prelude.{◌≡◌, ℕ, List, Ok, All}
use Rattle.ice_base.specs.Lines.{IsWord}
use Rattle.ice_base_values.specs.Order.{Has}
use Rattle.ice_chip.specs.Database.{Parts, PackageRows}
use Rattle.ice_chip.specs.declared.rows.Pad.{Pad}
use Rattle.ice_chip_read.specs.Whole.{chip_says}

-- each pin of the package is named by a word
abbrev pub HasWords : PackageRows → Type 0
HasWords rows = All (λ (pin : List ℕ × Pad). IsWord pin.0) rows.pins

abbrev pub PinsAreWords : Type 0
PinsAreWords = (text : List ℕ) (parts : Parts) → chip_says text ≡ Ok parts → (rows : PackageRows) → Has parts.packages rows → HasWords rows
