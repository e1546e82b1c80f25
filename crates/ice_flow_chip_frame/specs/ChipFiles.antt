-- The files of a command that reads a chip database, and what was read of them.
use Rattle.std.specs.Prelude.{◌≡◌, ◌≤◌, ℕ, List, ◌∷◌, length}
use Rattle.ice_desk.specs.Desk.{Meaning}
use Rattle.ice_flow_frame.specs.declared.cause.FileRole.TheVariants.{Chip}
use Rattle.ice_flow_frame.specs.Reading.{most_bytes, File, Files, IsTextOf}
use Rattle.ice_flow_frame.specs.Texts.{AreTexts}
use Rattle.ice_chip_read_pieces.specs.Held.{Held}
use Rattle.ice_chip_read_pieces.specs.Stands.{StandsFor}

-- the file of the chip database
abbrev pub chip_file : List ℕ → File
chip_file name = record { role = Chip; name = name }

-- the files of a command, the chip database's first
abbrev pub with_chip : List ℕ → Files → Files
with_chip name files = chip_file name ∷ files

-- a reader of a chip database stands for some text
abbrev pub StandsForSome : Held → Type 0
StandsForSome reader = (chip_text : List ℕ) × StandsFor reader chip_text

-- a reader of a chip database stands for what was read of this file, which is not too long
pub record HasRead (desk : Meaning) (name : List ℕ) (reader : Held) : Type 0 where
  pub chip_text : List ℕ
  pub stands : StandsFor reader chip_text
  pub is_text : IsTextOf desk name chip_text
  pub fits : length chip_text ≤ most_bytes

-- what was read of files: a chip text, for which this reader stands, and behind it these texts
pub record AreRead (files : Files) (desk : Meaning) (reader : Held) (texts : List (List ℕ)) : Type 0 where
  pub chip_text : List ℕ
  pub stands : StandsFor reader chip_text
  pub are_texts : AreTexts files desk (chip_text ∷ texts)
