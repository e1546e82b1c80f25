-- How the three texts of `play-bits` stand, and what it makes of them: of the chip text, which is the first, of the text of bits, which is
-- the second, and of the text of levels, which is the third.
use Rattle.std.specs.Prelude.{◌≡◌, ℕ, Bool, List, [], ◌∷◌, length, Ok, Err, true}
use Rattle.ice_place.specs.declared.arrangement.Arrangement.{Arrangement}
use Rattle.ice_chip.specs.Database.{Parts, PackageRows}
use Rattle.ice_bits.specs.Configuration.{Configuration}
use Rattle.ice_sim_levels.specs.LevelTexts.{levels_of}
use Rattle.ice_sim_levels.specs.DriveTexts.{drives_text}
use Rattle.ice_sim_chip_rams.specs.ClosedChips.{closed_bits_show}
use Rattle.ice_flow_frame.specs.declared.cause.Cause.{Cause}
use Rattle.ice_flow_frame.specs.declared.cause.Cause.TheVariants.{BadLevels}
use Rattle.ice_flow_frame.specs.declared.cause.FileRole.TheVariants.{Chip, Asc, Levels}
use Rattle.ice_flow_frame.specs.Causes.{no_arrangement}
use Rattle.ice_flow_frame.specs.Commands.{Command, command_of, Aloud, IsDone, stands_by}
use Rattle.ice_flow_frame.specs.Reading.{Files}
use Rattle.ice_flow_frame.specs.Told.{Told, nothing_told}
use Rattle.ice_flow_frame.specs.Texts.{text_at}
use Rattle.ice_flow_chip_frame.specs.Standing as bits
use Rattle.ice_flow_chip_frame.specs.Standing.{IsConfigured}
pub use Rattle.ice_flow_words.specs.Requests.{PlayBits}

-- its files, in the order of reading
abbrev pub files_of : PlayBits → Files
files_of p = record { role = Chip; name = p.chip } ∷ record { role = Asc; name = p.asc } ∷ record { role = Levels; name = p.levels } ∷ []

-- ---- how the texts stand

-- the levels, one for each pad of the package in each line
abbrev pub LevelsStand : List ℕ → PackageRows → Cause → Type 0
LevelsStand levels_text bonded = stands_by (levels_of (length bonded.pads) levels_text) BadLevels (λ levels. IsDone)

-- first the chip text is looked at, then the text of bits, then the package, then the bits, and then the levels
abbrev pub StandsForPlayBits : List ℕ → List (List ℕ) → Cause → Type 0
StandsForPlayBits name texts = bits.TextsStand true (LevelsStand (text_at texts 3)) name texts

-- the bits have no fault, and this line of the level text is the first that isn't one level for each pad of the package
pub record HasBadLine (name : List ℕ) (line : ℕ) (texts : List (List ℕ)) : Type 0 where
  pub parts : Parts
  pub configuration : Configuration
  pub bonded : PackageRows
  pub is_configured : IsConfigured true name texts parts configuration bonded
  pub is_line : levels_of (length bonded.pads) (text_at texts 3) ≡ Err line

-- the bits have no fault, and this is the text of what the chip that its block RAMs close shows at the pads of the package for the levels of
-- these pads
pub record IsPlayed (name : List ℕ) (texts : List (List ℕ)) (text : List ℕ) : Type 0 where
  pub parts : Parts
  pub configuration : Configuration
  pub bonded : PackageRows
  pub levels : List (List Bool)
  pub is_configured : IsConfigured true name texts parts configuration bonded
  pub levels_are : levels_of (length bonded.pads) (text_at texts 3) ≡ Ok levels
  pub is_text : text ≡ drives_text (closed_bits_show parts configuration bonded.pads bonded.pads levels)

-- what is made of the texts; nothing is placed or routed
abbrev pub IsMadeByPlayBits : List ℕ → List (List ℕ) → List (List ℕ) → Arrangement → Told → Type 0
IsMadeByPlayBits name texts made arrangement told = IsPlayed name texts (text_at made 1) × (arrangement ≡ no_arrangement) × (told ≡ nothing_told)

abbrev pub play_bits : PlayBits → Command
play_bits p = command_of (files_of p) (StandsForPlayBits p.package_name) (IsMadeByPlayBits p.package_name) Aloud
