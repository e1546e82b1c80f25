-- How the three texts of `time` stand, and what it makes of them: of the chip text, which is the first, of the text of bits, which is the
-- second, and of the text of delays, which is the third.
use Rattle.std.specs.Prelude.{◌≡◌, ℕ, List, [], ◌∷◌, Option, Ok, Err, true}
use Rattle.ice_place.specs.declared.arrangement.Arrangement.{Arrangement}
use Rattle.ice_chip.specs.Database.{Parts, PackageRows}
use Rattle.ice_bits.specs.Configuration.{Bits, Configuration, bits_of}
use Rattle.ice_timing_delays.specs.declared.delays.Delays.{Delays as DelaysData}
use Rattle.ice_timing_delays.specs.declared.fault.DelayFault.{DelayFault}
use Rattle.ice_timing_delays.specs.declared.fault.DelayFault.TheVariants.{BadLine}
use Rattle.ice_timing_delays.specs.DelayTexts.{delays_of}
use Rattle.ice_timing.specs.declared.end.TimedPath.{TimedPath}
use Rattle.ice_timing.specs.Timed.{IsFound}
use Rattle.ice_timing.specs.PathText.{path_text}
use Rattle.ice_flow_frame.specs.declared.cause.Cause.{Cause}
use Rattle.ice_flow_frame.specs.declared.cause.Cause.TheVariants.{BadDelays}
use Rattle.ice_flow_frame.specs.declared.cause.FileRole.TheVariants.{Chip, Asc, Delays}
use Rattle.ice_flow_frame.specs.Causes.{no_arrangement}
use Rattle.ice_flow_frame.specs.Commands.{Command, command_of, Aloud, IsDone, stands_by}
use Rattle.ice_flow_frame.specs.Reading.{Files}
use Rattle.ice_flow_frame.specs.Told.{Told, nothing_told}
use Rattle.ice_flow_frame.specs.Texts.{text_at}
use Rattle.ice_flow_chip_frame.specs.Standing as bits
use Rattle.ice_flow_chip_frame.specs.Standing.{IsConfigured}
pub use Rattle.ice_flow_words.specs.Requests.{Time}

-- its files, in the order of reading
abbrev pub files_of : Time → Files
files_of t = record { role = Chip; name = t.chip } ∷ record { role = Asc; name = t.asc } ∷ record { role = Delays; name = t.delays } ∷ []

-- ---- how the texts stand
-- a refusal of the text of delays
abbrev pub delays_cause : DelayFault → Cause
delays_cause (BadLine line) = BadDelays line

abbrev pub DelaysStand : List ℕ → PackageRows → Cause → Type 0
DelaysStand delays_text bonded = stands_by (delays_of delays_text) delays_cause (λ delays. IsDone)

-- first the chip text is looked at, then the text of bits, then the package, then the bits, and then the delays
abbrev pub StandsForTime : List ℕ → List (List ℕ) → Cause → Type 0
StandsForTime name texts = bits.TextsStand true (DelaysStand (text_at texts 3)) name texts

-- the bits have no fault, and this line of the text of delays is the first that is refused, or it is 0 and a delay is missing
pub record HasBadDelays (name : List ℕ) (line : ℕ) (texts : List (List ℕ)) : Type 0 where
  pub parts : Parts
  pub configuration : Configuration
  pub bonded : PackageRows
  pub is_configured : IsConfigured true name texts parts configuration bonded
  pub is_line : delays_of (text_at texts 3) ≡ Err (BadLine line)

-- the text of a longest path with these delays, or of none where none leads to an end
pub record IsLongestText (parts : Parts) (bits : Bits) (extras : List (ℕ × ℕ × ℕ)) (delays : DelaysData) (text : List ℕ) : Type 0 where
  pub found : Option TimedPath
  pub is_found : IsFound parts bits extras delays found
  pub is_text : text ≡ path_text found

-- the bits have no fault, and this is the text of a longest path with the delays of the text
pub record IsTimed (name : List ℕ) (texts : List (List ℕ)) (text : List ℕ) : Type 0 where
  pub parts : Parts
  pub configuration : Configuration
  pub bonded : PackageRows
  pub delays : DelaysData
  pub is_configured : IsConfigured true name texts parts configuration bonded
  pub delays_are : delays_of (text_at texts 3) ≡ Ok delays
  pub is_longest : IsLongestText parts (bits_of configuration) configuration.extras delays text

-- what is made of the texts; nothing is placed or routed
abbrev pub IsMadeByTime : List ℕ → List (List ℕ) → List (List ℕ) → Arrangement → Told → Type 0
IsMadeByTime name texts made arrangement told = IsTimed name texts (text_at made 1) × (arrangement ≡ no_arrangement) × (told ≡ nothing_told)

abbrev pub time : Time → Command
time t = command_of (files_of t) (StandsForTime t.package_name) (IsMadeByTime t.package_name) Aloud
