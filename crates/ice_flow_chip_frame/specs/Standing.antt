-- How the first two texts of a command and the name of a package stand, where the first is a chip text, and the second a text of bits.
use Rattle.std.specs.Prelude.{◌≡◌, ◌≢◌, ℕ, Bool, None, Some, List, Ok, Err}
use Rattle.ice_chip.specs.Database.{Parts, PackageRows}
use Rattle.ice_chip.specs.Lookups.{package_of}
use Rattle.ice_chip.specs.declared.fault.ChipFault.{ChipFault}
use Rattle.ice_chip_read.specs.Whole.{chip_says}
use Rattle.ice_bits.specs.Configuration.{Configuration, bits_of}
use Rattle.ice_asc.specs.Grammar.{asc_in}
use Rattle.ice_asc.specs.declared.fault.AscFault.{AscFault}
use Rattle.ice_decode.specs.Memories.{IsTaken, IsRefusedFor}
use Rattle.ice_decode.specs.declared.fault.DecodeFault.{DecodeFault}
use Rattle.ice_decode.specs.declared.fault.DecodeFault.TheVariants as decode_fault
use Rattle.ice_pads.specs.declared.fault.PinFault.TheVariants as pin_fault
use Rattle.ice_flow_frame.specs.declared.cause.Cause.{Cause}
use Rattle.ice_flow_frame.specs.declared.cause.Cause.TheVariants.{BadChip, BadPin, BadAsc, BadBits}
use Rattle.ice_flow_frame.specs.Commands.{Command, Giving, Output, command_of, stands_by, stands_with, stands_if}
use Rattle.ice_flow_frame.specs.Reading.{Files}
use Rattle.ice_flow_frame.specs.Texts.{text_at}

-- ---- what the texts say
-- the one text says this chip, and the other these bits of it
pub record IsRead (texts : List (List ℕ)) (parts : Parts) (k : Configuration) : Type 0 where
  pub is_chip : chip_says (text_at texts 1) ≡ Ok parts
  pub are_bits : asc_in parts (text_at texts 2) ≡ Ok k

-- and the chip has the package
pub record IsPacked (name : List ℕ) (texts : List (List ℕ)) (parts : Parts) (k : Configuration) (bonded : PackageRows) : Type 0 where
  pub is_read : IsRead texts parts k
  pub is_package : package_of parts name ≡ Some bonded

-- and the bits have no fault; `rams` says whether rows may read what block RAMs in use read out
pub record IsConfigured (rams : Bool) (name : List ℕ) (texts : List (List ℕ)) (parts : Parts) (k : Configuration) (bonded : PackageRows) : Type 0 where
  pub is_packed : IsPacked name texts parts k bonded
  pub faultless : IsTaken rams parts (bits_of k) k.extras

-- ---- what is wrong with them
-- the chip text has this first fault
abbrev pub HasChipFault : ChipFault → List (List ℕ) → Type 0
HasChipFault fault texts = chip_says (text_at texts 1) ≡ Err fault

-- the chip text says a chip, and the text of bits has this first fault
abbrev pub HasAscFault : AscFault → List (List ℕ) → Type 0
HasAscFault fault texts = (parts : Parts) × (chip_says (text_at texts 1) ≡ Ok parts) × (asc_in parts (text_at texts 2) ≡ Err fault)

-- the texts say a chip and its bits, and the chip has no package of this name
pub record LacksPackage (name : List ℕ) (texts : List (List ℕ)) : Type 0 where
  pub parts : Parts
  pub configuration : Configuration
  pub is_read : IsRead texts parts configuration
  pub is_lacking : package_of parts name ≡ None

-- the texts say a chip and its bits, the package is there, and the bits have a fault
pub record IsFaulty (rams : Bool) (name : List ℕ) (texts : List (List ℕ)) : Type 0 where
  pub parts : Parts
  pub configuration : Configuration
  pub bonded : PackageRows
  pub is_packed : IsPacked name texts parts configuration bonded
  pub faulty : IsTaken rams parts (bits_of configuration) configuration.extras → ⊥

-- and this is one that they have, and that is looked for before the others
pub record IsBadBits (rams : Bool) (name : List ℕ) (fault : DecodeFault) (texts : List (List ℕ)) : Type 0 where
  pub parts : Parts
  pub configuration : Configuration
  pub bonded : PackageRows
  pub is_packed : IsPacked name texts parts configuration bonded
  pub is_fault : IsRefusedFor rams parts (bits_of configuration) configuration.extras fault
  pub is_known : fault ≢ decode_fault.NoMemory

-- ---- how they stand, where it stands as `Then` says of the package once the bits have no fault
-- the cause is this fault of the bits, which isn't want of memory
abbrev pub IsBitsCause : Bool → Parts → Configuration → Cause → Type 0
IsBitsCause rams parts k cause = (fault : DecodeFault) × (cause ≡ BadBits fault) × IsRefusedFor rams parts (bits_of k) k.extras fault × (fault ≢ decode_fault.NoMemory)

-- bits that were read: they have no fault, or one
abbrev pub BitsStand : Bool → (PackageRows → Cause → Type 0) → Parts → Configuration → PackageRows → Cause → Type 0
BitsStand rams Then parts k bonded = stands_if (IsTaken rams parts (bits_of k) k.extras) (IsBitsCause rams parts k) (Then bonded)

-- the package is there, or not
abbrev pub PackageStands : Bool → (PackageRows → Cause → Type 0) → List ℕ → Parts → Configuration → Cause → Type 0
PackageStands rams Then name parts k = stands_with (package_of parts name) (BadPin pin_fault.NoPackage) (BitsStand rams Then parts k)

-- the text of bits, for a chip that was read
abbrev pub AscStands : Bool → (PackageRows → Cause → Type 0) → List ℕ → List ℕ → Parts → Cause → Type 0
AscStands rams Then name asc_text parts = stands_by (asc_in parts asc_text) BadAsc (PackageStands rams Then name parts)

-- first the chip text is looked at, then the text of bits, then the package, and then the bits
abbrev pub TextsStand : Bool → (PackageRows → Cause → Type 0) → List ℕ → List (List ℕ) → Cause → Type 0
TextsStand rams Then name texts = stands_by (chip_says (text_at texts 1)) BadChip (AscStands rams Then name (text_at texts 2))

-- A command that reads a chip text, a text of bits and others: whether rows may read what block RAMs read out, how it stands
-- with them and a package behind bits without a fault, and what it gives for the name of the package.
abbrev pub command_on_bits : Bool → Files → List ℕ → (List (List ℕ) → PackageRows → Cause → Type 0) → (List ℕ → Giving) → Output → Command
command_on_bits rams files name Then Gives output = command_of files (λ texts. TextsStand rams (Then texts) name texts) (Gives name) output
