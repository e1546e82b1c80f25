-- The reading of a chip text in the words of the text: the same section is open.
use Rattle.std.proofs.Common.{◌≡◌, Option, None, Some, IfOk, Result, refl}
use Rattle.ice_chip.specs.Database.{Parts, SwitchGroup, PackageRows}
use Rattle.ice_chip.specs.declared.fault.ChipFault.{ChipFault}
use Rattle.ice_chip_read.specs.declared.section.Section.{Section}
use Rattle.ice_chip_read.specs.declared.section.Section.TheVariants as section
use Rattle.ice_chip_read.specs.Reading.{Reading, parts_closed}
use Rattle.ice_chip_read_laws.specs.ChipText.{OpenSection, Package, Group, Plain, ChipSoFar, and_section, of_numbers, gbufin_row, gbufpin_row, ieren_row, colbuf_row, extra_bits_row, bits_row, net_row}

-- ---- the same section
abbrev pub section_of : Section → SwitchGroup → PackageRows → OpenSection
section_of section.Rowless g p = Plain (λ line words parts. None)
section_of section.ReadOver g p = Plain (λ line words parts. Some parts)
section_of section.Pins g p = Package p
section_of section.BufferInputs g p = Plain (of_numbers gbufin_row)
section_of section.BufferPins g p = Plain (of_numbers gbufpin_row)
section_of section.ExtraBits g p = Plain extra_bits_row
section_of section.InputEnables g p = Plain (of_numbers ieren_row)
section_of section.ColumnBuffers g p = Plain (of_numbers colbuf_row)
section_of (section.Bits kind) g p = Plain (bits_row kind)
section_of (section.Names wire) g p = Plain (net_row wire)
section_of section.Switches g p = Group g

-- what the reader has read so far, in the words of the text
abbrev pub seen : Reading → ChipSoFar
seen r = record { ended = r.parts; section = section_of r.open_section r.group r.pins; switches = r.rows }

-- a step and the reader's come to the same, where the reader takes it
abbrev pub Alike : Option ChipSoFar → Result Reading ChipFault → Type 0
Alike o m = IfOk m (λ (r : Reading). o ≡ Some (seen r))

pub ended_alike : (s : Section) (g : SwitchGroup) (p : PackageRows) (parts : Parts) → and_section (section_of s g p) parts ≡ parts_closed s g p parts
ended_alike section.Rowless g p parts = refl
ended_alike section.ReadOver g p parts = refl
ended_alike section.Pins g p parts = refl
ended_alike section.BufferInputs g p parts = refl
ended_alike section.BufferPins g p parts = refl
ended_alike section.ExtraBits g p parts = refl
ended_alike section.InputEnables g p parts = refl
ended_alike section.ColumnBuffers g p parts = refl
ended_alike (section.Bits kind) g p parts = refl
ended_alike (section.Names wire) g p parts = refl
ended_alike section.Switches g p parts = refl
