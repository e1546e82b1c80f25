-- The statuses of the program's answers, and the line that each refusal says.
use Rattle.std.specs.Prelude.{ℕ, List, [], ◌∷◌, ◌++◌, map, length, codes, decimal}
use Rattle.ice_flow_frame.specs.declared.cause.Cause.{Cause}
use Rattle.ice_flow_frame.specs.declared.cause.Cause.TheVariants.{Good, Usage, BadBlif, BadPcf, BadChip, BadNet, BadPin, Overfull, Unreachable, GaveUp, ReadFault, WriteFault, NoMemory, BadAsc, BadBits, TooLong, BadLevels, BadDelays}
use Rattle.ice_flow_frame.specs.declared.cause.FileRole.{FileRole}
use Rattle.ice_flow_frame.specs.declared.cause.FileRole.TheVariants.{Chip, Pcf, Blif, Asc, Levels, Delays, Pins, Report, Standard}
use Rattle.ice_place.specs.declared.arrangement.Arrangement.{Arrangement}
use Rattle.ice_base.specs.declared.number.WireNo.{WireNo}
use Rattle.ice_asc.specs.declared.fault.AscFault.{AscFault}
use Rattle.ice_asc.specs.declared.fault.AscFault.TheVariants as asc_fault
use Rattle.ice_blif.specs.declared.fault.BlifFault.{BlifFault}
use Rattle.ice_blif.specs.declared.fault.BlifFault.TheVariants as blif_fault
use Rattle.ice_chip.specs.declared.fault.ChipFault.{ChipFault}
use Rattle.ice_chip.specs.declared.fault.ChipFault.TheVariants as chip_fault
use Rattle.ice_check.specs.declared.fault.NetFault.{NetFault}
use Rattle.ice_check.specs.declared.fault.NetFault.TheVariants as net_fault
use Rattle.ice_decode.specs.declared.fault.DecodeFault.{DecodeFault}
use Rattle.ice_decode.specs.declared.fault.DecodeFault.TheVariants as decode_fault
use Rattle.ice_pads.specs.declared.fault.PinFault.{PinFault}
use Rattle.ice_pads.specs.declared.fault.PinFault.TheVariants as pin_fault
use Rattle.ice_pcf.specs.declared.fault.PcfFault.{PcfFault}
use Rattle.ice_pcf.specs.declared.fault.PcfFault.TheVariants as pcf_fault
use Rattle.ice_place.specs.declared.fault.PlaceFault.{PlaceFault}
use Rattle.ice_place.specs.declared.fault.PlaceFault.TheVariants as place_fault

-- the arrangement of no cell
abbrev pub no_arrangement : Arrangement
no_arrangement = record { ranks = []; placement = [] }

abbrev pub status_of : Cause → ℕ
status_of (Good arrangement tallies kept) = 0
status_of Usage = 2
status_of (BadBlif fault) = 3
status_of (BadPcf fault) = 4
status_of (BadChip fault) = 5
status_of (BadNet fault) = 6
status_of (BadPin fault) = 7
status_of (Overfull fault) = 8
status_of (Unreachable arrangement net sink) = 9
status_of (GaveUp arrangement logs tallies kept) = 10
status_of (ReadFault role) = 11
status_of (WriteFault role put) = 12
status_of NoMemory = 13
status_of (BadAsc fault) = 14
status_of (BadBits fault) = 15
status_of (TooLong role limit) = 16
status_of (BadLevels line) = 17
status_of (BadDelays line) = 19

abbrev pub role_name : FileRole → List ℕ
role_name Chip = codes "chip"
role_name Pcf = codes "pcf"
role_name Blif = codes "blif"
role_name Asc = codes "asc"
role_name Levels = codes "levels"
role_name Delays = codes "delays"
role_name Pins = codes "pins"
role_name Report = codes "report"
role_name Standard = codes "standard"

-- pieces, one after another
abbrev pub joined : List (List ℕ) → List ℕ
joined [] = []
joined (piece ∷ pieces) = piece ++ joined pieces

-- the line of a text at which a fault stands, and the fault's name
abbrev pub faulty_line : List ℕ → ℕ → List ℕ → List ℕ
faulty_line head line cause = joined (head ∷ decimal line ∷ cause ∷ [])

abbrev pub blif_line : BlifFault → List ℕ
blif_line (blif_fault.NoModel line) = faulty_line (codes "error 3 blif line ") line (codes " nomodel\n")
blif_line (blif_fault.SecondModel line) = faulty_line (codes "error 3 blif line ") line (codes " secondmodel\n")
blif_line (blif_fault.UnknownDirective line) = faulty_line (codes "error 3 blif line ") line (codes " unknowndirective\n")
blif_line (blif_fault.UnknownCell line) = faulty_line (codes "error 3 blif line ") line (codes " unknowncell\n")
blif_line (blif_fault.UnknownPort line) = faulty_line (codes "error 3 blif line ") line (codes " unknownport\n")
blif_line (blif_fault.PortTwice line) = faulty_line (codes "error 3 blif line ") line (codes " porttwice\n")
blif_line (blif_fault.BadParam line) = faulty_line (codes "error 3 blif line ") line (codes " badparam\n")
blif_line (blif_fault.BadCover line) = faulty_line (codes "error 3 blif line ") line (codes " badcover\n")
blif_line (blif_fault.TooWide line) = faulty_line (codes "error 3 blif line ") line (codes " toowide\n")
blif_line (blif_fault.NoEnd line) = faulty_line (codes "error 3 blif line ") line (codes " noend\n")
blif_line (blif_fault.TooMany line limit) = faulty_line (codes "error 3 blif line ") line (codes " toomany\n")
blif_line blif_fault.NoMemory = faulty_line (codes "error 3 blif line ") 0 (codes " nomemory\n")

abbrev pub pcf_line : PcfFault → List ℕ
pcf_line (pcf_fault.UnknownWord line) = faulty_line (codes "error 4 pcf line ") line (codes " unknownword\n")
pcf_line (pcf_fault.Missing line) = faulty_line (codes "error 4 pcf line ") line (codes " missing\n")
pcf_line (pcf_fault.Extra line) = faulty_line (codes "error 4 pcf line ") line (codes " extra\n")
pcf_line pcf_fault.NoMemory = faulty_line (codes "error 4 pcf line ") 0 (codes " nomemory\n")

abbrev pub chip_line : ChipFault → List ℕ
chip_line (chip_fault.NoDevice line) = faulty_line (codes "error 5 chip line ") line (codes " nodevice\n")
chip_line (chip_fault.BadNumber line) = faulty_line (codes "error 5 chip line ") line (codes " badnumber\n")
chip_line (chip_fault.BadName line) = faulty_line (codes "error 5 chip line ") line (codes " badname\n")
chip_line (chip_fault.OutOfRange line) = faulty_line (codes "error 5 chip line ") line (codes " outofrange\n")
chip_line (chip_fault.Twice line other) = faulty_line (codes "error 5 chip line ") line (codes " twice\n")
chip_line (chip_fault.BadBit line) = faulty_line (codes "error 5 chip line ") line (codes " badbit\n")
chip_line (chip_fault.BadValues line) = faulty_line (codes "error 5 chip line ") line (codes " badvalues\n")
chip_line (chip_fault.SharedFunction line other) = faulty_line (codes "error 5 chip line ") line (codes " sharedfunction\n")
chip_line (chip_fault.LacksFunction line) = faulty_line (codes "error 5 chip line ") line (codes " lacksfunction\n")
chip_line (chip_fault.SharedPin line other) = faulty_line (codes "error 5 chip line ") line (codes " sharedpin\n")
chip_line (chip_fault.TooMany limit) = faulty_line (codes "error 5 chip line ") 0 (codes " toomany\n")
chip_line chip_fault.NoMemory = faulty_line (codes "error 5 chip line ") 0 (codes " nomemory\n")

-- a line that ends with a name
abbrev pub named_line : List ℕ → List ℕ → List ℕ
named_line head name = joined (head ∷ name ∷ codes "\n" ∷ [])

abbrev pub after_blank : List ℕ → List ℕ
after_blank name = joined (codes " " ∷ name ∷ [])

-- names, each after a blank
abbrev pub spaced : List (List ℕ) → List ℕ
spaced names = joined (map after_blank names)

-- a line that ends with names
abbrev pub names_line : List ℕ → List (List ℕ) → List ℕ
names_line head names = joined (head ∷ spaced names ∷ codes "\n" ∷ [])

abbrev pub net_line : NetFault → List ℕ
net_line (net_fault.Undriven signal) = named_line (codes "error 6 net undriven ") signal
net_line (net_fault.DrivenTwice signal) = named_line (codes "error 6 net twice ") signal
net_line (net_fault.Loop signals) = names_line (codes "error 6 net loop") signals
net_line (net_fault.PadShared port) = named_line (codes "error 6 net padshared ") port
net_line (net_fault.PinTypeOut line value) = joined (codes "error 6 net pintype line " ∷ decimal line ∷ codes " value " ∷ decimal value ∷ codes "\n" ∷ [])
net_line (net_fault.PinNotPort line) = joined (codes "error 6 net pinnotport line " ∷ decimal line ∷ codes "\n" ∷ [])
net_line (net_fault.InoutBare port) = named_line (codes "error 6 net inoutbare ") port
net_line net_fault.NoMemory = joined (codes "error 6 net nomemory\n" ∷ [])

-- a line with a number
abbrev pub number_line : List ℕ → ℕ → List ℕ
number_line head a = joined (head ∷ decimal a ∷ codes "\n" ∷ [])

-- a line with two numbers
abbrev pub two_line : List ℕ → ℕ → List ℕ → ℕ → List ℕ
two_line head a middle b = joined (head ∷ decimal a ∷ middle ∷ decimal b ∷ codes "\n" ∷ [])

abbrev pub pin_line : PinFault → List ℕ
pin_line pin_fault.NoPackage = joined (codes "error 7 pin nopackage\n" ∷ [])
pin_line (pin_fault.UnknownPin line) = number_line (codes "error 7 pin unknownpin line ") line
pin_line (pin_fault.UnknownPort line) = number_line (codes "error 7 pin unknownport line ") line
pin_line (pin_fault.PinTwice first second) = two_line (codes "error 7 pin pintwice lines ") first (codes " ") second
pin_line (pin_fault.PortTwice first second) = two_line (codes "error 7 pin porttwice lines ") first (codes " ") second
pin_line (pin_fault.NoPadLeft port) = named_line (codes "error 7 pin nopad ") port
pin_line (pin_fault.TooManyGlobals need have) = two_line (codes "error 7 pin globals need ") need (codes " have ") have
pin_line (pin_fault.TooManyRams need have) = two_line (codes "error 7 pin rams need ") need (codes " have ") have
pin_line (pin_fault.PadLacks port) = named_line (codes "error 7 pin padlacks ") port
pin_line pin_fault.NoMemory = joined (codes "error 7 pin nomemory\n" ∷ [])

abbrev pub place_line : PlaceFault → List ℕ
place_line (place_fault.RunTooLong cells tallest) = two_line (codes "error 8 full run ") cells (codes " tallest ") tallest
place_line (place_fault.Overfull need have) = two_line (codes "error 8 full need ") need (codes " have ") have
place_line (place_fault.RunUnplaced run cells) = two_line (codes "error 8 full unplaced ") run (codes " length ") cells
place_line place_fault.NoMemory = joined (codes "error 8 full nomemory\n" ∷ [])

-- ---- bits
abbrev pub asc_line : AscFault → List ℕ
asc_line (asc_fault.NoDevice line) = faulty_line (codes "error 14 asc line ") line (codes " nodevice\n")
asc_line (asc_fault.OtherDevice line) = faulty_line (codes "error 14 asc line ") line (codes " otherdevice\n")
asc_line (asc_fault.UnknownTile line) = faulty_line (codes "error 14 asc line ") line (codes " unknowntile\n")
asc_line (asc_fault.TileTwice line) = faulty_line (codes "error 14 asc line ") line (codes " tiletwice\n")
asc_line (asc_fault.BadRow line) = faulty_line (codes "error 14 asc line ") line (codes " badrow\n")
asc_line (asc_fault.UnknownWord line) = faulty_line (codes "error 14 asc line ") line (codes " unknownword\n")
asc_line (asc_fault.Truncated line) = faulty_line (codes "error 14 asc line ") line (codes " truncated\n")
asc_line asc_fault.NoMemory = faulty_line (codes "error 14 asc line ") 0 (codes " nomemory\n")

-- a wire's number after a blank
abbrev pub wire_text : WireNo → List ℕ
wire_text wire = joined (codes " " ∷ decimal wire.0 ∷ [])

-- a line with three numbers
abbrev pub numbers_line : List ℕ → ℕ → List ℕ → ℕ → List ℕ → ℕ → List ℕ
numbers_line head a middle b tail c = joined (head ∷ decimal a ∷ middle ∷ decimal b ∷ tail ∷ decimal c ∷ codes "\n" ∷ [])

abbrev pub bits_line : DecodeFault → List ℕ
bits_line (decode_fault.Contention wire rows) = numbers_line (codes "error 15 bits contention wire ") wire.0 (codes " rows ") rows.0.0 (codes " ") rows.1.0
bits_line (decode_fault.ForeignSource wire) = joined (codes "error 15 bits source wire " ∷ decimal wire.0 ∷ codes "\n" ∷ [])
bits_line (decode_fault.ForeignFunction tile line) = numbers_line (codes "error 15 bits function ") tile.x (codes " ") tile.y (codes " line ") line
bits_line (decode_fault.ForeignExtra extra) = numbers_line (codes "error 15 bits extra ") extra.0 (codes " ") extra.1 (codes " ") extra.2
bits_line (decode_fault.ChipLoop wires) = names_line (codes "error 15 bits loop") (map decimal wires)
bits_line (decode_fault.PinType pad value) =
    joined (codes "error 15 bits pintype " ∷ decimal pad.tile.x ∷ codes " " ∷ decimal pad.tile.y ∷ codes " " ∷ decimal pad.pio ∷ codes " value " ∷ decimal value ∷ codes "\n" ∷ [])
bits_line decode_fault.NoMemory = joined (codes "error 15 bits nomemory\n" ∷ [])

-- the line that an answer says: nothing where the work is done
abbrev pub line_of : Cause → List ℕ
line_of (Good arrangement tallies kept) = []
line_of Usage = joined (codes "error 2 usage\n" ∷ [])
line_of (BadBlif fault) = blif_line fault
line_of (BadPcf fault) = pcf_line fault
line_of (BadChip fault) = chip_line fault
line_of (BadNet fault) = net_line fault
line_of (BadPin fault) = pin_line fault
line_of (Overfull fault) = place_line fault
line_of (Unreachable arrangement net sink) = two_line (codes "error 9 unreachable net ") net.0 (codes " sink ") sink.0
line_of (GaveUp arrangement logs tallies kept) = number_line (codes "error 10 gaveup rounds ") (length tallies.items)
line_of (ReadFault role) = joined (codes "error 11 read " ∷ role_name role ∷ codes "\n" ∷ [])
line_of (WriteFault role put) = joined (codes "error 12 write " ∷ role_name role ∷ codes " put " ∷ decimal put ∷ codes "\n" ∷ [])
line_of NoMemory = joined (codes "error 13 memory\n" ∷ [])
line_of (BadAsc fault) = asc_line fault
line_of (BadBits fault) = bits_line fault
line_of (TooLong role limit) = joined (codes "error 16 long " ∷ role_name role ∷ codes " limit " ∷ decimal limit ∷ codes "\n" ∷ [])
line_of (BadLevels line) = number_line (codes "error 17 levels line ") line
line_of (BadDelays line) = number_line (codes "error 19 delays line ") line
