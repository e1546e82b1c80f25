-- What each line of a chip text adds, or its fault: the least in the order of the faults' numbers.
use Rattle.std.specs.Prelude.{ℕ, ◌+◌, ◌==◌, ◌&&◌, Bool, Option, Some, None, List, [], ◌∷◌, ◌++◌, length, nat_eq, nat_lt, codes, bytes_eq, if◌then◌else◌, Result, Ok, Err}
use Rattle.std.specs.Map.{lookup}
use Rattle.indexmap.specs.IndexSet.{insert_key}
use Rattle.ice_base.specs.Text.{lines, numbered, begins_with, plain_lines}
use Rattle.ice_base.specs.declared.number.TileAt.{TileAt}
use Rattle.ice_base.specs.declared.bit.BitAt.{BitAt}
use Rattle.ice_chip.specs.Database.{Parts, PackageRows, same_pad, columns, tile_known}
use Rattle.ice_chip.specs.Limits.{most_places, most_wires, most_rows}
use Rattle.ice_chip.specs.declared.rows.TileKind.{TileKind}
use Rattle.ice_chip.specs.declared.rows.Pad.{Pad}
use Rattle.ice_chip.specs.declared.rows.TileLine.{TileLine}
use Rattle.ice_chip.specs.declared.fault.ChipFault.{ChipFault}
use Rattle.ice_chip.specs.declared.fault.ChipFault.TheVariants.{NoDevice, BadNumber, BadName, OutOfRange, Twice, BadBit, BadValues, TooMany}
use Rattle.ice_chip_read.specs.declared.section.Section.{Section}
use Rattle.ice_chip_read.specs.declared.section.Section.TheVariants as section
use Rattle.ice_chip_read.specs.declared.section.Heading.{Heading}
use Rattle.ice_chip_read.specs.declared.section.Heading.TheVariants as heading
use Rattle.ice_chip_read.specs.Faults.{◌>>=◌}
use Rattle.ice_chip_read.specs.Words.{number, two, three, no_word_left, heading_of}
use Rattle.ice_chip.specs.Names.{padin_global}
use Rattle.ice_base.specs.Places.{bits_named, values_in}
use Rattle.ice_chip.specs.Functions.{is_read, is_foreign, function_line}
use Rattle.ice_chip_read.specs.Reading.{Reading, begun, closed, tile_at, no_group, no_package}

-- ---- places, pads and wires in range
abbrev pub tile_in : ℕ → Parts → ℕ → ℕ → Result TileAt ChipFault
tile_in line parts x y = if nat_lt x parts.width && nat_lt y parts.height then Ok (tile_at x y) else Err (OutOfRange line)

abbrev pub tile_pad : TileAt → ℕ → Pad
tile_pad tile pio = record { tile = tile; pio = pio }

abbrev pub pad_in : ℕ → Parts → ℕ → ℕ → ℕ → Result Pad ChipFault
pad_in line parts x y pio = tile_in line parts x y >>= (λ tile. if nat_lt pio 2 then Ok (tile_pad tile pio) else Err (OutOfRange line))

abbrev pub wire_in : ℕ → Parts → ℕ → Result ℕ ChipFault
wire_in line parts wire = if nat_lt wire parts.wires then Ok wire else Err (OutOfRange line)

abbrev pub global_in : ℕ → ℕ → Result ℕ ChipFault
global_in line global = if nat_lt global 8 then Ok global else Err (OutOfRange line)

-- what must be new has no earlier line
abbrev pub unseen : ℕ → Option ℕ → Result Unit ChipFault
unseen line None = Ok tt
unseen line (Some other) = Err (Twice line other)

-- the one word
abbrev pub one_word : ℕ → List (List ℕ) → Result (List ℕ) ChipFault
one_word line [] = Err (BadNumber line)
one_word line (w ∷ ws) = no_word_left line ws >>= (λ u. Ok w)

-- ---- `.device NAME WIDTH HEIGHT NUM_NETS`
abbrev pub device_named : ℕ → List ℕ → ℕ × ℕ × ℕ → Result (ℕ × ℕ × ℕ) ChipFault
device_named line name sizes = if bytes_eq name (codes "1k") then Ok sizes else Err (BadName line)

abbrev pub sizes_in : ℕ → List (List ℕ) → Result (ℕ × ℕ × ℕ) ChipFault
sizes_in line [] = Err (BadNumber line)
sizes_in line (name ∷ ws) = three line ws >>= (λ a. no_word_left line a.1 >>= (λ u. device_named line name a.0))

-- a database of these sizes, within the limits
abbrev pub begun_within : ℕ → ℕ × ℕ × ℕ → Result Reading ChipFault
begun_within line (width, height, wires) =
    if nat_lt most_wires wires then Err (TooMany most_wires)
    else (if nat_lt most_places width then Err (TooMany most_places)
    else (if nat_lt most_places height then Err (TooMany most_places)
    else Ok (begun line width height wires)))

abbrev pub device_first : ℕ → List (List ℕ) → Result Reading ChipFault
device_first line ws = sizes_in line ws >>= begun_within line

abbrev pub device_again : Reading → ℕ → List (List ℕ) → Result Reading ChipFault
device_again r line ws = sizes_in line ws >>= (λ sizes. Err (Twice line r.device))

-- ---- the other headings; r is what is read with the section before closed
abbrev pub pins_heading : Reading → ℕ → List (List ℕ) → Result Reading ChipFault
pins_heading r line ws =
    one_word line ws >>= (λ name. Ok (record r { open_section = section.Pins; pins = record { name = name; pins = []; pads = [] } }))

abbrev pub plain_heading : Reading → Section → ℕ → List (List ℕ) → Result Reading ChipFault
plain_heading r open_section line ws = no_word_left line ws >>= (λ u. Ok (record r { open_section = open_section }))

abbrev pub tile_line : TileKind → ℕ → TileLine
tile_line kind line = record { kind = kind; line = line }

abbrev pub new_tile : Reading → ℕ → TileKind → TileAt → Option TileLine → Result Reading ChipFault
new_tile r line kind tile None =
    Ok (record r { open_section = section.Rowless; parts = record r.parts { tiles = r.parts.tiles ++ (tile, tile_line kind line) ∷ [] } })
new_tile r line kind tile (Some old) = Err (Twice line old.line)

abbrev pub tile_heading : Reading → ℕ → TileKind → List (List ℕ) → Result Reading ChipFault
tile_heading r line kind ws =
    two line ws >>= (λ a. no_word_left line a.1 >>= (λ u. tile_in line r.parts a.0.0 a.0.1 >>= (λ tile.
    new_tile r line kind tile (tile_known r.parts.tiles tile))))

abbrev pub bits_heading : Reading → ℕ → TileKind → List (List ℕ) → Result Reading ChipFault
bits_heading r line kind ws =
    two line ws >>= (λ a. no_word_left line a.1 >>= (λ u.
    if (a.0.0 == columns kind) && (a.0.1 == 16) then Ok (record r { open_section = section.Bits kind }) else Err (OutOfRange line)))

abbrev pub with_net : Reading → ℕ → ℕ → Reading
with_net r line wire = record r { open_section = section.Names wire; nets = r.nets ++ (wire, line) ∷ [] }

abbrev pub net_heading : Reading → ℕ → List (List ℕ) → Result Reading ChipFault
net_heading r line ws =
    number line ws >>= (λ a. no_word_left line a.1 >>= (λ u. wire_in line r.parts a.0 >>= (λ wire.
    unseen line (lookup (nat_eq wire) r.nets) >>= (λ u. Ok (with_net r line wire)))))

abbrev pub bits_at : ℕ → Option (List BitAt) → Result (List BitAt) ChipFault
bits_at line None = Err (BadBit line)
bits_at line (Some bits) = Ok bits

-- a group's bits stand in some tile's columns, and there is one or more
abbrev pub group_bits : ℕ → List (List ℕ) → Result (List BitAt) ChipFault
group_bits line ws = bits_at line (bits_named 54 ws) >>= (λ bits. if length bits == 0 then Err (BadBit line) else Ok bits)

abbrev pub with_group : Reading → ℕ → TileAt → ℕ → List BitAt → Reading
with_group r line tile wire bits =
    record r { open_section = section.Switches; group = record { tile = tile; wire = wire; bits = bits; first = r.rows; rows = []; line = line } }

abbrev pub switches_heading : Reading → ℕ → List (List ℕ) → Result Reading ChipFault
switches_heading r line ws =
    three line ws >>= (λ a. tile_in line r.parts a.0.0 a.0.1 >>= (λ tile. wire_in line r.parts a.0.2 >>= (λ wire.
    group_bits line a.1 >>= (λ bits. Ok (with_group r line tile wire bits)))))

abbrev pub heading_says : Reading → ℕ → Heading → List (List ℕ) → Result Reading ChipFault
heading_says r line heading.Device ws = device_again r line ws
heading_says r line heading.Pins ws = pins_heading r line ws
heading_says r line heading.BufferInputs ws = plain_heading r section.BufferInputs line ws
heading_says r line heading.BufferPins ws = plain_heading r section.BufferPins line ws
heading_says r line heading.ExtraBits ws = plain_heading r section.ExtraBits line ws
heading_says r line heading.InputEnables ws = plain_heading r section.InputEnables line ws
heading_says r line heading.ColumnBuffers ws = plain_heading r section.ColumnBuffers line ws
heading_says r line (heading.Tile kind) ws = tile_heading r line kind ws
heading_says r line (heading.Bits kind) ws = bits_heading r line kind ws
heading_says r line heading.Net ws = net_heading r line ws
heading_says r line heading.Switches ws = switches_heading r line ws
heading_says r line heading.Other ws = Ok (record r { open_section = section.ReadOver })

-- ---- rows
-- of repeated pins the first counts; pads are the different ones
abbrev pub with_pin : PackageRows → List ℕ → Pad → Option Pad → PackageRows
with_pin held pin pad None = record held { pins = held.pins ++ (pin, pad) ∷ []; pads = insert_key same_pad held.pads pad }
with_pin held pin pad (Some old) = held

abbrev pub pin_row : Reading → ℕ → List ℕ → List (List ℕ) → Result Reading ChipFault
pin_row r line pin ws =
    three line ws >>= (λ a. no_word_left line a.1 >>= (λ u. pad_in line r.parts a.0.0 a.0.1 a.0.2 >>= (λ pad.
    Ok (record r { pins = with_pin r.pins pin pad (lookup (bytes_eq pin) r.pins.pins) }))))

abbrev pub buffer_input_row : Reading → ℕ → List (List ℕ) → Result Reading ChipFault
buffer_input_row r line ws =
    three line ws >>= (λ a. no_word_left line a.1 >>= (λ u. tile_in line r.parts a.0.0 a.0.1 >>= (λ tile. global_in line a.0.2 >>= (λ global.
    Ok (record r { parts = record r.parts { gbufin = r.parts.gbufin ++ (tile, global) ∷ [] } })))))

abbrev pub buffer_pin_row : Reading → ℕ → List (List ℕ) → Result Reading ChipFault
buffer_pin_row r line ws =
    three line ws >>= (λ a. number line a.1 >>= (λ b. no_word_left line b.1 >>= (λ u. pad_in line r.parts a.0.0 a.0.1 a.0.2 >>= (λ pad. global_in line b.0 >>= (λ global.
    Ok (record r { parts = record r.parts { gbufpin = r.parts.gbufpin ++ (pad, global) ∷ [] } }))))))

abbrev pub extra_bit_row : Reading → ℕ → ℕ → List (List ℕ) → Result Reading ChipFault
extra_bit_row r line global ws =
    three line ws >>= (λ a. no_word_left line a.1 >>= (λ u. global_in line global >>= (λ n.
    Ok (record r { parts = record r.parts { padin = r.parts.padin ++ (n, a.0) ∷ [] } }))))

-- rows of other extra bits are read over
abbrev pub extra_row : Reading → ℕ → Option ℕ → List (List ℕ) → Result Reading ChipFault
extra_row r line None ws = Ok r
extra_row r line (Some global) ws = extra_bit_row r line global ws

abbrev pub input_enable_row : Reading → ℕ → List (List ℕ) → Result Reading ChipFault
input_enable_row r line ws =
    three line ws >>= (λ a. three line a.1 >>= (λ b. no_word_left line b.1 >>= (λ u.
    pad_in line r.parts a.0.0 a.0.1 a.0.2 >>= (λ pad. pad_in line r.parts b.0.0 b.0.1 b.0.2 >>= (λ enable.
    Ok (record r { parts = record r.parts { ieren = r.parts.ieren ++ (pad, enable) ∷ [] } }))))))

abbrev pub column_buffer_row : Reading → ℕ → List (List ℕ) → Result Reading ChipFault
column_buffer_row r line ws =
    two line ws >>= (λ a. two line a.1 >>= (λ b. no_word_left line b.1 >>= (λ u.
    tile_in line r.parts a.0.0 a.0.1 >>= (λ source. tile_in line r.parts b.0.0 b.0.1 >>= (λ served.
    Ok (record r { parts = record r.parts { colbuf = r.parts.colbuf ++ (source, served) ∷ [] } }))))))

abbrev pub kept_function : Reading → ℕ → TileKind → List ℕ → List (List ℕ) → Result Reading ChipFault
kept_function r line kind name ws =
    bits_at line (bits_named (columns kind) ws) >>= (λ bits.
    Ok (record r { parts = record r.parts { functions = r.parts.functions ++ record { kind = kind; name = name; bits = bits; line = line } ∷ [] } }))

-- a read function stands once; rows of functions that are neither read nor kept are read over
abbrev pub function_row : Reading → ℕ → TileKind → List ℕ → List (List ℕ) → Result Reading ChipFault
function_row r line kind name ws =
    if is_read kind name then (unseen line (function_line kind name r.parts.functions) >>= (λ u. kept_function r line kind name ws))
    else (if is_foreign kind name then kept_function r line kind name ws
    else Ok r)

abbrev pub name_row : Reading → ℕ → ℕ → List (List ℕ) → Result Reading ChipFault
name_row r line wire ws =
    two line ws >>= (λ a. one_word line a.1 >>= (λ name. tile_in line r.parts a.0.0 a.0.1 >>= (λ tile.
    Ok (record r { parts = record r.parts { names = r.parts.names ++ record { wire = wire; tile = tile; name = name; line = line } ∷ [] } }))))

abbrev pub known_values : ℕ → Option (List Bool) → Result (List Bool) ChipFault
known_values line None = Err (BadValues line)
known_values line (Some values) = Ok values

-- one digit for each bit
abbrev pub values_at : ℕ → ℕ → List ℕ → Result (List Bool) ChipFault
values_at line bits digits = if length digits == bits then known_values line (values_in digits) else Err (BadValues line)

abbrev pub with_row : Reading → ℕ → List Bool → ℕ → Reading
with_row r line values source =
    record r { group = record r.group { rows = r.group.rows ++ record { values = values; source = source; line = line } ∷ [] }; rows = r.rows + 1 }

abbrev pub switch_row : Reading → ℕ → List ℕ → List (List ℕ) → Result Reading ChipFault
switch_row r line digits ws =
    number line ws >>= (λ a. no_word_left line a.1 >>= (λ u. wire_in line r.parts a.0 >>= (λ source.
    values_at line (length r.group.bits) digits >>= (λ values.
    if nat_lt r.rows most_rows then Ok (with_row r line values source) else Err (TooMany most_rows)))))

-- a row by the section in which it stands
abbrev pub row_says : Reading → ℕ → Section → List ℕ → List (List ℕ) → Result Reading ChipFault
row_says r line section.Rowless w ws = Err (BadNumber line)
row_says r line section.ReadOver w ws = Ok r
row_says r line section.Pins w ws = pin_row r line w ws
row_says r line section.BufferInputs w ws = buffer_input_row r line (w ∷ ws)
row_says r line section.BufferPins w ws = buffer_pin_row r line (w ∷ ws)
row_says r line section.ExtraBits w ws = extra_row r line (padin_global w) ws
row_says r line section.InputEnables w ws = input_enable_row r line (w ∷ ws)
row_says r line section.ColumnBuffers w ws = column_buffer_row r line (w ∷ ws)
row_says r line (section.Bits kind) w ws = function_row r line kind w ws
row_says r line (section.Names wire) w ws = name_row r line wire (w ∷ ws)
row_says r line section.Switches w ws = switch_row r line w ws

-- ---- the whole
-- the section that was open is ended
abbrev pub with_closed : Reading → Reading
with_closed r = record r { parts = closed r; open_section = section.Rowless; group = no_group; pins = no_package }

-- a heading begins with a dot, 46, and any other line is a row
abbrev pub chip_line_says : Reading → ℕ → List (List ℕ) → Result Reading ChipFault
chip_line_says r line [] = Ok r
chip_line_says r line (w ∷ ws) =
    if begins_with 46 w then heading_says (with_closed r) line (heading_of w) ws
    else row_says r line r.open_section w ws

abbrev pub chip_lines_say : Reading → List (ℕ × List (List ℕ)) → Result Reading ChipFault
chip_lines_say r [] = Ok r
chip_lines_say r (line ∷ others) = chip_line_says r line.0 line.1 >>= (λ more. chip_lines_say more others)

-- the first section is `.device`
abbrev pub first_says : ℕ → List (List ℕ) → Result Reading ChipFault
first_says line [] = Err (NoDevice line)
first_says line (w ∷ ws) = if bytes_eq w (codes ".device") then device_first line ws else Err (NoDevice line)

abbrev pub plain_says : List (ℕ × List (List ℕ)) → Result Reading ChipFault
plain_says [] = Err (NoDevice 0)
plain_says (line ∷ others) = first_says line.0 line.1 >>= (λ r. chip_lines_say r others)

-- The rows of a chip text, or the first fault of its lines.
abbrev pub chip_text_says : List ℕ → Result Parts ChipFault
chip_text_says text = plain_says (plain_lines (numbered 1 (lines text))) >>= (λ r. Ok (closed r))
