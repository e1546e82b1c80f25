-- A fault of a line names this line.
use Rattle.std.proofs.Common.{ℕ, ◌==◌, ◌&&◌, Bool, true, false, Option, Some, None, List, [], ◌∷◌, length, Result, Ok, Err, refl, nat_lt, if◌then◌else◌, bytes_eq, codes}
use Rattle.std.specs.Map.{lookup}
use Rattle.std.specs.Prelude.{nat_eq}
use Rattle.ice_base.specs.Places.{bits_named, values_in}
use Rattle.ice_base.specs.Text.{begins_with, number_in}
use Rattle.ice_base.specs.declared.number.TileAt.{TileAt}
use Rattle.ice_base.specs.declared.bit.BitAt.{BitAt}
use Rattle.ice_chip.specs.Database.{Parts, columns, tile_known}
use Rattle.ice_chip.specs.Limits.{most_places, most_wires, most_rows}
use Rattle.ice_chip.specs.Functions.{is_read, is_foreign, function_line}
use Rattle.ice_chip.specs.declared.fault.ChipFault.{ChipFault}
use Rattle.ice_chip.specs.declared.rows.TileLine.{TileLine}
use Rattle.ice_chip.specs.declared.rows.TileKind.{TileKind}
use Rattle.ice_chip_read.specs.Faults.{◌>>=◌}
use Rattle.ice_chip_read.specs.FirstFault.{NamesLine}
use Rattle.ice_chip_read.specs.Words.{known, number, two, three, no_word_left, heading_of}
use Rattle.ice_chip.specs.Names.{padin_global}
use Rattle.ice_chip_read.specs.Lines.{tile_in, pad_in, wire_in, global_in, unseen, one_word, sizes_in, begun_within, device_first, new_tile, tile_heading, bits_heading, net_heading, bits_at, group_bits, switches_heading, heading_says, pin_row, buffer_input_row, buffer_pin_row, extra_row, input_enable_row, column_buffer_row, kept_function, function_row, name_row, known_values, values_at, switch_row, row_says, with_closed, chip_line_says, first_says}
use Rattle.ice_chip_read.specs.Reading.{Reading}
use Rattle.ice_chip_read.specs.declared.section.Section.{Section}
use Rattle.ice_chip_read.specs.declared.section.Section.TheVariants as section
use Rattle.ice_chip_read.specs.declared.section.Heading.{Heading}
use Rattle.ice_chip_read.specs.declared.section.Heading.TheVariants as heading

-- if this is a fault, it names the line
abbrev pub Names : {A : Type 0} → ℕ → Result A ChipFault → Type 0
Names line (Ok value) = Unit {0}
Names line (Err fault) = NamesLine line fault

bind : {A B : Type 0} (line : ℕ) (r : Result A ChipFault) (next : A → Result B ChipFault) → Names line r → ((x : A) → Names line (next x)) → Names line (r >>= next)
bind line (Ok x) next first then_so = then_so x
bind line (Err fault) next first then_so = first

either : {A : Type 0} (line : ℕ) (test : Bool) (r s : Result A ChipFault) → Names line r → Names line s → Names line (if test then r else s)
either line true r s one other = one
either line false r s one other = other

-- ---- words
known_names : (line : ℕ) (o : Option ℕ) (ws : List (List ℕ)) → Names line (known line o ws)
known_names line None ws = refl
known_names line (Some n) ws = tt

number_names : (line : ℕ) (ws : List (List ℕ)) → Names line (number line ws)
number_names line [] = refl
number_names line (w ∷ ws) = known_names line (number_in w) ws

two_names : (line : ℕ) (ws : List (List ℕ)) → Names line (two line ws)
two_names line ws = bind line (number line ws) _ (number_names line ws) (λ a. bind line (number line a.1) _ (number_names line a.1) (λ b. tt))

three_names : (line : ℕ) (ws : List (List ℕ)) → Names line (three line ws)
three_names line ws = bind line (number line ws) _ (number_names line ws) (λ a. bind line (two line a.1) _ (two_names line a.1) (λ b. tt))

ended_names : (line : ℕ) (ws : List (List ℕ)) → Names line (no_word_left line ws)
ended_names line [] = tt
ended_names line (w ∷ ws) = refl

one_word_names : (line : ℕ) (ws : List (List ℕ)) → Names line (one_word line ws)
one_word_names line [] = refl
one_word_names line (w ∷ ws) = bind line (no_word_left line ws) _ (ended_names line ws) (λ u. tt)

-- ---- places, pads, wires and globals
tile_names : (line : ℕ) (parts : Parts) (x y : ℕ) → Names line (tile_in line parts x y)
tile_names line parts x y = either line (nat_lt x parts.width && nat_lt y parts.height) _ _ tt refl

pad_names : (line : ℕ) (parts : Parts) (x y pio : ℕ) → Names line (pad_in line parts x y pio)
pad_names line parts x y pio = bind line (tile_in line parts x y) _ (tile_names line parts x y) (λ tile. either line (nat_lt pio 2) _ _ tt refl)

wire_names : (line : ℕ) (parts : Parts) (wire : ℕ) → Names line (wire_in line parts wire)
wire_names line parts wire = either line (nat_lt wire parts.wires) _ _ tt refl

global_names : (line global : ℕ) → Names line (global_in line global)
global_names line global = either line (nat_lt global 8) _ _ tt refl

unseen_names : (line : ℕ) (o : Option ℕ) → Names line (unseen line o)
unseen_names line None = tt
unseen_names line (Some other) = refl

-- ---- headings
sizes_names : (line : ℕ) (ws : List (List ℕ)) → Names line (sizes_in line ws)
sizes_names line [] = refl
sizes_names line (name ∷ ws) = bind line (three line ws) _ (three_names line ws) (λ a. bind line (no_word_left line a.1) _ (ended_names line a.1) (λ u. either line (bytes_eq name (codes "1k")) _ _ tt refl))

begun_names : (line : ℕ) (sizes : ℕ × ℕ × ℕ) → Names line (begun_within line sizes)
begun_names line (width, height, wires) =
    either line (nat_lt most_wires wires) _ _ tt (either line (nat_lt most_places width) _ _ tt (either line (nat_lt most_places height) _ _ tt tt))

device_names : (line : ℕ) (ws : List (List ℕ)) → Names line (device_first line ws)
device_names line ws = bind line (sizes_in line ws) _ (sizes_names line ws) (begun_names line)

new_tile_names : (r : Reading) (line : ℕ) (kind : TileKind) (tile : TileAt) (o : Option TileLine) → Names line (new_tile r line kind tile o)
new_tile_names r line kind tile None = tt
new_tile_names r line kind tile (Some old) = refl

tile_heading_names : (r : Reading) (line : ℕ) (kind : TileKind) (ws : List (List ℕ)) → Names line (tile_heading r line kind ws)
tile_heading_names r line kind ws =
    bind line (two line ws) _ (two_names line ws) (λ a. bind line (no_word_left line a.1) _ (ended_names line a.1) (λ u.
    bind line (tile_in line r.parts a.0.0 a.0.1) _ (tile_names line r.parts a.0.0 a.0.1) (λ tile. new_tile_names r line kind tile (tile_known r.parts.tiles tile))))

bits_heading_names : (r : Reading) (line : ℕ) (kind : TileKind) (ws : List (List ℕ)) → Names line (bits_heading r line kind ws)
bits_heading_names r line kind ws =
    bind line (two line ws) _ (two_names line ws) (λ a. bind line (no_word_left line a.1) _ (ended_names line a.1) (λ u. either line ((a.0.0 == columns kind) && (a.0.1 == 16)) _ _ tt refl))

net_heading_names : (r : Reading) (line : ℕ) (ws : List (List ℕ)) → Names line (net_heading r line ws)
net_heading_names r line ws =
    bind line (number line ws) _ (number_names line ws) (λ a. bind line (no_word_left line a.1) _ (ended_names line a.1) (λ u.
    bind line (wire_in line r.parts a.0) _ (wire_names line r.parts a.0) (λ wire. bind line (unseen line (lookup (nat_eq wire) r.nets)) _ (unseen_names line (lookup (nat_eq wire) r.nets)) (λ v. tt))))

bits_at_names : (line : ℕ) (o : Option (List BitAt)) → Names line (bits_at line o)
bits_at_names line None = refl
bits_at_names line (Some bits) = tt

group_bits_names : (line : ℕ) (ws : List (List ℕ)) → Names line (group_bits line ws)
group_bits_names line ws = bind line (bits_at line (bits_named 54 ws)) _ (bits_at_names line (bits_named 54 ws)) (λ bits. either line (length bits == 0) _ _ refl tt)

switches_names : (r : Reading) (line : ℕ) (ws : List (List ℕ)) → Names line (switches_heading r line ws)
switches_names r line ws =
    bind line (three line ws) _ (three_names line ws) (λ a. bind line (tile_in line r.parts a.0.0 a.0.1) _ (tile_names line r.parts a.0.0 a.0.1) (λ tile.
    bind line (wire_in line r.parts a.0.2) _ (wire_names line r.parts a.0.2) (λ wire. bind line (group_bits line a.1) _ (group_bits_names line a.1) (λ bits. tt))))

heading_names : (r : Reading) (line : ℕ) (h : Heading) (ws : List (List ℕ)) → Names line (heading_says r line h ws)
heading_names r line heading.Device ws = bind line (sizes_in line ws) _ (sizes_names line ws) (λ sizes. refl)
heading_names r line heading.Pins ws = bind line (one_word line ws) _ (one_word_names line ws) (λ name. tt)
heading_names r line heading.BufferInputs ws = bind line (no_word_left line ws) _ (ended_names line ws) (λ u. tt)
heading_names r line heading.BufferPins ws = bind line (no_word_left line ws) _ (ended_names line ws) (λ u. tt)
heading_names r line heading.ExtraBits ws = bind line (no_word_left line ws) _ (ended_names line ws) (λ u. tt)
heading_names r line heading.InputEnables ws = bind line (no_word_left line ws) _ (ended_names line ws) (λ u. tt)
heading_names r line heading.ColumnBuffers ws = bind line (no_word_left line ws) _ (ended_names line ws) (λ u. tt)
heading_names r line (heading.Tile kind) ws = tile_heading_names r line kind ws
heading_names r line (heading.Bits kind) ws = bits_heading_names r line kind ws
heading_names r line heading.Net ws = net_heading_names r line ws
heading_names r line heading.Switches ws = switches_names r line ws
heading_names r line heading.Other ws = tt

-- ---- rows
pin_row_names : (r : Reading) (line : ℕ) (pin : List ℕ) (ws : List (List ℕ)) → Names line (pin_row r line pin ws)
pin_row_names r line pin ws =
    bind line (three line ws) _ (three_names line ws) (λ a. bind line (no_word_left line a.1) _ (ended_names line a.1) (λ u.
    bind line (pad_in line r.parts a.0.0 a.0.1 a.0.2) _ (pad_names line r.parts a.0.0 a.0.1 a.0.2) (λ pad. tt)))

buffer_input_names : (r : Reading) (line : ℕ) (ws : List (List ℕ)) → Names line (buffer_input_row r line ws)
buffer_input_names r line ws =
    bind line (three line ws) _ (three_names line ws) (λ a. bind line (no_word_left line a.1) _ (ended_names line a.1) (λ u.
    bind line (tile_in line r.parts a.0.0 a.0.1) _ (tile_names line r.parts a.0.0 a.0.1) (λ tile. bind line (global_in line a.0.2) _ (global_names line a.0.2) (λ global. tt))))

buffer_pin_names : (r : Reading) (line : ℕ) (ws : List (List ℕ)) → Names line (buffer_pin_row r line ws)
buffer_pin_names r line ws =
    bind line (three line ws) _ (three_names line ws) (λ a. bind line (number line a.1) _ (number_names line a.1) (λ b. bind line (no_word_left line b.1) _ (ended_names line b.1) (λ u.
    bind line (pad_in line r.parts a.0.0 a.0.1 a.0.2) _ (pad_names line r.parts a.0.0 a.0.1 a.0.2) (λ pad. bind line (global_in line b.0) _ (global_names line b.0) (λ global. tt)))))

extra_names : (r : Reading) (line : ℕ) (o : Option ℕ) (ws : List (List ℕ)) → Names line (extra_row r line o ws)
extra_names r line None ws = tt
extra_names r line (Some n) ws =
    bind line (three line ws) _ (three_names line ws) (λ a. bind line (no_word_left line a.1) _ (ended_names line a.1) (λ u. bind line (global_in line n) _ (global_names line n) (λ global. tt)))

input_enable_names : (r : Reading) (line : ℕ) (ws : List (List ℕ)) → Names line (input_enable_row r line ws)
input_enable_names r line ws =
    bind line (three line ws) _ (three_names line ws) (λ a. bind line (three line a.1) _ (three_names line a.1) (λ b. bind line (no_word_left line b.1) _ (ended_names line b.1) (λ u.
    bind line (pad_in line r.parts a.0.0 a.0.1 a.0.2) _ (pad_names line r.parts a.0.0 a.0.1 a.0.2) (λ pad.
    bind line (pad_in line r.parts b.0.0 b.0.1 b.0.2) _ (pad_names line r.parts b.0.0 b.0.1 b.0.2) (λ enable. tt)))))

column_buffer_names : (r : Reading) (line : ℕ) (ws : List (List ℕ)) → Names line (column_buffer_row r line ws)
column_buffer_names r line ws =
    bind line (two line ws) _ (two_names line ws) (λ a. bind line (two line a.1) _ (two_names line a.1) (λ b. bind line (no_word_left line b.1) _ (ended_names line b.1) (λ u.
    bind line (tile_in line r.parts a.0.0 a.0.1) _ (tile_names line r.parts a.0.0 a.0.1) (λ source.
    bind line (tile_in line r.parts b.0.0 b.0.1) _ (tile_names line r.parts b.0.0 b.0.1) (λ served. tt)))))

kept_names : (r : Reading) (line : ℕ) (kind : TileKind) (name : List ℕ) (ws : List (List ℕ)) → Names line (kept_function r line kind name ws)
kept_names r line kind name ws = bind line (bits_at line (bits_named (columns kind) ws)) _ (bits_at_names line (bits_named (columns kind) ws)) (λ bits. tt)

function_names : (r : Reading) (line : ℕ) (kind : TileKind) (name : List ℕ) (ws : List (List ℕ)) → Names line (function_row r line kind name ws)
function_names r line kind name ws =
    either line (is_read kind name) _ _
    (bind line (unseen line (function_line kind name r.parts.functions)) _ (unseen_names line (function_line kind name r.parts.functions)) (λ u. kept_names r line kind name ws))
    (either line (is_foreign kind name) _ _ (kept_names r line kind name ws) tt)

name_names : (r : Reading) (line wire : ℕ) (ws : List (List ℕ)) → Names line (name_row r line wire ws)
name_names r line wire ws =
    bind line (two line ws) _ (two_names line ws) (λ a. bind line (one_word line a.1) _ (one_word_names line a.1) (λ name.
    bind line (tile_in line r.parts a.0.0 a.0.1) _ (tile_names line r.parts a.0.0 a.0.1) (λ tile. tt)))

known_values_names : (line : ℕ) (o : Option (List Bool)) → Names line (known_values line o)
known_values_names line None = refl
known_values_names line (Some values) = tt

values_names : (line bits : ℕ) (digits : List ℕ) → Names line (values_at line bits digits)
values_names line bits digits = either line (length digits == bits) _ _ (known_values_names line (values_in digits)) refl

switch_names : (r : Reading) (line : ℕ) (digits : List ℕ) (ws : List (List ℕ)) → Names line (switch_row r line digits ws)
switch_names r line digits ws =
    bind line (number line ws) _ (number_names line ws) (λ a. bind line (no_word_left line a.1) _ (ended_names line a.1) (λ u.
    bind line (wire_in line r.parts a.0) _ (wire_names line r.parts a.0) (λ source.
    bind line (values_at line (length r.group.bits) digits) _ (values_names line (length r.group.bits) digits) (λ values. either line (nat_lt r.rows most_rows) _ _ tt tt))))

row_names : (r : Reading) (line : ℕ) (s : Section) (w : List ℕ) (ws : List (List ℕ)) → Names line (row_says r line s w ws)
row_names r line section.Rowless w ws = refl
row_names r line section.ReadOver w ws = tt
row_names r line section.Pins w ws = pin_row_names r line w ws
row_names r line section.BufferInputs w ws = buffer_input_names r line (w ∷ ws)
row_names r line section.BufferPins w ws = buffer_pin_names r line (w ∷ ws)
row_names r line section.ExtraBits w ws = extra_names r line (padin_global w) ws
row_names r line section.InputEnables w ws = input_enable_names r line (w ∷ ws)
row_names r line section.ColumnBuffers w ws = column_buffer_names r line (w ∷ ws)
row_names r line (section.Bits kind) w ws = function_names r line kind w ws
row_names r line (section.Names wire) w ws = name_names r line wire (w ∷ ws)
row_names r line section.Switches w ws = switch_names r line w ws

-- ---- lines
pub line_names : (r : Reading) (line : ℕ) (ws : List (List ℕ)) → Names line (chip_line_says r line ws)
line_names r line [] = tt
line_names r line (w ∷ ws) = either line (begins_with 46 w) _ _ (heading_names (with_closed r) line (heading_of w) ws) (row_names r line r.open_section w ws)

pub first_names : (line : ℕ) (ws : List (List ℕ)) → Names line (first_says line ws)
first_names line [] = refl
first_names line (w ∷ ws) = either line (bytes_eq w (codes ".device")) _ _ (device_names line ws) refl
