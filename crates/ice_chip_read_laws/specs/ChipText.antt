-- What a chip text says, for one who reads it and has no use for its faults: section by section, the rows of a database.
use Rattle.std.specs.Prelude.{ℕ, ◌+◌, ◌||◌, ◌&&◌, Option, Some, None, List, [], ◌∷◌, ◌++◌, map, is_some, option_map, codes, bytes_eq, if◌then◌else◌}
use Rattle.std.specs.Map.{lookup}
use Rattle.std.specs.Option.{option_and_then, option_map_or}
use Rattle.indexmap.specs.IndexSet.{insert_key}
use Rattle.ice_base.specs.Lists.{all_known}
use Rattle.ice_base.specs.Places.{tile_at, bits_named, values_in}
use Rattle.ice_base.specs.Text.{lines, numbered, begins_with, plain_lines, number_in}
use Rattle.ice_base.specs.declared.number.TileAt.{TileAt}
use Rattle.ice_chip.specs.Database.{Parts, PackageRows, SwitchGroup, columns, no_parts, same_pad}
use Rattle.ice_chip.specs.Functions.{is_read, is_foreign}
use Rattle.ice_chip.specs.declared.rows.TileKind.{TileKind}
use Rattle.ice_chip.specs.declared.rows.TileKind.TheVariants.{Io, Logic, RamBottom, RamTop}
use Rattle.ice_chip.specs.declared.rows.Pad.{Pad}
use Rattle.ice_chip.specs.Names.{padin_global}

-- ---- words
-- the numbers that words write, where each of them writes one
abbrev pub all_numbers : List (List ℕ) → Option (List ℕ)
all_numbers words = all_known (map number_in words)

-- the tile that two words write by its column and row
abbrev pub tile_said : List ℕ → List ℕ → Option TileAt
tile_said x y = option_and_then (λ column. option_map (tile_at column) (number_in y)) (number_in x)

-- the pad of this number in the tile in this column and row
abbrev pub pad_said : ℕ → ℕ → ℕ → Pad
pad_said x y pio = record { tile = tile_at x y; pio = pio }

-- ---- sections
-- the section that is open, by what its rows add to: to a package, to a group of switches, or to the database
pub data OpenSection : Type 0 where
  Package : PackageRows → OpenSection
  Group : SwitchGroup → OpenSection
  Plain : (ℕ → List (List ℕ) → Parts → Option Parts) → OpenSection

-- the rows of the sections that are ended, the section that is open, and how many rows of switches there were
pub record ChipSoFar : Type 0 where
  pub ended : Parts
  pub section : OpenSection
  pub switches : ℕ

-- the rows with those of a section that ends
abbrev pub and_section : OpenSection → Parts → Parts
and_section (Package bonded) parts = record parts { packages = parts.packages ++ bonded ∷ [] }
and_section (Group group) parts = record parts { groups = parts.groups ++ group ∷ [] }
and_section (Plain row) parts = parts

-- ---- rows that join the database
-- a row of numbers
abbrev pub of_numbers : (List ℕ → Parts → Option Parts) → ℕ → List (List ℕ) → Parts → Option Parts
of_numbers row line words parts = option_and_then (λ numbers. row numbers parts) (all_numbers words)

abbrev pub gbufin_row : List ℕ → Parts → Option Parts
gbufin_row (x ∷ y ∷ global ∷ []) parts = Some (record parts { gbufin = parts.gbufin ++ (tile_at x y, global) ∷ [] })
gbufin_row numbers parts = None

abbrev pub gbufpin_row : List ℕ → Parts → Option Parts
gbufpin_row (x ∷ y ∷ pio ∷ global ∷ []) parts = Some (record parts { gbufpin = parts.gbufpin ++ (pad_said x y pio, global) ∷ [] })
gbufpin_row numbers parts = None

abbrev pub ieren_row : List ℕ → Parts → Option Parts
ieren_row (x ∷ y ∷ pio ∷ u ∷ v ∷ enable ∷ []) parts =
    Some (record parts { ieren = parts.ieren ++ (pad_said x y pio, pad_said u v enable) ∷ [] })
ieren_row numbers parts = None

abbrev pub colbuf_row : List ℕ → Parts → Option Parts
colbuf_row (x ∷ y ∷ u ∷ v ∷ []) parts = Some (record parts { colbuf = parts.colbuf ++ (tile_at x y, tile_at u v) ∷ [] })
colbuf_row numbers parts = None

abbrev pub padin_row : ℕ → List ℕ → Parts → Option Parts
padin_row global (bank ∷ column ∷ row ∷ []) parts = Some (record parts { padin = parts.padin ++ (global, (bank, column, row)) ∷ [] })
padin_row global numbers parts = None

-- of the extra bits those of globals; the others are read over
abbrev pub extra_bits_row : ℕ → List (List ℕ) → Parts → Option Parts
extra_bits_row line [] parts = None
extra_bits_row line (name ∷ words) parts =
    option_map_or (λ global. of_numbers (padin_row global) line words parts) (padin_global name) (Some parts)

-- of the functions of a kind of tile those that are read or kept; the others are read over
abbrev pub bits_row : TileKind → ℕ → List (List ℕ) → Parts → Option Parts
bits_row kind line [] parts = None
bits_row kind line (name ∷ words) parts =
    if is_read kind name || is_foreign kind name
    then option_map (λ bits. record parts { functions = parts.functions ++ record { kind = kind; name = name; bits = bits; line = line } ∷ [] })
    (bits_named (columns kind) words)
    else Some parts

-- a name of a wire
abbrev pub net_row : ℕ → ℕ → List (List ℕ) → Parts → Option Parts
net_row wire line (x ∷ y ∷ name ∷ []) parts =
    option_map (λ tile. record parts { names = parts.names ++ record { wire = wire; tile = tile; name = name; line = line } ∷ [] }) (tile_said x y)
net_row wire line words parts = None

-- ---- rows that join a package or a group
-- of rows with one pin the first counts, and each pad stands once
abbrev pub pin_joins : PackageRows → List ℕ → List ℕ → Option PackageRows
pin_joins bonded pin (x ∷ y ∷ pio ∷ []) =
    Some (if is_some (lookup (bytes_eq pin) bonded.pins) then bonded
    else record bonded { pins = bonded.pins ++ (pin, pad_said x y pio) ∷ []; pads = insert_key same_pad bonded.pads (pad_said x y pio) })
pin_joins bonded pin numbers = None

abbrev pub pins_row : PackageRows → List (List ℕ) → Option PackageRows
pins_row bonded [] = None
pins_row bonded (pin ∷ words) = option_and_then (pin_joins bonded pin) (all_numbers words)

abbrev pub buffer_row : SwitchGroup → ℕ → List (List ℕ) → Option SwitchGroup
buffer_row group line (digits ∷ wire ∷ []) =
    option_and_then (λ values. option_map (λ source.
    record group { rows = group.rows ++ record { values = values; source = source; line = line } ∷ [] })
    (number_in wire)) (values_in digits)
buffer_row group line words = None

-- ---- headings; the section before is ended
abbrev pub section_opens : OpenSection → ChipSoFar → Option ChipSoFar
section_opens section r = Some (record r { section = section })

-- `.io_tile X Y`
abbrev pub tile_opens : TileKind → ℕ → List (List ℕ) → ChipSoFar → Option ChipSoFar
tile_opens kind line (x ∷ y ∷ []) r =
    option_map (λ tile. record {
      ended = record r.ended { tiles = r.ended.tiles ++ (tile, record { kind = kind; line = line }) ∷ [] };
      section = Plain (λ line words parts. None);
      switches = r.switches;
    }) (tile_said x y)
tile_opens kind line words r = None

-- `.pins NAME`
abbrev pub pins_open : List (List ℕ) → ChipSoFar → Option ChipSoFar
pins_open (name ∷ []) r = section_opens (Package (record { name = name; pins = []; pads = [] })) r
pins_open words r = None

-- `.net WIRE`
abbrev pub net_opens : List (List ℕ) → ChipSoFar → Option ChipSoFar
net_opens (number ∷ []) r = option_and_then (λ wire. section_opens (Plain (net_row wire)) r) (number_in number)
net_opens words r = None

-- `.buffer X Y WIRE BIT ..`
abbrev pub buffer_opens : ℕ → List (List ℕ) → ChipSoFar → Option ChipSoFar
buffer_opens line (x ∷ y ∷ number ∷ names) r =
    option_and_then (λ tile. option_and_then (λ wire. option_and_then (λ bits.
    section_opens (Group (record { tile = tile; wire = wire; bits = bits; first = r.switches; rows = []; line = line })) r)
    (bits_named 54 names)) (number_in number)) (tile_said x y)
buffer_opens line words r = None

-- sections of other headings are read over
abbrev pub heading_opens : ℕ → List ℕ → List (List ℕ) → ChipSoFar → Option ChipSoFar
heading_opens line name words r =
    if bytes_eq name (codes ".buffer") || bytes_eq name (codes ".routing") then buffer_opens line words r
    else (if bytes_eq name (codes ".net") then net_opens words r
    else (if bytes_eq name (codes ".device") then None
    else (if bytes_eq name (codes ".pins") then pins_open words r
    else (if bytes_eq name (codes ".gbufin") then section_opens (Plain (of_numbers gbufin_row)) r
    else (if bytes_eq name (codes ".gbufpin") then section_opens (Plain (of_numbers gbufpin_row)) r
    else (if bytes_eq name (codes ".extra_bits") then section_opens (Plain extra_bits_row) r
    else (if bytes_eq name (codes ".ieren") then section_opens (Plain (of_numbers ieren_row)) r
    else (if bytes_eq name (codes ".colbuf") then section_opens (Plain (of_numbers colbuf_row)) r
    else (if bytes_eq name (codes ".io_tile") then tile_opens Io line words r
    else (if bytes_eq name (codes ".logic_tile") then tile_opens Logic line words r
    else (if bytes_eq name (codes ".ramb_tile") then tile_opens RamBottom line words r
    else (if bytes_eq name (codes ".ramt_tile") then tile_opens RamTop line words r
    else (if bytes_eq name (codes ".io_tile_bits") then section_opens (Plain (bits_row Io)) r
    else (if bytes_eq name (codes ".logic_tile_bits") then section_opens (Plain (bits_row Logic)) r
    else (if bytes_eq name (codes ".ramb_tile_bits") then section_opens (Plain (bits_row RamBottom)) r
    else (if bytes_eq name (codes ".ramt_tile_bits") then section_opens (Plain (bits_row RamTop)) r
    else section_opens (Plain (λ line words parts. Some parts)) r))))))))))))))))

-- ---- lines
abbrev pub row_joins : ℕ → List (List ℕ) → ChipSoFar → OpenSection → Option ChipSoFar
row_joins line words r (Package bonded) = option_map (λ more. record r { section = Package more }) (pins_row bonded words)
row_joins line words r (Group group) = option_map (λ more. record r { section = Group more; switches = r.switches + 1 }) (buffer_row group line words)
row_joins line words r (Plain row) = option_map (λ more. record r { ended = more }) (row line words r.ended)

-- a heading begins with a dot, 46, and any other line is a row
abbrev pub chip_line_joins : ℕ → List (List ℕ) → ChipSoFar → Option ChipSoFar
chip_line_joins line [] r = Some r
chip_line_joins line (name ∷ words) r =
    if begins_with 46 name then heading_opens line name words (record r { ended = and_section r.section r.ended })
    else row_joins line (name ∷ words) r r.section

abbrev pub chip_lines_join : List (ℕ × List (List ℕ)) → ChipSoFar → Option Parts
chip_lines_join [] r = Some (and_section r.section r.ended)
chip_lines_join (line ∷ others) r = option_and_then (chip_lines_join others) (chip_line_joins line.0 line.1 r)

-- the sizes of `.device 1k WIDTH HEIGHT WIRES`
abbrev pub chip_sized : List ℕ → Option ChipSoFar
chip_sized (width ∷ height ∷ wires ∷ []) = Some (record { ended = no_parts width height wires; section = Plain (λ line words parts. None); switches = 0 })
chip_sized numbers = None

abbrev pub device_line : List (List ℕ) → Option ChipSoFar
device_line (word ∷ name ∷ words) =
    if bytes_eq word (codes ".device") && bytes_eq name (codes "1k") then option_and_then chip_sized (all_numbers words) else None
device_line words = None

-- the first line with words is that of the device
abbrev pub chip_of_lines : List (ℕ × List (List ℕ)) → Option Parts
chip_of_lines [] = None
chip_of_lines (first ∷ others) = option_and_then (chip_lines_join others) (device_line first.1)

-- the rows that a chip text says
abbrev pub chip_rows : List ℕ → Option Parts
chip_rows text = chip_of_lines (plain_lines (numbered 1 (lines text)))
