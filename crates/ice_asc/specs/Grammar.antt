-- What a text of bits says: the configuration of a chip, or the first fault.
use Rattle.std.specs.Prelude.{ℕ, ◌==◌, Bool, true, false, Option, None, Some, is_some, List, [], ◌∷◌, ◌++◌, length, codes, bytes_eq, if◌then◌else◌, Result, Ok, Err}
use Rattle.std.specs.List.{list_any}
use Rattle.ice_base.specs.declared.number.TileAt.{TileAt}
use Rattle.ice_base.specs.Text.{lines, numbered, words, begins_with}
use Rattle.ice_chip.specs.Database.{Parts, same_tile, columns}
use Rattle.ice_chip.specs.Lookups.{kind_at}
use Rattle.ice_chip.specs.declared.rows.TileKind.{TileKind}
use Rattle.ice_bits.specs.Configuration.{Configuration}
use Rattle.ice_bits.specs.Grids.{is_of_kind, blank}
use Rattle.ice_bits.specs.Rewriting.{with_rows, with_extra, with_content}
use Rattle.ice_chip_rams.specs.Sites.{site_at}
use Rattle.ice_asc.specs.Faults.{◌>>=◌}
use Rattle.ice_asc.specs.Words.{row_of_words, tile_of_words, extra_of_words}
use Rattle.ice_asc.specs.Headings.{heading_of}
use Rattle.ice_asc.specs.Hex.{row_words, values_of_line}
use Rattle.ice_asc.specs.declared.fault.AscFault.{AscFault}
use Rattle.ice_asc.specs.declared.fault.AscFault.TheVariants.{NoDevice, OtherDevice, UnknownTile, TileTwice, BadRow, UnknownWord, Truncated}
use Rattle.ice_asc.specs.declared.section.Section.{Section}
use Rattle.ice_asc.specs.declared.section.Section.TheVariants.{Nowhere, ReadOver, Rows, Words}
use Rattle.ice_asc.specs.declared.section.Heading.{Heading}
use Rattle.ice_asc.specs.declared.section.Heading.TheVariants.{Device, Tile, RamData, ExtraBit, Symbol, Other}

-- What the lines so far say: the number of the last of them, whether one names the device, what takes the next line, the rows so far of
-- the tile that is open, the words so far of the block RAM that is open, the tiles that have had a heading, the block RAMs that have had
-- one, by their lower tiles, and the bits.
pub record Reading : Type 0 where
  pub line : ℕ
  pub has_device : Bool
  pub section : Section
  pub rows : List (List Bool)
  pub words : List (List Bool)
  pub seen : List TileAt
  pub filled : List TileAt
  pub bits : Configuration

-- before the first line all bits of the chip are 0
abbrev pub start : Parts → Reading
start parts = record { line = 0; has_device = false; section = Nowhere; rows = []; words = []; seen = []; filled = []; bits = blank parts }

-- ---- the rows of a tile
-- a row more of the tile that is open; with its sixteenth row the tile is done, and no section takes the next line
abbrev pub with_row : Reading → ℕ → TileAt → TileKind → List (List Bool) → Reading
with_row r heading at kind rows =
    if length rows == 16 then record r { section = Nowhere; rows = []; bits = with_rows at rows r.bits } else record r { section = Rows heading at kind; rows = rows }

abbrev pub known_row : ℕ → Option (List Bool) → Result (List Bool) AscFault
known_row line None = Err (BadRow line)
known_row line (Some row) = Ok row

abbrev pub row_says : Reading → ℕ → TileAt → TileKind → List ℕ → List (List ℕ) → Result Reading AscFault
row_says r heading at kind w ws = known_row r.line (row_of_words (columns kind) w ws) >>= (λ row. Ok (with_row r heading at kind (r.rows ++ row ∷ [])))

-- ---- the words of a block RAM
-- more words of the block RAM that is open; with the last of its 256 words it is done, and no section takes the next line
abbrev pub with_words : Reading → ℕ → TileAt → List (List Bool) → Reading
with_words r heading at words =
    if length words == 256 then record r { section = Nowhere; words = []; bits = with_content at words r.bits } else record r { section = Words heading at; words = words }

abbrev pub known_values : ℕ → Option (List ℕ) → Result (List ℕ) AscFault
known_values line None = Err (BadRow line)
known_values line (Some values) = Ok values

-- a row of digits, which has sixteen words
abbrev pub words_row_says : Reading → ℕ → TileAt → List ℕ → List (List ℕ) → Result Reading AscFault
words_row_says r heading at w ws = known_values r.line (values_of_line w ws) >>= (λ values. Ok (with_words r heading at (r.words ++ row_words values)))

-- ---- headings
-- the words behind `.device` are the name of the chip's device
abbrev pub device_says : Reading → List (List ℕ) → Result Reading AscFault
device_says r [] = Err (OtherDevice r.line)
device_says r (name ∷ []) = if bytes_eq name (codes "1k") then Ok (record r { has_device = true; section = Nowhere }) else Err (OtherDevice r.line)
device_says r (name ∷ w ∷ ws) = Err (OtherDevice r.line)

-- a tile of this kind stands there
abbrev pub opened : Reading → TileKind → TileAt → Result Reading AscFault
opened r kind at =
    if list_any (same_tile at) r.seen then Err (TileTwice r.line) else Ok (record r { section = Rows r.line at kind; rows = []; seen = r.seen ++ at ∷ [] })

abbrev pub tile_says : Parts → Reading → TileKind → Option TileAt → Result Reading AscFault
tile_says parts r kind None = Err (UnknownTile r.line)
tile_says parts r kind (Some at) = if is_of_kind kind (kind_at parts at) then opened r kind at else Err (UnknownTile r.line)

-- the chip has a block RAM whose lower tile stands there
abbrev pub ram_opened : Reading → TileAt → Result Reading AscFault
ram_opened r at =
    if list_any (same_tile at) r.filled then Err (TileTwice r.line) else Ok (record r { section = Words r.line at; words = []; filled = r.filled ++ at ∷ [] })

abbrev pub ram_says : Parts → Reading → Option TileAt → Result Reading AscFault
ram_says parts r None = Err (UnknownTile r.line)
ram_says parts r (Some at) = if is_some (site_at parts at) then ram_opened r at else Err (UnknownTile r.line)

abbrev pub extra_says : Reading → Option (ℕ × ℕ × ℕ) → Result Reading AscFault
extra_says r None = Err (BadRow r.line)
extra_says r (Some extra) = Ok (record r { section = Nowhere; bits = with_extra extra r.bits })

-- a heading and the words behind it: a heading without a name here is read over with the lines up to the next one
abbrev pub heading_says : Parts → Reading → Heading → List (List ℕ) → Result Reading AscFault
heading_says parts r Device ws = device_says r ws
heading_says parts r (Tile kind) ws = if r.has_device then tile_says parts r kind (tile_of_words ws) else Err (NoDevice r.line)
heading_says parts r RamData ws = if r.has_device then ram_says parts r (tile_of_words ws) else Err (NoDevice r.line)
heading_says parts r ExtraBit ws = extra_says r (extra_of_words ws)
heading_says parts r Symbol ws = Ok (record r { section = Nowhere })
heading_says parts r Other ws = Ok (record r { section = ReadOver })

-- ---- lines
-- a line with these words, by what takes it; the first word of a heading begins with `.`, which is 46
abbrev pub words_say : Parts → Reading → Section → List ℕ → List (List ℕ) → Result Reading AscFault
words_say parts r (Rows heading at kind) w ws = row_says r heading at kind w ws
words_say parts r (Words heading at) w ws = words_row_says r heading at w ws
words_say parts r ReadOver w ws = if begins_with 46 w then heading_says parts r (heading_of w) ws else Ok r
words_say parts r Nowhere w ws = if begins_with 46 w then heading_says parts r (heading_of w) ws else Err (UnknownWord r.line)

-- a line without words is skipped
abbrev pub line_says : Parts → Reading → List (List ℕ) → Result Reading AscFault
line_says parts r [] = Ok r
line_says parts r (w ∷ ws) = words_say parts r r.section w ws

abbrev pub at_line : Reading → ℕ → Reading
at_line r n = record r { line = n }

-- the numbered lines behind those so far
abbrev pub lines_say : Parts → Reading → List (ℕ × List ℕ) → Result Reading AscFault
lines_say parts r [] = Ok r
lines_say parts r (l ∷ ls) = line_says parts (at_line r l.0) (words l.1) >>= (λ (s : Reading). lines_say parts s ls)

-- ---- the end of the text
-- a tile without all its rows or a block RAM without all its words is cut off, and a device must have been named
abbrev pub end_says : Reading → Section → Result Configuration AscFault
end_says r (Rows heading at kind) = Err (Truncated heading)
end_says r (Words heading at) = Err (Truncated heading)
end_says r ReadOver = if r.has_device then Ok r.bits else Err (NoDevice r.line)
end_says r Nowhere = if r.has_device then Ok r.bits else Err (NoDevice r.line)

-- what a text says of the bits of a chip, or the first fault in it
abbrev pub asc_in : Parts → List ℕ → Result Configuration AscFault
asc_in parts text = lines_say parts (start parts) (numbered 1 (lines text)) >>= (λ (r : Reading). end_says r r.section)
