-- The headings of a text of bits.
use Rattle.std.specs.Prelude.{ℕ, List, if◌then◌else◌, codes, bytes_eq}
use Rattle.ice_chip.specs.declared.rows.TileKind.TheVariants.{Io, Logic, RamBottom, RamTop}
use Rattle.ice_asc.specs.declared.section.Heading.{Heading}
use Rattle.ice_asc.specs.declared.section.Heading.TheVariants.{Device, Tile, RamData, ExtraBit, Symbol, Other}

-- every heading; the sections of other headings are read over
abbrev pub heading_of : List ℕ → Heading
heading_of word =
    if bytes_eq word (codes ".device") then Device
    else (if bytes_eq word (codes ".io_tile") then Tile Io
    else (if bytes_eq word (codes ".logic_tile") then Tile Logic
    else (if bytes_eq word (codes ".ramb_tile") then Tile RamBottom
    else (if bytes_eq word (codes ".ramt_tile") then Tile RamTop
    else (if bytes_eq word (codes ".ram_data") then RamData
    else (if bytes_eq word (codes ".extra_bit") then ExtraBit
    else (if bytes_eq word (codes ".sym") then Symbol
    else Other)))))))
