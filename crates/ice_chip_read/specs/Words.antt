-- What words write: numbers, the names of extra bits, and the first words of headings.
use Rattle.std.specs.Prelude.{ℕ, Option, Some, None, List, [], ◌∷◌, Result, Ok, Err, ◌||◌, codes, if◌then◌else◌, bytes_eq}
use Rattle.ice_base.specs.Text.{number_in}
use Rattle.ice_chip_read.specs.Faults.{◌>>=◌}
use Rattle.ice_chip.specs.declared.fault.ChipFault.{ChipFault}
use Rattle.ice_chip.specs.declared.fault.ChipFault.TheVariants.{BadNumber}
use Rattle.ice_chip.specs.declared.rows.TileKind.TheVariants.{Io, Logic, RamBottom, RamTop}
use Rattle.ice_chip_read.specs.declared.section.Heading.{Heading}
use Rattle.ice_chip_read.specs.declared.section.Heading.TheVariants.{Device, Pins, BufferInputs, BufferPins, ExtraBits, InputEnables, ColumnBuffers, Tile, Bits, Net, Switches, Other}

abbrev pub known : ℕ → Option ℕ → List (List ℕ) → Result (ℕ × List (List ℕ)) ChipFault
known line None ws = Err (BadNumber line)
known line (Some n) ws = Ok (n, ws)

-- the first word, which must be a number, and the words behind it
abbrev pub number : ℕ → List (List ℕ) → Result (ℕ × List (List ℕ)) ChipFault
number line [] = Err (BadNumber line)
number line (w ∷ ws) = known line (number_in w) ws

-- two numbers, and the words behind them
abbrev pub two : ℕ → List (List ℕ) → Result ((ℕ × ℕ) × List (List ℕ)) ChipFault
two line ws = number line ws >>= (λ a. number line a.1 >>= (λ b. Ok ((a.0, b.0), b.1)))

-- three numbers, and the words behind them
abbrev pub three : ℕ → List (List ℕ) → Result ((ℕ × ℕ × ℕ) × List (List ℕ)) ChipFault
three line ws = number line ws >>= (λ a. two line a.1 >>= (λ b. Ok ((a.0, b.0.0, b.0.1), b.1)))

-- no word is left
abbrev pub no_word_left : ℕ → List (List ℕ) → Result Unit ChipFault
no_word_left line [] = Ok tt
no_word_left line (w ∷ ws) = Err (BadNumber line)

-- the headings of tiles and of the functions of their kinds
abbrev pub tile_heading_of : List ℕ → Heading
tile_heading_of word =
    if bytes_eq word (codes ".io_tile") then Tile Io
    else (if bytes_eq word (codes ".logic_tile") then Tile Logic
    else (if bytes_eq word (codes ".ramb_tile") then Tile RamBottom
    else (if bytes_eq word (codes ".ramt_tile") then Tile RamTop
    else (if bytes_eq word (codes ".io_tile_bits") then Bits Io
    else (if bytes_eq word (codes ".logic_tile_bits") then Bits Logic
    else (if bytes_eq word (codes ".ramb_tile_bits") then Bits RamBottom
    else (if bytes_eq word (codes ".ramt_tile_bits") then Bits RamTop
    else Other)))))))

-- every heading; the sections of other headings are read over
abbrev pub heading_of : List ℕ → Heading
heading_of word =
    if bytes_eq word (codes ".buffer") || bytes_eq word (codes ".routing") then Switches
    else (if bytes_eq word (codes ".net") then Net
    else (if bytes_eq word (codes ".device") then Device
    else (if bytes_eq word (codes ".pins") then Pins
    else (if bytes_eq word (codes ".gbufin") then BufferInputs
    else (if bytes_eq word (codes ".gbufpin") then BufferPins
    else (if bytes_eq word (codes ".extra_bits") then ExtraBits
    else (if bytes_eq word (codes ".ieren") then InputEnables
    else (if bytes_eq word (codes ".colbuf") then ColumnBuffers
    else tile_heading_of word))))))))
