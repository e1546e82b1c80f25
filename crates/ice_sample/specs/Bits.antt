-- The bits of tiles, and the functions that have the first of them.
use Rattle.std.specs.Prelude.{ℕ, ◌+◌, ◌/◌, ◌%◌, List, [], ◌∷◌, ◌++◌, map, codes, decimal}
use Rattle.std.specs.List.{flat_map, range_with_len, sum_by}
use Rattle.ice_sample.specs.declared.grid.TileKind.{TileKind}
use Rattle.ice_sample.specs.declared.grid.TileKind.TheVariants.{Io, Logic}
use Rattle.ice_sample.specs.Lines.{numbered}

-- how many columns of bits a tile of a kind has; it has 16 rows
abbrev pub columns_of : TileKind → ℕ
columns_of Io = 18
columns_of Logic = 54

-- a blank and the name of the bit of a number, in so many columns: its row and its column
abbrev pub bit_word : ℕ → ℕ → List ℕ
bit_word columns n = codes " B" ++ decimal (n / columns) ++ codes "[" ++ decimal (n % columns) ++ codes "]"

-- the names of so many bits from a number on
abbrev pub bit_words : ℕ → ℕ → ℕ → List ℕ
bit_words columns first count = flat_map (λ k. bit_word columns (first + k)) (range_with_len 0 count)

-- a function of a kind of tile, and how many bits it has
pub record TileFunction : Type 0 where
  pub title : List ℕ
  pub size : ℕ

-- the row of a function whose first bit has the number n
abbrev pub function_row : ℕ → ℕ → TileFunction → List (List ℕ)
function_row columns n f = (f.title ++ bit_words columns n f.size) ∷ []

-- the rows of functions whose bits are numbered from n
abbrev pub function_rows : ℕ → ℕ → List TileFunction → List (List ℕ)
function_rows columns n fs = numbered (λ (f : TileFunction). f.size) (function_row columns) n fs

-- so many functions of one size, whose names end in numbers from 0
abbrev pub function_series : List ℕ → ℕ → ℕ → List TileFunction
function_series title count size = map (λ k. record { title = title ++ decimal k; size = size }) (range_with_len 0 count)

-- one function of one bit
abbrev pub lone_function : List ℕ → List TileFunction
lone_function title = record { title = title; size = 1 } ∷ []

-- the types of both pads' pins, and their input enables and pull-ups
unfoldable pub io_functions : List TileFunction
io_functions =
    function_series (codes "IOB_0.PINTYPE_") 6 1 ++ function_series (codes "IOB_1.PINTYPE_") 6 1
    ++ lone_function (codes "IoCtrl.IE_0") ++ lone_function (codes "IoCtrl.REN_0")
    ++ lone_function (codes "IoCtrl.IE_1") ++ lone_function (codes "IoCtrl.REN_1")

-- the cells, the clock's edge, the carry into the first cell, and the column buffers of the globals
unfoldable pub logic_functions : List TileFunction
logic_functions =
    function_series (codes "LC_") 8 20 ++ lone_function (codes "NegClk") ++ lone_function (codes "CarryInSet")
    ++ function_series (codes "ColBufCtrl.glb_netwk_") 8 1

-- the functions of a kind of tile
abbrev pub functions_of : TileKind → List TileFunction
functions_of Io = io_functions
functions_of Logic = logic_functions

-- how many bits the functions of a kind of tile have
abbrev pub function_bits : TileKind → ℕ
function_bits kind = sum_by (λ (f : TileFunction). f.size) (functions_of kind)

-- the sections of the functions: their bits are numbered from 0
abbrev pub io_bit_lines : List (List ℕ)
io_bit_lines = codes ".io_tile_bits 18 16" ∷ function_rows 18 0 io_functions

abbrev pub logic_bit_lines : List (List ℕ)
logic_bit_lines = codes ".logic_tile_bits 54 16" ∷ function_rows 54 0 logic_functions
