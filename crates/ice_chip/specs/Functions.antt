-- Which functions of a kind of tile are read or kept.
use Rattle.std.specs.Prelude.{ℕ, zero, suc, ◌==◌, Bool, ◌||◌, ◌&&◌, true, false, Option, Some, None, is_some, List, [], ◌∷◌, codes, bytes_eq, nat_eq, if◌then◌else◌}
use Rattle.std.specs.List.{starts_with}
use Rattle.ice_chip.specs.declared.rows.TileKind.{TileKind}
use Rattle.ice_chip.specs.declared.rows.TileKind.TheVariants.{Io, Logic, RamBottom, RamTop}
use Rattle.ice_chip.specs.Database.{FunctionRow}
use Rattle.ice_chip.specs.Names.{number_behind, column_buffer_function}

-- the bits of the eight logic cells, `LC_I`
abbrev pub is_logic_cell : List ℕ → Bool
is_logic_cell name = is_some (number_behind 8 (codes "LC_") name)

-- the column buffers of the eight globals, `ColBufCtrl.glb_netwk_N`
abbrev pub is_column_buffer : List ℕ → Bool
is_column_buffer name = is_some (number_behind 8 (codes "ColBufCtrl.glb_netwk_") name)

-- the six bits of the pin type of pad 0, `IOB_0.PINTYPE_K`
abbrev pub is_first_pin_type : List ℕ → Bool
is_first_pin_type name = is_some (number_behind 6 (codes "IOB_0.PINTYPE_") name)

-- the six bits of the pin type of pad 1, `IOB_1.PINTYPE_K`
abbrev pub is_second_pin_type : List ℕ → Bool
is_second_pin_type name = is_some (number_behind 6 (codes "IOB_1.PINTYPE_") name)

-- the input enables and pull-ups of the two pads, `IoCtrl.IE_P` and `IoCtrl.REN_P`
abbrev pub is_pad_enable : List ℕ → Bool
is_pad_enable name = is_some (number_behind 2 (codes "IoCtrl.IE_") name) || is_some (number_behind 2 (codes "IoCtrl.REN_") name)

-- The functions of block RAMs: in a lower tile the edge of the clock that writes and whether the RAM is in use, in an upper one the edge of
-- the clock that reads and the four digits of the modes of both ports, `RamConfig.CBIT_K`. A chip may lack them.
abbrev pub is_ram_function : TileKind → List ℕ → Bool
is_ram_function Io name = false
is_ram_function Logic name = false
is_ram_function RamBottom name = bytes_eq name (codes "NegClk") || bytes_eq name (codes "RamConfig.PowerUp")
is_ram_function RamTop name = bytes_eq name (codes "NegClk") || is_some (number_behind 4 (codes "RamConfig.CBIT_") name)

-- the functions that are read
abbrev pub is_read : TileKind → List ℕ → Bool
is_read Io name = is_first_pin_type name || is_second_pin_type name || is_pad_enable name || is_column_buffer name
is_read Logic name = is_logic_cell name || bytes_eq name (codes "NegClk") || bytes_eq name (codes "CarryInSet") || is_column_buffer name
is_read RamBottom name = is_ram_function RamBottom name || is_column_buffer name
is_read RamTop name = is_ram_function RamTop name || is_column_buffer name

-- the name begins with `PLL.`: 80 is `P`, 76 is `L`, 46 is `.`
abbrev pub is_of_pll : List ℕ → Bool
is_of_pll (a ∷ b ∷ c ∷ d ∷ name) = (a == 80) && (b == 76) && (c == 76) && (d == 46)
is_of_pll name = false

-- the name begins with `RamCascade.`
abbrev pub is_of_cascade : List ℕ → Bool
is_of_cascade name = starts_with nat_eq name (codes "RamCascade.")

-- The functions of PLLs, of pairs of pads and of cascades of block RAMs, and the falling clock of the registers of pads, which are kept so
-- that bits which set them can be refused. They aren't read.
abbrev pub is_foreign : TileKind → List ℕ → Bool
is_foreign Io name = is_of_pll name || bytes_eq name (codes "IoCtrl.LVDS") || bytes_eq name (codes "NegClk")
is_foreign Logic name = false
is_foreign memory name = is_of_cascade name

abbrev pub same_kind : TileKind → TileKind → Bool
same_kind Io Io = true
same_kind Logic Logic = true
same_kind RamBottom RamBottom = true
same_kind RamTop RamTop = true
same_kind a b = false

-- the line of the function of this kind and name, where there is one
abbrev pub function_line : TileKind → List ℕ → List FunctionRow → Option ℕ
function_line kind name [] = None
function_line kind name (f ∷ fs) = if same_kind f.kind kind && bytes_eq f.name name then Some f.line else function_line kind name fs

-- ---- the functions that a kind has
abbrev pub has_function : TileKind → List ℕ → List FunctionRow → Bool
has_function kind name fs = is_some (function_line kind name fs)

-- the kind has the functions of all numbers below a number
abbrev pub has_each : TileKind → (ℕ → List ℕ) → ℕ → List FunctionRow → Bool
has_each kind name zero fs = true
has_each kind name (suc n) fs = has_each kind name n fs && has_function kind (name n) fs

-- the column buffers of the eight globals
abbrev pub has_column_buffers : TileKind → List FunctionRow → Bool
has_column_buffers kind fs = has_each kind column_buffer_function 8 fs
