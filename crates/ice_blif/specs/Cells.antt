-- What rows and parameters add to the cell that was made last, or their fault; what a reader of cells keeps.
use Rattle.std.specs.Prelude.{◌≡◌, ℕ, ◌+◌, ◌^◌, ◌≤◌, Bool, ◌==◌, List, [], ◌∷◌, length, Option, Some, None, Result, Ok, Err, if◌then◌else◌, codes, bytes_eq, All, true, false, ◌&&◌, ◌||◌, not, is_some}
use Rattle.ice_net.specs.declared.cell.Cell.{Cell}
use Rattle.ice_net.specs.declared.kind.CellKind.{CellKind}
use Rattle.ice_net.specs.declared.kind.CellKind.TheVariants.{Lut, PadCell}
use Rattle.ice_net.specs.NetlistData.{NetlistData}
use Rattle.ice_net.specs.Formed.{IsBelow, IsFormedCell, IsPresent}
use Rattle.ice_blif.specs.declared.fault.BlifFault.{BlifFault}
use Rattle.ice_blif.specs.declared.fault.BlifFault.TheVariants.{BadCover}
use Rattle.ice_blif.specs.State.{OpenCover, LastCell, Nothing, Gate, Rows, own_cell, with_cover_row, with_kind, Memory}
use Rattle.ice_blif.specs.Reading.{NetReading}
use Rattle.ice_blif.specs.Covers.{level_of_word}
use Rattle.ice_blif.specs.Parameters.{bits_say, standard_says, contents_say, file_says}
use Rattle.std.specs.List.{list_all}
use Rattle.ice_ram_words.specs.Words.{row_of}

infixl 10 ◌>>=◌
-- a value goes on, and the first fault stays
abbrev pub ◌>>=◌ : {A B : Type 0} → Result A BlifFault → (A → Result B BlifFault) → Result B BlifFault
(Ok x) >>= f = f x
(Err e) >>= f = Err e

-- ---- covers
abbrev pub level_alone : List ℕ → List (List ℕ) → Option (List ℕ × List ℕ)
level_alone level [] = Some ([], level)
level_alone level (w ∷ ws) = None

abbrev pub row_and_level : List ℕ → List (List ℕ) → Option (List ℕ × List ℕ)
row_and_level row (level ∷ []) = Some (row, level)
row_and_level row ws = None

-- the words of a row for so many inputs: its digits for the inputs, and its level. Without inputs it is the level alone
abbrev pub row_parts : ℕ → List ℕ → List (List ℕ) → Option (List ℕ × List ℕ)
row_parts width first others = if width == 0 then level_alone first others else row_and_level first others

-- a digit of a row
abbrev pub is_row_digit : ℕ → Bool
is_row_digit b = b == 48 || b == 49 || b == 45

-- a row for so many inputs
abbrev pub is_row : ℕ → List ℕ → Bool
is_row width row = length row == width && list_all is_row_digit row

-- rows of a cover give one level
abbrev pub agrees : Option Bool → Bool → Bool
agrees None level = true
agrees (Some true) level = level
agrees (Some false) level = not level

abbrev pub row_of_level : ℕ → OpenCover → List ℕ → Option Bool → Result OpenCover BlifFault
row_of_level line c row None = Err (BadCover line)
row_of_level line c row (Some level) = if agrees c.level level then Ok (with_cover_row c row level) else Err (BadCover line)

abbrev pub cover_row_of : ℕ → OpenCover → Option (List ℕ × List ℕ) → Result OpenCover BlifFault
cover_row_of line c None = Err (BadCover line)
cover_row_of line c (Some parts) = if is_row (length c.ins) parts.0 then row_of_level line c parts.0 (level_of_word parts.1) else Err (BadCover line)

-- the cover with the row of a line's words
abbrev pub cover_row_says : ℕ → OpenCover → List ℕ → List (List ℕ) → Result OpenCover BlifFault
cover_row_says line c first others = cover_row_of line c (row_parts (length c.ins) first others)

-- ---- parameters
-- a kind with a parameter
abbrev pub lut_says : ℕ → ℕ → List ℕ → List (List ℕ) → Result CellKind BlifFault
lut_says line table name values = if bytes_eq name (codes "LUT_INIT") then bits_say line (2 ^ 16) values >>= (λ n. Ok (Lut n)) else Ok (Lut table)

abbrev pub pad_says : ℕ → ℕ → Bool → List ℕ → List (List ℕ) → Result CellKind BlifFault
pad_says line pin_type pullup name values =
    if bytes_eq name (codes "PIN_TYPE") then bits_say line (2 ^ 6) values >>= (λ n. Ok (PadCell n pullup))
    else (if bytes_eq name (codes "PULLUP") then bits_say line (2 ^ 1) values >>= (λ n. Ok (PadCell pin_type (n == 1)))
    else (if bytes_eq name (codes "NEG_TRIGGER") then bits_say line (2 ^ 0) values >>= (λ n. Ok (PadCell pin_type pullup))
    else (if bytes_eq name (codes "IO_STANDARD") then standard_says line values >>= (λ allowed. Ok (PadCell pin_type pullup))
    else Ok (PadCell pin_type pullup))))

abbrev pub kind_says : ℕ → CellKind → List ℕ → List (List ℕ) → Result CellKind BlifFault
kind_says line (Lut table) name values = lut_says line table name values
kind_says line (PadCell pin_type pullup) name values = pad_says line pin_type pullup name values
kind_says line kind name values = Ok kind

-- a parameter of a RAM: its contents, the modes of its ports, and the file of contents, which it must not have
abbrev pub memory_says : ℕ → List ℕ → List (List ℕ) → Result Bool BlifFault
memory_says line name values =
    if is_some (row_of name) then contents_say line values
    else (if bytes_eq name (codes "READ_MODE") || bytes_eq name (codes "WRITE_MODE") then bits_say line (2 ^ 2) values >>= (λ mode. Ok true)
    else (if bytes_eq name (codes "INIT_FILE") then file_says line values
    else Ok true))

-- the cell made last with the parameter of a line; parameters of covers, and before any cell, are read over
abbrev pub param_says : ℕ → LastCell → List (List ℕ) → Result LastCell BlifFault
param_says line last [] = Ok last
param_says line (Gate cell) (name ∷ values) = kind_says line cell.kind name values >>= (λ kind. Ok (Gate (with_kind cell kind)))
param_says line Memory (name ∷ values) = memory_says line name values >>= (λ good. Ok Memory)
param_says line last (name ∷ values) = Ok last

-- how many cells the last is
abbrev pub count_of : LastCell → ℕ
count_of Nothing = 0
count_of Memory = 0
count_of last = 1

-- a cover over so many signals
pub record IsOpenCover (signals : ℕ) (c : OpenCover) : Type 0 where
  pub narrow : length c.ins ≤ 4
  pub single : length c.outs ≡ 1
  pub ins_present : All (IsPresent signals) c.ins
  pub outs_present : All (IsPresent signals) c.outs

-- a cell as its line says it, over so many signals: well formed, but for outputs behind those of its kind
pub record IsReadCell (signals : ℕ) (cell : Cell) : Type 0 where
  pub own : IsFormedCell signals (own_cell cell)
  pub outs_below : All (IsBelow signals) cell.outs

-- the ports of an SB_IO over so many signals
pub record IsPad (signals : ℕ) (cell : Cell) : Type 0 where
  pub ins_long : length cell.ins ≡ 8
  pub outs_long : length cell.outs ≡ 2
  pub ins_below : All (IsBelow signals) cell.ins
  pub outs_below : All (IsBelow signals) cell.outs

-- the cell made last is well formed over so many signals
abbrev pub IsFormedLast : ℕ → LastCell → Type 0
IsFormedLast signals Nothing = Unit {0}
IsFormedLast signals (Gate cell) = IsReadCell signals cell
IsFormedLast signals Memory = Unit {0}
IsFormedLast signals (Rows cover) = IsOpenCover signals cover

-- at most 65,534 signals, and 1,048,576 lines that make a cell with that of the last
pub record IsWithin (r : NetReading) : Type 0 where
  pub signals : length r.netlist.names ≤ 65534
  pub cells : length r.netlist.cells + count_of r.last ≤ 1048576

-- at most 65,534 signals and 1,048,576 cells, before any is taken apart
pub record IsRawWithin (n : NetlistData) : Type 0 where
  pub signals : length n.names ≤ 65534
  pub cells : length n.cells ≤ 1048576

-- what a reader keeps: at most so many cells before the last, which is well formed
pub record IsReady (most : ℕ) (r : NetReading) : Type 0 where
  pub few : length r.netlist.cells ≤ most
  pub formed : IsFormedLast (length r.netlist.names) r.last

-- what goes with a netlist whose cells are as their lines say them: its names and ports, and its cells
pub record IsRaw (n : NetlistData) (cells : List Cell) : Type 0 where
  pub none : n.cells ≡ []
  pub read : All (IsReadCell (length n.names)) cells
