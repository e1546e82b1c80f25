-- The signals of the netlist of a circuit: their numbers and their names.
use Rattle.std.specs.Prelude.{ℕ, ◌+◌, ◌*◌, Bool, true, false, Option, Some, None, List, [], ◌∷◌, ◌++◌, length, if◌then◌else◌, codes, decimal, unwrap_or}
use Rattle.std.specs.List.{flat_map}
use Rattle.ice_base.specs.declared.number.TileAt.{TileAt}
use Rattle.ice_base.specs.declared.number.SignalNo.{SignalNo}
use Rattle.ice_chip.specs.Database.{Parts, PackageRows}
use Rattle.ice_chip.specs.Listings.{first_pin}
use Rattle.ice_chip.specs.declared.rows.Pad.{Pad}
use Rattle.ice_decode.specs.Cells.{logic_tiles, tile_place, cells}
use Rattle.ice_back_laws.specs.Roots.{LevelRoot, Fixed, Input, Taken, Given, Kept, Level, Table, Register, Sum}

-- ---- numbers
-- 0 and 1 are the fixed levels; five signals for each pad of the package follow, whether it uses them or not: its port's, its input's,
-- what it gives to its register, what it is driven with by a register, and what it gives to globals. Then come three for each logic cell:
-- its table's, its flip-flop's and its carry's.
abbrev pub port_number : ℕ → ℕ
port_number k = 2 + 5 * k

abbrev pub input_number : ℕ → ℕ
input_number k = 3 + 5 * k

abbrev pub given_number : ℕ → ℕ
given_number k = 4 + 5 * k

abbrev pub kept_number : ℕ → ℕ
kept_number k = 5 + 5 * k

abbrev pub level_number : ℕ → ℕ
level_number k = 6 + 5 * k

-- the number of a cell among all
abbrev pub cell_place : Parts → TileAt → ℕ → ℕ
cell_place parts t i = 8 * unwrap_or (tile_place t (logic_tiles parts)) 0 + i

abbrev pub cell_number : Parts → List Pad → TileAt → ℕ → ℕ
cell_number parts bonded t i = 2 + 5 * length bonded + 3 * cell_place parts t i

-- the signal of a root
abbrev pub root_number : Parts → List Pad → LevelRoot → ℕ
root_number parts bonded (Fixed level) = if level then 1 else 0
root_number parts bonded (Input k) = input_number k
root_number parts bonded (Taken k) = input_number k
root_number parts bonded (Given k) = given_number k
root_number parts bonded (Kept k) = kept_number k
root_number parts bonded (Level k) = level_number k
root_number parts bonded (Table t i) = cell_number parts bonded t i
root_number parts bonded (Register t i) = cell_number parts bonded t i + 1
root_number parts bonded (Sum t i) = cell_number parts bonded t i + 2

abbrev pub signal : ℕ → SignalNo
signal n = record { 0 = n }

-- what reads a root: an input at which a level stands that it would read if it were missing is missing
abbrev pub reader_of : Parts → List Pad → Bool → LevelRoot → Option SignalNo
reader_of parts bonded true (Fixed true) = None
reader_of parts bonded true (Fixed false) = Some (signal 0)
reader_of parts bonded false (Fixed true) = Some (signal 1)
reader_of parts bonded false (Fixed false) = None
reader_of parts bonded bare (Input k) = Some (signal (root_number parts bonded (Input k)))
reader_of parts bonded bare (Taken k) = Some (signal (root_number parts bonded (Taken k)))
reader_of parts bonded bare (Given k) = Some (signal (root_number parts bonded (Given k)))
reader_of parts bonded bare (Kept k) = Some (signal (root_number parts bonded (Kept k)))
reader_of parts bonded bare (Level k) = Some (signal (root_number parts bonded (Level k)))
reader_of parts bonded bare (Table t i) = Some (signal (root_number parts bonded (Table t i)))
reader_of parts bonded bare (Register t i) = Some (signal (root_number parts bonded (Register t i)))
reader_of parts bonded bare (Sum t i) = Some (signal (root_number parts bonded (Sum t i)))

-- ---- names
-- `p_PIN` is a pad's port, and `in_PIN` what it gives to its wire; `h_PIN_in` is what it gives to its register, `h_PIN_out` what it is
-- driven with by a register, and `g_PIN` what it gives to globals
abbrev pub pin_names : List ℕ → List (List ℕ)
pin_names pin = (codes "p_" ++ pin) ∷ (codes "in_" ++ pin) ∷ (codes "h_" ++ pin ++ codes "_in") ∷ (codes "h_" ++ pin ++ codes "_out") ∷ (codes "g_" ++ pin) ∷ []

abbrev pub pad_names : PackageRows → Pad → List (List ℕ)
pad_names package_rows pad = pin_names (first_pin package_rows pad)

-- what stands at a cell: `x5_y7_lut_3` is the table of cell 3 in column 5 and row 7
abbrev pub cell_name : List ℕ → TileAt × ℕ → List ℕ
cell_name what c = codes "x" ++ decimal c.0.x ++ codes "_y" ++ decimal c.0.y ++ what ++ decimal c.1

abbrev pub cell_names : TileAt × ℕ → List (List ℕ)
cell_names c = cell_name (codes "_lut_") c ∷ cell_name (codes "_dff_") c ∷ cell_name (codes "_carry_") c ∷ []

abbrev pub back_names : Parts → PackageRows → List (List ℕ)
back_names parts package_rows = codes "zero" ∷ codes "one" ∷ (flat_map (pad_names package_rows) package_rows.pads ++ flat_map cell_names (cells parts))
