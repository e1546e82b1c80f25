-- The names of functions and wires: a maker of each, and readers of the number in a name, which is one digit long.
use Rattle.std.specs.Prelude.{ℕ, ◌+◌, ◌-◌, ◌%◌, ◌==◌, ◌&&◌, Option, None, Some, List, [], ◌∷◌, nat_le, nat_lt, if◌then◌else◌, Bool, is_some, codes, ◌++◌, ◌||◌}
use Rattle.std.specs.Option.{option_and_then}
use Rattle.ice_base.specs.Text.{number_in}

-- the digit of a number, and of a larger one its last digit: 48 is `0`
abbrev pub digit : ℕ → ℕ
digit n = 48 + n % 10

-- the number of a digit that is below the limit
abbrev pub number_of_digit : ℕ → ℕ → Option ℕ
number_of_digit limit d = if nat_le 48 d && nat_lt (d - 48) limit then Some (d - 48) else None

-- the number of a text of one digit
abbrev pub lone_number : ℕ → List ℕ → Option ℕ
lone_number limit (d ∷ []) = number_of_digit limit d
lone_number limit name = None

-- what stands behind a prefix
abbrev pub behind : List ℕ → List ℕ → Option (List ℕ)
behind [] name = Some name
behind (p ∷ prefix) [] = None
behind (p ∷ prefix) (c ∷ name) = if c == p then behind prefix name else None

-- the number below the limit of which a name is made: the prefix and its digit
abbrev pub number_behind : ℕ → List ℕ → List ℕ → Option ℕ
number_behind limit prefix name = option_and_then (lone_number limit) (behind prefix name)

-- the name of a global in a tile, `glb_netwk_N`
abbrev pub is_global_name : List ℕ → Bool
is_global_name name = is_some (number_behind 8 (codes "glb_netwk_") name)

-- the pin of a logic cell that `lutff_I/PIN` names, where I is from 0 to 7, or no byte: 48 is `0`, 55 is `7`
abbrev pub cell_pin : List ℕ → List ℕ
cell_pin (a ∷ b ∷ c ∷ d ∷ e ∷ f ∷ i ∷ g ∷ pin) =
    if (a == 108) && (b == 117) && (c == 116) && (d == 102) && (e == 102) && (f == 95) && nat_le 48 i && nat_le i 55 && (g == 47) then pin else []
cell_pin other = []

-- ---- cells
-- `lutff_I/in_J`
abbrev pub input_name : ℕ → ℕ → List ℕ
input_name cell input = codes "lutff_" ++ digit cell ∷ (codes "/in_" ++ digit input ∷ [])

-- ---- pads
-- `io_P/D_IN_0`, `io_P/D_OUT_0` and `io_P/OUT_ENB`
abbrev pub pad_input_name : ℕ → List ℕ
pad_input_name pio = codes "io_" ++ digit pio ∷ codes "/D_IN_0"

abbrev pub pad_output_name : ℕ → List ℕ
pad_output_name pio = codes "io_" ++ digit pio ∷ codes "/D_OUT_0"

abbrev pub output_enable_name : ℕ → List ℕ
output_enable_name pio = codes "io_" ++ digit pio ∷ codes "/OUT_ENB"

-- what the registers of both pads of a tile share: the clock of those that take what pads give, the clock of those that pads are driven
-- with, and the enable of both
abbrev pub input_clock_name : List ℕ
input_clock_name = codes "io_global/inclk"

abbrev pub output_clock_name : List ℕ
output_clock_name = codes "io_global/outclk"

abbrev pub in_out_enable_name : List ℕ
in_out_enable_name = codes "io_global/cen"

-- ---- functions
-- `LC_I`, the 20 bits of a cell
abbrev pub cell_function : ℕ → List ℕ
cell_function cell = codes "LC_" ++ digit cell ∷ []

-- the clock's edge
abbrev pub falling_clock_function : List ℕ
falling_clock_function = codes "NegClk"

-- `IOB_P.PINTYPE_K`, a digit of a pad's pin type
abbrev pub pin_type_function : ℕ → ℕ → List ℕ
pin_type_function pio place = codes "IOB_" ++ digit pio ∷ (codes ".PINTYPE_" ++ digit place ∷ [])

-- `IoCtrl.IE_P`, a pad's input enable
abbrev pub input_enable_function : ℕ → List ℕ
input_enable_function pio = codes "IoCtrl.IE_" ++ digit pio ∷ []

-- `ColBufCtrl.glb_netwk_N`, the column buffer of a global
abbrev pub column_buffer_function : ℕ → List ℕ
column_buffer_function n = codes "ColBufCtrl.glb_netwk_" ++ digit n ∷ []

-- ---- pads that feed globals
-- the number behind a dot, 46, or an underscore, 95
abbrev pub separated_number : List ℕ → Option ℕ
separated_number [] = None
separated_number (separator ∷ digits) = if (separator == 46) || (separator == 95) then number_in digits else None

-- the number of the global that `padin_glb_netwk.N` or `padin_glb_netwk_N` names
abbrev pub padin_global : List ℕ → Option ℕ
padin_global name = option_and_then separated_number (behind (codes "padin_glb_netwk") name)
