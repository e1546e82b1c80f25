-- A RAM as its lines say it: what it is, its contents and its parameters.
use Rattle.std.specs.Prelude.{ℕ, ◌+◌, ◌-◌, ◌*◌, ◌/◌, ◌%◌, ◌==◌, ◌||◌, Bool, false, List, [], ◌∷◌, length, map, replicate, nat_lt, unwrap_or, slice_index_or, Option, Some, None, if◌then◌else◌, codes, bytes_eq}
use Rattle.std.specs.List.{range_with_len}
use Rattle.ice_base.specs.declared.number.SignalNo.{SignalNo}
use Rattle.ice_ram_words.specs.declared.kind.Edges.{Edges}
use Rattle.ice_ram_words.specs.Words.{row_of}
use Rattle.ice_blif.specs.Parameters.{bits_in}

-- a RAM as its lines say it
pub record RamData : Type 0 where
  -- the number of its line
  pub line : ℕ
  pub edges : Edges
  -- the signals at its sixty inputs and then its sixteen outputs
  pub signals : List (Option SignalNo)
  pub read_mode : ℕ
  pub write_mode : ℕ
  -- its 256 words, each with its lowest bit first
  pub words : List (List Bool)

-- the word of a line that makes a gate
abbrev pub is_gate : List ℕ → Bool
is_gate word = bytes_eq word (codes ".gate") || bytes_eq word (codes ".subckt")

-- ---- contents
-- bit n of contents: the last digit is bit 0 (49 is `1`), and a digit that is missing is 0
abbrev pub digit_at : List ℕ → ℕ → Bool
digit_at digits n = if nat_lt n (length digits) then slice_index_or digits (length digits - 1 - n) 0 == 49 else false

-- word i by the contents of its row of sixteen words
unfoldable pub row_word : List ℕ → ℕ → List Bool
row_word digits i = map (λ k. digit_at digits (16 * (i % 16) + k)) (range_with_len 0 16)

abbrev pub new_word : List (List Bool) → ℕ → List ℕ → ℕ → List Bool
new_word words row digits i = if i / 16 == row then row_word digits i else slice_index_or words i []

-- the words after a row has these contents
unfoldable pub with_row : List (List Bool) → ℕ → List ℕ → List (List Bool)
with_row words row digits = map (new_word words row digits) (range_with_len 0 256)

-- all bits are 0
unfoldable pub no_words : List (List Bool)
no_words = replicate 256 (replicate 16 false)

-- a RAM before its parameters
abbrev pub new_ram : ℕ → Edges → List (Option SignalNo) → RamData
new_ram line edges signals = record { line = line; edges = edges; signals = signals; read_mode = 0; write_mode = 0; words = no_words }

-- ---- parameters
abbrev pub mode_of : List ℕ → ℕ
mode_of value = unwrap_or (bits_in 4 value) 0

abbrev pub mode_said : RamData → List ℕ → List ℕ → RamData
mode_said ram name value =
    if bytes_eq name (codes "READ_MODE") then record ram { read_mode = mode_of value }
    else (if bytes_eq name (codes "WRITE_MODE") then record ram { write_mode = mode_of value }
    else ram)

abbrev pub value_said : RamData → List ℕ → List ℕ → Option ℕ → RamData
value_said ram name value None = mode_said ram name value
value_said ram name value (Some row) = record ram { words = with_row ram.words row value }

-- a RAM with the parameter of a line
abbrev pub param_said : RamData → List (List ℕ) → RamData
param_said ram [] = ram
param_said ram (name ∷ []) = ram
param_said ram (name ∷ value ∷ ws) = value_said ram name value (row_of name)
