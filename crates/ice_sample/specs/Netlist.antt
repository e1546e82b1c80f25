-- The sample netlist: its lines, from a number and how many cells it has.
use Rattle.std.specs.Prelude.{ℕ, zero, suc, ◌+◌, ◌-◌, ◌*◌, ◌%◌, ◌==◌, min, nat_lt, Bool, if◌then◌else◌, List, [], ◌∷◌, ◌++◌, map, length, slice_get, unwrap_or, codes, decimal}
use Rattle.std.specs.List.{flat_map, range_with_len}
use Rattle.ice_base.specs.Lines.{text_of_lines}
use Rattle.rand_core.specs.Pcg32Seed.{pcg32_seed}
use Rattle.rand_pcg.specs.Lcg.{Lcg}
use Rattle.rand_pcg.specs.Pcg.{pcg32, pcg32_of_seed}
use Rattle.ice_sample.specs.Lines.{binary}

-- the generator of words that a number gives
unfoldable pub started_at : ℕ → Lcg
started_at number = pcg32_of_seed (pcg32_seed 16 number)

-- the next word of a generator, and the generator after it
unfoldable pub drawn : Lcg → ℕ × Lcg
drawn g = pcg32 g

-- the generator after so many words
abbrev pub after : ℕ → Lcg → Lcg
after zero g = g
after (suc n) g = (drawn (after n g)).1

-- the word that comes after so many others
abbrev pub word : ℕ → Lcg → ℕ
word n g = (drawn (after n g)).0

-- the cell of a number has a flip-flop: every fourth one has
abbrev pub has_flip_flop : ℕ → Bool
has_flip_flop k = k % 4 == 3

abbrev pub input_name : ℕ → List ℕ
input_name j = codes "i" ++ decimal j

-- what cells may read of the cell of a number: its flip-flop's output if it has one, else its table's
unfoldable pub cell_name : ℕ → List ℕ
cell_name k = if has_flip_flop k then codes "q" ++ decimal k else codes "n" ++ decimal k

-- what may be read where there are so many cells: the eight inputs, and then what each cell gives
unfoldable pub names : ℕ → List (List ℕ)
names cells = map input_name (range_with_len 0 8) ++ map cell_name (range_with_len 0 cells)

-- the name at a place among those that may be read
unfoldable pub name_at : ℕ → List ℕ
name_at p = if nat_lt p 8 then input_name p else cell_name (p - 8)

-- the name at a place of a list, if there is one
abbrev pub found : List (List ℕ) → ℕ → List ℕ
found list p = unwrap_or (slice_get list p) []

-- the name that a word picks among the last 16 names, the last one for 0
unfoldable pub picked : List (List ℕ) → ℕ → List ℕ
picked list word = found list (length list - 1 - word % min (length list) 16)

-- the inputs of a cell's table, by what they read
abbrev pub input_words : List ℕ → List ℕ → List ℕ → List ℕ → List ℕ
input_words a b c d = codes " I0=" ++ a ++ codes " I1=" ++ b ++ codes " I2=" ++ c ++ codes " I3=" ++ d

-- the inputs of a cell: each reads what a word picks among the names before the cell
abbrev pub drawn_inputs : ℕ → Lcg → List ℕ
drawn_inputs k g = input_words (picked (names k) (word 0 g)) (picked (names k) (word 1 g)) (picked (names k) (word 2 g)) (picked (names k) (word 3 g))

-- the table of a cell of a number, from what its inputs read
abbrev pub gate_line : ℕ → List ℕ → List ℕ
gate_line k inputs = codes ".gate SB_LUT4" ++ inputs ++ (codes " O=n" ++ decimal k)

-- what a table holds: the lowest 16 bits of a word
abbrev pub table_line : ℕ → List ℕ
table_line w = codes ".param LUT_INIT " ++ binary 16 w

abbrev pub flip_flop_line : ℕ → List ℕ
flip_flop_line k = codes ".gate SB_DFF C=clk_g D=n" ++ decimal k ++ (codes " Q=q" ++ decimal k)

-- the flip-flop of a cell of a number, if it has one
abbrev pub flip_flop_lines : ℕ → List (List ℕ)
flip_flop_lines k = if has_flip_flop k then flip_flop_line k ∷ [] else []

-- the cell of a number, from a generator: four words pick what its inputs read, and a fifth has the table
unfoldable pub cell_lines : ℕ → Lcg → List (List ℕ)
cell_lines k g = gate_line k (drawn_inputs k g) ∷ table_line (word 4 g) ∷ flip_flop_lines k

-- each output is one of the last eight names
abbrev pub output_lines : List (List ℕ) → ℕ → List (List ℕ)
output_lines list j = (codes ".names " ++ found list (length list - 8 + j) ++ (codes " o" ++ decimal j)) ∷ codes "1 1" ∷ []

-- the model's name, its ports, and the clock's global buffer
unfoldable pub head_lines : List (List ℕ)
head_lines =
    codes ".model sample" ∷ codes ".inputs clk i0 i1 i2 i3 i4 i5 i6 i7" ∷ codes ".outputs o0 o1 o2 o3 o4 o5 o6 o7"
    ∷ codes ".gate SB_GB USER_SIGNAL_TO_GLOBAL_BUFFER=clk GLOBAL_BUFFER_OUTPUT=clk_g" ∷ []

-- the cells of numbers below `cells`, each of which draws five words
unfoldable pub all_cell_lines : Lcg → ℕ → List (List ℕ)
all_cell_lines g cells = flat_map (λ k. cell_lines k (after (5 * k) g)) (range_with_len 0 cells)

unfoldable pub all_output_lines : List (List ℕ) → List (List ℕ)
all_output_lines list = flat_map (output_lines list) (range_with_len 0 8)

-- the lines of the sample netlist of this number and so many cells
abbrev pub sample_net_lines : ℕ → ℕ → List (List ℕ)
sample_net_lines number cells =
    head_lines ++ all_cell_lines (started_at number) cells ++ all_output_lines (names cells) ++ codes ".end" ∷ []

-- the text of the sample netlist of this number and so many cells
abbrev pub sample_net_text : ℕ → ℕ → List ℕ
sample_net_text number cells = text_of_lines (sample_net_lines number cells)
