-- Names that pass a test which each name of a set passes.
use Rattle.std.proofs.Common.{◌≡◌, ℕ, ◌≤◌, Bool, true, false, List, [], ◌∷◌, ◌++◌, inl, inr, refl, ap, arith}
use Rattle.std.specs.Prelude.{◌&&◌, ◌||◌, ◌==◌, not, is_some, bytes_eq, codes}
use Rattle.std.proofs.lemmas.Bool.{or_cases, or_right, not-true}
use Rattle.ice_base.proofs.Keys.{bytes_same}
use Rattle.ice_chip.specs.Names.{digit, number_behind}
use Rattle.ice_chip.specs.Functions.{is_logic_cell, is_column_buffer, is_first_pin_type, is_second_pin_type, is_pad_enable, is_ram_function, is_read, is_foreign}
use Rattle.ice_chip.specs.LacksFunction.{bits_needed}
use Rattle.ice_chip.specs.declared.rows.TileKind.{TileKind}
use Rattle.ice_chip.specs.declared.rows.TileKind.TheVariants.{Io, Logic, RamBottom, RamTop}
use Rattle.ice_chip_names.proofs.Prefixes.{each_number, set_passes}

-- ---- sets of names: how many, and the prefix in front of the digit
abbrev pub NameSet : Type 0
NameSet = ℕ × List ℕ

abbrev pub in_set : NameSet → List ℕ → Bool
in_set set name = is_some (number_behind set.0 set.1 name)

abbrev pub each_of : (List ℕ → Bool) → NameSet → Bool
each_of test set = each_number (λ n. test (set.1 ++ digit n ∷ [])) set.0

-- a test that each name of a set passes
pub passes : (test : List ℕ → Bool) (set : NameSet) (name : List ℕ) → set.0 ≤ 10 → each_of test set ≡ true → in_set set name ≡ true → test name ≡ true
passes test set name = set_passes test set.0 set.1 name

-- ---- the names of functions
abbrev pub cells : NameSet
cells = (8, codes "LC_")

abbrev pub buffers : NameSet
buffers = (8, codes "ColBufCtrl.glb_netwk_")

abbrev pub first_types : NameSet
first_types = (6, codes "IOB_0.PINTYPE_")

abbrev pub second_types : NameSet
second_types = (6, codes "IOB_1.PINTYPE_")

abbrev pub input_enables : NameSet
input_enables = (2, codes "IoCtrl.IE_")

abbrev pub pull_ups : NameSet
pull_ups = (2, codes "IoCtrl.REN_")

abbrev pub modes : NameSet
modes = (4, codes "RamConfig.CBIT_")

-- the input enables and the pull-ups pass
pub enables_pass : (test : List ℕ → Bool) (name : List ℕ) → each_of test input_enables ≡ true → each_of test pull_ups ≡ true → is_pad_enable name ≡ true → test name ≡ true
enables_pass test name inputs ups is = elim (or_cases (in_set input_enables name) (in_set pull_ups name) is) [
  | inl input ↦ passes test input_enables name (omega arith) inputs input
  | inr up ↦ passes test pull_ups name (omega arith) ups up
]

-- the kind needs a function of the name, with so many bits
abbrev pub is_own : TileKind → ℕ → List ℕ → Bool
is_own kind count name = is_read kind name && (not (is_ram_function kind name) && (not (is_column_buffer name) && (bits_needed name == count)))

pub cell_own : (name : List ℕ) → is_logic_cell name ≡ true → is_own Logic 20 name ≡ true
cell_own name is = passes (is_own Logic 20) cells name (omega arith) refl is

pub first_type_own : (name : List ℕ) → is_first_pin_type name ≡ true → is_own Io 1 name ≡ true
first_type_own name is = passes (is_own Io 1) first_types name (omega arith) refl is

pub second_type_own : (name : List ℕ) → is_second_pin_type name ≡ true → is_own Io 1 name ≡ true
second_type_own name is = passes (is_own Io 1) second_types name (omega arith) refl is

pub enable_own : (name : List ℕ) → is_pad_enable name ≡ true → is_own Io 1 name ≡ true
enable_own name is = enables_pass (is_own Io 1) name refl refl is

-- a column buffer has one bit, and is read in every kind
pub buffer_is_one : (name : List ℕ) → is_column_buffer name ≡ true → (bits_needed name == 1) ≡ true
buffer_is_one name is = passes (λ n. bits_needed n == 1) buffers name (omega arith) refl is

pub buffer_is_read : (kind : TileKind) (name : List ℕ) → is_column_buffer name ≡ true → is_read kind name ≡ true
buffer_is_read Io name is = passes (is_read Io) buffers name (omega arith) refl is
buffer_is_read Logic name is = passes (is_read Logic) buffers name (omega arith) refl is
buffer_is_read RamBottom name is = or_right (is_ram_function RamBottom name) (is_column_buffer name) is
buffer_is_read RamTop name is = or_right (is_ram_function RamTop name) (is_column_buffer name) is

-- and is of no block RAM
pub buffer_not_ram : (kind : TileKind) (name : List ℕ) → is_column_buffer name ≡ true → not (is_ram_function kind name) ≡ true
buffer_not_ram Io name is = refl
buffer_not_ram Logic name is = refl
buffer_not_ram RamBottom name is = passes (λ n. not (is_ram_function RamBottom n)) buffers name (omega arith) refl is
buffer_not_ram RamTop name is = passes (λ n. not (is_ram_function RamTop n)) buffers name (omega arith) refl is

-- ---- no function that is read is of a PLL, a pair of pads or a cascade of block RAMs
abbrev is_not_foreign : TileKind → List ℕ → Bool
is_not_foreign kind name = not (is_foreign kind name)

not_foreign_in : (kind : TileKind) (set : NameSet) (name : List ℕ) → set.0 ≤ 10 → each_of (is_not_foreign kind) set ≡ true → in_set set name ≡ true → is_foreign kind name ≡ false
not_foreign_in kind set name le each one = not-true (is_foreign kind name) (passes (is_not_foreign kind) set name le each one)

pub read_not_foreign : (kind : TileKind) (name : List ℕ) → is_read kind name ≡ true → is_foreign kind name ≡ false
read_not_foreign Io name is =
    elim (or_cases (is_first_pin_type name || is_second_pin_type name || is_pad_enable name) (is_column_buffer name) is) [
      | inr buffer ↦ not_foreign_in Io buffers name (omega arith) refl buffer
      | inl own ↦ elim (or_cases (is_first_pin_type name || is_second_pin_type name) (is_pad_enable name) own) [
        | inr enable ↦ not-true (is_foreign Io name) (enables_pass (is_not_foreign Io) name refl refl enable)
        | inl types ↦ elim (or_cases (is_first_pin_type name) (is_second_pin_type name) types) [
          | inl first ↦ not_foreign_in Io first_types name (omega arith) refl first
          | inr second ↦ not_foreign_in Io second_types name (omega arith) refl second
        ]
      ]
    ]
read_not_foreign Logic name is = refl
read_not_foreign RamBottom name is = elim (or_cases (is_ram_function RamBottom name) (is_column_buffer name) is) [
  | inr buffer ↦ not_foreign_in RamBottom buffers name (omega arith) refl buffer
  | inl own ↦ elim (or_cases (bytes_eq name (codes "NegClk")) (bytes_eq name (codes "RamConfig.PowerUp")) own) [
    | inl edge ↦ ap (is_foreign RamBottom) (bytes_same name (codes "NegClk") edge)
    | inr power ↦ ap (is_foreign RamBottom) (bytes_same name (codes "RamConfig.PowerUp") power)
  ]
]
read_not_foreign RamTop name is = elim (or_cases (is_ram_function RamTop name) (is_column_buffer name) is) [
  | inr buffer ↦ not_foreign_in RamTop buffers name (omega arith) refl buffer
  | inl own ↦ elim (or_cases (bytes_eq name (codes "NegClk")) (in_set modes name) own) [
    | inl edge ↦ ap (is_foreign RamTop) (bytes_same name (codes "NegClk") edge)
    | inr mode ↦ not_foreign_in RamTop modes name (omega arith) refl mode
  ]
]
