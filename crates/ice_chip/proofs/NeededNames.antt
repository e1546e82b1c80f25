-- A kind has all functions that it needs exactly where it has one of each name that it needs.
use Rattle.std.proofs.Common.{◌≡◌, ℕ, ◌<◌, ◌≤◌, Bool, true, false, not, List, [], ◌∷◌, ◌++◌, refl, sym, ap, ◌∙◌, true≢false, inl, inr, arith, ◌&&◌, ◌||◌, codes, bytes_eq, is_some}
use Rattle.ice_chip.specs.Database.{FunctionRow}
use Rattle.ice_chip.specs.Names.{digit, number_behind, cell_function, falling_clock_function, pin_type_function, input_enable_function, column_buffer_function}
use Rattle.ice_chip.specs.FunctionNames.{carry_set_function, pull_up_function}
use Rattle.ice_chip.specs.FirstLacking.{needs_buffers, is_needed}
use Rattle.ice_chip.specs.Functions.{is_read, is_column_buffer, is_logic_cell, is_first_pin_type, is_second_pin_type, is_pad_enable, is_ram_function}
use Rattle.ice_chip.specs.LacksFunction.{has_function, has_each, has_needed, has_logic, has_pin_types, has_pad_enables, has_column_buffers}
use Rattle.ice_chip.specs.declared.rows.TileKind.{TileKind}
use Rattle.ice_chip.specs.declared.rows.TileKind.TheVariants.{Io, Logic, RamBottom, RamTop}
use Rattle.ice_chip.proofs.EachNumber.{has_one, lacking_number}
use Rattle.std.proofs.lemmas.Bool.{or_cases, and_parts, and_cases}
use Rattle.ice_base.proofs.Booleans.{and_true, or_true, implied, not_implied}
use Rattle.ice_base.proofs.Keys.{bytes_same}
use Rattle.ice_chip_names.proofs.Prefixes.{number_behind_read, set_number}

-- a name that passes a test and that the kind has no function of
pub record Missing (kind : TileKind) (fs : List FunctionRow) (test : List ℕ → Bool) : Type 0 where
  pub name : List ℕ
  pub passes : test name ≡ true
  pub lacking : has_function kind name fs ≡ false

-- the names that are read, of no block RAM and of no column buffer
abbrev is_own : TileKind → List ℕ → Bool
is_own Io name = is_first_pin_type name || is_second_pin_type name || is_pad_enable name
is_own Logic name = is_logic_cell name || bytes_eq name (codes "NegClk") || bytes_eq name (codes "CarryInSet")
is_own RamBottom name = false
is_own RamTop name = false

abbrev has_own : TileKind → List FunctionRow → Bool
has_own Io fs = has_pin_types fs && has_pad_enables fs
has_own Logic fs = has_logic fs
has_own RamBottom fs = true
has_own RamTop fs = true

-- what is read is of a block RAM, or else one of these, or of a column buffer
reads_own : (kind : TileKind) (name : List ℕ) → is_ram_function kind name ≡ false → is_read kind name ≡ (is_own kind name || is_column_buffer name)
reads_own Io name none = refl
reads_own Logic name none = refl
reads_own RamBottom name none = ap (λ b. b || is_column_buffer name) none
reads_own RamTop name none = ap (λ b. b || is_column_buffer name) none

not_so : (b : Bool) → not b ≡ true → b ≡ false
not_so true e = sym e
not_so false e = refl

-- a name of a column buffer, which has another first byte, is of no block RAM
no_ram_buffer : (kind : TileKind) (n : ℕ) → is_ram_function kind (column_buffer_function n) ≡ false
no_ram_buffer Io n = refl
no_ram_buffer Logic n = refl
no_ram_buffer RamBottom n = refl
no_ram_buffer RamTop n = refl

needs_own : (is_source : Bool) (kind : TileKind) (fs : List FunctionRow) → has_needed is_source kind fs ≡ (has_own kind fs && (not (needs_buffers is_source kind) || has_column_buffers kind fs))
needs_own is_source Io fs = sym (and_true (has_own Io fs))
needs_own is_source Logic fs = refl
needs_own is_source RamBottom fs = refl
needs_own is_source RamTop fs = refl

-- ---- what is there
-- a name of a set of numbered names
there : (kind : TileKind) (fs : List FunctionRow) (made : ℕ → List ℕ) (limit : ℕ) (prefix name : List ℕ) → limit ≤ 10 → ((n : ℕ) → prefix ++ digit n ∷ [] ≡ made n)
    → has_each kind made limit fs ≡ true → is_some (number_behind limit prefix name) ≡ true → has_function kind name fs ≡ true
there kind fs made limit prefix name le made_is all is =
    let number = set_number limit prefix name le is in
    ap (λ k. has_function kind k fs) (number.2 ∙ made_is number.0) ∙ has_one kind made number.0 limit fs number.1 all

own_there : (kind : TileKind) (fs : List FunctionRow) (name : List ℕ) → has_own kind fs ≡ true → is_own kind name ≡ true → has_function kind name fs ≡ true
own_there Io fs name all is =
    let has = and_parts (has_pin_types fs) (has_pad_enables fs) all in
    let types = and_parts (has_each Io (pin_type_function 0) 6 fs) (has_each Io (pin_type_function 1) 6 fs) has.0 in
    let enables = and_parts (has_each Io input_enable_function 2 fs) (has_each Io pull_up_function 2 fs) has.1 in
    elim (or_cases (is_first_pin_type name || is_second_pin_type name) (is_pad_enable name) is) [
      | inl typed ↦ elim (or_cases (is_first_pin_type name) (is_second_pin_type name) typed) [
        | inl first ↦ there Io fs (pin_type_function 0) 6 (codes "IOB_0.PINTYPE_") name (omega arith) (λ n. refl) types.0 first
        | inr second ↦ there Io fs (pin_type_function 1) 6 (codes "IOB_1.PINTYPE_") name (omega arith) (λ n. refl) types.1 second
      ]
      | inr enable ↦ elim (or_cases (is_some (number_behind 2 (codes "IoCtrl.IE_") name)) (is_some (number_behind 2 (codes "IoCtrl.REN_") name)) enable) [
        | inl input ↦ there Io fs input_enable_function 2 (codes "IoCtrl.IE_") name (omega arith) (λ n. refl) enables.0 input
        | inr pull_up ↦ there Io fs pull_up_function 2 (codes "IoCtrl.REN_") name (omega arith) (λ n. refl) enables.1 pull_up
      ]
    ]
own_there Logic fs name all is =
    let last = and_parts (has_each Logic cell_function 8 fs && has_function Logic falling_clock_function fs) (has_function Logic carry_set_function fs) all in
    let first = and_parts (has_each Logic cell_function 8 fs) (has_function Logic falling_clock_function fs) last.0 in
    elim (or_cases (is_logic_cell name || bytes_eq name (codes "NegClk")) (bytes_eq name (codes "CarryInSet")) is) [
      | inr carry ↦ ap (λ k. has_function Logic k fs) (bytes_same name (codes "CarryInSet") carry) ∙ last.1
      | inl others ↦ elim (or_cases (is_logic_cell name) (bytes_eq name (codes "NegClk")) others) [
        | inl cell ↦ there Logic fs cell_function 8 (codes "LC_") name (omega arith) (λ n. refl) first.0 cell
        | inr edge ↦ ap (λ k. has_function Logic k fs) (bytes_same name (codes "NegClk") edge) ∙ first.1
      ]
    ]
own_there RamBottom fs name all is = absurd (true≢false (sym is))
own_there RamTop fs name all is = absurd (true≢false (sym is))

buffer_there : (kind : TileKind) (fs : List FunctionRow) (name : List ℕ) → has_column_buffers kind fs ≡ true → is_column_buffer name ≡ true → has_function kind name fs ≡ true
buffer_there kind fs name all is = there kind fs column_buffer_function 8 (codes "ColBufCtrl.glb_netwk_") name (omega arith) (λ n. refl) all is

pub has_what_it_needs : (is_source : Bool) (kind : TileKind) (fs : List FunctionRow) (name : List ℕ) → has_needed is_source kind fs ≡ true → is_needed is_source kind name ≡ true → has_function kind name fs ≡ true
has_what_it_needs is_source kind fs name all needed =
    let has = and_parts (has_own kind fs) (not (needs_buffers is_source kind) || has_column_buffers kind fs) (sym (needs_own is_source kind fs) ∙ all) in
    let asked = and_parts (is_read kind name && not (is_ram_function kind name)) (not (is_column_buffer name) || needs_buffers is_source kind) needed in
    let read = and_parts (is_read kind name) (not (is_ram_function kind name)) asked.0 in
    elim (or_cases (is_own kind name) (is_column_buffer name) (sym (reads_own kind name (not_so (is_ram_function kind name) read.1)) ∙ read.0)) [
      | inl own ↦ own_there kind fs name has.0 own
      | inr buffer ↦ buffer_there kind fs name (implied (needs_buffers is_source kind) (has_column_buffers kind fs) has.1 (implied (is_column_buffer name) (needs_buffers is_source kind) asked.1 buffer)) buffer
    ]

-- ---- what is lacking
-- a number of a set of names
of_set : (kind : TileKind) (fs : List FunctionRow) (made : ℕ → List ℕ) (limit : ℕ) (test : List ℕ → Bool) → ((n : ℕ) → n < limit → test (made n) ≡ true) → has_each kind made limit fs ≡ false → Missing kind fs test
of_set kind fs made limit test passes none = let found = lacking_number kind made limit fs none in record { name = made found.0; passes = passes found.0 found.1; lacking = found.2 }

-- a name that is read in the kind and is no column buffer
abbrev is_apart : TileKind → List ℕ → Bool
is_apart kind name = is_own kind name && not (is_column_buffer name)

read_so : (limit : ℕ) (prefix : List ℕ) (n : ℕ) → n < limit → limit ≤ 10 → is_some (number_behind limit prefix (prefix ++ digit n ∷ [])) ≡ true
read_so limit prefix n lt le = ap is_some (number_behind_read limit prefix n lt le)

first_apart : (n : ℕ) → n < 6 → is_apart Io (pin_type_function 0 n) ≡ true
first_apart n lt = ap (λ b. (b || is_second_pin_type (pin_type_function 0 n) || is_pad_enable (pin_type_function 0 n)) && true) (read_so 6 (codes "IOB_0.PINTYPE_") n lt (omega arith))

second_apart : (n : ℕ) → n < 6 → is_apart Io (pin_type_function 1 n) ≡ true
second_apart n lt = ap (λ b. (b || is_pad_enable (pin_type_function 1 n)) && true) (read_so 6 (codes "IOB_1.PINTYPE_") n lt (omega arith))

input_apart : (n : ℕ) → n < 2 → is_apart Io (input_enable_function n) ≡ true
input_apart n lt = ap (λ b. (b || is_some (number_behind 2 (codes "IoCtrl.REN_") (input_enable_function n))) && true) (read_so 2 (codes "IoCtrl.IE_") n lt (omega arith))

pull_up_apart : (n : ℕ) → n < 2 → is_apart Io (pull_up_function n) ≡ true
pull_up_apart n lt = ap (λ b. b && true) (read_so 2 (codes "IoCtrl.REN_") n lt (omega arith))

cell_apart : (n : ℕ) → n < 8 → is_apart Logic (cell_function n) ≡ true
cell_apart n lt = ap (λ b. (b || bytes_eq (cell_function n) (codes "NegClk") || bytes_eq (cell_function n) (codes "CarryInSet")) && true) (read_so 8 (codes "LC_") n lt (omega arith))

own_lacking : (kind : TileKind) (fs : List FunctionRow) → has_own kind fs ≡ false → Missing kind fs (is_apart kind)
own_lacking Io fs none = elim (and_cases (has_pin_types fs) (has_pad_enables fs) none) [
  | inl types ↦ elim (and_cases (has_each Io (pin_type_function 0) 6 fs) (has_each Io (pin_type_function 1) 6 fs) types) [
    | inl first ↦ of_set Io fs (pin_type_function 0) 6 (is_apart Io) first_apart first
    | inr second ↦ of_set Io fs (pin_type_function 1) 6 (is_apart Io) second_apart second
  ]
  | inr enables ↦ elim (and_cases (has_each Io input_enable_function 2 fs) (has_each Io pull_up_function 2 fs) enables) [
    | inl input ↦ of_set Io fs input_enable_function 2 (is_apart Io) input_apart input
    | inr pull_up ↦ of_set Io fs pull_up_function 2 (is_apart Io) pull_up_apart pull_up
  ]
]
own_lacking Logic fs none = elim (and_cases (has_each Logic cell_function 8 fs && has_function Logic falling_clock_function fs) (has_function Logic carry_set_function fs) none) [
  | inr carry ↦ record { name = carry_set_function; passes = refl; lacking = carry }
  | inl others ↦ elim (and_cases (has_each Logic cell_function 8 fs) (has_function Logic falling_clock_function fs) others) [
    | inl cell ↦ of_set Logic fs cell_function 8 (is_apart Logic) cell_apart cell
    | inr edge ↦ record { name = falling_clock_function; passes = refl; lacking = edge }
  ]
]
own_lacking RamBottom fs none = absurd (true≢false none)
own_lacking RamTop fs none = absurd (true≢false none)

buffer_needed : (is_source : Bool) (kind : TileKind) → needs_buffers is_source kind ≡ true → (n : ℕ) → n < 8 → is_needed is_source kind (column_buffer_function n) ≡ true
buffer_needed is_source kind wanted n lt =
    let name = column_buffer_function n in
    let read : is_column_buffer name ≡ true = read_so 8 (codes "ColBufCtrl.glb_netwk_") n lt (omega arith) in
    ap (λ t. t && not (is_ram_function kind name) && (not (is_column_buffer name) || needs_buffers is_source kind))
    (reads_own kind name (no_ram_buffer kind n) ∙ ap (λ t. is_own kind name || t) read ∙ or_true (is_own kind name))
    ∙ ap (λ t. not t && (not (is_column_buffer name) || needs_buffers is_source kind)) (no_ram_buffer kind n)
    ∙ ap (λ t. not (is_column_buffer name) || t) wanted ∙ or_true (not (is_column_buffer name))

own_no_ram : (kind : TileKind) (name : List ℕ) → is_own kind name ≡ true → is_ram_function kind name ≡ false
own_no_ram Io name own = refl
own_no_ram Logic name own = refl
own_no_ram RamBottom name own = absurd (true≢false (sym own))
own_no_ram RamTop name own = absurd (true≢false (sym own))

own_needed : (is_source : Bool) (kind : TileKind) (name : List ℕ) → is_apart kind name ≡ true → is_needed is_source kind name ≡ true
own_needed is_source kind name apart =
    let parts = and_parts (is_own kind name) (not (is_column_buffer name)) apart in
    let none = own_no_ram kind name parts.0 in
    ap (λ t. t && not (is_ram_function kind name) && (not (is_column_buffer name) || needs_buffers is_source kind)) (reads_own kind name none ∙ ap (λ t. t || is_column_buffer name) parts.0)
    ∙ ap (λ t. not t && (not (is_column_buffer name) || needs_buffers is_source kind)) none
    ∙ ap (λ t. t || needs_buffers is_source kind) parts.1

pub lacks_what_it_needs : (is_source : Bool) (kind : TileKind) (fs : List FunctionRow) → has_needed is_source kind fs ≡ false → Missing kind fs (is_needed is_source kind)
lacks_what_it_needs is_source kind fs none = elim (and_cases (has_own kind fs) (not (needs_buffers is_source kind) || has_column_buffers kind fs) (sym (needs_own is_source kind fs) ∙ none)) [
  | inl no_own ↦ let m = own_lacking kind fs no_own in record { name = m.name; passes = own_needed is_source kind m.name m.passes; lacking = m.lacking }
  | inr no_buffers ↦
      let parted = not_implied (needs_buffers is_source kind) (has_column_buffers kind fs) no_buffers in
      of_set kind fs column_buffer_function 8 (is_needed is_source kind) (buffer_needed is_source kind parted.0) parted.1
]
