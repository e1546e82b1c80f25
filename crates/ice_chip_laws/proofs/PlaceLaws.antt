-- The function at a place of the tiles of a kind.
use Rattle.std.proofs.Common.{◌≡◌, ℕ, ◌+◌, ◌<◌, Bool, true, Option, None, Some, List, length, slice_get, refl, sym, ap, subst, ◌∙◌, true≢false, inl, inr, arith}
use Rattle.std.specs.Prelude.{◌&&◌, ◌||◌, ◌==◌, bytes_eq, codes}
use Rattle.std.specs.List.{list_all, list_any, range_with_len}
use Rattle.std.specs.Option.{option_and_then}
use Rattle.std.proofs.lemmas.Bool.{and_parts, or_cases}
use Rattle.std.proofs.lemmas.List.FromFn.{length-range_with_len, get_or-range_with_len}
use Rattle.std.proofs.lemmas.Option.{none-some, slice_get_within, slice_get-get_or}
use Rattle.ice_base.specs.declared.number.TileAt.{TileAt}
use Rattle.ice_base.specs.declared.bit.BitAt.{BitAt}
use Rattle.ice_chip.specs.Database.{Parts, FunctionRow}
use Rattle.ice_chip.specs.FirstLacking.{LacksFunctionIsFirst}
use Rattle.ice_chip.specs.Functions.{is_read, is_logic_cell, is_column_buffer, is_first_pin_type, is_second_pin_type, is_pad_enable, is_ram_function}
use Rattle.ice_chip.specs.IsRead.{IsChip}
use Rattle.ice_chip.specs.LacksFunction.{bits_needed}
use Rattle.ice_chip.specs.Lookups.{kind_at, function_of}
use Rattle.ice_chip.specs.declared.rows.TileKind.{TileKind}
use Rattle.ice_chip.specs.declared.rows.TileKind.TheVariants.{Io, Logic, RamBottom, RamTop}
use Rattle.ice_chip_laws.specs.Bits.{function_place, IsReadAt, read_bits, is_there, function_at}
use Rattle.ice_base_values.specs.Order.{Has}
use Rattle.ice_chip_laws.proofs.FunctionLaws.{size_of}
use Rattle.ice_base_values.proofs.Members.{find_Has, Has_find, all_Has, any_Has}
use Rattle.ice_chip_laws.proofs.NameTests.{passes, enables_pass, cells, buffers, first_types, second_types, modes, in_set}
use Rattle.ice_base.proofs.Keys.{nat_same, nat_self, bytes_same}

-- ---- the bits that are read are listed
abbrev is_bit : List ℕ → ℕ → List ℕ × ℕ → Bool
is_bit name k bit = bytes_eq bit.0 name && (bit.1 == k)

abbrev is_listed : TileKind → List ℕ → ℕ → Bool
is_listed kind name k = list_any (is_bit name k) (read_bits kind)

abbrev are_listed : TileKind → List ℕ → Bool
are_listed kind name = list_all (is_listed kind name) (range_with_len 0 (bits_needed name))

buffers_listed : (kind : TileKind) (name : List ℕ) → is_column_buffer name ≡ true → are_listed kind name ≡ true
buffers_listed Io name is = passes (are_listed Io) buffers name (omega arith) refl is
buffers_listed Logic name is = passes (are_listed Logic) buffers name (omega arith) refl is
buffers_listed RamBottom name is = passes (are_listed RamBottom) buffers name (omega arith) refl is
buffers_listed RamTop name is = passes (are_listed RamTop) buffers name (omega arith) refl is

pad_listed : (name : List ℕ) → (is_first_pin_type name || is_second_pin_type name || is_pad_enable name) ≡ true → are_listed Io name ≡ true
pad_listed name is = elim (or_cases (is_first_pin_type name || is_second_pin_type name) (is_pad_enable name) is) [
  | inr enable ↦ enables_pass (are_listed Io) name refl refl enable
  | inl types ↦ elim (or_cases (is_first_pin_type name) (is_second_pin_type name) types) [
    | inl first ↦ passes (are_listed Io) first_types name (omega arith) refl first
    | inr second ↦ passes (are_listed Io) second_types name (omega arith) refl second
  ]
]

logic_listed : (name : List ℕ) → (is_logic_cell name || bytes_eq name (codes "NegClk") || bytes_eq name (codes "CarryInSet")) ≡ true → are_listed Logic name ≡ true
logic_listed name is = elim (or_cases (is_logic_cell name || bytes_eq name (codes "NegClk")) (bytes_eq name (codes "CarryInSet")) is) [
  | inr carry ↦ ap (are_listed Logic) (bytes_same name (codes "CarryInSet") carry)
  | inl others ↦ elim (or_cases (is_logic_cell name) (bytes_eq name (codes "NegClk")) others) [
    | inl cell ↦ passes (are_listed Logic) cells name (omega arith) refl cell
    | inr edge ↦ ap (are_listed Logic) (bytes_same name (codes "NegClk") edge)
  ]
]

read_listed : (kind : TileKind) (name : List ℕ) → is_read kind name ≡ true → are_listed kind name ≡ true
read_listed Io name is = elim (or_cases (is_first_pin_type name || is_second_pin_type name || is_pad_enable name) (is_column_buffer name) is) [
  | inl own ↦ pad_listed name own
  | inr buffer ↦ buffers_listed Io name buffer
]
read_listed Logic name is = elim (or_cases (is_logic_cell name || bytes_eq name (codes "NegClk") || bytes_eq name (codes "CarryInSet")) (is_column_buffer name) is) [
  | inl own ↦ logic_listed name own
  | inr buffer ↦ buffers_listed Logic name buffer
]
read_listed RamBottom name is = elim (or_cases (is_ram_function RamBottom name) (is_column_buffer name) is) [
  | inr buffer ↦ buffers_listed RamBottom name buffer
  | inl own ↦ elim (or_cases (bytes_eq name (codes "NegClk")) (bytes_eq name (codes "RamConfig.PowerUp")) own) [
    | inl edge ↦ ap (are_listed RamBottom) (bytes_same name (codes "NegClk") edge)
    | inr power ↦ ap (are_listed RamBottom) (bytes_same name (codes "RamConfig.PowerUp") power)
  ]
]
read_listed RamTop name is = elim (or_cases (is_ram_function RamTop name) (is_column_buffer name) is) [
  | inr buffer ↦ buffers_listed RamTop name buffer
  | inl own ↦ elim (or_cases (bytes_eq name (codes "NegClk")) (in_set modes name) own) [
    | inl edge ↦ ap (are_listed RamTop) (bytes_same name (codes "NegClk") edge)
    | inr mode ↦ passes (are_listed RamTop) modes name (omega arith) refl mode
  ]
]

in_range : (n k : ℕ) → k < n → Has (range_with_len 0 n) k
in_range n k lt =
    let long = length-range_with_len 0 n in
    let within : k < length (range_with_len 0 n) = omega arith in
    let first : 0 + k ≡ k = omega arith in
    (k, slice_get-get_or (range_with_len 0 n) k 0 within ∙ ap Some (get_or-range_with_len 0 n k 0 lt ∙ first))

pub bit_listed : (kind : TileKind) (name : List ℕ) (k : ℕ) → is_read kind name ≡ true → k < bits_needed name → Has (read_bits kind) (name, k)
bit_listed kind name k read lt =
    let listed = all_Has (is_listed kind name) (range_with_len 0 (bits_needed name)) k (read_listed kind name read) (in_range (bits_needed name) k lt) in
    let found = any_Has (is_bit name k) (read_bits kind) listed in
    let both = and_parts (bytes_eq found.0.0 name) (found.0.1 == k) found.2 in
    let same_name = bytes_same found.0.0 name both.0 in
    let same_number = nat_same found.0.1 k both.1 in
    subst (Has (read_bits kind)) (λ i. (same_name i, same_number i)) found.1

-- ---- the function at a place
bits_read : (kind : TileKind) → list_all (λ (bit : List ℕ × ℕ). is_read kind bit.0) (read_bits kind) ≡ true
bits_read Io = refl
bits_read Logic = refl
bits_read RamBottom = refl
bits_read RamTop = refl

place_is : (b : BitAt) (o : Option BitAt) → is_there b o ≡ true → o ≡ Some b
place_is b None e = absurd (true≢false (sym e))
place_is b (Some place) e =
    let both = and_parts (place.row == b.row) (place.col == b.col) e in
    let row = nat_same place.row b.row both.0 in
    let col = nat_same place.col b.col both.1 in
    ap Some (λ i. record { row = row i; col = col i })

there_self : (b : BitAt) (o : Option BitAt) → o ≡ Some b → is_there b o ≡ true
there_self b o e = ap (is_there b) e ∙ rw (nat_self b.row, nat_self b.col) refl

pub found_at : (parts : Parts) (kind : TileKind) (name : List ℕ) (k : ℕ) (b : BitAt) → function_at parts kind b ≡ Some (name, k) → IsReadAt parts kind name k b
found_at parts kind name k b e =
    let found = find_Has (λ (bit : List ℕ × ℕ). is_there b (function_place parts kind bit.0 bit.1)) (read_bits kind) (name, k) e in
    (all_Has (λ (bit : List ℕ × ℕ). is_read kind bit.0) (read_bits kind) (name, k) (bits_read kind) found.0, place_is b (function_place parts kind name k) found.1)

pub found_there : (parts : Parts) (kind : TileKind) (name : List ℕ) (k : ℕ) (b : BitAt)
    → ((one other : List ℕ) (i j : ℕ) (place : BitAt) → IsReadAt parts kind one i place → IsReadAt parts kind other j place → (one ≡ other) × (i ≡ j))
    → IsReadAt parts kind name k b → Has (read_bits kind) (name, k) → function_at parts kind b ≡ Some (name, k)
found_there parts kind name k b one_use is listed =
    let found = Has_find (λ (bit : List ℕ × ℕ). is_there b (function_place parts kind bit.0 bit.1)) (read_bits kind) (name, k) listed (there_self b (function_place parts kind name k) is.1) in
    let same = one_use found.0.0 name found.0.1 k b (found_at parts kind found.0.0 found.0.1 b found.1) is in
    found.1 ∙ ap Some (λ i. (same.0 i, same.1 i))

-- a bit that stands somewhere is one of the function's
pub number_below : (parts : Parts) → IsChip parts → LacksFunctionIsFirst → (t : TileAt) (kind : TileKind) (name : List ℕ) (k : ℕ) (b : BitAt) → kind_at parts t ≡ Some kind → IsReadAt parts kind name k b → k < bits_needed name
number_below parts chip lacks t kind name k b at (read, place) = by (function_of parts kind name) refl place
  where
    by : (o : Option FunctionRow) → function_of parts kind name ≡ o → option_and_then (λ (f : FunctionRow). slice_get f.bits k) o ≡ Some b → k < bits_needed name
    by None found e = absurd (none-some b e)
    by (Some f) found e =
        let within : k < length f.bits = slice_get_within f.bits k b e in
        subst (λ n. k < n) (size_of parts chip lacks t kind name f at read found) within
