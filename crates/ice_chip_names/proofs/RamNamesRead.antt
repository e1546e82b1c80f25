-- The names of the wires of a block RAM are read as these wires, and no other names are.
use Rattle.std.proofs.Common.{◌≡◌, ℕ, suc, ◌+◌, ◌<◌, ◌==◌, ◌&&◌, Bool, true, false, Option, None, Some, List, [], ◌∷◌, bytes_eq, cond, drop, length, slice_index_or, refl, sym, subst, true≢false, ap, ◌∙◌, arith}
use Rattle.std.proofs.lemmas.Bool.{and_parts}
use Rattle.ice_base.proofs.Keys.{bytes_same, nat_same}
use Rattle.ice_chip_names.specs.RamNames.{ram_names, ram_name, place_among, ram_number}
use Rattle.ice_chip_names.proofs.Prefixes.{each_number, number_passes}

-- ---- the first byte of each name is `r`, which is 114
abbrev all_begin : List (List ℕ) → Bool
all_begin [] = true
all_begin ([] ∷ names) = false
all_begin ((c ∷ name) ∷ names) = (c == 114) && all_begin names

begin_so : all_begin ram_names ≡ true
unfolding ram_names
begin_so = refl

flipped : (a : ℕ) → (a == 114) ≡ false → (114 == a) ≡ false
flipped a e = by (114 == a) refl
  where
    by : (b : Bool) → (114 == a) ≡ b → (114 == a) ≡ false
    by true is = absurd (true≢false (ap (λ k. k == 114) (nat_same 114 a is) ∙ e))
    by false is = is

-- a name that begins with another byte is none of these
none_among : (a : ℕ) (rest : List ℕ) (k : ℕ) (names : List (List ℕ)) → (a == 114) ≡ false → all_begin names ≡ true → place_among (a ∷ rest) k names ≡ None
none_among a rest k [] other all = refl
none_among a rest k ([] ∷ names) other all = absurd (true≢false (sym all))
none_among a rest k ((c ∷ name) ∷ names) other all =
    let both = and_parts (c == 114) (all_begin names) all in
    subst (λ d. place_among (a ∷ rest) k ((d ∷ name) ∷ names) ≡ None) (sym (nat_same c 114 both.0)) (rw (flipped a other) (none_among a rest (k + 1) names other both.1))

none_empty : (k : ℕ) (names : List (List ℕ)) → all_begin names ≡ true → place_among [] k names ≡ None
none_empty k [] all = refl
none_empty k ([] ∷ names) all = absurd (true≢false (sym all))
none_empty k ((c ∷ name) ∷ names) all = none_empty (k + 1) names (and_parts (c == 114) (all_begin names) all).1

pub no_empty_name : ram_number [] ≡ None
no_empty_name = none_empty 0 ram_names begin_so

pub no_ram_name : (a : ℕ) (rest : List ℕ) → (a == 114) ≡ false → ram_number (a ∷ rest) ≡ None
no_ram_name a rest other = none_among a rest 0 ram_names other begin_so

-- ---- each name is read
abbrev is_number : ℕ → Option ℕ → Bool
is_number k None = false
is_number k (Some n) = n == k

number_is : (k : ℕ) (o : Option ℕ) → is_number k o ≡ true → o ≡ Some k
number_is k None is = absurd (true≢false (sym is))
number_is k (Some n) is = ap Some (nat_same n k is)

abbrev begins_so : List ℕ → Bool
begins_so [] = false
begins_so (c ∷ name) = c == 114

begins_told : (name : List ℕ) → begins_so name ≡ true → name ≡ 114 ∷ drop 1 name
begins_told [] is = absurd (true≢false (sym is))
begins_told (c ∷ name) is = ap (λ d. d ∷ name) (nat_same c 114 is)

-- the name of a number is read as the number, and begins with `r`
abbrev is_good : ℕ → Bool
is_good k = is_number k (ram_number (ram_name k)) && begins_so (ram_name k)

all_good : each_number is_good 76 ≡ true
unfolding ram_names
all_good = refl

good : (k : ℕ) → k < 76 → (is_number k (ram_number (ram_name k)) ≡ true) × (begins_so (ram_name k) ≡ true)
good k lt = and_parts (is_number k (ram_number (ram_name k))) (begins_so (ram_name k)) (number_passes is_good k 76 lt all_good)

pub ram_name_read : (k : ℕ) → k < 76 → ram_number (ram_name k) ≡ Some k
ram_name_read k lt = number_is k (ram_number (ram_name k)) (good k lt).0

pub ram_name_begins : (k : ℕ) → k < 76 → ram_name k ≡ 114 ∷ drop 1 (ram_name k)
ram_name_begins k lt = begins_told (ram_name k) (good k lt).1

-- ---- what is read is a name
place_told : (name : List ℕ) (k : ℕ) (names : List (List ℕ)) (n : ℕ) → place_among name k names ≡ Some n → (i : ℕ) × (n ≡ k + i) × (i < length names) × (name ≡ slice_index_or names i [])
place_told name k [] n e = absurd (cc)
place_told name k (known ∷ names) n e = by (bytes_eq known name) refl (λ f. place_told name (k + 1) names n f) e
  where
    by : (b : Bool) → bytes_eq known name ≡ b
        → (place_among name (k + 1) names ≡ Some n → (i : ℕ) × (n ≡ k + 1 + i) × (i < length names) × (name ≡ slice_index_or names i []))
        → cond b (Some k) (place_among name (k + 1) names) ≡ Some n
        → (i : ℕ) × (n ≡ k + i) × (i < length (known ∷ names)) × (name ≡ slice_index_or (known ∷ names) i [])
    by true same later f = let is : k ≡ n = cc in (0, omega arith, omega arith, sym (bytes_same known name same))
    by false other later f = let found = later f in (suc found.0, omega arith, omega arith, found.3)

ram_names_count : length ram_names ≡ 76
unfolding ram_names
ram_names_count = refl

pub ram_number_told : (name : List ℕ) (n : ℕ) → ram_number name ≡ Some n → (n < 76) × (name ≡ ram_name n)
ram_number_told name n e =
    let found = place_told name 0 ram_names n e in
    let count = ram_names_count in
    let same : found.0 ≡ n = omega arith in
    (omega arith, found.3 ∙ ap ram_name same)
