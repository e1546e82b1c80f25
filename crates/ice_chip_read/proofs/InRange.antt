-- Places, pads, globals, bits and values that are read are in range.
use Rattle.std.proofs.Common.{◌≡◌, ℕ, ◌<◌, ◌==◌, ◌&&◌, Bool, true, false, List, [], ◌∷◌, map, length, All, IfOk, IfSome, Option, None, Some, Ok, Err, refl, arith, rules, tests, nat_lt, option_and_then, if◌then◌else◌}
use Rattle.std.proofs.lemmas.List.Elements.{All-nil, All-cons}
use Rattle.ice_base.specs.Text.{number_in, number_below}
use Rattle.ice_base.specs.declared.number.TileAt.{TileAt}
use Rattle.ice_base.specs.declared.bit.BitAt.{BitAt}
use Rattle.ice_chip.specs.Database.{Parts}
use Rattle.ice_chip.specs.Within.{IsPlace, IsPad, IsBit}
use Rattle.ice_chip.specs.declared.fault.ChipFault.TheVariants.{OutOfRange, BadBit, BadValues}
use Rattle.ice_base.specs.Lists.{all_known}
use Rattle.ice_base.specs.Places.{bit_place, cut_at, column_named, place_named, bit_named, bits_named, digit_value, values_in}
use Rattle.ice_chip_read.specs.Lines.{tile_in, tile_pad, pad_in, global_in, bits_at, group_bits, known_values, values_at}
use Rattle.ice_chip_read.specs.Reading.{tile_at}
use Rattle.ice_chip_read.proofs.Results.{bind_meeting, some_then, some_mapped, some_any}

-- ---- places, pads and globals
pub place_read : (line : ℕ) (parts : Parts) (x y : ℕ) → IfOk (tile_in line parts x y) (IsPlace parts.width parts.height)
place_read line parts x y = by (nat_lt x parts.width) (nat_lt y parts.height) refl refl
  where
    by : (a b : Bool) → nat_lt x parts.width ≡ a → nat_lt y parts.height ≡ b → IfOk (if a && b then Ok (tile_at x y) else Err (OutOfRange line)) (IsPlace parts.width parts.height)
    by true true p q = record { x = search (rules, tests); y = search (rules, tests) }
    by true false p q = tt
    by false b p q = tt

pub pad_read : (line : ℕ) (parts : Parts) (x y pio : ℕ) → IfOk (pad_in line parts x y pio) (IsPad parts.width parts.height)
pad_read line parts x y pio =
    bind_meeting (IsPad parts.width parts.height) (IsPlace parts.width parts.height) (tile_in line parts x y) _ (place_read line parts x y) (λ tile at. by tile at (nat_lt pio 2) refl)
  where
    by : (tile : TileAt) → IsPlace parts.width parts.height tile → (b : Bool) → nat_lt pio 2 ≡ b → IfOk (if b then Ok (tile_pad tile pio) else Err (OutOfRange line)) (IsPad parts.width parts.height)
    by tile at true is = record { place = at; pio = search (rules, tests) }
    by tile at false is = tt

pub global_read : (line global : ℕ) → IfOk (global_in line global) (λ n. n < 8)
global_read line global = by (nat_lt global 8) refl
  where
    by : (b : Bool) → nat_lt global 8 ≡ b → IfOk (if b then Ok global else Err (OutOfRange line)) (λ n. n < 8)
    by true is = search (rules, tests)
    by false is = tt

-- ---- lists whose values are all known
all_known_are : {A B : Type 0} (P : A → Type 0) (f : B → Option A) → ((x : B) → IfSome (f x) P) → (xs : List B) → IfSome (all_known (map f xs)) (All P)
all_known_are P f h [] = All-nil P
all_known_are {A} P f h (x ∷ xs) = by (f x) (h x) (all_known_are P f h xs)
  where
    by : (o : Option A) → IfSome o P → IfSome (all_known (map f xs)) (All P) → IfSome (all_known (o ∷ map f xs)) (All P)
    by None is others = tt
    by (Some y) is others = some_mapped (All P) (All P) (all_known (map f xs)) _ others (λ ys all. All-cons P y ys is all)

all_known_count : {A B : Type 0} (f : B → Option A) (xs : List B) → IfSome (all_known (map f xs)) (λ ys. length ys ≡ length xs)
all_known_count f [] = refl
all_known_count {A} f (x ∷ xs) = by (f x) (all_known_count f xs)
  where
    by : (o : Option A) → IfSome (all_known (map f xs)) (λ ys. length ys ≡ length xs) → IfSome (all_known (o ∷ map f xs)) (λ ys. length ys ≡ length (x ∷ xs))
    by None others = tt
    by (Some y) others = some_mapped (λ ys. length ys ≡ length (x ∷ xs)) (λ ys. length ys ≡ length xs) (all_known (map f xs)) _ others (λ ys same. omega arith)

-- ---- bits
number_is_below : (limit : ℕ) (word : List ℕ) → IfSome (number_below limit word) (λ n. n < limit)
number_is_below limit word = some_then (λ n. n < limit) (λ n. Unit {0}) (number_in word) _ (some_any (number_in word)) (λ n u. by n (nat_lt n limit) refl)
  where
    by : (n : ℕ) (b : Bool) → nat_lt n limit ≡ b → IfSome (if b then Some n else None) (λ m. m < limit)
    by n true is = search (rules, tests)
    by n false is = tt

column_is_below : (columns : ℕ) (column rest : List ℕ) → IfSome (column_named columns column rest) (λ n. n < columns)
column_is_below columns column [] = number_is_below columns column
column_is_below columns column (b ∷ bytes) = tt

place_is_bit : (columns : ℕ) (row rest : List ℕ) → IfSome (place_named columns row rest) (IsBit columns)
place_is_bit columns row rest =
    some_then (IsBit columns) (λ n. n < 16) (number_below 16 row) _ (number_is_below 16 row)
    (λ r low. some_mapped (IsBit columns) (λ n. n < columns) (option_and_then (λ cut. column_named columns cut.0 cut.1) (cut_at 93 rest)) (bit_place r)
    (some_then (λ n. n < columns) (λ cut. Unit {0}) (cut_at 93 rest) _ (some_any (cut_at 93 rest)) (λ cut u. column_is_below columns cut.0 cut.1))
    (λ c narrow. record { row = low; column = narrow }))

bit_is_bit : (columns : ℕ) (name : List ℕ) → IfSome (bit_named columns name) (IsBit columns)
bit_is_bit columns [] = tt
bit_is_bit columns (b ∷ bytes) = by (b == 66)
  where
    by : (t : Bool) → IfSome (if t then option_and_then (λ cut. place_named columns cut.0 cut.1) (cut_at 91 bytes) else None) (IsBit columns)
    by true = some_then (IsBit columns) (λ cut. Unit {0}) (cut_at 91 bytes) _ (some_any (cut_at 91 bytes)) (λ cut u. place_is_bit columns cut.0 cut.1)
    by false = tt

pub bits_read : (line columns : ℕ) (names : List (List ℕ)) → IfOk (bits_at line (bits_named columns names)) (All (IsBit columns))
bits_read line columns names = by (bits_named columns names) (all_known_are (IsBit columns) (bit_named columns) (bit_is_bit columns) names)
  where
    by : (o : Option (List BitAt)) → IfSome o (All (IsBit columns)) → IfOk (bits_at line o) (All (IsBit columns))
    by None are = tt
    by (Some bits) are = are

-- one or more bits of some tile's columns
pub record AreSomeBits (bits : List BitAt) : Type 0 where
  pub some : 0 < length bits
  pub within : All (IsBit 54) bits

pub group_bits_read : (line : ℕ) (names : List (List ℕ)) → IfOk (group_bits line names) AreSomeBits
group_bits_read line names =
    bind_meeting AreSomeBits (All (IsBit 54)) (bits_at line (bits_named 54 names)) _ (bits_read line 54 names) (λ bits are. by bits are (length bits == 0) refl)
  where
    by : (bits : List BitAt) → All (IsBit 54) bits → (b : Bool) → (length bits == 0) ≡ b → IfOk (if b then Err (BadBit line) else Ok bits) AreSomeBits
    by bits are true is = tt
    by bits are false is = record { some = grind (arith, tests); within = are }

-- ---- values
pub values_read : (line bits : ℕ) (digits : List ℕ) → IfOk (values_at line bits digits) (λ values. length values ≡ bits)
values_read line bits digits = by (length digits == bits) refl
  where
    known : length digits ≡ bits → (o : Option (List Bool)) → IfSome o (λ values. length values ≡ length digits) → IfOk (known_values line o) (λ values. length values ≡ bits)
    known same None count = tt
    known same (Some values) count = omega arith

    by : (b : Bool) → (length digits == bits) ≡ b → IfOk (if b then known_values line (values_in digits) else Err (BadValues line)) (λ values. length values ≡ bits)
    by true is = let same : length digits ≡ bits = search (rules, tests) in known same (values_in digits) (all_known_count digit_value digits)
    by false is = tt
