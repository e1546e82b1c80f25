-- What block RAMs take of the drives at their ports.
use Rattle.std.proofs.Common.{◌≡◌, ℕ, zero, suc, ◌+◌, ◌*◌, ◌<◌, ◌≤◌, Bool, List, [], ◌∷◌, ◌++◌, cond, length, map, take, refl, ap, ◌∙◌, arith, lt-ltb}
use Rattle.std.specs.Prelude.{◌||◌, ◌==◌, not, nat_lt, slice_index_or}
use Rattle.std.specs.List.{range_with_len}
use Rattle.ice_base.proofs.Booleans.{or_true}
use Rattle.ice_base_values.specs.Order.{At}
use Rattle.ice_chip.specs.declared.rows.Pad.{Pad}
use Rattle.ice_net.specs.declared.driver.Drive.{Drive}
use Rattle.ice_net.specs.declared.driver.Drive.TheVariants.{Off}
use Rattle.ice_net.specs.Meaning.{number_of}
use Rattle.ice_ram.specs.Ports.{is_high, taken_at, taken_from, pins_at, after_all}
use Rattle.ice_ram.specs.Ram.{Kept, after}
use Rattle.ice_ram.specs.declared.setup.Setup.{Setup}
use Rattle.ice_cells.specs.declared.design.DesignPad.{DesignPad}
use Rattle.ice_emit_defs.specs.Realised.{seen}
use Rattle.ice_emit_closed_laws.proofs.Levels.{AreLow}

-- the drive at a place
abbrev at : List Drive → ℕ → Drive
at drives k = slice_index_or drives k Off

-- ---- what is seen
-- at an output all is seen
pub seen_there : (ports : List Pad) (pads : List DesignPad) (drives : List Drive) (k : ℕ) → ((port : DesignPad) → At pads k port → port.pin_type ≡ 25) → at (seen ports pads drives) k ≡ at drives k
seen_there [] pads drives k type_is = refl
seen_there (pad ∷ ports) [] drives k type_is = refl
seen_there (pad ∷ ports) (port ∷ pads) [] k type_is = refl
seen_there (pad ∷ ports) (port ∷ pads) (drive ∷ drives) zero type_is =
    ap (λ n. cond (nat_lt pad.pio 2 || not (n == 1)) drive Off) (type_is port refl) ∙ ap (λ b. cond b drive Off) (or_true (nat_lt pad.pio 2))
seen_there (pad ∷ ports) (port ∷ pads) (drive ∷ drives) (suc k) type_is = seen_there ports pads drives k type_is

-- at pads that are no pins of block RAMs all is seen
pub seen_first : (shown pins : List Pad) (pads : List DesignPad) (drives : List Drive) → AreLow shown → take (length shown) (seen (shown ++ pins) pads drives) ≡ take (length shown) drives
seen_first [] pins pads drives low = refl
seen_first (pad ∷ shown) pins [] drives low = refl
seen_first (pad ∷ shown) pins (port ∷ pads) [] low = refl
seen_first (pad ∷ shown) pins (port ∷ pads) (drive ∷ drives) low =
    let one = ap (λ b. cond (b || not (port.pin_type == 1)) drive Off) (lt-ltb pad.pio 2 (low 0 pad refl)) in
    let rest = seen_first shown pins pads drives (λ k other there. low (suc k) other there) in
    λ i. one i ∷ rest i

pub all_first : (shown pins : List Pad) (pads : List DesignPad) (steps : List (List Drive)) → AreLow shown → map (take (length shown)) (map (seen (shown ++ pins) pads) steps) ≡ map (take (length shown)) steps
all_first shown pins pads [] low = refl
all_first shown pins pads (drives ∷ steps) low =
    let one = seen_first shown pins pads drives low in
    let rest = all_first shown pins pads steps low in
    λ i. one i ∷ rest i

-- ---- what is taken
map_same : (f g : ℕ → Bool) (k count : ℕ) → ((i : ℕ) → k ≤ i → i < k + count → f i ≡ g i) → map f (range_with_len k count) ≡ map g (range_with_len k count)
map_same f g k zero same = refl
map_same f g k (suc count) same =
    let one = same k (omega arith) (omega arith) in
    let rest = map_same f g (k + 1) count (λ i le lt. same i (omega (arith, le)) (omega (arith, lt))) in
    λ i. one i ∷ rest i

-- the drives are the same at these ports
abbrev SameAt : List Drive → List Drive → ℕ → ℕ → Type 0
SameAt one other k count = (i : ℕ) → k ≤ i → i < k + count → at one i ≡ at other i

bits_same : (one other : List Drive) (k count : ℕ) → SameAt one other k count → taken_from one k count ≡ taken_from other k count
unfolding taken_from
bits_same one other k count same = map_same (taken_at one) (taken_at other) k count (λ i le lt. ap is_high (same i le lt))

pins_same : (one other : List Drive) (k : ℕ) → SameAt one other (k + 16) 58 → pins_at one k ≡ pins_at other k
pins_same one other k same =
    let alone : (n : ℕ) → 16 ≤ n → n < 74 → taken_at one (k + n) ≡ taken_at other (k + n) = λ n le lt. ap is_high (same (k + n) (omega (arith, le)) (omega (arith, lt))) in
    let some : (n count : ℕ) → 16 ≤ n → n + count ≤ 74 → taken_from one (k + n) count ≡ taken_from other (k + n) count
    = λ n count le within. bits_same one other (k + n) count (λ i ge lt. same i (omega (arith, ge, le)) (omega (arith, lt, within))) in
    let read_clock = alone 70 (omega arith) (omega arith) in
    let write_clock = alone 71 (omega arith) (omega arith) in
    let read_enable = alone 72 (omega arith) (omega arith) in
    let write_enable = alone 73 (omega arith) (omega arith) in
    let read_address = some 16 11 (omega arith) (omega arith) in
    let write_address = some 27 11 (omega arith) (omega arith) in
    let mask = some 38 16 (omega arith) (omega arith) in
    let datum = some 54 16 (omega arith) (omega arith) in
    λ i. record {
      read_clock = read_clock i;
      read_enable = read_enable i;
      read_address = number_of (read_address i);
      write_clock = write_clock i;
      write_enable = write_enable i;
      write_address = number_of (write_address i);
      mask = mask i;
      datum = datum i;
    }

-- block RAMs take the same where the drives are the same at the ports that they take
pub taken_same : (one other : List Drive) (k : ℕ) (rams : List (Setup × Kept)) → ((j : ℕ) → j < length rams → SameAt one other (k + 74 * j + 16) 58) → after_all one k rams ≡ after_all other k rams
taken_same one other k [] same = refl
taken_same one other k (ram ∷ rams) same =
    let here = pins_same one other k (λ i le lt. same 0 (omega arith) i (omega (arith, le)) (omega (arith, lt))) in
    let rest = taken_same one other (k + 74) rams (λ j below i le lt. same (suc j) (omega (arith, below)) i (omega (arith, le)) (omega (arith, lt))) in
    λ i. (ram.0, after ram.0 ram.1 (here i)) ∷ rest i

pub as_many : (drives : List Drive) (k : ℕ) (rams : List (Setup × Kept)) → length (after_all drives k rams) ≡ length rams
as_many drives k [] = refl
as_many drives k (ram ∷ rams) = ap suc (as_many drives (k + 74) rams)
