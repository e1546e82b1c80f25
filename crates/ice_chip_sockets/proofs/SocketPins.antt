-- The pins of the first block RAMs of a chip: which they are, and that no two are the same.
use Rattle.std.proofs.Common.{◌≡◌, ℕ, suc, ◌+◌, ◌-◌, ◌<◌, ◌≤◌, true, false, is_some, List, [], ◌∷◌, length, refl, sym, ap, ◌∙◌, arith, inl, inr, rules, tests}
use Rattle.std.specs.Prelude.{◌⊎◌, ◌&&◌, nat_lt, take}
use Rattle.std.specs.List.{flat_map, range_with_len}
use Rattle.std.proofs.lemmas.Option.{none-some, get_or_from_slice_get, slice_get_within}
use Rattle.std.proofs.lemmas.List.FromFn.{get_or-range_with_len, length-range_with_len}
use Rattle.ice_base_values.specs.Order.{At, Has, StandOnce}
use Rattle.ice_base_values.proofs.Members.{At_parts, map_At}
use Rattle.ice_base_values.proofs.Once.{once_append}
use Rattle.ice_base_values.proofs.Places.{At_take}
use Rattle.ice_base_values.proofs.Together.{Has_head, Has_tail}
use Rattle.ice_chip.specs.Database.{Parts}
use Rattle.ice_chip.specs.IsRead.{IsRead}
use Rattle.ice_chip.specs.Lookups.{wire_named}
use Rattle.ice_chip.specs.RamNames.{ram_name, is_read_out}
use Rattle.ice_chip.specs.declared.rows.Pad.{Pad}
use Rattle.ice_chip_rams.specs.Sites.{ram_tile, ram_pin, ram_pins, sites}
use Rattle.ice_chip_rams.specs.declared.ram_site.RamSite.{RamSite}
use Rattle.ice_chip_sockets.specs.Pins.{first_pins, IsRamPin}
use Rattle.ice_chip_sockets.specs.Sockets.{has_ram_wire_in, has_ram_pin, gives, is_driven}
use Rattle.ice_chip_sockets.proofs.SiteFacts.{IsSiteAt, site_facts, sites_once, same_site_tile, pin_tile}

-- ---- pins by their numbers
number_of_pin : (n : ℕ) → n + 2 - 2 ≡ n
number_of_pin n = omega arith

no_pad : (n : ℕ) → nat_lt (n + 2) 2 ≡ false
no_pad n = search (rules, tests)

pub pin_numbers : (s r : RamSite) (n m : ℕ) → ram_pin s n ≡ ram_pin r m → n ≡ m
pin_numbers s r n m same = let pios : n + 2 ≡ m + 2 = ap (λ (pad : Pad). pad.pio) same in omega (arith, pios)

-- a pin has no number of a pad of an IO tile
pub pin_high : (parts : Parts) (rams : ℕ) (pad : Pad) → IsRamPin parts rams pad → 2 ≤ pad.pio
pin_high parts rams pad pin = let e : pad.pio ≡ pin.number + 2 = ap (λ (p : Pad). p.pio) pin.is_pin in omega (arith, e)

pub pin_below : (parts : Parts) (rams : ℕ) (pad : Pad) → IsRamPin parts rams pad → pad.pio < 76
pin_below parts rams pad pin =
    let e : pad.pio ≡ pin.number + 2 = ap (λ (p : Pad). p.pio) pin.is_pin in
    let lt = pin.below in
    omega (arith, e, lt)

-- pins of sites are one only where both are one
pub pins_apart : (parts : Parts) → IsRead parts → (j k : ℕ) (s r : RamSite) (n m : ℕ) → At (sites parts) j s → At (sites parts) k r → ram_pin s n ≡ ram_pin r m → (j ≡ k) × (n ≡ m)
pins_apart parts read j k s r n m a b same =
    let number = pin_numbers s r n m same in
    let tile : ram_tile s n ≡ ram_tile r n = ap (λ (pad : Pad). pad.tile) same ∙ ap (ram_tile r) (sym number) in
    (sites_once parts read j k s r a b (same_site_tile parts s r n (site_facts parts j s a) (site_facts parts k r b) tile), number)

-- ---- what pins give and how they are driven
pin_wired : (parts : Parts) (s : RamSite) (n : ℕ) → IsSiteAt parts s → n < 74 → has_ram_pin parts (ram_tile s n) n ≡ true
pin_wired parts s n facts lt =
    let tile = pin_tile parts s n facts in
    let wire = facts.wired n lt in
    ap (λ o. has_ram_wire_in n o && is_some (wire_named parts (ram_tile s n) (ram_name n))) tile.kind_is
    ∙ ap (λ b. b && is_some (wire_named parts (ram_tile s n) (ram_name n))) tile.stands
    ∙ ap (λ o. is_some o) wire.1

pub pin_gives : (parts : Parts) (s : RamSite) (n : ℕ) → IsSiteAt parts s → n < 16 → gives parts (ram_pin s n) ≡ true
pin_gives parts s n facts lt =
    let out : is_read_out n ≡ true = search (rules, tests) in
    rw (no_pad n, number_of_pin n, out) (pin_wired parts s n facts (omega (arith, lt)))

pub pin_driven : (parts : Parts) (s : RamSite) (n : ℕ) → IsSiteAt parts s → 16 ≤ n → n < 74 → is_driven parts (ram_pin s n) ≡ true
pin_driven parts s n facts ge lt =
    let out : is_read_out n ≡ false = search (rules, tests) in
    let few : nat_lt n 74 ≡ true = search (rules, tests) in
    rw (no_pad n, number_of_pin n, out, few) (pin_wired parts s n facts lt)

-- ---- the first of them
flat_back : {X Y : Type 0} (f : X → List Y) (xs : List X) (y : Y) → Has (flat_map f xs) y → (x : X) × Has xs x × Has (f x) y
flat_back f [] y has = absurd (none-some y has.1)
flat_back {X} f (x ∷ xs) y has = by (At_parts (f x) (flat_map f xs) has.0 y has.1) (flat_back f xs y)
  where
    by : At (f x) has.0 y ⊎ ((j : ℕ) × (has.0 ≡ length (f x) + j) × At (flat_map f xs) j y) → (Has (flat_map f xs) y → (z : X) × Has xs z × Has (f z) y) → (z : X) × Has (x ∷ xs) z × Has (f z) y
    by (inl here) more = (x, Has_head x xs, (has.0, here))
    by (inr (j, e, there)) more = let found = more (j, there) in (found.0, Has_tail x found.0 xs found.1, found.2)

range_place : (n i k : ℕ) → At (range_with_len 0 n) i k → k ≡ i
range_place n i k at =
    let lt = slice_get_within (range_with_len 0 n) i k at in
    let long = length-range_with_len 0 n in
    let found = get_or_from_slice_get (range_with_len 0 n) i k 0 at in
    let there = get_or-range_with_len 0 n i 0 (omega (arith, lt, long)) in
    omega (arith, found, there)

-- pin i of a site has the number i
own_pin : (s : RamSite) (i : ℕ) (pad : Pad) → At (ram_pins s) i pad → (i < 74) × (pad ≡ ram_pin s i)
unfolding ram_pins
own_pin s i pad at =
    let found = map_At (ram_pin s) (range_with_len 0 74) i pad at in
    let lt = slice_get_within (range_with_len 0 74) i found.0 found.1 in
    let long = length-range_with_len 0 74 in
    (omega (arith, lt, long), sym found.2 ∙ ap (ram_pin s) (range_place 74 i found.0 found.1))

pub are_ram_pins : (parts : Parts) (rams : ℕ) (pad : Pad) → Has (first_pins parts rams) pad → IsRamPin parts rams pad
are_ram_pins parts rams pad has =
    let found = flat_back ram_pins (take rams (sites parts)) pad has in
    let site = At_take rams (sites parts) found.1.0 found.0 found.1.1 in
    let pin = own_pin found.0 found.2.0 pad found.2.1 in
    record { place = found.1.0; site = found.0; number = found.2.0; there = site.1; first = site.0; below = pin.0; is_pin = pin.1 }

-- lists of sites each of which stands once have different pins
once_in : (list : List RamSite) → ((j k : ℕ) (s r : RamSite) (n m : ℕ) → At list j s → At list k r → ram_pin s n ≡ ram_pin r m → (j ≡ k) × (n ≡ m)) → StandOnce (flat_map ram_pins list)
once_in [] apart = λ i j pad a b. absurd (none-some pad a)
once_in (s ∷ list) apart =
    once_append (ram_pins s) (flat_map ram_pins list) own (once_in list (λ j k x y n m a b e. let both = apart (suc j) (suc k) x y n m a b e in (let next = both.0 in omega (arith, next), both.1))) elsewhere
  where
    own : StandOnce (ram_pins s)
    own i j pad a b = (apart 0 0 s s i j refl refl (sym (own_pin s i pad a).1 ∙ (own_pin s j pad b).1)).1

    elsewhere : (pad : Pad) → Has (ram_pins s) pad → Has (flat_map ram_pins list) pad → ⊥
    elsewhere pad (i, at) has =
        let found = flat_back ram_pins list pad has in
        let both = apart 0 (suc found.1.0) s found.0 i found.2.0 refl found.1.1 (sym (own_pin s i pad at).1 ∙ (own_pin found.0 found.2.0 pad found.2.1).1) in
        let no : 0 ≡ suc found.1.0 = both.0 in
        omega (arith, no)

pub first_pins_once : (parts : Parts) (rams : ℕ) → IsRead parts → StandOnce (first_pins parts rams)
first_pins_once parts rams read =
    once_in (take rams (sites parts))
    (λ j k s r n m a b e. pins_apart parts read j k s r n m (At_take rams (sites parts) j s a).1 (At_take rams (sites parts) k r b).1 e)
