-- What is known of the pads and globals that are assigned.
use Rattle.std.proofs.Common.{◌≡◌, ◌⊎◌, inl, inr, ℕ, zero, suc, ◌+◌, ◌<◌, ◌≤◌, ◌==◌, nat_eq, nat_lt, Bool, true, false, not, ◌&&◌, ◌||◌, is_some, Option, None, Some, option_map, Ok, Err, List, [], ◌∷◌, ◌++◌, length, map, take, drop, slice_get, bytes_eq, if◌then◌else◌, refl, sym, ap, ap₂, subst, ◌∙◌, arith, true≢false, length-append}
use Rattle.std.specs.Prelude.{slice_index_or}
use Rattle.std.specs.List.{find, list_any, list_all, range_with_len, All}
use Rattle.std.specs.Map.{lookup}
use Rattle.std.proofs.lemmas.Bool.{and_parts, eqb-true, ltb-true, ltb-false}
use Rattle.std.proofs.lemmas.Option.{get_or_from_slice_get, slice_get-map}
use Rattle.std.proofs.Math.ListN.{get_or-append}
use Rattle.std.proofs.lemmas.List.{length-map, map-append, take-append-drop}
use Rattle.ice_base_values.proofs.Members.{At_left, At_parts, At_within}
use Rattle.std.proofs.lemmas.List.Elements.{All-head, All-tail}
use Rattle.std.proofs.lemmas.List.FromFn.{length-map-range_with_len, length-range_with_len, get_or-range_with_len}
use Rattle.ice_base.proofs.Booleans.{not_true, implied}
use Rattle.ice_base.proofs.Keys.{nat_same, nat_self, tile_self}
use Rattle.ice_base.specs.declared.number.TileAt.{TileAt}
use Rattle.ice_net.specs.NetlistData.{NetlistData}
use Rattle.ice_pcf.specs.declared.constraint.Constraint.{Constraint}
use Rattle.ice_chip.proofs.Keys.{pad_same}
use Rattle.ice_chip.specs.Database.{Parts, PackageRows, same_pad}
use Rattle.ice_chip.specs.IsRead.{IsChip, IsRead}
use Rattle.ice_chip.specs.Lookups.{global_of, gbufpin_of, padin_of, package_of}
use Rattle.ice_chip.specs.Within.{IsPackage, different_pads}
use Rattle.ice_chip.specs.Names.{output_enable_name}
use Rattle.ice_chip.specs.WireNames.{fabout_name}
use Rattle.ice_chip.specs.declared.rows.Pad.{Pad}
use Rattle.ice_cells.specs.declared.design.DesignPad.{DesignPad}
use Rattle.ice_cells.specs.declared.design.Design.{Design}
use Rattle.ice_cells.specs.declared.root.Root.{Root}
use Rattle.ice_cells.specs.declared.root.Root.TheVariants.{PadIn, CellOut, GlobalOut, CarryOut}
use Rattle.ice_pads.specs.declared.want.Want.{Want}
use Rattle.ice_pads.specs.declared.want.Buffer.{Buffer}
use Rattle.ice_pads.specs.declared.given.Given.{Given}
use Rattle.ice_pads.specs.declared.given.Chosen.{Chosen}
use Rattle.ice_pads.specs.declared.fault.PinFault.{PinFault}
use Rattle.ice_pads.specs.declared.fault.PinFault.TheVariants.{TooManyGlobals}
use Rattle.ice_chip_sockets.specs.Pins.{first_pins, IsRamPin}
use Rattle.ice_chip_sockets.specs.Sockets.{has_io_wire, gives, is_driven}
use Rattle.ice_chip_sockets.proofs.SocketPins.{pin_high, are_ram_pins, first_pins_once}
use Rattle.ice_pads.specs.PadWires.{suits}
use Rattle.ice_pads.specs.Wants.{want_at, wants, pad_of, buffer_of, buffers}
use Rattle.ice_pads.specs.Constraints.{◌>>=◌, want_of, given_by}
use Rattle.ice_pads.specs.Ports.{all_chosen}
use Rattle.ice_pads.specs.Globals.{global_wire, is_fed, is_same_tile, some_lower, is_global, numbers, globals, is_same_extra, is_shared_by, is_own, has_own_extra, is_pad, meets, direct_choices, left, fed_pins, TakenData, taken_by, globals_of}
use Rattle.ice_pads.specs.Closings.{with_first}
use Rattle.ice_pads.specs.declared.closing.Closing.{Closing}
use Rattle.ice_pads.specs.Assign.{PadsData, chosen_pads, pads_with, outer_chosen, with_rams, assigned, assign_of}
use Rattle.ice_pads.specs.Facts.{HasWires, HasGlobalWire, IsDirect, IsFed, ArePads, AssignedPadsFit}
use Rattle.ice_pads.proofs.Lower.{lower_same}
use Rattle.ice_pads.proofs.Inversions.{bind_ok, ok_same}
use Rattle.ice_pads.proofs.GivenLaws.{none_given, lines_give}
use Rattle.ice_pads.proofs.ChosenLaws.{AreChosen, none_chosen, all_are}
use Rattle.ice_pads.proofs.PackageLaws.{pin_bonded, bonded_low}
use Rattle.ice_pads.proofs.RamPorts.{ArePinned, rams_pinned}
use Rattle.ice_pads.proofs.GlobalLaws.{Apart, left_fails, right_fails, both_hold, is_one}
use Rattle.ice_pads.proofs.DirectLaws.{IsChoice, is_named, AreFit, all_fit}

-- ---- places of lists
pub mapped_from : {A B : Type 0} (f : A → B) (xs : List A) (k : ℕ) (y : B) → slice_get (map f xs) k ≡ Some y → (x : A) × (slice_get xs k ≡ Some x) × (f x ≡ y)
mapped_from f [] k y e = absurd (cc)
mapped_from f (x ∷ xs) zero y e = (x, refl, cc)
mapped_from f (x ∷ xs) (suc k) y e = mapped_from f xs k y e

not_in : (xs : List ℕ) (k n : ℕ) → slice_get xs k ≡ Some n → list_any (nat_eq n) xs ≡ false → ⊥
not_in [] k n at none = absurd (cc)
not_in (x ∷ xs) zero n at none =
    let same : x ≡ n = cc in
    true≢false (sym (ap (λ b. b || list_any (nat_eq n) xs) (ap (nat_eq n) same ∙ nat_self n)) ∙ none)
not_in (x ∷ xs) (suc k) n at none = by (nat_eq n x) (not_in xs k n at) none
  where
    by : (b : Bool) → (list_any (nat_eq n) xs ≡ false → ⊥) → (b || list_any (nat_eq n) xs) ≡ false → ⊥
    by true later e = true≢false e
    by false later e = later e

apart_at : (xs : List ℕ) (j k n : ℕ) → Apart xs → slice_get xs j ≡ Some n → slice_get xs k ≡ Some n → j ≡ k
apart_at [] j k n apart at be = absurd (cc)
apart_at (x ∷ xs) zero zero n apart at be = refl
apart_at (x ∷ xs) zero (suc k) n apart at be = let same : x ≡ n = cc in absurd (not_in xs k n be (ap (λ m. list_any (nat_eq m) xs) (sym same) ∙ apart.0))
apart_at (x ∷ xs) (suc j) zero n apart at be = let same : x ≡ n = cc in absurd (not_in xs j n at (ap (λ m. list_any (nat_eq m) xs) (sym same) ∙ apart.0))
apart_at (x ∷ xs) (suc j) (suc k) n apart at be = ap suc (apart_at xs j k n apart.1 at be)

passes_at : (p : ℕ → Bool) (xs : List ℕ) (k n : ℕ) → list_all p xs ≡ true → slice_get xs k ≡ Some n → p n ≡ true
passes_at p [] k n all at = absurd (cc)
passes_at p (x ∷ xs) zero n all at = let same : x ≡ n = cc in ap p (sym same) ∙ (and_parts (p x) (list_all p xs) all).0
passes_at p (x ∷ xs) (suc k) n all at = passes_at p xs k n (and_parts (p x) (list_all p xs) all).1 at

-- ---- ports
has_wires : (parts : Parts) (p : DesignPad) (pad : Pad) → suits parts (want_at p) pad ≡ true → HasWires parts p pad
has_wires parts p pad e =
    let input = not p.reads || gives parts pad in
    let drives = (p.pin_type == 25) || (p.pin_type == 41) in
    let output = not drives || is_driven parts pad in
    let enable = not (p.pin_type == 41) || has_io_wire parts pad.tile (output_enable_name pad.pio) in
    let two = and_parts (input && output) enable e in
    let one = and_parts input output two.0 in
    record {
      input = implied p.reads (gives parts pad) one.0;
      output = λ type. implied drives (is_driven parts pad) one.1 (by type);
      enable = λ type. implied (p.pin_type == 41) (has_io_wire parts pad.tile (output_enable_name pad.pio)) two.1 (ap (λ t. t == 41) type);
    }
  where
    or_right : (b : Bool) → (b || true) ≡ true
    or_right true = refl
    or_right false = refl

    by : (p.pin_type ≡ 25) ⊎ (p.pin_type ≡ 41) → ((p.pin_type == 25) || (p.pin_type == 41)) ≡ true
    by (inl type) = ap (λ t. (t == 25) || (p.pin_type == 41)) type
    by (inr type) = ap (λ t. (p.pin_type == 25) || (t == 41)) type ∙ or_right (p.pin_type == 25)

want_is : (ps : List DesignPad) (k : ℕ) (p : DesignPad) → slice_get ps k ≡ Some p → want_of (map want_at ps) k ≡ want_at p
want_is ps k p at = get_or_from_slice_get (map want_at ps) k (want_at p) (record { input = false; output = false; enable = false; pullup = false }) (slice_get-map want_at ps k ∙ ap (option_map want_at) at)

-- ---- globals
feeder : (parts : Parts) (o : Option TileAt) → is_fed parts o ≡ true → (t : TileAt) × (o ≡ Some t) × (has_io_wire parts t fabout_name ≡ true)
feeder parts None e = absurd (true≢false (sym e))
feeder parts (Some t) e = (t, refl, e)

fed : (parts : Parts) (n : ℕ) → is_one parts n ≡ true → IsFed parts n
fed parts n e =
    let one = and_parts (is_global parts n) (nat_lt n 8) e in
    let two = and_parts (is_some (global_wire parts n) && is_fed parts (global_of parts n)) (not (some_lower parts n (global_of parts n))) one.0 in
    let three = and_parts (is_some (global_wire parts n)) (is_fed parts (global_of parts n)) two.0 in
    let tile = feeder parts (global_of parts n) three.1 in
    record { tile = tile.0; feeds = tile.1; fabout = tile.2 }

named : (parts : Parts) (n : ℕ) → is_named parts n ≡ true → HasGlobalWire parts n
named parts n e =
    let two = and_parts (is_some (global_wire parts n)) (nat_lt n 8) e in
    record { below = ltb-true n 8 two.1; wire = two.0 }

no_lower : (parts : Parts) (n : ℕ) → is_one parts n ≡ true → some_lower parts n (global_of parts n) ≡ false
no_lower parts n e =
    let one = and_parts (is_global parts n) (nat_lt n 8) e in
    let two = and_parts (is_some (global_wire parts n) && is_fed parts (global_of parts n)) (not (some_lower parts n (global_of parts n))) one.0 in
    not_true (some_lower parts n (global_of parts n)) two.1

-- a tile feeds one global of those that can be taken
no_two : (parts : Parts) (n m : ℕ) (tile : TileAt) → n < m → is_one parts m ≡ true → global_of parts n ≡ Some tile → global_of parts m ≡ Some tile → ⊥
no_two parts n m tile lt is at be =
    let same : is_same_tile (global_of parts n) (global_of parts m) ≡ true = ap (λ o. is_same_tile o (global_of parts m)) at ∙ ap (is_same_tile (Some tile)) be ∙ tile_self tile in
    true≢false (sym (lower_same parts (global_of parts m) n m lt same) ∙ no_lower parts m is)

one_number : (parts : Parts) (n m : ℕ) (tile : TileAt) → is_one parts n ≡ true → is_one parts m ≡ true → global_of parts n ≡ Some tile → global_of parts m ≡ Some tile → n ≡ m
one_number parts n m tile is be at of = by (nat_lt n m) (nat_lt m n) refl refl
  where
    by : (a b : Bool) → nat_lt n m ≡ a → nat_lt m n ≡ b → n ≡ m
    by true b e f = absurd (no_two parts n m tile (ltb-true n m e) be at of)
    by false true e f = absurd (no_two parts m n tile (ltb-true m n f) is of at)
    by false false e f =
        let above : m ≤ n = ltb-false n m e in
        let below : n ≤ m = ltb-false m n f in
        omega arith

if_not_ok : {A : Type 0} (b : Bool) (v w : A) (fault : PinFault) → (if b then Err fault else Ok v) ≡ Ok w → (b ≡ false) × (v ≡ w)
if_not_ok false v w fault e = (refl, cc)
if_not_ok true v w fault e = absurd (cc)

globals_are : (parts : Parts) (bs : List Buffer) (taken : TakenData) → globals_of parts bs ≡ Ok taken → AreFit parts bs taken
globals_are parts bs taken e =
    let direct = direct_choices parts [] bs in
    let free = left direct (globals parts) in
    let pins = fed_pins direct bs in
    let is = if_not_ok (nat_lt (length free) (length pins)) (taken_by parts direct free pins) taken (TooManyGlobals (length pins) (length free)) e in
    subst (AreFit parts bs) is.1 (all_fit parts bs (ltb-false (length free) (length pins) is.0))

-- ---- direct globals
-- a row of an extra bit is that of a global below 8
row_below : (rows : List (ℕ × (ℕ × ℕ × ℕ))) (m : ℕ) (e : ℕ × ℕ × ℕ) → All (λ row. row.0 < 8) rows → lookup (nat_eq m) rows ≡ Some e → m < 8
row_below [] m e all is = absurd (cc)
row_below (row ∷ rows) m e all is = by (nat_eq m row.0) refl (row_below rows m e (All-tail (λ (r : ℕ × (ℕ × ℕ × ℕ)). r.0 < 8) row rows all)) is
  where
    by : (b : Bool) → nat_eq m row.0 ≡ b → (lookup (nat_eq m) rows ≡ Some e → m < 8) → (if b then Some row.1 else lookup (nat_eq m) rows) ≡ Some e → m < 8
    by true same later is = let lt : row.0 < 8 = All-head (λ (r : ℕ × (ℕ × ℕ × ℕ)). r.0 < 8) row rows all in let equal = nat_same m row.0 same in omega (arith, lt, equal)
    by false same later is = later is

own_extra : (parts : Parts) (n : ℕ) (o : Option (ℕ × ℕ × ℕ)) → is_own parts n o ≡ true → (e : ℕ × ℕ × ℕ) × (o ≡ Some e) × (list_any (is_shared_by parts n e) numbers ≡ false)
own_extra parts n None is = absurd (true≢false (sym is))
own_extra parts n (Some e) is = (e, refl, not_true (list_any (is_shared_by parts n e) numbers) is)

same_extra : (e : ℕ × ℕ × ℕ) → is_same_extra e (Some e) ≡ true
same_extra e = both_hold ((e.0 == e.0) && (e.1 == e.1)) (e.2 == e.2) (both_hold (e.0 == e.0) (e.1 == e.1) (nat_self e.0) (nat_self e.1)) (nat_self e.2)

none_passes : (p : ℕ → Bool) (xs : List ℕ) (n : ℕ) → list_any p xs ≡ false → list_any (nat_eq n) xs ≡ true → p n ≡ false
none_passes p [] n none has = absurd (true≢false (sym has))
none_passes p (x ∷ xs) n none has = by (nat_eq n x) refl has (none_passes p xs n (right_fails (p x) (list_any p xs) none))
  where
    by : (b : Bool) → nat_eq n x ≡ b → (b || list_any (nat_eq n) xs) ≡ true → (list_any (nat_eq n) xs ≡ true → p n ≡ false) → p n ≡ false
    by true same has later = ap p (nat_same n x same) ∙ left_fails (p x) (list_any p xs) none
    by false same has later = later has

-- each number below 8 is one of the eight
among_eight : (m : ℕ) → m < 8 → list_any (nat_eq m) numbers ≡ true
among_eight zero lt = refl
among_eight (suc zero) lt = refl
among_eight (suc (suc zero)) lt = refl
among_eight (suc (suc (suc zero))) lt = refl
among_eight (suc (suc (suc (suc zero)))) lt = refl
among_eight (suc (suc (suc (suc (suc zero))))) lt = refl
among_eight (suc (suc (suc (suc (suc (suc zero)))))) lt = refl
among_eight (suc (suc (suc (suc (suc (suc (suc zero))))))) lt = refl
among_eight (suc (suc (suc (suc (suc (suc (suc (suc m)))))))) lt = absurd (omega (arith, lt))

-- no other global has the extra bit
extra_alone : (parts : Parts) (n : ℕ) (e : ℕ × ℕ × ℕ) (m : ℕ) → IsChip parts → list_any (is_shared_by parts n e) numbers ≡ false → padin_of parts m ≡ Some e → m ≡ n
extra_alone parts n e m chip alone is = by (m == n) refl
  where
    other : is_shared_by parts n e m ≡ false
    other = none_passes (is_shared_by parts n e) numbers m alone (among_eight m (row_below parts.padin m e chip.read.padins is))

    by : (b : Bool) → (m == n) ≡ b → m ≡ n
    by true same = eqb-true m n same
    by false same = absurd (true≢false (sym (both_hold (not (m == n)) (is_same_extra e (padin_of parts m)) (ap not same) (ap (is_same_extra e) is ∙ same_extra e)) ∙ other))

pad_named : (pad : Pad) (o : Option Pad) → is_pad pad o ≡ true → o ≡ Some pad
pad_named pad None is = absurd (true≢false (sym is))
pad_named pad (Some other) is = ap Some (sym (pad_same pad other is))

port_root : (ports : List Pad) (o : Option Root) (pad : Pad) → pad_of ports o ≡ Some pad → (port : ℕ) × (o ≡ Some (PadIn port)) × (slice_get ports port ≡ Some pad)
port_root ports None pad e = absurd (cc)
port_root ports (Some (PadIn port)) pad e = (port, refl, e)
port_root ports (Some (CellOut c)) pad e = absurd (cc)
port_root ports (Some (GlobalOut g)) pad e = absurd (cc)
port_root ports (Some (CarryOut c)) pad e = absurd (cc)

-- what stands at a place where there is something other than the default
index_there : (roots : List (Option Root)) (k : ℕ) (root : Root) → slice_index_or roots k None ≡ Some root → slice_get roots k ≡ Some (Some root)
index_there [] k root e = absurd (cc)
index_there (x ∷ roots) zero root e = ap Some e
index_there (x ∷ roots) (suc k) root e = index_there roots k root e

within : (xs : List ℕ) (k x : ℕ) → slice_get xs k ≡ Some x → k < length xs
within [] k x e = absurd (cc)
within (y ∷ xs) zero x e = omega arith
within (y ∷ xs) (suc k) x e = let rest = within xs k x e in omega (arith, rest)

number_at : (count k x : ℕ) → slice_get (range_with_len 0 count) k ≡ Some x → x ≡ k
number_at count k x e =
    let inside = within (range_with_len 0 count) k x e in
    let long = length-range_with_len 0 count in
    let found = get_or_from_slice_get (range_with_len 0 count) k x 0 e in
    let there = get_or-range_with_len 0 count k 0 (omega (arith, inside, long)) in
    omega (arith, found, there)

-- the pads of ports that are seen from outside are pads of ports
is_direct : (parts : Parts) (d : Design) (pads : PadsData) (seen more : List Pad) (k n : ℕ) (b : Buffer) → IsChip parts → pads.ports ≡ seen ++ more → slice_get (buffers d seen) k ≡ Some b → IsChoice parts b n
    → IsDirect parts d pads k n
is_direct parts d pads seen more k n b chip ports at is =
    let own = is_pad is.pad (gbufpin_of parts n) && has_own_extra parts n in
    let three = and_parts (own && is_some (global_wire parts n)) (meets parts b.pins n) is.can in
    let two = and_parts own (is_some (global_wire parts n)) three.0 in
    let one = and_parts (is_pad is.pad (gbufpin_of parts n)) (has_own_extra parts n) two.0 in
    let extra = own_extra parts n (padin_of parts n) one.1 in
    let found = mapped_from (buffer_of d seen) (range_with_len 0 (length d.globals)) k b at in
    let number : found.0 ≡ k = number_at (length d.globals) k found.0 found.1 in
    let root = port_root seen (slice_index_or d.globals k None) is.pad (ap (λ j. pad_of seen (slice_index_or d.globals j None)) (sym number) ∙ ap (λ (x : Buffer). x.pad) found.2 ∙ is.takes) in
    record {
      port = root.0;
      root = index_there d.globals k (PadIn root.0) root.1;
      pad = is.pad;
      there = ap (λ (ps : List Pad). slice_get ps root.0) ports ∙ At_left seen more root.0 is.pad root.2;
      fed_by = pad_named is.pad (gbufpin_of parts n) one.0;
      extra = extra.0;
      extra_of = extra.1;
      alone = λ m same. extra_alone parts n extra.0 m chip extra.2 same;
    }

-- ---- what is wanted
want_before : (xs ys : List Want) (k : ℕ) → k < length xs → want_of (xs ++ ys) k ≡ want_of xs k
want_before xs ys k lt = get_or-append xs ys (record { input = false; output = false; enable = false; pullup = false }) k lt

want_behind : (xs ys : List Want) (j : ℕ) → want_of (xs ++ ys) (length xs + j) ≡ want_of ys j
want_behind [] ys j = let e : 0 + j ≡ j = omega arith in ap (want_of ys) e
want_behind (x ∷ xs) ys j = let e : length (x ∷ xs) + j ≡ suc (length xs + j) = omega arith in ap (want_of ((x ∷ xs) ++ ys)) e ∙ want_behind xs ys j

-- ---- all
-- what ports got that are seen from outside, what those of block RAMs got behind it, and what both want
pub record AreParted (parts : Parts) (rows : PackageRows) (rams : ℕ) (given : List Given) (seen hidden : List Chosen) (outer inner : List Want) : Type 0 where
  pub are : AreChosen parts rows.pads outer given seen
  pub long : length seen ≡ length outer
  pub pinned : ArePinned parts (first_pins parts rams) 0 inner hidden

module _ (parts : Parts) (rows : PackageRows) (rams : ℕ) (given : List Given) (seen hidden : List Chosen) (outer inner : List Want) (p : AreParted parts rows rams given seen hidden outer inner) where
  all_long : length (seen ++ hidden) ≡ length (outer ++ inner)
  all_long = length-append seen hidden ∙ ap₂ (λ a b. a + b) p.long p.pinned.long ∙ sym (length-append outer inner)

  -- ---- where they stand
  pin_of : (j : ℕ) (c : Chosen) → slice_get hidden j ≡ Some c → IsRamPin parts rams c.pad
  pin_of j c at = are_ram_pins parts rams c.pad (0 + j, p.pinned.are_pins j c at)

  bonded_at : (k : ℕ) (c : Chosen) → slice_get (seen ++ hidden) k ≡ Some c → (list_any (same_pad c.pad) rows.pads ≡ true) ⊎ IsRamPin parts rams c.pad
  bonded_at k c at = by (At_parts seen hidden k c at)
    where
      by : (slice_get seen k ≡ Some c) ⊎ ((j : ℕ) × (k ≡ length seen + j) × (slice_get hidden j ≡ Some c)) → (list_any (same_pad c.pad) rows.pads ≡ true) ⊎ IsRamPin parts rams c.pad
      by (inl here) = inl (p.are.bonded k c here)
      by (inr (j, e, there)) = inr (pin_of j c there)

  -- ---- no two are the same
  elsewhere : ((pad : Pad) → list_any (same_pad pad) rows.pads ≡ true → pad.pio < 2) → (j k : ℕ) (c e : Chosen) → slice_get seen j ≡ Some c → slice_get hidden k ≡ Some e → c.pad ≡ e.pad → ⊥
  elsewhere low j k c e at be same =
      let below = low c.pad (p.are.bonded j c at) in
      let above = pin_high parts rams e.pad (pin_of k e be) in
      let pios : c.pad.pio ≡ e.pad.pio = ap (λ (x : Pad). x.pio) same in
      omega (arith, below, above, pios)

  apart_at_all : IsRead parts → ((pad : Pad) → list_any (same_pad pad) rows.pads ≡ true → pad.pio < 2) → (j k : ℕ) (c e : Chosen) → slice_get (seen ++ hidden) j ≡ Some c → slice_get (seen ++ hidden) k ≡ Some e → c.pad ≡ e.pad → j ≡ k
  apart_at_all read low j k c e at be same = by (At_parts seen hidden j c at) (At_parts seen hidden k e be)
    where
      by : (slice_get seen j ≡ Some c) ⊎ ((m : ℕ) × (j ≡ length seen + m) × (slice_get hidden m ≡ Some c)) → (slice_get seen k ≡ Some e) ⊎ ((m : ℕ) × (k ≡ length seen + m) × (slice_get hidden m ≡ Some e)) → j ≡ k
      by (inl here) (inl there) = p.are.apart j k c e here there same
      by (inl here) (inr (m, f, there)) = absurd (elsewhere low j m c e here there same)
      by (inr (m, f, here)) (inl there) = absurd (elsewhere low k m e c there here (sym same))
      by (inr (m, f, here)) (inr (l, g, there)) =
          let place : 0 + m ≡ 0 + l = first_pins_once parts rams read (0 + m) (0 + l) c.pad (p.pinned.are_pins m c here) (p.pinned.are_pins l e there ∙ ap Some (sym same)) in
          omega (arith, f, g, place)

  -- ---- they have the wires
  suited_at : (k : ℕ) (c : Chosen) → slice_get (seen ++ hidden) k ≡ Some c → suits parts (want_of (outer ++ inner) k) c.pad ≡ true
  suited_at k c at = by (At_parts seen hidden k c at)
    where
      by : (slice_get seen k ≡ Some c) ⊎ ((j : ℕ) × (k ≡ length seen + j) × (slice_get hidden j ≡ Some c)) → suits parts (want_of (outer ++ inner) k) c.pad ≡ true
      by (inl here) =
          let inside = At_within seen k c here in
          let long = p.long in
          ap (λ w. suits parts w c.pad) (want_before outer inner k (omega (arith, inside, long))) ∙ p.are.suited k c here
      by (inr (j, e, there)) = ap (λ m. suits parts (want_of (outer ++ inner) m) c.pad) (e ∙ ap (λ m. m + j) p.long) ∙ ap (λ w. suits parts w c.pad) (want_behind outer inner j) ∙ p.pinned.suited j c there

-- what is assigned
pads_are : (parts : Parts) (rows : PackageRows) (rams : ℕ) (d : Design) (given : List Given) (seen hidden : List Chosen) (outer inner : List Want) (taken : TakenData) → IsChip parts
    → ((pad : Pad) → list_any (same_pad pad) rows.pads ≡ true → pad.pio < 2) → AreParted parts rows rams given seen hidden outer inner → outer ++ inner ≡ wants d
    → AreFit parts (buffers d (chosen_pads seen)) taken → ArePads parts rows rams d (pads_with (seen ++ hidden) taken)
pads_are parts rows rams d given seen hidden outer inner taken chip low parted both fit = record {
  ports = length-map (seen ++ hidden) (λ (c : Chosen). c.pad) ∙ long;
  pullups = length-map (seen ++ hidden) (λ (c : Chosen). c.pullup) ∙ long;
  bonded = λ k pad at.
      let c = mapped_from (λ (x : Chosen). x.pad) (seen ++ hidden) k pad at in
      subst (λ (q : Pad). (list_any (same_pad q) rows.pads ≡ true) ⊎ IsRamPin parts rams q) c.2 (bonded_at parts rows rams given seen hidden outer inner parted k c.0 c.1);
  apart = λ j k pad at be.
      let c = mapped_from (λ (x : Chosen). x.pad) (seen ++ hidden) j pad at in
      let e = mapped_from (λ (x : Chosen). x.pad) (seen ++ hidden) k pad be in
      apart_at_all parts rows rams given seen hidden outer inner parted chip.read low j k c.0 e.0 c.1 e.1 (c.2 ∙ sym e.2);
  wires = λ k q pad of at.
      let c = mapped_from (λ (x : Chosen). x.pad) (seen ++ hidden) k pad at in
      has_wires parts q pad
      (ap (λ r. suits parts (want_at q) r) (sym c.2)
      ∙ ap (λ w. suits parts w c.0.pad) (sym (want_is d.pads k q of))
      ∙ ap (λ ws. suits parts (want_of ws k) c.0.pad) (sym both)
      ∙ suited_at parts rows rams given seen hidden outer inner parted k c.0 c.1);
  globals = fit.long ∙ length-map-range_with_len (buffer_of d (chosen_pads seen)) 0 (length d.globals);
  named = λ k n at. named parts n (passes_at (is_named parts) taken.numbers k n fit.pass at);
  single = λ j k n at be. apart_at taken.numbers j k n fit.apart at be;
  directs = fit.directs ∙ length-map-range_with_len (buffer_of d (chosen_pads seen)) 0 (length d.globals);
  direct = λ k n at is.
      let choice = fit.direct k n at is in
      is_direct parts d (pads_with (seen ++ hidden) taken) (chosen_pads seen) (chosen_pads hidden) k n choice.0 chip (map-append (λ (c : Chosen). c.pad) seen hidden) choice.1 choice.2;
  fed = λ k n at not_direct. fed parts n (fit.fed k n at not_direct);
  others = λ j k n m tile at be a b of is.
      let same = one_number parts n m tile (fit.fed j n at a) (fit.fed k m be b) of is in
      apart_at taken.numbers j k n fit.apart at (be ∙ ap Some (sym same));
}
  where
    long : length (seen ++ hidden) ≡ length d.pads
    long = all_long parts rows rams given seen hidden outer inner parted ∙ ap length both ∙ length-map d.pads want_at

-- ---- what an answer is made of
pub record IsMade (parts : Parts) (rows : PackageRows) (constraints : List Constraint) (n : NetlistData) (closing : Closing) (ws : List Want) (buffers : List Pad → List Buffer) (pads : PadsData) : Type 0 where
  pub given : List Given
  pub lines : given_by parts rows.pins (with_first closing.first n) (take closing.first ws) [] constraints ≡ Ok given
  pub seen : List Chosen
  pub ports : all_chosen parts rows.pads (with_first closing.first n) given [] (take closing.first ws) ≡ Ok seen
  pub taken : TakenData
  pub globals : globals_of parts (buffers (chosen_pads seen)) ≡ Ok taken
  pub hidden : List Chosen
  pub pinned : ArePinned parts (first_pins parts closing.rams) 0 (drop closing.first ws) hidden
  pub made : pads_with (seen ++ hidden) taken ≡ pads

pub made_of : (parts : Parts) (rows : PackageRows) (constraints : List Constraint) (n : NetlistData) (closing : Closing) (ws : List Want) (buffers : List Pad → List Buffer) (pads : PadsData)
    → assigned parts constraints n closing ws buffers (Some rows) ≡ Ok pads → IsMade parts rows constraints n closing ws buffers pads
made_of parts rows constraints n closing ws buffers pads e =
    let first = bind_ok (outer_chosen parts rows constraints n closing.first ws) (λ chosen. globals_of parts (buffers (chosen_pads chosen)) >>= (λ taken. with_rams parts n chosen closing.rams (drop closing.first ws) >>= (λ all. Ok (pads_with all taken)))) pads e in
    let lines = bind_ok (given_by parts rows.pins (with_first closing.first n) (take closing.first ws) [] constraints) (λ given. all_chosen parts rows.pads (with_first closing.first n) given [] (take closing.first ws)) first.0 first.1 in
    let second = bind_ok (globals_of parts (buffers (chosen_pads first.0))) (λ taken. with_rams parts n first.0 closing.rams (drop closing.first ws) >>= (λ all. Ok (pads_with all taken))) pads first.2 in
    let third = bind_ok (with_rams parts n first.0 closing.rams (drop closing.first ws)) (λ all. Ok (pads_with all second.0)) pads second.2 in
    let pins = rams_pinned parts n first.0 closing.rams (drop closing.first ws) third.0 third.1 in
    let same : pads_with third.0 second.0 ≡ pads = ok_same (pads_with third.0 second.0) pads (Ok (pads_with third.0 second.0)) (Ok pads) refl refl third.2 in
    record {
      given = lines.0;
      lines = lines.1;
      seen = first.0;
      ports = lines.2;
      taken = second.0;
      globals = second.1;
      hidden = pins.0;
      pinned = pins.2;
      made = whole third.0 first.0 pins.0 second.0 pins.1 ∙ same;
    }
  where
    whole : (all seen hidden : List Chosen) (taken : TakenData) → all ≡ seen ++ hidden → pads_with (seen ++ hidden) taken ≡ pads_with all taken
    whole all seen hidden taken e = ap (λ (cs : List Chosen). pads_with cs taken) (sym e)

-- pads of ports that are seen from outside
pub parted_of : (parts : Parts) (rows : PackageRows) (constraints : List Constraint) (n : NetlistData) (closing : Closing) (ws : List Want) (buffers : List Pad → List Buffer) (pads : PadsData) → rows.pads ≡ different_pads rows.pins
    → (m : IsMade parts rows constraints n closing ws buffers pads) → AreParted parts rows closing.rams m.given m.seen m.hidden (take closing.first ws) (drop closing.first ws)
parted_of parts rows constraints n closing ws buffers pads different m =
    let outer = take closing.first ws in
    let given = lines_give parts rows.pins (with_first closing.first n) outer [] constraints m.given (none_given parts rows.pins outer) m.lines in
    let bonded : (pin : List ℕ) (pad : Pad) → lookup (bytes_eq pin) rows.pins ≡ Some pad → list_any (same_pad pad) rows.pads ≡ true = λ pin pad at. ap (list_any (same_pad pad)) different ∙ pin_bonded rows.pins [] pin pad at in
    let zero_more : (i : ℕ) → want_of outer (0 + i) ≡ want_of outer i = λ i. let e : 0 + i ≡ i = omega arith in ap (want_of outer) e in
    let ports = all_are parts rows.pins rows.pads (with_first closing.first n) outer m.given [] outer m.seen given (none_chosen parts rows.pads outer m.given) zero_more bonded m.ports in
    record { are = ports.0; long = (let e : length m.seen ≡ 0 + length outer = ports.1 in omega (arith, e)); pinned = m.pinned }

pads_of_rows : (parts : Parts) (constraints : List Constraint) (n : NetlistData) (closing : Closing) (d : Design) (rows : PackageRows) (pads : PadsData) → IsChip parts → IsPackage parts.width parts.height rows
    → assigned parts constraints n closing (wants d) (buffers d) (Some rows) ≡ Ok pads → ArePads parts rows closing.rams d pads
pads_of_rows parts constraints n closing d rows pads chip form e =
    let m = made_of parts rows constraints n closing (wants d) (buffers d) pads e in
    subst (ArePads parts rows closing.rams d) m.made
    (pads_are parts rows closing.rams d m.given m.seen m.hidden (take closing.first (wants d)) (drop closing.first (wants d)) m.taken chip (bonded_low parts.width parts.height rows form)
    (parted_of parts rows constraints n closing (wants d) (buffers d) pads form.pads m) (take-append-drop closing.first (wants d)) (globals_are parts (buffers d (chosen_pads m.seen)) m.taken m.globals))

-- a package that a look-up finds has the different pads of its pins
pub found_package : (width height : ℕ) (p : PackageRows → Bool) (packages : List PackageRows) (rows : PackageRows) → All (IsPackage width height) packages → find p packages ≡ Some rows → IsPackage width height rows
found_package width height p [] rows all e = absurd (cc)
found_package width height p (x ∷ packages) rows all e = by (p x) (found_package width height p packages rows (All-tail (IsPackage width height) x packages all)) e
  where
    by : (b : Bool) → (find p packages ≡ Some rows → IsPackage width height rows) → (if b then Some x else find p packages) ≡ Some rows → IsPackage width height rows
    by true later e = let same : x ≡ rows = cc in subst (IsPackage width height) same (All-head (IsPackage width height) x packages all)
    by false later e = later e

pub pads_fit : AssignedPadsFit
pads_fit parts name constraints n closing d rows pads chip found e =
    let form = found_package parts.width parts.height (λ p. bytes_eq p.name name) parts.packages rows chip.read.package_forms found in
    pads_of_rows parts constraints n closing d rows pads chip form (ap (assigned parts constraints n closing (wants d) (buffers d)) (sym found) ∙ e)

-- a step at a time
pub assigned_by : (parts : Parts) (name : List ℕ) (constraints : List Constraint) (n : NetlistData) (closing : Closing) (d : Design) (rows : PackageRows) (seen all : List Chosen) (taken : TakenData) (pads : PadsData)
    → package_of parts name ≡ Some rows → outer_chosen parts rows constraints n closing.first (wants d) ≡ Ok seen → globals_of parts (buffers d (chosen_pads seen)) ≡ Ok taken
    → with_rams parts n seen closing.rams (drop closing.first (wants d)) ≡ Ok all → pads ≡ pads_with all taken → assign_of parts name constraints n closing d ≡ Ok pads
assigned_by parts name constraints n closing d rows seen all taken pads found ports globals rams are =
    ap (assigned parts constraints n closing (wants d) (buffers d)) found
    ∙ ap (λ said. said >>= (λ chosen. globals_of parts (buffers d (chosen_pads chosen)) >>= (λ taken. with_rams parts n chosen closing.rams (drop closing.first (wants d)) >>= (λ all. Ok (pads_with all taken))))) ports
    ∙ ap (λ said. said >>= (λ taken. with_rams parts n seen closing.rams (drop closing.first (wants d)) >>= (λ all. Ok (pads_with all taken)))) globals
    ∙ ap (λ said. said >>= (λ all. Ok (pads_with all taken))) rams
    ∙ ap (λ (p : PadsData). Ok p) (sym are)
