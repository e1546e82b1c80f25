-- The points of a chip without a fault have ranks, and the roots that they have are made of points of lower ranks.
use Rattle.std.proofs.Common.{◌≡◌, ℕ, zero, suc, ◌+◌, ◌<◌, ◌==◌, Bool, true, false, Option, None, Some, List, [], ◌∷◌, length, map, filter, refl, sym, ap, ◌∙◌, subst, arith, if◌then◌else◌}
use Rattle.std.specs.Prelude.{◌&&◌, codes, option_map, slice_index_or, unwrap_or}
use Rattle.std.specs.List.{list_any}
use Rattle.std.proofs.lemmas.Bool.{and_from}
use Rattle.std.proofs.lemmas.Option.{same_Some, none-some}
use Rattle.ice_base.specs.declared.number.TileAt.{TileAt}
use Rattle.ice_base.proofs.Keys.{tile_same, tile_self}
use Rattle.ice_base_values.specs.System.{value, present, reading}
use Rattle.ice_base_values.specs.Order.{At, Has, Descends}
use Rattle.ice_base_values.proofs.Enough.{first, first_falls}
use Rattle.ice_base_values.proofs.Members.{Has_any, Has_filter, Has_map, lookup_Has}
use Rattle.ice_chip.specs.Database.{Parts, same_tile, tile_known}
use Rattle.ice_chip.specs.IsRead.{IsRead}
use Rattle.ice_chip.specs.Lookups.{kind_at, is_io_kind, wire_named, global_of, gbufpin_of}
use Rattle.ice_chip.specs.declared.rows.TileLine.{TileLine}
use Rattle.ice_chip.specs.declared.rows.Pad.{Pad}
use Rattle.ice_chip.specs.declared.rows.TileKind.TheVariants.{Io}
use Rattle.ice_chip_laws.specs.Names.{HasNames}
use Rattle.ice_bits.specs.Configuration.{Bits}
use Rattle.ice_decode.specs.declared.point.Point.{Point}
use Rattle.ice_decode.specs.declared.point.Point.TheVariants.{Wire, Carry}
use Rattle.ice_decode.specs.declared.driver.Driver.{Driver}
use Rattle.ice_decode.specs.declared.driver.Driver.TheVariants.{Nothing, By, Several}
use Rattle.ice_decode.specs.declared.role.Role.{Role}
use Rattle.ice_decode.specs.declared.role.Role.TheVariants.{Plain, Output, LookUp, CarryOut, PadInput, RamOutput, Global, CarryIn, ClockEnable}
use Rattle.ice_decode.specs.Cells.{has_carry, has_flop, logic_tiles, tile_place}
use Rattle.ice_decode.specs.Direct.{globals, takes_pad}
use Rattle.ice_decode.specs.Drivers.{driver, role_of}
use Rattle.ice_decode.specs.Meaning.{passes, chip_system, point_level}
use Rattle.ice_decode.specs.Pads.{is_enabled, is_io_tile, io_tiles, has_input_register}
use Rattle.ice_decode.specs.Reads.{wire_point, count_points, at_pin, at_pin_of, cell_inputs, carry_inputs, driven_reads, depends_on, global_feed}
use Rattle.ice_decode.specs.Points.{points}
use Rattle.ice_decode.specs.Refusals.{IsFaultless}
use Rattle.ice_decode.proofs.PointPlaces.{StandsAs, wire_at, point_cases, points_long}
use Rattle.ice_decode.proofs.ReadPoints.{read_there}
pub use Rattle.ice_decode.proofs.ReadPoints.{named_below}
use Rattle.ice_decode.proofs.RolePlaces.{IsCell, IsIoPad, IsOfCell, role_of_cell, logic_there}
use Rattle.ice_decode.proofs.Valued.{counted, faultless_valued}
use Rattle.ice_decode.proofs.Walks.{all_valued}
use Rattle.ice_back_laws.specs.Roots.{LevelRoot, Fixed, Input, Taken, Given, Kept, Level, Table, Register, Sum, is_heard, is_registered, is_feeder, feeds_global, cell_table, table_root, carry_root, pad_number, pad_at, bonded_root, enabled_root, fed_root, driven_passes, driven_root, roots_of, root_of}
pub use Rattle.ice_back_laws.specs.Roots.{StandsAt, IsThere}
use Rattle.ice_back_laws.proofs.Heard.{IsHeardAs, IsHeard, row_heard, pin_heard}
use Rattle.ice_back_laws.proofs.PadNumbers.{pad_self, number_at, number_within}
use Rattle.ice_back_laws.proofs.RootLevels.{passed_read, root_made}

-- ---- what is read is there

-- the point of a pin is one of the chip
pub pin_there : (parts : Parts) → IsRead parts → (t : TileAt) (name : List ℕ) (p : Point) → at_pin parts t name ≡ Some p → Has (points parts) p
pin_there parts read t name p e = by (wire_named parts t name) refl e
  where
    by : (o : Option ℕ) → wire_named parts t name ≡ o → option_map wire_point o ≡ Some p → Has (points parts) p
    by None f g = absurd (none-some p g)
    by (Some w) f g = subst (Has (points parts)) (same_Some (wire_point w) p g) (w, wire_at parts.wires (logic_tiles parts) w (named_below parts read t name w f))

pub place_found : (t : TileAt) (tiles : List TileAt) → Has tiles t → (k : ℕ) × (tile_place t tiles ≡ Some k)
place_found t [] has = absurd (none-some t has.1)
place_found t (u ∷ tiles) has = by (same_tile u t) refl has (λ h. place_found t tiles h)
  where
    by : (b : Bool) → same_tile u t ≡ b → Has (u ∷ tiles) t → (Has tiles t → (k : ℕ) × (tile_place t tiles ≡ Some k)) → (k : ℕ) × ((if b then Some 0 else option_map suc (tile_place t tiles)) ≡ Some k)
    by true e h later = (0, refl)
    by false e (zero, at) later = let yes : same_tile u t ≡ true = ap (λ x. same_tile x t) (same_Some u t at) ∙ tile_self t in cc (yes, e)
    by false e (suc i, at) later = let rest = later (i, at) in (suc rest.0, ap (option_map suc) rest.1)

-- ---- roots that are there
stands : (parts : Parts) (t : TileAt) (i : ℕ) → IsCell parts t i → StandsAt parts t i
stands parts t i cell = let found = place_found t (logic_tiles parts) (logic_there parts t cell.logic) in (found.0, found.1, cell.below)

-- an IO tile has a place among them
pub io_placed : (parts : Parts) (t : TileAt) → kind_at parts t ≡ Some Io → (k : ℕ) × (tile_place t (io_tiles parts) ≡ Some k)
io_placed parts t io = by (tile_known parts.tiles t) refl io
  where
    by : (o : Option TileLine) → tile_known parts.tiles t ≡ o → option_map (λ (known : TileLine). known.kind) o ≡ Some Io → (k : ℕ) × (tile_place t (io_tiles parts) ≡ Some k)
    by None e f = absurd (none-some Io f)
    by (Some known) e f =
        let found = lookup_Has (same_tile t) parts.tiles known e in
        let same : found.0 ≡ t = sym (tile_same t found.0 found.2) in
        let kept = Has_filter is_io_tile parts.tiles (found.0, known) found.1 (ap is_io_kind (same_Some known.kind Io f)) in
        place_found t (io_tiles parts) (subst (Has (io_tiles parts)) same (Has_map (λ (tile : TileAt × TileLine). tile.0) (filter is_io_tile parts.tiles) (found.0, known) kept))

-- ---- globals
global_in : (n : ℕ) → n < 8 → At globals n n
global_in zero lt = refl
global_in (suc zero) lt = refl
global_in (suc (suc zero)) lt = refl
global_in (suc (suc (suc zero))) lt = refl
global_in (suc (suc (suc (suc zero)))) lt = refl
global_in (suc (suc (suc (suc (suc zero))))) lt = refl
global_in (suc (suc (suc (suc (suc (suc zero)))))) lt = refl
global_in (suc (suc (suc (suc (suc (suc (suc zero))))))) lt = refl
global_in (suc (suc (suc (suc (suc (suc (suc (suc n)))))))) lt = absurd (omega arith)

-- a pad whose level is on a global
feeds : (parts : Parts) (bits : Bits) (extras : List (ℕ × ℕ × ℕ)) (n : ℕ) (pad : Pad) → n < 8 → takes_pad parts extras n ≡ true → gbufpin_of parts n ≡ Some pad → is_enabled parts bits pad ≡ true
    → feeds_global parts bits extras pad ≡ true
feeds parts bits extras n pad lt takes named enabled =
    and_from (is_enabled parts bits pad) (list_any (λ m. takes_pad parts extras m && is_feeder pad (gbufpin_of parts m)) globals) enabled
    (Has_any (λ m. takes_pad parts extras m && is_feeder pad (gbufpin_of parts m)) globals n n (global_in n lt)
    (and_from (takes_pad parts extras n) (is_feeder pad (gbufpin_of parts n)) takes (ap (is_feeder pad) named ∙ pad_self pad)))

module _ (parts : Parts) (bits : Bits) (extras : List (ℕ × ℕ × ℕ)) (read : IsRead parts) (names : HasNames parts) (faultless : IsFaultless parts bits extras) where
  -- the rank of a point: the number of steps with which it has a value
  abbrev pub Ranks : ℕ → Point → Type 0
  Ranks i p = Has (points parts) p × (i ≡ first (chip_system parts bits extras [] [] []) (count_points parts + 1) p)

  pub ranked : (p : Point) → Has (points parts) p → Ranks (first (chip_system parts bits extras [] [] []) (count_points parts + 1) p) p
  ranked p has = (has, refl)

  pub ranks_fall : Descends (depends_on parts bits extras) Ranks
  ranks_fall i p q r dep =
      let s = chip_system parts bits extras [] [] [] in
      let lt : first s (count_points parts + 1) q < first s (count_points parts + 1) p =
      first_falls s (count_points parts + 1) p q (point_level parts bits extras [] [] [] p) (faultless_valued parts bits extras read faultless [] [] [] p r.0) dep in
      (first s (count_points parts + 1) q, (let e = r.1 in omega (arith, e, lt)), (read_there parts bits extras read p q r.0 dep, refl))

  module _ (bonded : List Pad) where
    pub root_there : (i : ℕ) (p : Point) → Ranks i p → value (roots_of parts bits extras bonded) (count_points parts + 1) p ≡ Some (root_of parts bits extras bonded p)
    root_there i p r =
        let system = roots_of parts bits extras bonded in
        let found = all_valued system (points parts) (Wire (record { 0 = 0 })) (λ a b has dep. read_there parts bits extras read a b has (passed_read parts bits extras a b dep))
        (λ cycle c. faultless.loopless.none cycle (record {
          some = c.some;
          next = λ k a b at below. passed_read parts bits extras a b (c.next k a b at below);
          closed = λ a b at last. passed_read parts bits extras b a (c.closed a b at last);
        })) p r.0 in
        let long : length (points parts) ≡ count_points parts = points_long parts.wires (logic_tiles parts) ∙ sym (counted parts) in
        let enough : value system (count_points parts + 1) p ≡ Some found.0 = subst (λ n. value system (n + 1) p ≡ Some found.0) long found.1 in
        enough ∙ ap (λ (x : LevelRoot). Some x) (sym (ap (λ x. unwrap_or x (Fixed false)) enough))

    -- ---- what roots are made of
    abbrev pub AreBelow : ℕ → List (Option Point) → Type 0
    AreBelow m ps = (q : Point) → Has (present ps) q → (j : ℕ) × (j < m) × Ranks j q

    -- what makes the root's level reads points of lower ranks
    -- the netlist's register takes what the chip's takes: the pad has a level that its input buffer passes on, and is of an IO tile
    pub record IsHeld (k : ℕ) : Type 0 where
      pub enabled : is_enabled parts bits (pad_at bonded k) ≡ true
      pub number : pad_number (pad_at bonded k) bonded ≡ Some k
      pub place : ℕ
      pub found : tile_place (pad_at bonded k).tile (io_tiles parts) ≡ Some place
      pub pio : (pad_at bonded k).pio < 2

    abbrev pub IsReady : ℕ → LevelRoot → Type 0
    IsReady m (Fixed level) = Unit {0}
    IsReady m (Input k) = Unit {0}
    IsReady m (Taken k) = IsHeld k
    IsReady m (Given k) = Unit {0}
    IsReady m (Kept k) = Unit {0}
    IsReady m (Level k) = Unit {0}
    IsReady m (Table t i) = AreBelow m (cell_inputs parts t i)
    IsReady m (Register t i) = Unit {0}
    IsReady m (Sum t i) = AreBelow m (carry_inputs parts t i)

    abbrev pub IsGood : ℕ → LevelRoot → Type 0
    IsGood m r = IsThere parts bits extras bonded r × IsReady m r

    below_more : (j m : ℕ) → j < m → (ps : List (Option Point)) → AreBelow j ps → AreBelow m ps
    below_more j m lt ps below q has = let one = below q has in (one.0, omega (arith, lt, one.1), one.2)

    good_more : (j m : ℕ) → j < m → (r : LevelRoot) → IsGood j r → IsGood m r
    good_more j m lt (Fixed level) good = good
    good_more j m lt (Input k) good = good
    good_more j m lt (Taken k) good = good
    good_more j m lt (Given k) good = good
    good_more j m lt (Kept k) good = good
    good_more j m lt (Level k) good = good
    good_more j m lt (Table t i) good = (good.0, below_more j m lt (cell_inputs parts t i) good.1)
    good_more j m lt (Register t i) good = good
    good_more j m lt (Sum t i) good = (good.0, below_more j m lt (carry_inputs parts t i) good.1)

    pub table_good : (m : ℕ) (t : TileAt) (i : ℕ) → StandsAt parts t i → AreBelow m (cell_inputs parts t i) → IsGood m (table_root parts bits t i)
    table_good m t i cell below = by (cell_table parts bits t i == 0) refl
      where
        by : (b : Bool) → (cell_table parts bits t i == 0) ≡ b → IsGood m (if b then Fixed false else Table t i)
        by true e = (tt, tt)
        by false e = ((cell, e), below)

    carry_good : (m j : ℕ) (t : TileAt) (i : ℕ) → j < m → Ranks j (Carry t i) → StandsAt parts t i → IsGood m (carry_root parts bits t i)
    carry_good m j t i lt r cell = by (has_carry parts bits t i) refl (λ q dep. ranks_fall j (Carry t i) q r dep)
      where
        by : (b : Bool) → has_carry parts bits t i ≡ b → ((q : Point) → Has (present (if b then carry_inputs parts t i else [])) q → (k : ℕ) × (k < j) × Ranks k q) → IsGood m (if b then Sum t i else Fixed false)
        by true e falls = ((cell, e), below_more j m lt (carry_inputs parts t i) falls)
        by false e falls = (tt, tt)

    -- the root of what a pad gives, or of its level on a global
    given_good : (m : ℕ) (sort : ℕ → LevelRoot) (pad : Pad) → ((k : ℕ) → k < length bonded → pad_at bonded k ≡ pad → pad_number pad bonded ≡ Some k → is_enabled parts bits pad ≡ true → IsGood m (sort k))
        → IsGood m (enabled_root parts bits bonded sort pad)
    given_good m sort pad each = by (is_enabled parts bits pad) refl
      where
        number : is_enabled parts bits pad ≡ true → (o : Option ℕ) → pad_number pad bonded ≡ o → IsGood m (bonded_root sort o)
        number f None e = (tt, tt)
        number f (Some k) e = each k (number_within pad bonded k e) (number_at pad bonded k e) e f

        by : (b : Bool) → is_enabled parts bits pad ≡ b → IsGood m (if b then bonded_root sort (pad_number pad bonded) else Fixed false)
        by true f = number f (pad_number pad bonded) refl
        by false f = (tt, tt)

    taken_good : (m : ℕ) (pad : Pad) → IsIoPad parts pad → has_input_register parts bits pad ≡ true → is_heard parts bits pad ≡ true → IsGood m (enabled_root parts bits bonded Taken pad)
    taken_good m pad io has heard =
        let placed = io_placed parts pad.tile io.io in
        given_good m Taken pad
        (λ k lt same number enabled. (
          (lt, ap (is_registered parts bits) same ∙ and_from (has_input_register parts bits pad) (is_heard parts bits pad) has heard),
          record {
            enabled = ap (is_enabled parts bits) same ∙ enabled;
            number = ap (λ p. pad_number p bonded) same ∙ number;
            place = placed.0;
            found = ap (λ (p : Pad). tile_place p.tile (io_tiles parts)) same ∙ placed.1;
            pio = subst (λ (p : Pad). p.pio < 2) (sym same) io.pio;
          },
        ))

    input_good : (m : ℕ) (pad : Pad) → has_input_register parts bits pad ≡ false → IsGood m (enabled_root parts bits bonded Input pad)
    input_good m pad has =
        given_good m Input pad (λ k lt same number enabled. ((lt, ap (is_registered parts bits) same ∙ ap (λ b. b && is_heard parts bits pad) has), tt))

    fed_good : (m n : ℕ) → n < 8 → takes_pad parts extras n ≡ true → (o : Option Pad) → gbufpin_of parts n ≡ o → IsGood m (fed_root parts bits bonded o)
    fed_good m n lt takes None e = (tt, tt)
    fed_good m n lt takes (Some pad) e =
        given_good m Level pad (λ k inside same number enabled. ((inside, ap (feeds_global parts bits extras) same ∙ feeds parts bits extras n pad lt takes e enabled), tt))

    abbrev root : Point → LevelRoot
    root = root_of parts bits extras bonded

    driven_good : (m : ℕ) (r : Role) (d : Driver) → IsOfCell parts r → IsHeardAs parts bits names r → AreBelow m (driven_reads parts bits extras r d) → ((q : Point) → Has (present (driven_passes parts bits extras r d)) q → IsGood m (root q))
        → IsGood m (driven_root parts bits extras bonded r d (map (reading (Fixed false) root) (driven_passes parts bits extras r d)))
    driven_good m Plain Nothing cell heard below passed = (tt, tt)
    driven_good m (Output t i) Nothing cell heard below passed = by (has_flop parts bits t i) refl below
      where
        by : (b : Bool) → has_flop parts bits t i ≡ b → AreBelow m (if b then [] else cell_inputs parts t i) → IsGood m (if b then Register t i else table_root parts bits t i)
        by true e inputs = ((stands parts t i cell, e), tt)
        by false e inputs = table_good m t i (stands parts t i cell) inputs
    driven_good m (LookUp t i) Nothing cell heard below passed = table_good m t i (stands parts t i cell) below
    driven_good m (CarryOut t i) Nothing cell heard below passed = let place = below (Carry t i) (0, refl) in carry_good m place.0 t i place.1 place.2 (stands parts t i cell)
    driven_good m (PadInput pad) Nothing cell heard below passed = by (has_input_register parts bits pad) refl
      where
        by : (b : Bool) → has_input_register parts bits pad ≡ b → IsGood m (if b then enabled_root parts bits bonded Taken pad else enabled_root parts bits bonded Input pad)
        by true e = taken_good m pad cell e heard
        by false e = input_good m pad e
    driven_good m (RamOutput pad) Nothing cell heard below passed = (tt, tt)
    driven_good m (Global n) Nothing cell heard below passed = by (takes_pad parts extras n) refl passed
      where
        feed : (f : Option Point) → ((q : Point) → Has (present (f ∷ [])) q → IsGood m (root q)) → IsGood m (reading (Fixed false) root f)
        feed None h = (tt, tt)
        feed (Some q) h = h q (0, refl)

        by : (b : Bool) → takes_pad parts extras n ≡ b → ((q : Point) → Has (present (if b then [] else global_feed parts n ∷ [])) q → IsGood m (root q))
            → IsGood m (if b then fed_root parts bits bonded (gbufpin_of parts n) else slice_index_or (map (reading (Fixed false) root) (if b then [] else global_feed parts n ∷ [])) 0 (Fixed false))
        by true e h = fed_good m n cell e (gbufpin_of parts n) refl
        by false e h = feed (global_feed parts n) h
    driven_good m (CarryIn t) Nothing cell heard below passed = (tt, tt)
    driven_good m ClockEnable Nothing cell heard below passed = (tt, tt)
    driven_good m r (By s) cell heard below passed = by (passes parts bits s) passed
      where
        by : (b : Bool) → ((q : Point) → Has (present (if b then Some (Wire s.source) ∷ [] else [])) q → IsGood m (root q))
            → IsGood m (slice_index_or (map (reading (Fixed false) root) (if b then Some (Wire s.source) ∷ [] else [])) 0 (Fixed false))
        by true h = h (Wire s.source) (0, refl)
        by false h = (tt, tt)
    driven_good m r (Several first second) cell heard below passed = (tt, tt)

    -- what passes its level on is heard
    passed_heard : (w : ℕ) (q : Point) (r : Role) (d : Driver) → w < parts.wires → driver parts bits w ≡ d → Has (present (driven_passes parts bits extras r d)) q → IsHeard parts bits names q
    passed_heard w q Plain Nothing lt e has = absurd (none-some q has.1)
    passed_heard w q (Output t i) Nothing lt e has = absurd (none-some q has.1)
    passed_heard w q (LookUp t i) Nothing lt e has = absurd (none-some q has.1)
    passed_heard w q (CarryOut t i) Nothing lt e has = absurd (none-some q has.1)
    passed_heard w q (PadInput pad) Nothing lt e has = absurd (none-some q has.1)
    passed_heard w q (RamOutput pad) Nothing lt e has = absurd (none-some q has.1)
    passed_heard w q (Global n) Nothing lt e has = by (takes_pad parts extras n) has
      where
        at : (o : Option TileAt) → (f : Option Point) → at_pin_of parts o (codes "fabout") ≡ f → Has (present (f ∷ [])) q → IsHeard parts bits names q
        at None None g h = absurd (none-some q h.1)
        at None (Some p) g h = absurd (none-some p g)
        at (Some t) None g h = absurd (none-some q h.1)
        at (Some t) (Some p) g (zero, h) = subst (IsHeard parts bits names) (same_Some p q h) (pin_heard parts bits names t (codes "fabout") refl p g)
        at (Some t) (Some p) g (suc j, h) = absurd (none-some q h)

        by : (b : Bool) → Has (present (if b then [] else global_feed parts n ∷ [])) q → IsHeard parts bits names q
        by true h = absurd (none-some q h.1)
        by false h = at (global_of parts n) (global_feed parts n) refl h
    passed_heard w q (CarryIn t) Nothing lt e has = absurd (none-some q has.1)
    passed_heard w q ClockEnable Nothing lt e has = absurd (none-some q has.1)
    passed_heard w q r (By s) lt e has = by (passes parts bits s) has
      where
        one : Has (Wire s.source ∷ []) q → IsHeard parts bits names q
        one (zero, h) = subst (IsHeard parts bits names) (same_Some (Wire s.source) q h) (row_heard parts bits names w s lt e)
        one (suc j, h) = absurd (none-some q h)

        by : (b : Bool) → Has (present (if b then Some (Wire s.source) ∷ [] else [])) q → IsHeard parts bits names q
        by true h = one h
        by false h = absurd (none-some q h.1)
    passed_heard w q r (Several first second) lt e has = absurd (none-some q has.1)

    -- the root of a point that something reads is there, and is made of points of lower ranks
    pub all_good : (f i : ℕ) (p : Point) → Ranks i p → IsHeard parts bits names p → i < f → IsGood i (root p)
    all_good zero i p r heard lt = absurd (omega arith)
    all_good (suc f) i (Carry t k) r heard lt =
        subst (IsGood i) (sym (root_made parts bits extras Ranks ranks_fall bonded root_there i (Carry t k) r)) (by (has_carry parts bits t k) refl (λ q dep. ranks_fall i (Carry t k) q r dep))
      where
        cell : (n : ℕ) → StandsAs parts.wires (logic_tiles parts) n (Carry t k) → StandsAt parts t k
        cell n s = let found = place_found t (logic_tiles parts) (s.0, s.1) in (found.0, found.1, s.2)

        by : (b : Bool) → has_carry parts bits t k ≡ b → AreBelow i (if b then carry_inputs parts t k else []) → IsGood i (if b then Sum t k else Fixed false)
        by true e below = ((cell r.0.0 (point_cases parts.wires (logic_tiles parts) r.0.0 (Carry t k) r.0.1), e), below)
        by false e below = (tt, tt)
    all_good (suc f) i (Wire w) r heard lt =
        subst (IsGood i) (sym (root_made parts bits extras Ranks ranks_fall bonded root_there i (Wire w) r))
        (driven_good i (role_of parts w.0) (driver parts bits w.0) (role_of_cell parts w.0) heard (λ q dep. ranks_fall i (Wire w) q r dep)
        (λ q dep. let below = ranks_fall i (Wire w) q r (passed_read parts bits extras (Wire w) q dep) in
        good_more below.0 i below.1 (root q)
        (all_good f below.0 q below.2 (passed_heard w.0 q (role_of parts w.0) (driver parts bits w.0) (within r.0.0 (point_cases parts.wires (logic_tiles parts) r.0.0 (Wire w) r.0.1)) refl dep) (let h : below.0 < i = below.1 in omega arith))))
      where
        within : (n : ℕ) → StandsAs parts.wires (logic_tiles parts) n (Wire w) → w.0 < parts.wires
        within n stands = stands.1
