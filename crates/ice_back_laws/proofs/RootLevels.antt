-- At each moment the level of a point is that of its root.
use Rattle.std.proofs.Common.{◌≡◌, ℕ, ◌+◌, ◌*◌, ◌<◌, ◌≤◌, ◌==◌, ◌&&◌, zero, suc, Bool, true, false, Option, None, Some, List, [], ◌∷◌, map, get_or, slice_index_or, unwrap_or, is_some, if◌then◌else◌, refl, sym, ap, subst, ◌∙◌, arith, rules, tests}
use Rattle.std.proofs.lemmas.Option.{same_Some}
use Rattle.ice_base.specs.declared.number.TileAt.{TileAt}
use Rattle.ice_base_values.specs.System.{System, value, present, reading}
use Rattle.ice_base_values.specs.Simulations.{MeetsEquation}
use Rattle.ice_base_values.specs.Order.{At, Has, Descends}
use Rattle.ice_base_values.proofs.Values.{value_suc, value_step, value_there}
use Rattle.ice_base_values.proofs.Gaps.{local_gapped}
use Rattle.ice_chip.specs.Database.{Parts}
use Rattle.ice_chip.specs.Lookups.{gbufpin_of}
use Rattle.ice_chip.specs.declared.rows.Pad.{Pad}
use Rattle.ice_bits.specs.Configuration.{Bits}
use Rattle.ice_net.specs.Meaning.{number_of}
use Rattle.ice_decode.specs.declared.point.Point.{Point}
use Rattle.ice_decode.specs.declared.point.Point.TheVariants.{Wire, Carry}
use Rattle.ice_decode.specs.declared.driver.Driver.{Driver}
use Rattle.ice_decode.specs.declared.driver.Driver.TheVariants.{Nothing, By, Several}
use Rattle.ice_decode.specs.declared.role.Role.{Role}
use Rattle.ice_decode.specs.declared.role.Role.TheVariants.{Plain, Output, LookUp, CarryOut, PadInput, RamOutput, Global, CarryIn, ClockEnable}
use Rattle.ice_decode.specs.Cells.{has_carry, has_flop, table_entry, looked_up}
use Rattle.ice_decode.specs.Drivers.{driver, role_of}
use Rattle.ice_decode.specs.Loops.{IsOrderOf}
use Rattle.ice_decode.specs.Direct.{takes_pad}
use Rattle.ice_decode.specs.Meaning.{passes, global_gives, driven_makes, makes_at, chip_system, point_level, table_level}
use Rattle.ice_decode.specs.Pads.{level_of, is_enabled, pad_gives, kept_at, input_kept, has_input_register}
use Rattle.ice_decode.specs.Reads.{count_points, driven_reads, reads_at, depends_on, cell_inputs, carry_inputs, global_feed}
use Rattle.ice_decode.proofs.Valued.{valued, place_below}
use Rattle.ice_back_laws.specs.Law.{root_level, AreQuiet, PointsHaveTheirRootsLevels}
use Rattle.ice_back_laws.specs.Roots.{LevelRoot, Fixed, Input, Taken, Level, Table, Register, Sum, cell_table, table_root, carry_root, pad_number, bonded_root, enabled_root, fed_root, driven_passes, point_passes, driven_root, point_root, roots_of, root_of}
use Rattle.ice_back_laws.proofs.PadNumbers.{number_at, level_at_number, number_within}
use Rattle.ice_decode.proofs.RolePlaces.{IsOfCell, role_of_cell}

-- ---- values meet their equations
meets : {P A : Type 0} (s : System P A) (v : P → A) (f : ℕ) (p : P) → value s f p ≡ Some (v p) → ((q : P) → Has (s.depends p) q → value s f q ≡ Some (v q)) → MeetsEquation s v p
meets s v f p here below = same_Some (v p) (s.local p (map v (s.depends p))) (sym (value_suc s f p (v p) here) ∙ value_step s v f p below)

-- ---- what passes a level on is read
nothing_there : {X : Type 0} (q : X) → Has [] q → ⊥
nothing_there q has = let none : None ≡ Some q = has.1 in cc none

among : (parts : Parts) (bits : Bits) (extras : List (ℕ × ℕ × ℕ)) (r : Role) (d : Driver) (q : Point) → Has (present (driven_passes parts bits extras r d)) q
    → Has (present (driven_reads parts bits extras r d)) q
among parts bits extras Plain Nothing q has = absurd (nothing_there q has)
among parts bits extras (Output t i) Nothing q has = absurd (nothing_there q has)
among parts bits extras (LookUp t i) Nothing q has = absurd (nothing_there q has)
among parts bits extras (CarryOut t i) Nothing q has = absurd (nothing_there q has)
among parts bits extras (PadInput pad) Nothing q has = absurd (nothing_there q has)
among parts bits extras (RamOutput pad) Nothing q has = absurd (nothing_there q has)
among parts bits extras (Global n) Nothing q has = has
among parts bits extras (CarryIn t) Nothing q has = absurd (nothing_there q has)
among parts bits extras ClockEnable Nothing q has = absurd (nothing_there q has)
among parts bits extras r (By s) q has = by (passes parts bits s) has
  where
    by : (b : Bool) → Has (present (if b then Some (Wire s.source) ∷ [] else [])) q → Has (Wire s.source ∷ []) q
    by true h = h
    by false h = absurd (nothing_there q h)
among parts bits extras r (Several first second) q has = absurd (nothing_there q has)

pub passed_read : (parts : Parts) (bits : Bits) (extras : List (ℕ × ℕ × ℕ)) (p q : Point) → Has (present (point_passes parts bits extras p)) q → Has (depends_on parts bits extras p) q
passed_read parts bits extras (Wire w) q has = among parts bits extras (role_of parts w.0) (driver parts bits w.0) q has
passed_read parts bits extras (Carry t i) q has = absurd (nothing_there q has)

-- ---- levels of roots
zero_bits : (bits : List Bool) (j : ℕ) → number_of bits ≡ 0 → get_or bits j false ≡ false
zero_bits [] j e = refl
zero_bits (b ∷ bits) zero e = by b e
  where
    by : (b : Bool) → (if b then 1 else 0) + 2 * number_of bits ≡ 0 → b ≡ false
    by true h = absurd (omega arith)
    by false h = refl
zero_bits (b ∷ bits) (suc j) e = zero_bits bits j (by b e)
  where
    by : (b : Bool) → (if b then 1 else 0) + 2 * number_of bits ≡ 0 → number_of bits ≡ 0
    by true h = omega arith
    by false h = omega arith

pub four_below : (a b c d : Bool) → (f : ℕ → Bool) → get_or (map f (0 ∷ 1 ∷ 2 ∷ 3 ∷ 4 ∷ 5 ∷ 6 ∷ 7 ∷ 8 ∷ 9 ∷ 10 ∷ 11 ∷ 12 ∷ 13 ∷ 14 ∷ 15 ∷ [])) (number_of (a ∷ b ∷ c ∷ d ∷ [])) false ≡ f (number_of (a ∷ b ∷ c ∷ d ∷ []))
four_below true true true true f = refl
four_below true true true false f = refl
four_below true true false true f = refl
four_below true true false false f = refl
four_below true false true true f = refl
four_below true false true false f = refl
four_below true false false true f = refl
four_below true false false false f = refl
four_below false true true true f = refl
four_below false true true false f = refl
four_below false true false true f = refl
four_below false true false false f = refl
four_below false false true true f = refl
four_below false false true false f = refl
four_below false false false true f = refl
four_below false false false false f = refl

pub table_level_is : (parts : Parts) (bits : Bits) (bonded : List Pad) (v : Point → Bool) (levels kept : List Bool) (t : TileAt) (i : ℕ) → table_level parts bits v t i ≡ root_level parts bits bonded v levels kept (table_root parts bits t i)
table_level_is parts bits bonded v levels kept t i = by (cell_table parts bits t i == 0) refl
  where
    none : cell_table parts bits t i ≡ 0 → (a b c d : Bool) → looked_up parts bits t i (a ∷ b ∷ c ∷ d ∷ []) ≡ false
    none e a b c d =
        sym (four_below a b c d (table_entry parts bits t i))
        ∙ zero_bits (map (table_entry parts bits t i) (0 ∷ 1 ∷ 2 ∷ 3 ∷ 4 ∷ 5 ∷ 6 ∷ 7 ∷ 8 ∷ 9 ∷ 10 ∷ 11 ∷ 12 ∷ 13 ∷ 14 ∷ 15 ∷ [])) (number_of (a ∷ b ∷ c ∷ d ∷ [])) e

    by : (b : Bool) → (cell_table parts bits t i == 0) ≡ b → table_level parts bits v t i ≡ root_level parts bits bonded v levels kept (if b then Fixed false else Table t i)
    by true e = let is : cell_table parts bits t i ≡ 0 = search (rules, tests) in none is _ _ _ _
    by false e = refl

-- ---- points
-- Points are ranked, those that a point depends on lower, and the ranked ones have levels and roots.
module _ (parts : Parts) (bits : Bits) (extras : List (ℕ × ℕ × ℕ)) (R : ℕ → Point → Type 0) (falls : Descends (depends_on parts bits extras) R) (bonded : List Pad)
    (root_there : (i : ℕ) (p : Point) → R i p → value (roots_of parts bits extras bonded) (count_points parts + 1) p ≡ Some (root_of parts bits extras bonded p)) where
  abbrev root : Point → LevelRoot
  root = root_of parts bits extras bonded

  pub root_made : (i : ℕ) (p : Point) → R i p → root p ≡ point_root parts bits extras bonded p (map (reading (Fixed false) root) (point_passes parts bits extras p))
  root_made i p r =
      meets (roots_of parts bits extras bonded) root (count_points parts + 1) p (root_there i p r)
      (λ q has. let below = falls i p q r (passed_read parts bits extras p q has) in root_there below.0 q below.2)
      ∙ local_gapped (point_passes parts bits extras) (Fixed false) (point_root parts bits extras bonded) root p

  module _ (levels kept : List Bool) (quiet : AreQuiet parts bits bonded kept)
      (own_there : (i : ℕ) (p : Point) → R i p → value (chip_system parts bits extras bonded levels kept) (count_points parts + 1) p ≡ Some (point_level parts bits extras bonded levels kept p)) where
    abbrev own : Point → Bool
    own = point_level parts bits extras bonded levels kept

    abbrev HasRootLevel : Point → Type 0
    HasRootLevel p = own p ≡ root_level parts bits bonded own levels kept (root p)

    pub own_made : (i : ℕ) (p : Point) → R i p → own p ≡ makes_at parts bits extras bonded levels kept p (map (reading false own) (reads_at parts bits extras p))
    own_made i p r =
        meets (chip_system parts bits extras bonded levels kept) own (count_points parts + 1) p (own_there i p r) (λ q has. let below = falls i p q r has in own_there below.0 q below.2)
        ∙ local_gapped (reads_at parts bits extras) false (makes_at parts bits extras bonded levels kept) own p

    pub carry_level : (i : ℕ) (t : TileAt) (k : ℕ) → R i (Carry t k) → own (Carry t k) ≡ root_level parts bits bonded own levels kept (carry_root parts bits t k)
    carry_level i t k at = by (has_carry parts bits t k) (own_made i (Carry t k) at)
      where
        by : (b : Bool) → own (Carry t k) ≡ makes_at parts bits extras bonded levels kept (Carry t k) (map (reading false own) (if b then carry_inputs parts t k else []))
            → own (Carry t k) ≡ root_level parts bits bonded own levels kept (if b then Sum t k else Fixed false)
        by true made = refl
        by false made = made

    -- what a pad gives, or its level on a global, has the level of its root
    given_level : (sort : ℕ → LevelRoot) → ((k : ℕ) → root_level parts bits bonded own levels kept (sort k) ≡ slice_index_or levels k false) → (pad : Pad)
        → pad_gives parts bits bonded levels pad ≡ root_level parts bits bonded own levels kept (enabled_root parts bits bonded sort pad)
    given_level sort same pad = by (is_enabled parts bits pad)
      where
        number : (o : Option ℕ) → pad_number pad bonded ≡ o → level_of bonded levels pad ≡ root_level parts bits bonded own levels kept (bonded_root sort o)
        number None e = level_at_number bonded levels pad None e
        number (Some k) e = level_at_number bonded levels pad (Some k) e ∙ sym (same k)

        by : (b : Bool) → (b && level_of bonded levels pad) ≡ root_level parts bits bonded own levels kept (if b then bonded_root sort (pad_number pad bonded) else Fixed false)
        by true = number (pad_number pad bonded) refl
        by false = refl

    -- and so has what a register keeps that takes what a pad gives
    taken_level : (pad : Pad) → pad.pio < 2 → input_kept parts kept pad ≡ root_level parts bits bonded own levels kept (enabled_root parts bits bonded Taken pad)
    taken_level pad lt = by (is_enabled parts bits pad) refl
      where
        number : (o : Option ℕ) → pad_number pad bonded ≡ o → ((o ≡ None) → input_kept parts kept pad ≡ false) → input_kept parts kept pad ≡ root_level parts bits bonded own levels kept (bonded_root Taken o)
        number None e none = none refl
        number (Some k) e none = ap (input_kept parts kept) (sym (number_at pad bonded k e))

        by : (b : Bool) → is_enabled parts bits pad ≡ b → input_kept parts kept pad ≡ root_level parts bits bonded own levels kept (if b then bonded_root Taken (pad_number pad bonded) else Fixed false)
        by true e = number (pad_number pad bonded) refl (λ f. quiet.quiet pad lt ((λ i. e i && is_some (f i))))
        by false e = quiet.quiet pad lt (ap (λ b. b && is_some (pad_number pad bonded)) e)

    -- none of the pads is an output of a block RAM
    ram_level : (pad : Pad) → 2 ≤ pad.pio → (o : Option ℕ) → pad_number pad bonded ≡ o → level_of bonded levels pad ≡ false
    ram_level pad high None e = level_at_number bonded levels pad None e
    ram_level pad high (Some k) e =
        let low : pad.pio < 2 = subst (λ (p : Pad). p.pio < 2) (number_at pad bonded k e) (quiet.pads k (number_within pad bonded k e)) in
        absurd (omega (arith, low, high))

    -- what drives a wire makes the level of the wire's root
    driven_level : (r : Role) (d : Driver) → IsOfCell parts r → ((q : Point) → Has (present (driven_reads parts bits extras r d)) q → (j : ℕ) × R j q) → ((q : Point) → Has (present (driven_passes parts bits extras r d)) q → HasRootLevel q)
        → driven_makes parts bits extras bonded levels kept r d (map (reading false own) (driven_reads parts bits extras r d))
        ≡ root_level parts bits bonded own levels kept (driven_root parts bits extras bonded r d (map (reading (Fixed false) root) (driven_passes parts bits extras r d)))
    driven_level Plain Nothing cell ordered passed = refl
    driven_level (Output t i) Nothing cell ordered passed = by (has_flop parts bits t i)
      where
        by : (b : Bool) → (if b then kept_at parts kept t i else looked_up parts bits t i (map (reading false own) (if b then [] else cell_inputs parts t i)))
            ≡ root_level parts bits bonded own levels kept (if b then Register t i else table_root parts bits t i)
        by true = refl
        by false = table_level_is parts bits bonded own levels kept t i
    driven_level (LookUp t i) Nothing cell ordered passed = table_level_is parts bits bonded own levels kept t i
    driven_level (CarryOut t i) Nothing cell ordered passed = let place = ordered (Carry t i) (0, refl) in carry_level place.0 t i place.1
    driven_level (PadInput pad) Nothing cell ordered passed = by (has_input_register parts bits pad)
      where
        by : (b : Bool) → (if b then input_kept parts kept pad else pad_gives parts bits bonded levels pad)
            ≡ root_level parts bits bonded own levels kept (if b then enabled_root parts bits bonded Taken pad else enabled_root parts bits bonded Input pad)
        by true = taken_level pad cell.pio
        by false = given_level Input (λ k. refl) pad
    driven_level (RamOutput pad) Nothing cell ordered passed = ram_level pad cell (pad_number pad bonded) refl
    driven_level (Global n) Nothing cell ordered passed = by (takes_pad parts extras n) passed
      where
        fed : (o : Option Pad) → global_gives parts bits bonded levels o ≡ root_level parts bits bonded own levels kept (fed_root parts bits bonded o)
        fed None = refl
        fed (Some pad) = given_level Level (λ k. refl) pad

        feed : (f : Option Point) → ((q : Point) → Has (present (f ∷ [])) q → HasRootLevel q) → reading false own f ≡ root_level parts bits bonded own levels kept (reading (Fixed false) root f)
        feed None h = refl
        feed (Some q) h = h q (0, refl)

        by : (b : Bool) → ((q : Point) → Has (present (if b then [] else global_feed parts n ∷ [])) q → HasRootLevel q)
            → (if b then global_gives parts bits bonded levels (gbufpin_of parts n) else slice_index_or (map (reading false own) (if b then [] else global_feed parts n ∷ [])) 0 false)
            ≡ root_level parts bits bonded own levels kept
            (if b then fed_root parts bits bonded (gbufpin_of parts n) else slice_index_or (map (reading (Fixed false) root) (if b then [] else global_feed parts n ∷ [])) 0 (Fixed false))
        by true h = fed (gbufpin_of parts n)
        by false h = feed (global_feed parts n) h
    driven_level (CarryIn t) Nothing cell ordered passed = refl
    driven_level ClockEnable Nothing cell ordered passed = refl
    driven_level r (By s) cell ordered passed = by (passes parts bits s) passed
      where
        by : (b : Bool) → ((q : Point) → Has (present (if b then Some (Wire s.source) ∷ [] else [])) q → HasRootLevel q)
            → (b && own (Wire s.source)) ≡ root_level parts bits bonded own levels kept (slice_index_or (map (reading (Fixed false) root) (if b then Some (Wire s.source) ∷ [] else [])) 0 (Fixed false))
        by true h = h (Wire s.source) (0, refl)
        by false h = refl
    driven_level r (Several first second) cell ordered passed = refl

    -- each ranked point has the level of its root
    pub all_rooted : (f i : ℕ) (p : Point) → R i p → i < f → HasRootLevel p
    all_rooted zero i p at lt = absurd (omega arith)
    all_rooted (suc f) i (Carry t k) at lt = carry_level i t k at ∙ ap (root_level parts bits bonded own levels kept) (sym (root_made i (Carry t k) at))
    all_rooted (suc f) i (Wire w) at lt =
        own_made i (Wire w) at
        ∙ driven_level (role_of parts w.0) (driver parts bits w.0) (role_of_cell parts w.0) (λ q has. let below = falls i (Wire w) q at has in (below.0, below.2))
        (λ q has. let below = falls i (Wire w) q at (passed_read parts bits extras (Wire w) q has) in all_rooted f below.0 q below.2 (let h : below.0 < i = below.1 in omega arith))
        ∙ ap (root_level parts bits bonded own levels kept) (sym (root_made i (Wire w) at))

-- ---- with an order
there : {P A : Type 0} (s : System P A) (R : ℕ → P → Type 0) (d : A) (f : ℕ) → Descends s.depends R → (i : ℕ) (p : P) → R i p → i < f → value s f p ≡ Some (unwrap_or (value s f p) d)
there s R d f falls i p r lt =
    let found = value_there s R falls f i p r lt in
    found.1 ∙ ap Some (sym (ap (λ x. unwrap_or x d) found.1))

-- the root of a point is made of those of the points that pass their levels on to it
pub ordered_made : (parts : Parts) (bits : Bits) (extras : List (ℕ × ℕ × ℕ)) (order : List Point) → IsOrderOf parts bits extras order → (bonded : List Pad) (i : ℕ) (p : Point) → At order i p
    → root_of parts bits extras bonded p ≡ point_root parts bits extras bonded p (map (reading (Fixed false) (root_of parts bits extras bonded)) (point_passes parts bits extras p))
ordered_made parts bits extras order o bonded i p at =
    root_made parts bits extras (At order) o.after bonded
    (λ j q place. there (roots_of parts bits extras bonded) (At order) (Fixed false) (count_points parts + 1) (λ k r s here has. o.after k r s here (passed_read parts bits extras r s has)) j q place (place_below parts bits extras order o j q place))
    i p at

pub points_rooted : PointsHaveTheirRootsLevels
points_rooted parts bits extras order o bonded levels kept quiet p has =
    let place = o.each p has in
    all_rooted parts bits extras (At order) o.after bonded
    (λ i q at. there (roots_of parts bits extras bonded) (At order) (Fixed false) (count_points parts + 1) (λ j q r place has. o.after j q r place (passed_read parts bits extras q r has)) i q at (place_below parts bits extras order o i q at))
    levels kept quiet (λ i q at. valued parts bits extras order o bonded levels kept q (o.within q (i, at))) (place.0 + 1) place.0 p place.1 (omega arith)
