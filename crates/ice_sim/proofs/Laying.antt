-- The layout of a chip's points, as it grows in an order of evaluation.
use Rattle.std.proofs.Common.{◌≡◌, ◌≢◌, ℕ, suc, ◌+◌, ◌<◌, ◌≤◌, Bool, true, false, cond, List, [], ◌∷◌, ◌++◌, length, map, set, get_or, drop, replicate, Option, Some, None, refl, ap, sym, ◌∙◌, subst, inl, inr, arith, get_or-set_same, get_or-set_other, length-append, append-nil}
use Rattle.std.specs.Prelude.{◌==◌, codes, nat_lt, option_map, slice_get, slice_index_or}
use Rattle.std.specs.List.{flat_map}
use Rattle.std.proofs.lemmas.List.{length-set, drop_more, length-drop, length-map, length-replicate, get_or-replicate, get_or_append_left}
use Rattle.std.proofs.Math.Seq.{get_or-append_seam}
use Rattle.std.proofs.Math.ListN.{get_or-eq_default}
use Rattle.std.proofs.lemmas.Option.{same_Some}
use Rattle.std.proofs.lemmas.Bool.{cases_lt, ltb-true}
use Rattle.std.proofs.lemmas.Bool.Decides.{eqb_tells}
use Rattle.ice_base.specs.declared.number.TileAt.{TileAt}
use Rattle.ice_base_values.specs.System.{present, reading}
use Rattle.ice_base_values.specs.Order.{At, Has}
use Rattle.ice_base_values.proofs.Places.{At_same, At_drop}
use Rattle.ice_chip.specs.Database.{Parts, same_pad}
use Rattle.ice_chip.specs.Lookups.{gbufpin_of}
use Rattle.ice_chip.specs.declared.rows.Pad.{Pad}
use Rattle.ice_bits.specs.Configuration.{Bits}
use Rattle.ice_bits.specs.Settings.{set_at}
use Rattle.ice_net.specs.Meaning.{number_of, table_bit}
use Rattle.ice_decode.specs.declared.point.Point.{Point}
use Rattle.ice_decode.specs.declared.point.Point.TheVariants.{Wire, Carry}
use Rattle.ice_decode.specs.declared.driver.Driver.{Driver}
use Rattle.ice_decode.specs.declared.driver.Driver.TheVariants as driver
use Rattle.ice_decode.specs.declared.role.Role.{Role}
use Rattle.ice_decode.specs.declared.role.Role.TheVariants.{Plain, Output, LookUp, CarryOut, PadInput, RamOutput, Global, CarryIn, ClockEnable}
use Rattle.ice_decode.specs.Drivers.{role_of, driver as driver_of}
use Rattle.ice_chip.specs.Names.{input_name}
use Rattle.ice_decode.specs.Cells.{cells, has_carry, has_flop}
use Rattle.ice_decode.specs.Reads.{count_points, at_pin, carry_into, global_feed, reads_at}
use Rattle.ice_decode.specs.Direct.{takes_pad}
use Rattle.ice_decode.specs.Pads.{is_enabled, pads, cell_store, pad_stores, stores, register_place, has_input_register}
use Rattle.ice_decode.specs.Loops.{IsOrderOf}
use Rattle.ice_decode.specs.Meaning.{passes, makes_at}
use Rattle.ice_sim_sweep.specs.declared.parts.Feed.{Feed}
use Rattle.ice_sim_sweep.specs.declared.parts.Feed.TheVariants.{Nothing, Kept, Made}
use Rattle.ice_sim.specs.declared.points.PointSlot.{PointSlot}
use Rattle.ice_sim.specs.declared.points.PointSlot.TheVariants.{Shared, Own}
use Rattle.ice_sim_sweep.specs.Slots.{level_at}
use Rattle.ice_sim_sweep.specs.Arrays.{feed_level, feed_at, Obeys, IsGateAt, IsFed, AreFed}
use Rattle.ice_sim.specs.ChipSlots.{cell_place, number, slot_in, slots_gate, cell_gate, carry_gate, table_of, table_slot, pad_place, level_slot, pad_slot, fed_slot, register_feed, pad_register, kept_slot, role_slot, driven_slot, point_slot}
use Rattle.ice_sim.specs.Layouts.{Layout, placed, laid, ones_table, bare_layout}
use Rattle.ice_sim.proofs.PointLevels.{slot_level, point_is}
use Rattle.ice_sim.proofs.PointNumbers.{IsIn, is_in, cell_within, number_within, number_once}
use Rattle.ice_decode.proofs.RolePlaces.{IsOfCell, role_of_cell}

-- ---- feeds
pub fed_push : (ports cells s : ℕ) (feeds : List Feed) (feed : Feed) → AreFed ports cells s feeds → IsFed ports cells (s + length feeds) feed → AreFed ports cells s (feeds ++ feed ∷ [])
fed_push ports cells s [] feed fed ok = let e : s + 0 ≡ s = omega arith in (subst (λ k. IsFed ports cells k feed) e ok, tt)
fed_push ports cells s (f ∷ feeds) feed fed ok =
    let e : s + suc (length feeds) ≡ suc s + length feeds = omega arith in
    (fed.0, fed_push ports cells (suc s) feeds feed fed.1 (subst (λ k. IsFed ports cells k feed) e ok))

pub feed_left : (feeds more : List Feed) (s : ℕ) → s < length feeds → feed_at (feeds ++ more) s ≡ feed_at feeds s
feed_left feeds more s lt = get_or_append_left feeds more Nothing s lt

-- an array that obeys more feeds obeys the first of them
pub obeys_left : (feeds more : List Feed) (levels kept values : List Bool) → Obeys (feeds ++ more) levels kept values → Obeys feeds levels kept values
obeys_left feeds more levels kept values obeys = record {
  each = λ s lt.
      obeys.each s (let e = length-append feeds more in omega arith) ∙ ap (feed_level levels kept values) (feed_left feeds more s lt);
}

-- ---- bounds
pub place_within : (bonded : List Pad) (pad : Pad) (k : ℕ) → pad_place bonded pad ≡ Some k → k < length bonded
place_within [] pad k e = cc e
place_within (p ∷ bonded) pad k e = of (same_pad p pad) e (λ m f. place_within bonded pad m f)
  where
    next : (o : Option ℕ) → option_map suc o ≡ Some k → ((m : ℕ) → o ≡ Some m → m < length bonded) → k < suc (length bonded)
    next None f rec = cc f
    next (Some m) f rec = let same : suc m ≡ k = same_Some _ _ f in let lt = rec m refl in omega arith

    of : (b : Bool) → cond b (Some 0) (option_map suc (pad_place bonded pad)) ≡ Some k → ((m : ℕ) → pad_place bonded pad ≡ Some m → m < length bonded) → k < suc (length bonded)
    of true f rec = let same : 0 ≡ k = same_Some _ _ f in omega arith
    of false f rec = next (pad_place bonded pad) f rec

-- there are no fewer stores than cells
pub cells_few : (parts : Parts) → length (cells parts) ≤ length (stores parts)
cells_few parts =
    let long = length-append (map cell_store (cells parts)) (flat_map pad_stores (pads parts)) in
    let same = length-map (cells parts) cell_store in
    omega arith

-- what a register of a pad keeps is one of the stores'
pub register_fits : (ports count s : ℕ) (o : Option ℕ) (which : ℕ) → IsFed ports count s (register_feed count o which)
register_fits ports count s None which = tt
register_fits ports count s (Some k) which = of (nat_lt (k + which) count) refl
  where
    of : (b : Bool) → nat_lt (k + which) count ≡ b → IsFed ports count s (cond b (Kept (k + which)) Nothing)
    of true e = ltb-true (k + which) count e
    of false e = tt

-- what a slot of a point may be, where the next slot is `next`
abbrev pub IsSlot : ℕ → ℕ → ℕ → PointSlot → Type 0
IsSlot ports cells next (Shared s) = s < next
IsSlot ports cells next (Own feed) = IsFed ports cells next feed

module _ (parts : Parts) (bits : Bits) (extras : List (ℕ × ℕ × ℕ)) (bonded : List Pad) (slots : List ℕ) (next : ℕ) (some : 1 < next) (low : (n : ℕ) → slice_index_or slots n 0 < next) where
  read_low : (o : Option Point) → reading 0 (slot_in parts slots) o < next
  read_low None = omega arith
  read_low (Some p) = low (number parts p)

  pub cell_gate_at : (t : TileAt) (i : ℕ) → IsGateAt next (cell_gate parts bits slots next t i)
  cell_gate_at t i = record {
    out_is = refl;
    first_before = read_low (at_pin parts t (input_name i 0));
    second_before = read_low (at_pin parts t (input_name i 1));
    third_before = read_low (at_pin parts t (input_name i 2));
    fourth_before = read_low (at_pin parts t (input_name i 3));
  }

  carry_gate_at : (t : TileAt) (i : ℕ) → IsGateAt next (carry_gate parts slots next t i)
  carry_gate_at t i = record {
    out_is = refl;
    first_before = read_low (at_pin parts t (input_name i 1));
    second_before = read_low (at_pin parts t (input_name i 2));
    third_before = read_low (carry_into parts t i);
    fourth_before = omega arith;
  }

  abbrev Fits : PointSlot → Type 0
  Fits slot = IsSlot (length bonded) (length (stores parts)) next slot

  table_fits : (t : TileAt) (i : ℕ) → Fits (table_slot parts bits slots next t i)
  table_fits t i = of (table_of parts bits t i == 0)
    where
      of : (b : Bool) → Fits (cond b (Shared 0) (Own (Made (cell_gate parts bits slots next t i))))
      of true = omega arith
      of false = cell_gate_at t i

  kept_fits : (t : TileAt) (i : ℕ) → i < 8 → Fits (kept_slot (cell_place parts t i))
  kept_fits t i lt = of (cell_place parts t i) refl
    where
      of : (o : Option ℕ) → cell_place parts t i ≡ o → Fits (kept_slot o)
      of None e = omega arith
      of (Some c) e = let within = cell_within parts t i c lt e in let few = cells_few parts in omega arith

  level_fits : (pad : Pad) → Fits (level_slot (pad_place bonded pad))
  level_fits pad = of (pad_place bonded pad) refl
    where
      of : (o : Option ℕ) → pad_place bonded pad ≡ o → Fits (level_slot o)
      of None e = omega arith
      of (Some k) e = place_within bonded pad k e

  pad_fits : (pad : Pad) → Fits (pad_slot parts bits bonded pad)
  pad_fits pad = of (is_enabled parts bits pad)
    where
      of : (b : Bool) → Fits (cond b (level_slot (pad_place bonded pad)) (Shared 0))
      of true = level_fits pad
      of false = omega arith

  fed_fits : (o : Option Pad) → Fits (fed_slot parts bits bonded o)
  fed_fits None = omega arith
  fed_fits (Some pad) = pad_fits pad

  role_fits : (role : Role) → IsOfCell parts role → Fits (role_slot parts bits extras bonded slots next role)
  role_fits Plain cell = omega arith
  role_fits (Output t i) cell = of (has_flop parts bits t i)
    where
      of : (b : Bool) → Fits (cond b (kept_slot (cell_place parts t i)) (table_slot parts bits slots next t i))
      of true = kept_fits t i cell.below
      of false = table_fits t i
  role_fits (LookUp t i) cell = table_fits t i
  role_fits (CarryOut t i) cell = low (number parts (Carry t i))
  role_fits (PadInput pad) cell = of (has_input_register parts bits pad)
    where
      of : (b : Bool) → Fits (cond b (Own (pad_register parts pad 0)) (pad_slot parts bits bonded pad))
      of true = register_fits (length bonded) (length (stores parts)) next (register_place parts pad) 0
      of false = pad_fits pad
  role_fits (RamOutput pad) cell = level_fits pad
  role_fits (Global n) cell = of (takes_pad parts extras n)
    where
      of : (b : Bool) → Fits (cond b (fed_slot parts bits bonded (gbufpin_of parts n)) (Shared (reading 0 (slot_in parts slots) (global_feed parts n))))
      of true = fed_fits (gbufpin_of parts n)
      of false = read_low (global_feed parts n)
  role_fits (CarryIn t) cell = of (set_at parts bits t (codes "CarryInSet") 0)
    where
      of : (b : Bool) → cond b 1 0 < next
      of true = some
      of false = omega arith
  role_fits ClockEnable cell = some

  driven_fits : (role : Role) (d : Driver) → IsOfCell parts role → Fits (driven_slot parts bits extras bonded slots next role d)
  driven_fits role driver.Nothing cell = role_fits role cell
  driven_fits role (driver.By s) cell = of (passes parts bits s)
    where
      of : (b : Bool) → cond b (slot_in parts slots (Wire s.source)) 0 < next
      of true = low (number parts (Wire s.source))
      of false = omega arith
  driven_fits role (driver.Several first second) cell = omega arith

  pub point_fits : (p : Point) → Fits (point_slot parts bits extras bonded slots next p)
  point_fits (Wire w) = driven_fits (role_of parts w.0) (driver_of parts bits w.0) (role_of_cell parts w.0)
  point_fits (Carry t i) = of (has_carry parts bits t i)
    where
      of : (b : Bool) → Fits (cond b (Own (Made (carry_gate parts slots next t i))) (Shared 0))
      of true = carry_gate_at t i
      of false = omega arith

-- ---- what is read
-- inputs read the same where two assignments agree at what is read
pub reads_same : {A : Type 0} (bare : A) (v w : Point → A) (inputs : List (Option Point)) → ((q : Point) → Has (present inputs) q → v q ≡ w q)
    → map (reading bare v) inputs ≡ map (reading bare w) inputs
reads_same bare v w [] same = refl
reads_same bare v w (None ∷ inputs) same = ap (λ xs. bare ∷ xs) (reads_same bare v w inputs same)
reads_same bare v w (Some p ∷ inputs) same =
    ap (λ x. x ∷ map (reading bare v) inputs) (same p (0, refl))
    ∙ ap (λ xs. w p ∷ xs) (reads_same bare v w inputs (λ q has. same q (suc has.0, has.1)))

-- ---- the layout
-- the slot of a point has the level that the point makes of the levels in the slots of what it reads
pub record Meets (parts : Parts) (bits : Bits) (extras : List (ℕ × ℕ × ℕ)) (bonded : List Pad) (l : Layout) (p : Point) : Type 0 where
  pub is : (levels kept values : List Bool) → length kept ≡ length (stores parts) → Obeys l.feeds levels kept values
      → level_at values (slot_in parts l.slots p) ≡ makes_at parts bits extras bonded levels kept p (map (reading false (λ q. level_at values (slot_in parts l.slots q))) (reads_at parts bits extras p))

-- the slots of the first i points of the order
pub record IsLaid (parts : Parts) (bits : Bits) (extras : List (ℕ × ℕ × ℕ)) (bonded : List Pad) (order : List Point) (i : ℕ) (l : Layout) : Type 0 where
  pub long : length l.slots ≡ count_points parts
  pub some : 1 < length l.feeds
  pub low : (n : ℕ) → slice_index_or l.slots n 0 < length l.feeds
  pub fed : AreFed (length bonded) (length (stores parts)) 0 l.feeds
  pub first : feed_at l.feeds 0 ≡ Nothing
  pub second : feed_at l.feeds 1 ≡ Made (slots_gate ones_table [] 1)
  pub meets : (j : ℕ) (p : Point) → At order j p → j < i → Meets parts bits extras bonded l p

-- the levels of the first two slots
pub zero_level : (feeds : List Feed) (levels kept values : List Bool) → 1 < length feeds → feed_at feeds 0 ≡ Nothing → Obeys feeds levels kept values → level_at values 0 ≡ false
zero_level feeds levels kept values some first obeys = obeys.each 0 (omega arith) ∙ ap (feed_level levels kept values) first

ones : (x : Bool) → x ≡ false → table_bit ones_table (number_of (x ∷ x ∷ x ∷ x ∷ [])) ≡ true
ones x e = rw e refl

pub one_level : (feeds : List Feed) (levels kept values : List Bool) → 1 < length feeds → feed_at feeds 0 ≡ Nothing → feed_at feeds 1 ≡ Made (slots_gate ones_table [] 1)
    → Obeys feeds levels kept values → level_at values 1 ≡ true
one_level feeds levels kept values some first second obeys =
    obeys.each 1 some ∙ ap (feed_level levels kept values) second ∙ ones (level_at values 0) (zero_level feeds levels kept values some first obeys)

module _ (parts : Parts) (bits : Bits) (extras : List (ℕ × ℕ × ℕ)) (bonded : List Pad) (order : List Point) (o : IsOrderOf parts bits extras order) where
  in_order : (j : ℕ) (p : Point) → At order j p → IsIn parts p
  in_order j p at = is_in parts p (o.within p (j, at))

  -- points at different places have different numbers
  apart : (j k : ℕ) (p q : Point) → At order j p → At order k q → j ≢ k → number parts p ≢ number parts q
  apart j k p q a b other e =
      let same : p ≡ q = number_once parts p q (in_order j p a) (in_order k q b) e in
      other (o.once j k q (subst (At order j) same a) b)

  -- a write at the number of one point leaves the slots of the others
  slot_other : (slots : List ℕ) (j k s : ℕ) (p q : Point) → At order j p → At order k q → j ≢ k → slot_in parts (set slots (number parts p) s) q ≡ slot_in parts slots q
  slot_other slots j k s p q a b other = get_or-set_other slots (number parts p) (number parts q) s 0 (λ e. apart j k p q a b other (sym e))

  slot_same : (slots : List ℕ) (j s : ℕ) (p : Point) → At order j p → length slots ≡ count_points parts → slot_in parts (set slots (number parts p) s) p ≡ s
  slot_same slots j s p at long =
      get_or-set_same slots (number parts p) s 0 (let lt = number_within parts p (in_order j p at) in omega arith)

  -- what a point at place j reads has slots that a write for the point at place i, from j on, leaves
  reads_kept : (slots values : List ℕ) (i j s : ℕ) (p q : Point) → At order i p → At order j q → j ≤ i → (levels : List Bool)
      → map (reading false (λ r. level_at levels (slot_in parts slots r))) (reads_at parts bits extras q)
      ≡ map (reading false (λ r. level_at levels (slot_in parts (set slots (number parts p) s) r))) (reads_at parts bits extras q)
  reads_kept slots values i j s p q a b le levels =
      reads_same false (λ r. level_at levels (slot_in parts slots r)) (λ r. level_at levels (slot_in parts (set slots (number parts p) s) r)) (reads_at parts bits extras q)
      (λ r has. let before = o.after j q r b has in
      ap (level_at levels) (sym (slot_other slots i before.0 s p r a before.2 (λ e. let lt : before.0 < j = before.1 in absurd (omega arith)))))

  -- ---- one more point
  low_set : (slots : List ℕ) (n s bound m : ℕ) → n < length slots → s < bound → slice_index_or slots m 0 < bound → slice_index_or (set slots n s) m 0 < bound
  low_set slots n s bound m within lt old = elim (eqb_tells m n) [
    | inl same ↦ (let e : m ≡ n = same.1 in rw (e, get_or-set_same slots n s 0 within) lt)
    | inr other ↦ rw (get_or-set_other slots n m s 0 other.1) old
  ]

  module _ (i : ℕ) (p : Point) (l : Layout) (at : At order i p) (laid_ : IsLaid parts bits extras bonded order i l) where
    abbrev here : ℕ
    here = number parts p

    here_within : here < length l.slots
    here_within = let lt = number_within parts p (in_order i p at) in let e = laid_.long in omega arith

    -- the points before keep their levels
    old_meets : (s : ℕ) (more : List Feed) (j : ℕ) (q : Point) → At order j q → j < i
        → Meets parts bits extras bonded (record { slots = set l.slots here s; feeds = l.feeds ++ more }) q
    old_meets s more j q there lt = record {
      is = λ levels kept values kept_long obeys.
          ap (level_at values) (slot_other l.slots i j s p q at there (λ e. absurd (omega arith)))
          ∙ (laid_.meets j q there lt).is levels kept values kept_long (obeys_left l.feeds more levels kept values obeys)
          ∙ ap (makes_at parts bits extras bonded levels kept q) (reads_kept l.slots [] i j s p q at there (omega arith) values);
    }

    -- and this one has its own
    new_meets : (s : ℕ) (more : List Feed) (slot : PointSlot) → point_slot parts bits extras bonded l.slots (length l.feeds) p ≡ slot
        → ((levels kept values : List Bool) → (kept_long : length kept ≡ length (stores parts)) → Obeys (l.feeds ++ more) levels kept values → (zero_is : level_at values 0 ≡ false)
        → (one_is : level_at values 1 ≡ true) → level_at values s ≡ slot_level parts bits l.slots values zero_is extras bonded levels kept kept_long one_is slot)
        → Meets parts bits extras bonded (record { slots = set l.slots here s; feeds = l.feeds ++ more }) p
    new_meets s more slot e level = record {
      is = λ levels kept values kept_long obeys.
          let old = obeys_left l.feeds more levels kept values obeys in
          let zero_is = zero_level l.feeds levels kept values laid_.some laid_.first old in
          let one_is = one_level l.feeds levels kept values laid_.some laid_.first laid_.second old in
          ap (level_at values) (slot_same l.slots i s p at laid_.long)
          ∙ level levels kept values kept_long obeys zero_is one_is
          ∙ ap (slot_level parts bits l.slots values zero_is extras bonded levels kept kept_long one_is) (sym e)
          ∙ point_is parts bits l.slots values zero_is extras bonded levels kept kept_long one_is (length l.feeds) p
          ∙ ap (makes_at parts bits extras bonded levels kept p) (reads_kept l.slots [] i i s p p at at (omega arith) values);
    }

    all_meet : (s : ℕ) (more : List Feed) → Meets parts bits extras bonded (record { slots = set l.slots here s; feeds = l.feeds ++ more }) p
        → (j : ℕ) (q : Point) → At order j q → j < i + 1 → Meets parts bits extras bonded (record { slots = set l.slots here s; feeds = l.feeds ++ more }) q
    all_meet s more new j q there lt = elim (cases_lt j i) [
      | inl below ↦ old_meets s more j q there below
      | inr above ↦ (let e : i ≡ j = omega arith in
          let same : p ≡ q = At_same order j p q (subst (λ k. At order k p) e at) there in
          subst (Meets parts bits extras bonded (record { slots = set l.slots here s; feeds = l.feeds ++ more })) same new)
    ]

    grown : (s : ℕ) (more : List Feed) → s < length (l.feeds ++ more) → AreFed (length bonded) (length (stores parts)) 0 (l.feeds ++ more)
        → Meets parts bits extras bonded (record { slots = set l.slots here s; feeds = l.feeds ++ more }) p
        → IsLaid parts bits extras bonded order (i + 1) (record { slots = set l.slots here s; feeds = l.feeds ++ more })
    grown s more lt fed new =
        let long = length-append l.feeds more in
        let some = laid_.some in
        record {
          long = length-set l.slots here s ∙ laid_.long;
          some = omega arith;
          low = λ n. low_set l.slots here s (length (l.feeds ++ more)) n here_within lt (let old = laid_.low n in omega arith);
          fed = fed;
          first = feed_left l.feeds more 0 (omega arith) ∙ laid_.first;
          second = feed_left l.feeds more 1 some ∙ laid_.second;
          meets = all_meet s more new;
        }

    no_more : l.feeds ++ [] ≡ l.feeds
    no_more = append-nil l.feeds

    -- one step of the layout
    pub laid_one : IsLaid parts bits extras bonded order (i + 1) (placed (point_slot parts bits extras bonded l.slots (length l.feeds) p) here l)
    laid_one = of (point_slot parts bits extras bonded l.slots (length l.feeds) p) refl (point_fits parts bits extras bonded l.slots (length l.feeds) laid_.some laid_.low p)
      where
        of : (slot : PointSlot) → point_slot parts bits extras bonded l.slots (length l.feeds) p ≡ slot → IsSlot (length bonded) (length (stores parts)) (length l.feeds) slot
            → IsLaid parts bits extras bonded order (i + 1) (placed slot here l)
        of (Shared s) e fits =
            subst (λ feeds. IsLaid parts bits extras bonded order (i + 1) (record { slots = set l.slots here s; feeds = feeds })) no_more
            (grown s [] (rw no_more fits) (rw no_more laid_.fed) (new_meets s [] (Shared s) e (λ levels kept values kept_long obeys zero_is one_is. refl)))
        of (Own feed) e fits =
            grown (length l.feeds) (feed ∷ []) (let long = length-append l.feeds (feed ∷ []) in omega arith)
            (fed_push (length bonded) (length (stores parts)) 0 l.feeds feed laid_.fed (let zero_more : 0 + length l.feeds ≡ length l.feeds = omega arith in rw zero_more fits))
            (new_meets (length l.feeds) (feed ∷ []) (Own feed) e (λ levels kept values kept_long obeys zero_is one_is.
            obeys.each (length l.feeds) (let long = length-append l.feeds (feed ∷ []) in omega arith)
            ∙ ap (feed_level levels kept values) (get_or-append_seam l.feeds feed [] Nothing)))

  -- ---- all points
  end : (i : ℕ) (l : Layout) → length order ≤ i → IsLaid parts bits extras bonded order i l → IsLaid parts bits extras bonded order (length order) l
  end i l le laid_ = record {
    long = laid_.long;
    some = laid_.some;
    low = laid_.low;
    fed = laid_.fed;
    first = laid_.first;
    second = laid_.second;
    meets = λ j p at lt. laid_.meets j p at (omega arith);
  }

  laid_from : (rest : List Point) (i : ℕ) (l : Layout) → drop i order ≡ rest → IsLaid parts bits extras bonded order i l
      → IsLaid parts bits extras bonded order (length order) (laid parts bits extras bonded rest l)
  laid_from [] i l is laid_ =
      let none : length (drop i order) ≡ 0 = ap length is in
      end i l (omega (arith, length-drop i order)) laid_
  laid_from (p ∷ rest) i l is laid_ =
      laid_from rest (i + 1) (placed (point_slot parts bits extras bonded l.slots (length l.feeds) p) (number parts p) l) behind (laid_one i p l at laid_)
    where
      lt : i < length order
      lt = let some : length (drop i order) ≡ suc (length rest) = ap length is in omega (arith, length-drop i order)

      at : At order i p
      at = let e : i + 0 ≡ i = omega arith in subst (λ k. slice_get order k ≡ Some p) e (sym (At_drop order i 0) ∙ ap (λ l. slice_get l 0) is)

      behind : drop (i + 1) order ≡ rest
      behind = let e : get_or order i p ∷ drop (i + 1) order ≡ p ∷ rest = sym (drop_more order i p lt) ∙ is in cc

  -- ---- the start
  low_zero : (k : ℕ) → k ≡ 0 → k < 2
  low_zero k e = omega arith

  past : (count n : ℕ) → count ≤ n → length (replicate {A = ℕ} count 0) ≤ n
  past count n le = subst (λ k. k ≤ n) (sym (length-replicate {A = ℕ} count 0)) le

  bare_slot : (count n : ℕ) → slice_index_or (replicate count 0) n 0 < 2
  bare_slot count n = low_zero (slice_index_or (replicate count 0) n 0) (elim (cases_lt n count) [
    | inl lt ↦ get_or-replicate count n 0 0 lt
    | inr ge ↦ get_or-eq_default (replicate count 0) 0 (past count n ge)
  ])

  laid_bare : IsLaid parts bits extras bonded order 0 (bare_layout parts)
  laid_bare = record {
    long = length-replicate (count_points parts) 0;
    some = omega arith;
    low = bare_slot (count_points parts);
    fed = (tt, (record { out_is = refl; first_before = omega arith; second_before = omega arith; third_before = omega arith; fourth_before = omega arith }, tt));
    first = refl;
    second = refl;
    meets = λ j p at lt. absurd (omega arith);
  }

  -- all points have their slots
  pub all_laid : IsLaid parts bits extras bonded order (length order) (laid parts bits extras bonded order (bare_layout parts))
  all_laid = laid_from order 0 (bare_layout parts) refl laid_bare
