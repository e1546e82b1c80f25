-- Which cell drives which signal of the netlist of a circuit.
use Rattle.std.proofs.Common.{◌≡◌, ℕ, zero, suc, ◌+◌, ◌-◌, ◌*◌, ◌/◌, ◌%◌, ◌<◌, ◌≤◌, ◌==◌, not, Bool, true, false, Option, None, Some, List, [], ◌∷◌, ◌++◌, length, map, zip, inl, inr, refl, sym, ap, ◌∙◌, subst, nat_lt, get_or, length-append, arith, rules, tests, eq-eqb, eqb-true, if◌then◌else◌}
use Rattle.std.specs.Prelude.{option_map, unwrap_or}
use Rattle.std.specs.List.{flat_map, range_with_len, position_or_len}
use Rattle.std.proofs.lemmas.Bool.{lt-ltb}
use Rattle.std.proofs.lemmas.Option.{same_Some, none-some, get_or_from_slice_get}
use Rattle.ice_base.specs.declared.number.TileAt.{TileAt}
use Rattle.ice_base.specs.declared.number.SignalNo.{SignalNo}
use Rattle.ice_base_values.specs.Order.{At, Has}
use Rattle.ice_base_values.proofs.Members.{At_within}
use Rattle.ice_chip.specs.Database.{Parts, PackageRows}
use Rattle.ice_chip.specs.declared.rows.Pad.{Pad}
use Rattle.ice_bits.specs.Configuration.{Bits}
use Rattle.ice_net.specs.declared.cell.Cell.{Cell}
use Rattle.ice_net.specs.declared.kind.CellKind as kinds
use Rattle.ice_net.specs.declared.kind.CellKind.TheVariants.{Lut, Cover}
use Rattle.ice_net.specs.declared.driver.SignalDriver as drivers
use Rattle.ice_net.specs.declared.port.Port.{Port}
use Rattle.ice_net.specs.Drivers.{is_signal, place_of, pin_of, buffer_at, pad_of, pad_signals, output_of, outputs, driver_from, driver_of}
use Rattle.ice_net.specs.NetlistData.{NetlistData, port_at, is_at}
use Rattle.ice_decode.specs.Cells.{cells, logic_tiles, tile_place, has_carry, has_flop}
use Rattle.ice_decode.specs.Reads.{cell_inputs, carry_inputs}
use Rattle.ice_decode.specs.Pads.{has_output_register}
use Rattle.ice_decode.proofs.KeptLevels.{tile_at}
use Rattle.ice_decode.proofs.Members.{At_map_cases, At_range, At_range_cases, Has_left, Has_right, Has_append_cases, Has_map}
use Rattle.ice_decode.proofs.PointPlaces.{cell_at, cell_cases, cells_long}
use Rattle.ice_back_laws.specs.Back.{reader, cell, signal_at, buffer_cell, pad_cell, input_cell, input_cells, output_cell, output_cells, level_cell, level_cells, side_cells, table_cells, carry_cells, flop_cell, flop_cells, logic_cells, fixed_cells, numbered_pads, pad_port, back_netlist}
use Rattle.ice_back_laws.specs.Numbers.{port_number, input_number, given_number, kept_number, level_number, cell_number, root_number, signal, pad_names, cell_names}
use Rattle.ice_back_laws.specs.Roots.{LevelRoot, Fixed, Input, Taken, Given, Kept, Level, Table, Register, Sum, cell_table, no_pad, pad_at, is_registered, feeds_global}
use Rattle.ice_back_laws.proofs.Ranks.{IsThere, StandsAt, place_found}

-- ---- lists
pub is_same : (s : ℕ) (o : Option SignalNo) → is_signal s o ≡ true → o ≡ Some (signal s)
is_same s None e = cc e
is_same s (Some x) e = ap (λ k. Some (signal k)) (eqb-true x.0 s e)

-- the first place of a signal is that of the one item that gives it
place_one : {X : Type 0} (f : X → Option SignalNo) (s : ℕ) (x : X) (xs : List X) → Has xs x → f x ≡ Some (signal s) → ((y : X) → Has xs y → f y ≡ Some (signal s) → y ≡ x)
    → (i : ℕ) × (place_of s (map f xs) ≡ Some i) × At xs i x
place_one f s x [] has is only = absurd (none-some x has.1)
place_one {X} f s x (y ∷ xs) has is only = by (is_signal s (f y)) refl has (λ later. place_one f s x xs later is (λ z h. only z (suc h.0, h.1)))
  where
    by : (b : Bool) → is_signal s (f y) ≡ b → Has (y ∷ xs) x → (Has xs x → (i : ℕ) × (place_of s (map f xs) ≡ Some i) × At xs i x)
        → (i : ℕ) × ((if b then Some 0 else option_map suc (place_of s (map f xs))) ≡ Some i) × At (y ∷ xs) i x
    by true e h later = (0, refl, ap (λ z. Some z) (only y (0, refl) (is_same s (f y) e)))
    by false e (zero, at) later =
        let same : f y ≡ Some (signal s) = ap f (same_Some y x at) ∙ is in
        let yes : is_signal s (f y) ≡ true = ap (is_signal s) same ∙ eq-eqb s s refl in
        cc (yes, e)
    by false e (suc i, at) later = let rest = later (i, at) in (suc rest.0, ap (option_map suc) rest.1, rest.2)

pub place_none : {X : Type 0} (f : X → Option SignalNo) (s : ℕ) (xs : List X) → ((y : X) → Has xs y → f y ≡ Some (signal s) → ⊥) → place_of s (map f xs) ≡ None
place_none f s [] never = refl
place_none f s (y ∷ xs) never = by (is_signal s (f y)) refl (place_none f s xs (λ z h. never z (suc h.0, h.1)))
  where
    by : (b : Bool) → is_signal s (f y) ≡ b → place_of s (map f xs) ≡ None → (if b then Some 0 else option_map suc (place_of s (map f xs))) ≡ None
    by true e rest = absurd (never y (0, refl) (is_same s (f y) e))
    by false e rest = ap (option_map suc) rest

pub flat_back : {X Y : Type 0} (f : X → List Y) (xs : List X) (y : Y) → Has (flat_map f xs) y → (x : X) × Has xs x × Has (f x) y
flat_back f [] y has = absurd (none-some y has.1)
flat_back f (x ∷ xs) y has = elim (Has_append_cases (f x) (flat_map f xs) y has) [
  | inl here ↦ (x, (0, refl), here)
  | inr later ↦ let rest = flat_back f xs y later in (rest.0, (suc rest.1.0, rest.1.1), rest.2)
]

pub flat_on : {X Y : Type 0} (f : X → List Y) (xs : List X) (i : ℕ) (x : X) (y : Y) → At xs i x → Has (f x) y → Has (flat_map f xs) y
flat_on f [] i x y at has = absurd (none-some x at)
flat_on f (z ∷ xs) zero x y at has = Has_left (f z) (flat_map f xs) y (subst (λ w. Has (f w) y) (sym (same_Some z x at)) has)
flat_on f (z ∷ xs) (suc i) x y at has = Has_right (f z) (flat_map f xs) y (flat_on f xs i x y at has)

pub flat_long : {X Y : Type 0} (f : X → List Y) (k : ℕ) → ((x : X) → length (f x) ≡ k) → (xs : List X) → length (flat_map f xs) ≡ k * length xs
flat_long f k each [] = omega arith
flat_long f k each (x ∷ xs) =
    length-append (f x) (flat_map f xs) ∙ ap (λ n. n + length (flat_map f xs)) (each x) ∙ ap (λ n. k + n) (flat_long f k each xs) ∙ one k (length xs)
  where
    one : (a b : ℕ) → a + a * b ≡ a * suc b
    one a b = search (rules, arith)

-- numbers beside what they number
pub numbered_cases : (a : ℕ) (xs : List Pad) (i : ℕ) (x : ℕ × Pad) → At (zip (range_with_len a (length xs)) xs) i x → (x.0 ≡ a + i) × At xs i x.1
numbered_cases a [] i x at = absurd (none-some x at)
numbered_cases a (y ∷ xs) zero x at = let e : (a, y) ≡ x = same_Some (a, y) x at in ((let f : a ≡ x.0 = ap (λ (z : ℕ × Pad). z.0) e in omega (arith, f)), ap (λ (z : ℕ × Pad). Some z.1) e)
numbered_cases a (y ∷ xs) (suc i) x at = let rest = numbered_cases (a + 1) xs i x at in (omega (arith, rest.0), rest.1)

numbered_at : (a : ℕ) (xs : List Pad) (i : ℕ) (x : Pad) → At xs i x → At (zip (range_with_len a (length xs)) xs) i (a + i, x)
numbered_at a [] i x at = absurd (none-some x at)
numbered_at a (y ∷ xs) zero x at =
    let e : a ≡ a + 0 = omega arith in
    let f : y ≡ x = same_Some y x at in
    λ j. Some (e j, f j)
numbered_at a (y ∷ xs) (suc i) x at =
    let e : a + 1 + i ≡ a + suc i = omega arith in
    subst (λ n. At (zip (range_with_len (a + 1) (length xs)) xs) i (n, x)) e (numbered_at (a + 1) xs i x at)

pub pad_stands : (xs : List Pad) (k : ℕ) → k < length xs → At xs k (pad_at xs k)
pad_stands [] k lt = absurd (omega arith)
pad_stands (x ∷ xs) zero lt = refl
pad_stands (x ∷ xs) (suc k) lt = pad_stands xs k (omega arith)

module _ (parts : Parts) (bits : Bits) (extras : List (ℕ × ℕ × ℕ)) (package_rows : PackageRows) where
  abbrev pub bonded : List Pad
  bonded = package_rows.pads

  abbrev pub netlist : NetlistData
  netlist = back_netlist parts bits extras package_rows

  abbrev pub RootStands : LevelRoot → Type 0
  RootStands r = IsThere parts bits extras bonded r

  -- the pad of a number, with the number
  abbrev pub numbered : ℕ → ℕ × Pad
  numbered k = (k, pad_at bonded k)

  -- the cell that makes the level of a root
  abbrev pub cell_of : LevelRoot → Cell
  cell_of (Fixed false) = cell (Cover 0 0) [] (signal_at 0 ∷ [])
  cell_of (Fixed true) = cell (Cover 1 0) [] (signal_at 1 ∷ [])
  cell_of (Input k) = buffer_cell parts bits extras bonded (numbered k) (input_number k)
  cell_of (Taken k) = input_cell parts bits extras bonded (numbered k)
  cell_of (Given k) = buffer_cell parts bits extras bonded (numbered k) (given_number k)
  cell_of (Kept k) = output_cell parts bits extras bonded (numbered k)
  cell_of (Level k) = level_cell k
  cell_of (Table t i) = cell (Lut (cell_table parts bits t i)) (map (reader parts bits extras bonded false) (cell_inputs parts t i)) (signal_at (cell_number parts bonded t i) ∷ [])
  cell_of (Register t i) = flop_cell parts bits extras bonded (t, i)
  cell_of (Sum t i) = cell kinds.TheVariants.Carry (map (reader parts bits extras bonded false) (carry_inputs parts t i)) (signal_at (cell_number parts bonded t i + 2) ∷ [])

  abbrev pad_cells : List Cell
  pad_cells = map (pad_cell parts bits extras bonded) (numbered_pads bonded)

  abbrev sides : List Cell
  sides = flat_map (side_cells parts bits extras bonded) (numbered_pads bonded)

  abbrev all_logic : List Cell
  all_logic = flat_map (logic_cells parts bits extras bonded) (cells parts)

  -- ---- each cell makes a root's level
  abbrev IsMadeFor : Cell → Type 0
  IsMadeFor c = (r : LevelRoot) × RootStands r × (c ≡ cell_of r)

  fixed_made : (i : ℕ) (c : Cell) → At fixed_cells i c → IsMadeFor c
  fixed_made zero c at = (Fixed false, tt, sym (same_Some (cell_of (Fixed false)) c at))
  fixed_made (suc zero) c at = (Fixed true, tt, sym (same_Some (cell_of (Fixed true)) c at))
  fixed_made (suc (suc i)) c at = absurd (none-some c at)

  one : (c d : Cell) → Has (d ∷ []) c → c ≡ d
  one c d (zero, at) = sym (same_Some d c at)
  one c d (suc j, at) = absurd (none-some c at)

  pad_made : (c : Cell) → Has pad_cells c → IsMadeFor c
  pad_made c has =
      let found = At_map_cases (pad_cell parts bits extras bonded) (numbered_pads bonded) has.0 c has.1 in
      let x : ℕ × Pad = found.0 in
      let is = numbered_cases 0 bonded has.0 x found.1 in
      let e : has.0 ≡ x.0 = omega (arith, is.0) in
      let pad : pad_at bonded has.0 ≡ x.1 = get_or_from_slice_get bonded has.0 x.1 no_pad is.1 in
      by has.0 (At_within bonded has.0 x.1 is.1) (is_registered parts bits (pad_at bonded has.0)) refl (sym found.2 ∙ (λ j. pad_cell parts bits extras bonded (sym e j, sym pad j)))
    where
      by : (k : ℕ) → k < length bonded → (b : Bool) → is_registered parts bits (pad_at bonded k) ≡ b
          → c ≡ buffer_cell parts bits extras bonded (numbered k) (if b then given_number k else input_number k) → IsMadeFor c
      by k lt true e f = (Given k, (lt, e), f)
      by k lt false e f = (Input k, (lt, e), f)

  side_made : (k : ℕ) (c : Cell) → k < length bonded → Has (side_cells parts bits extras bonded (numbered k)) c → IsMadeFor c
  side_made k c lt has = elim (Has_append_cases (input_cells parts bits extras bonded (numbered k)) (output_cells parts bits extras bonded (numbered k) ++ level_cells parts bits extras (numbered k)) c has) [
    | inl first ↦ input (is_registered parts bits (pad_at bonded k)) refl first
    | inr rest ↦ elim (Has_append_cases (output_cells parts bits extras bonded (numbered k)) (level_cells parts bits extras (numbered k)) c rest) [
      | inl second ↦ output (has_output_register parts bits (pad_at bonded k)) refl second
      | inr third ↦ level (feeds_global parts bits extras (pad_at bonded k)) refl third
    ]
  ]
    where
      input : (b : Bool) → is_registered parts bits (pad_at bonded k) ≡ b → Has (if b then cell_of (Taken k) ∷ [] else []) c → IsMadeFor c
      input true e h = (Taken k, (lt, e), one c (cell_of (Taken k)) h)
      input false e h = absurd (none-some c h.1)

      output : (b : Bool) → has_output_register parts bits (pad_at bonded k) ≡ b → Has (if b then cell_of (Kept k) ∷ [] else []) c → IsMadeFor c
      output true e h = (Kept k, (lt, e), one c (cell_of (Kept k)) h)
      output false e h = absurd (none-some c h.1)

      level : (b : Bool) → feeds_global parts bits extras (pad_at bonded k) ≡ b → Has (if b then cell_of (Level k) ∷ [] else []) c → IsMadeFor c
      level true e h = (Level k, (lt, e), one c (cell_of (Level k)) h)
      level false e h = absurd (none-some c h.1)

  sides_made : (c : Cell) → Has sides c → IsMadeFor c
  sides_made c has =
      let found = flat_back (side_cells parts bits extras bonded) (numbered_pads bonded) c has in
      let k : ℕ = found.1.0 in
      let is = numbered_cases 0 bonded found.1.0 found.0 found.1.1 in
      let e : found.0.0 ≡ found.1.0 = omega (arith, is.0) in
      let pad : found.0.1 ≡ pad_at bonded found.1.0 = sym (get_or_from_slice_get bonded found.1.0 found.0.1 no_pad is.1) in
      let same : found.0 ≡ numbered found.1.0 = (λ j. (e j, pad j)) in
      side_made found.1.0 c (At_within bonded found.1.0 found.0.1 is.1) (subst (λ (x : ℕ × Pad). Has (side_cells parts bits extras bonded x) c) same found.2)

  logic_made : (t : TileAt) (i : ℕ) (c : Cell) → StandsAt parts t i → Has (logic_cells parts bits extras bonded (t, i)) c → IsMadeFor c
  logic_made t i c place has = elim (Has_append_cases (table_cells parts bits extras bonded (t, i)) (carry_cells parts bits extras bonded (t, i) ++ flop_cells parts bits extras bonded (t, i)) c has) [
    | inl first ↦ table (cell_table parts bits t i == 0) refl first
    | inr rest ↦ elim (Has_append_cases (carry_cells parts bits extras bonded (t, i)) (flop_cells parts bits extras bonded (t, i)) c rest) [
      | inl second ↦ carry (has_carry parts bits t i) refl second
      | inr third ↦ flop (has_flop parts bits t i) refl third
    ]
  ]
    where
      table : (b : Bool) → (cell_table parts bits t i == 0) ≡ b → Has (if b then [] else cell_of (Table t i) ∷ []) c → IsMadeFor c
      table true e h = absurd (none-some c h.1)
      table false e h = (Table t i, (place, e), one c (cell_of (Table t i)) h)

      carry : (b : Bool) → has_carry parts bits t i ≡ b → Has (if b then cell_of (Sum t i) ∷ [] else []) c → IsMadeFor c
      carry true e h = (Sum t i, (place, e), one c (cell_of (Sum t i)) h)
      carry false e h = absurd (none-some c h.1)

      flop : (b : Bool) → has_flop parts bits t i ≡ b → Has (if b then cell_of (Register t i) ∷ [] else []) c → IsMadeFor c
      flop true e h = (Register t i, (place, e), one c (cell_of (Register t i)) h)
      flop false e h = absurd (none-some c h.1)

  pub cell_made : (c : Cell) → Has netlist.cells c → IsMadeFor c
  cell_made c has = elim (Has_append_cases fixed_cells (pad_cells ++ (sides ++ all_logic)) c has) [
    | inl fixed ↦ fixed_made fixed.0 c fixed.1
    | inr rest ↦ elim (Has_append_cases pad_cells (sides ++ all_logic) c rest) [
      | inl pad ↦ pad_made c pad
      | inr more ↦ elim (Has_append_cases sides all_logic c more) [
        | inl side ↦ sides_made c side
        | inr logic ↦ (let found = flat_back (logic_cells parts bits extras bonded) (cells parts) c logic in
            let spot = cell_cases (logic_tiles parts) found.1.0 found.0 found.1.1 in
            let place = place_found found.0.0 (logic_tiles parts) (spot.place, spot.stands) in
            logic_made found.0.0 found.0.1 c (place.0, place.1, spot.below) found.2)
      ]
    ]
  ]

  -- ---- each root that is there has its cell
  pad_there : (c : Cell) → Has pad_cells c → Has netlist.cells c
  pad_there c has = Has_right fixed_cells (pad_cells ++ (sides ++ all_logic)) c (Has_left pad_cells (sides ++ all_logic) c has)

  number_stands : (k : ℕ) → k < length bonded → At (numbered_pads bonded) k (numbered k)
  number_stands k lt = let e : 0 + k ≡ k = omega arith in subst (λ n. At (numbered_pads bonded) k (n, pad_at bonded k)) e (numbered_at 0 bonded k (pad_at bonded k) (pad_stands bonded k lt))

  pub buffer_there : (k : ℕ) → k < length bonded → Has netlist.cells (pad_cell parts bits extras bonded (numbered k))
  buffer_there k lt =
      pad_there (pad_cell parts bits extras bonded (numbered k)) (Has_map (pad_cell parts bits extras bonded) (numbered_pads bonded) (numbered k) (k, number_stands k lt))

  side_there : (k : ℕ) (c : Cell) → k < length bonded → Has (side_cells parts bits extras bonded (numbered k)) c → Has netlist.cells c
  side_there k c lt has =
      Has_right fixed_cells (pad_cells ++ (sides ++ all_logic)) c (Has_right pad_cells (sides ++ all_logic) c
      (Has_left sides all_logic c (flat_on (side_cells parts bits extras bonded) (numbered_pads bonded) k (numbered k) c (number_stands k lt) has)))

  logic_stands : (t : TileAt) (i : ℕ) (c : Cell) → StandsAt parts t i → Has (logic_cells parts bits extras bonded (t, i)) c → Has netlist.cells c
  logic_stands t i c (k, e, lt) has =
      Has_right fixed_cells (pad_cells ++ (sides ++ all_logic)) c (Has_right pad_cells (sides ++ all_logic) c (Has_right sides all_logic c
      (flat_on (logic_cells parts bits extras bonded) (cells parts) (8 * k + i) (t, i) c (cell_at (logic_tiles parts) k i t (tile_at t (logic_tiles parts) k e) lt) has)))

  -- the SB_IO of a pad, by whether the netlist has the register of its input
  pub buffer_is : (k : ℕ) (b : Bool) → is_registered parts bits (pad_at bonded k) ≡ b
      → pad_cell parts bits extras bonded (numbered k) ≡ buffer_cell parts bits extras bonded (numbered k) (if b then given_number k else input_number k)
  buffer_is k b e = ap (λ c. buffer_cell parts bits extras bonded (numbered k) (if c then given_number k else input_number k)) e

  pub root_stands : (r : LevelRoot) → RootStands r → Has netlist.cells (cell_of r)
  root_stands (Fixed false) there = (0, refl)
  root_stands (Fixed true) there = (1, refl)
  root_stands (Input k) there = subst (Has netlist.cells) (buffer_is k false there.1) (buffer_there k there.0)
  root_stands (Taken k) there =
      side_there k (cell_of (Taken k)) there.0
      (Has_left (input_cells parts bits extras bonded (numbered k)) (output_cells parts bits extras bonded (numbered k) ++ level_cells parts bits extras (numbered k)) (cell_of (Taken k))
      (subst (λ b. Has (if b then cell_of (Taken k) ∷ [] else []) (cell_of (Taken k))) (sym there.1) (0, refl)))
  root_stands (Given k) there = subst (Has netlist.cells) (buffer_is k true there.1) (buffer_there k there.0)
  root_stands (Kept k) there =
      side_there k (cell_of (Kept k)) there.0
      (Has_right (input_cells parts bits extras bonded (numbered k)) (output_cells parts bits extras bonded (numbered k) ++ level_cells parts bits extras (numbered k)) (cell_of (Kept k))
      (Has_left (output_cells parts bits extras bonded (numbered k)) (level_cells parts bits extras (numbered k)) (cell_of (Kept k))
      (subst (λ b. Has (if b then cell_of (Kept k) ∷ [] else []) (cell_of (Kept k))) (sym there.1) (0, refl))))
  root_stands (Level k) there =
      side_there k (cell_of (Level k)) there.0
      (Has_right (input_cells parts bits extras bonded (numbered k)) (output_cells parts bits extras bonded (numbered k) ++ level_cells parts bits extras (numbered k)) (cell_of (Level k))
      (Has_right (output_cells parts bits extras bonded (numbered k)) (level_cells parts bits extras (numbered k)) (cell_of (Level k))
      (subst (λ b. Has (if b then cell_of (Level k) ∷ [] else []) (cell_of (Level k))) (sym there.1) (0, refl))))
  root_stands (Table t i) there =
      logic_stands t i (cell_of (Table t i)) there.0 (Has_left (table_cells parts bits extras bonded (t, i)) (carry_cells parts bits extras bonded (t, i) ++ flop_cells parts bits extras bonded (t, i)) (cell_of (Table t i))
      (subst (λ b. Has (if b then [] else cell_of (Table t i) ∷ []) (cell_of (Table t i))) (sym there.1) (0, refl)))
  root_stands (Register t i) there =
      logic_stands t i (cell_of (Register t i)) there.0 (Has_right (table_cells parts bits extras bonded (t, i)) (carry_cells parts bits extras bonded (t, i) ++ flop_cells parts bits extras bonded (t, i)) (cell_of (Register t i))
      (Has_right (carry_cells parts bits extras bonded (t, i)) (flop_cells parts bits extras bonded (t, i)) (cell_of (Register t i))
      (subst (λ b. Has (if b then cell_of (Register t i) ∷ [] else []) (cell_of (Register t i))) (sym there.1) (0, refl))))
  root_stands (Sum t i) there =
      logic_stands t i (cell_of (Sum t i)) there.0 (Has_right (table_cells parts bits extras bonded (t, i)) (carry_cells parts bits extras bonded (t, i) ++ flop_cells parts bits extras bonded (t, i)) (cell_of (Sum t i))
      (Has_left (carry_cells parts bits extras bonded (t, i)) (flop_cells parts bits extras bonded (t, i)) (cell_of (Sum t i))
      (subst (λ b. Has (if b then cell_of (Sum t i) ∷ [] else []) (cell_of (Sum t i))) (sym there.1) (0, refl))))

  -- ---- numbers tell roots
  abbrev of_cell : TileAt × ℕ → ℕ → LevelRoot
  of_cell c zero = Table c.0 c.1
  of_cell c (suc zero) = Register c.0 c.1
  of_cell c (suc (suc n)) = Sum c.0 c.1

  abbrev no_cell : TileAt × ℕ
  no_cell = (record { x = 0; y = 0 }, 0)

  abbrev of_pad : ℕ → ℕ → LevelRoot
  of_pad k zero = Fixed false
  of_pad k (suc zero) = if is_registered parts bits (pad_at bonded k) then Taken k else Input k
  of_pad k (suc (suc zero)) = Given k
  of_pad k (suc (suc (suc zero))) = Kept k
  of_pad k (suc (suc (suc (suc n)))) = Level k

  abbrev behind_fixed : ℕ → Bool → LevelRoot
  behind_fixed n true = of_pad (n / 5) (n % 5)
  behind_fixed n false = of_cell (get_or (cells parts) ((n - 5 * length bonded) / 3) no_cell) ((n - 5 * length bonded) % 3)

  -- the root of a signal's number
  abbrev told : ℕ → LevelRoot
  told zero = Fixed false
  told (suc zero) = Fixed true
  told (suc (suc n)) = behind_fixed n (nat_lt n (5 * length bonded))

  number_is : (t : TileAt) (i k : ℕ) → tile_place t (logic_tiles parts) ≡ Some k → cell_number parts bonded t i ≡ 2 + 5 * length bonded + 3 * (8 * k + i)
  number_is t i k e = ap (λ (o : Option ℕ). 2 + 5 * length bonded + 3 * (8 * unwrap_or o 0 + i)) e

  pad_told : (k d n : ℕ) → k < length bonded → d < 5 → n ≡ 2 + 5 * k + d → told n ≡ of_pad k d
  pad_told k d n lt few is =
      let e : n ≡ suc (suc (5 * k + d)) = omega (arith, is) in
      let below : nat_lt (5 * k + d) (5 * length bonded) ≡ true = lt-ltb (5 * k + d) (5 * length bonded) (omega (arith, lt, few)) in
      let whole : (5 * k + d) / 5 ≡ k = omega (arith, few) in
      let rest : (5 * k + d) % 5 ≡ d = omega (arith, few) in
      ap told e ∙ ap (behind_fixed (5 * k + d)) below ∙ (λ j. of_pad (whole j) (rest j))

  cell_told : (t : TileAt) (i d : ℕ) → StandsAt parts t i → d < 3 → told (cell_number parts bonded t i + d) ≡ of_cell (t, i) d
  cell_told t i d (k, e, lt) less =
      let number = number_is t i k e in
      let n : ℕ = 5 * length bonded + 3 * (8 * k + i) + d in
      let shape : cell_number parts bonded t i + d ≡ suc (suc (5 * length bonded + 3 * (8 * k + i) + d)) = omega (arith, number) in
      let above : nat_lt (5 * length bonded + 3 * (8 * k + i) + d) (5 * length bonded) ≡ false = not_less (5 * length bonded) (3 * (8 * k + i) + d) _ (omega arith) in
      let rest : 5 * length bonded + 3 * (8 * k + i) + d - 5 * length bonded ≡ 3 * (8 * k + i) + d = omega arith in
      let place : (3 * (8 * k + i) + d) / 3 ≡ 8 * k + i = omega (arith, less) in
      let which : (3 * (8 * k + i) + d) % 3 ≡ d = omega (arith, less) in
      let found : get_or (cells parts) (8 * k + i) no_cell ≡ (t, i) = get_or_from_slice_get (cells parts) (8 * k + i) (t, i) no_cell (cell_at (logic_tiles parts) k i t (tile_at t (logic_tiles parts) k e) lt) in
      ap told shape ∙ ap (behind_fixed (5 * length bonded + 3 * (8 * k + i) + d)) above
      ∙ ap (λ m. of_cell (get_or (cells parts) (m / 3) no_cell) (m % 3)) rest
      ∙ (λ j. of_cell (get_or (cells parts) (place j) no_cell) (which j))
      ∙ ap (λ c. of_cell c d) found
    where
      not_less : (a b n : ℕ) → n ≡ a + b → nat_lt n a ≡ false
      not_less a b n e = search (rules, tests, arith)

  root_told : (r : LevelRoot) → RootStands r → told (root_number parts bonded r) ≡ r
  root_told (Fixed false) there = refl
  root_told (Fixed true) there = refl
  root_told (Input k) there = pad_told k 1 (input_number k) there.0 (omega arith) (omega arith) ∙ ap (λ b. if b then Taken k else Input k) there.1
  root_told (Taken k) there = pad_told k 1 (input_number k) there.0 (omega arith) (omega arith) ∙ ap (λ b. if b then Taken k else Input k) there.1
  root_told (Given k) there = pad_told k 2 (given_number k) there.0 (omega arith) (omega arith)
  root_told (Kept k) there = pad_told k 3 (kept_number k) there.0 (omega arith) (omega arith)
  root_told (Level k) there = pad_told k 4 (level_number k) there.0 (omega arith) (omega arith)
  root_told (Table t i) there = let e : cell_number parts bonded t i ≡ cell_number parts bonded t i + 0 = omega arith in ap told e ∙ cell_told t i 0 there.0 (omega arith)
  root_told (Register t i) there = cell_told t i 1 there.0 (omega arith)
  root_told (Sum t i) there = cell_told t i 2 there.0 (omega arith)

  same_root : (r q : LevelRoot) → RootStands r → RootStands q → root_number parts bonded r ≡ root_number parts bonded q → r ≡ q
  same_root r q there here e = sym (root_told r there) ∙ ap told e ∙ root_told q here

  pub output_is : (r : LevelRoot) → output_of (cell_of r) ≡ Some (signal (root_number parts bonded r))
  output_is (Fixed false) = refl
  output_is (Fixed true) = refl
  output_is (Input k) = refl
  output_is (Taken k) = refl
  output_is (Given k) = refl
  output_is (Kept k) = refl
  output_is (Level k) = refl
  output_is (Table t i) = refl
  output_is (Register t i) = refl
  output_is (Sum t i) = refl

  same_number : (a b : ℕ) → Some (signal a) ≡ Some (signal b) → a ≡ b
  same_number a b e = ap (λ (s : SignalNo). s.0) (same_Some (signal a) (signal b) e)

  -- ---- ports
  pub port_made : (p : Port) → Has netlist.ports p → (k : ℕ) × (k < length bonded) × (p ≡ pad_port k)
  port_made p has =
      let found = At_map_cases pad_port (range_with_len 0 (length bonded)) has.0 p has.1 in
      let inside = At_range_cases 0 (length bonded) has.0 found.0 found.1 in
      (found.0, (let e : found.0 ≡ 0 + has.0 = inside.1 in omega (arith, inside.0, e)), sym found.2)

  cell_above : (t : TileAt) (i : ℕ) → StandsAt parts t i → 2 + 5 * length bonded ≤ cell_number parts bonded t i
  cell_above t i (k, e, lt) = omega (arith, number_is t i k e)

  not_port : (r : LevelRoot) → RootStands r → (k : ℕ) → k < length bonded → port_number k ≡ root_number parts bonded r → ⊥
  not_port (Fixed false) there k lt e = omega (arith, e)
  not_port (Fixed true) there k lt e = omega (arith, e)
  not_port (Input j) there k lt e = omega (arith, e)
  not_port (Taken j) there k lt e = omega (arith, e)
  not_port (Given j) there k lt e = omega (arith, e)
  not_port (Kept j) there k lt e = omega (arith, e)
  not_port (Level j) there k lt e = omega (arith, e)
  not_port (Table t i) there k lt e = let above = cell_above t i there.0 in omega (arith, e, lt, above)
  not_port (Register t i) there k lt e = let above = cell_above t i there.0 in omega (arith, e, lt, above)
  not_port (Sum t i) there k lt e = let above = cell_above t i there.0 in omega (arith, e, lt, above)

  unported : (s : ℕ) → ((k : ℕ) → k < length bonded → port_number k ≡ s → ⊥) → place_of s (pad_signals netlist) ≡ None
  unported s never =
      place_none (pad_of netlist.cells) s netlist.ports
      (λ p has e. let is = port_made p has in never is.0 is.1 (same_number (port_number is.0) s (ap (pad_of netlist.cells) (sym is.2) ∙ e)))

  -- ---- what drives the signal of a root
  pub root_driven : (r : LevelRoot) → RootStands r → (i : ℕ) × (driver_of netlist (root_number parts bonded r) ≡ drivers.TheVariants.Output i) × At netlist.cells i (cell_of r)
  root_driven r there =
      let s = root_number parts bonded r in
      let found = place_one output_of s (cell_of r) netlist.cells (root_stands r there) (output_is r)
      (λ c has e. let made = cell_made c has in
      made.2 ∙ ap cell_of (same_root made.0 r made.1 there (same_number (root_number parts bonded made.0) s (sym (output_is made.0) ∙ ap output_of (sym made.2) ∙ e)))) in
      (found.0, (λ j. driver_from (unported s (not_port r there) j) (found.1 j)), found.2)

  -- ---- how many signals there are
  pub names_long : length netlist.names ≡ 2 + 5 * length bonded + 3 * (8 * length (logic_tiles parts))
  names_long =
      let a = flat_long (pad_names package_rows) 5 (λ p. refl) bonded in
      let b = flat_long cell_names 3 (λ c. refl) (cells parts) in
      let c = cells_long (logic_tiles parts) in
      let d = length-append (flat_map (pad_names package_rows) bonded) (flat_map cell_names (cells parts)) in
      let e : 3 * length (cells parts) ≡ 3 * (8 * length (logic_tiles parts)) = ap (λ n. 3 * n) c in
      omega (arith, a, b, d, e)

  cell_below : (t : TileAt) (i : ℕ) → StandsAt parts t i → cell_number parts bonded t i + 2 < length netlist.names
  cell_below t i (k, e, lt) =
      let inside = At_within (logic_tiles parts) k t (tile_at t (logic_tiles parts) k e) in
      omega (arith, number_is t i k e, names_long, inside, lt)

  pub root_below : (r : LevelRoot) → RootStands r → root_number parts bonded r < length netlist.names
  root_below (Fixed false) there = omega (arith, names_long)
  root_below (Fixed true) there = omega (arith, names_long)
  root_below (Input k) there = let lt = there.0 in omega (arith, names_long, lt)
  root_below (Taken k) there = let lt = there.0 in omega (arith, names_long, lt)
  root_below (Given k) there = let lt = there.0 in omega (arith, names_long, lt)
  root_below (Kept k) there = let lt = there.0 in omega (arith, names_long, lt)
  root_below (Level k) there = let lt = there.0 in omega (arith, names_long, lt)
  root_below (Table t i) there = let below = cell_below t i there.0 in omega (arith, below)
  root_below (Register t i) there = let below = cell_below t i there.0 in omega (arith, below)
  root_below (Sum t i) there = cell_below t i there.0

  -- nothing drives a signal that has no name
  pub undriven : (s : ℕ) → length netlist.names ≤ s → driver_of netlist s ≡ drivers.TheVariants.Nothing
  undriven s le =
      let ports : place_of s (pad_signals netlist) ≡ None = unported s (λ k lt e. omega (arith, names_long, lt, e, le)) in
      let outs : place_of s (outputs netlist) ≡ None = place_none output_of s netlist.cells
      (λ c has e. let made = cell_made c has in
      let same : root_number parts bonded made.0 ≡ s = same_number (root_number parts bonded made.0) s (sym (output_is made.0) ∙ ap output_of (sym made.2) ∙ e) in
      let below = root_below made.0 made.1 in
      omega (arith, same, below, le)) in
      λ j. driver_from (ports j) (outs j)

  -- ---- the SB_IO of a port
  same_port : (j k : ℕ) → Some (signal (port_number j)) ≡ Some (signal (port_number k)) → j ≡ k
  same_port j k e = let same = same_number (port_number j) (port_number k) e in omega (arith, same)

  -- a cell at the pin of a port is the SB_IO of the port's pad
  at_port : (k : ℕ) (r : LevelRoot) → RootStands r → pin_of (cell_of r) ≡ Some (signal (port_number k)) → cell_of r ≡ pad_cell parts bits extras bonded (numbered k)
  at_port k (Fixed false) there e = cc e
  at_port k (Fixed true) there e = cc e
  at_port k (Input j) there e = sym (buffer_is j false there.1) ∙ ap (λ n. pad_cell parts bits extras bonded (numbered n)) (same_port j k e)
  at_port k (Taken j) there e = cc e
  at_port k (Given j) there e = sym (buffer_is j true there.1) ∙ ap (λ n. pad_cell parts bits extras bonded (numbered n)) (same_port j k e)
  at_port k (Kept j) there e = cc e
  at_port k (Level j) there e = cc e
  at_port k (Table t i) there e = cc e
  at_port k (Register t i) there e = cc e
  at_port k (Sum t i) there e = cc e

  pub buffered : (k : ℕ) → k < length bonded → (i : ℕ) × (buffer_at netlist.cells (port_number k) ≡ Some i) × At netlist.cells i (pad_cell parts bits extras bonded (numbered k))
  buffered k lt =
      place_one pin_of (port_number k) (pad_cell parts bits extras bonded (numbered k)) netlist.cells (buffer_there k lt) refl
      (λ c has e. let made = cell_made c has in made.2 ∙ at_port k made.0 made.1 (ap pin_of (sym made.2) ∙ e))

  -- ---- the place of a port
  port_from : (a n k : ℕ) → k < n → position_or_len (is_at (port_number (a + k))) (map pad_port (range_with_len a n)) ≡ k
  port_from a zero k lt = absurd (omega arith)
  port_from a (suc n) zero lt =
      let e : port_number a ≡ port_number (a + 0) = omega arith in
      let yes : (port_number a == port_number (a + 0)) ≡ true = eq-eqb (port_number a) (port_number (a + 0)) e in
      ap (λ b. if not b then 1 + position_or_len (is_at (port_number (a + 0))) (map pad_port (range_with_len (a + 1) n)) else 0) yes
  port_from a (suc n) (suc k) lt =
      let no : (port_number a == port_number (a + suc k)) ≡ false = search (rules, tests, arith) in
      let e : a + 1 + k ≡ a + suc k = omega arith in
      let rest : position_or_len (is_at (port_number (a + suc k))) (map pad_port (range_with_len (a + 1) n)) ≡ k
      = subst (λ m. position_or_len (is_at (port_number m)) (map pad_port (range_with_len (a + 1) n)) ≡ k) e (port_from (a + 1) n k (omega arith)) in
      let f : 1 + k ≡ suc k = omega arith in
      ap (λ b. if not b then 1 + position_or_len (is_at (port_number (a + suc k))) (map pad_port (range_with_len (a + 1) n)) else 0) no ∙ ap (λ m. 1 + m) rest ∙ f

  ports_long : length netlist.ports ≡ length bonded
  ports_long = many 0 (length bonded)
    where
      many : (a n : ℕ) → length (map pad_port (range_with_len a n)) ≡ n
      many a zero = refl
      many a (suc n) = let rest = many (a + 1) n in omega (arith, rest)

  pub port_place : (k : ℕ) → k < length bonded → port_at (port_number k) netlist.ports ≡ Some k
  port_place k lt =
      let z : 0 + k ≡ k = omega arith in
      let first : position_or_len (is_at (port_number k)) netlist.ports ≡ k
      = subst (λ m. position_or_len (is_at (port_number m)) netlist.ports ≡ k) z (port_from 0 (length bonded) k lt) in
      let long = ports_long in
      let yes : nat_lt k (length bonded) ≡ true = search (rules, tests) in
      (λ j. if nat_lt (first j) (long j) then Some (first j) else None) ∙ ap (λ b. if b then Some k else None) yes

  -- the pad of a port drives the port's signal
  pub port_driven : (k : ℕ) → k < length bonded → driver_of netlist (port_number k) ≡ drivers.TheVariants.Pad k
  port_driven k lt =
      let there : Has netlist.ports (pad_port k) = Has_map pad_port (range_with_len 0 (length bonded)) k (k, numbered_range) in
      let found = place_one (pad_of netlist.cells) (port_number k) (pad_port k) netlist.ports there refl
      (λ p has e. let is = port_made p has in
      is.2 ∙ ap pad_port (same_port is.0 k (ap (pad_of netlist.cells) (sym is.2) ∙ e))) in
      let at = At_map_cases pad_port (range_with_len 0 (length bonded)) found.0 (pad_port k) found.2 in
      let inside = At_range_cases 0 (length bonded) found.0 at.0 at.1 in
      let same : port_number at.0 ≡ port_number k = ap (λ (p : Port). p.signal.0) at.2 in
      let place : found.0 ≡ k = omega (arith, inside.1, same) in
      (λ j. driver_from (found.1 j) (place_of (port_number k) (outputs netlist))) ∙ ap (λ i. drivers.TheVariants.Pad i) place
    where
      numbered_range : At (range_with_len 0 (length bonded)) k k
      numbered_range = let e : 0 + k ≡ k = omega arith in subst (λ m. At (range_with_len 0 (length bonded)) k m) e (At_range 0 (length bonded) k lt)
