-- The netlist of a circuit is well formed, and it is sound.
use Rattle.std.proofs.Common.{◌≡◌, ℕ, suc, ◌+◌, ◌*◌, ◌<◌, ◌≤◌, ◌==◌, Bool, true, false, Option, None, Some, List, [], ◌∷◌, ◌++◌, length, map, zip, refl, sym, ap, ◌∙◌, subst, get_or, length-append, eqb-true, arith, rules, if◌then◌else◌}
use Rattle.std.specs.Prelude.{All, codes, slice_get}
use Rattle.std.specs.List.{flat_map, range_with_len}
use Rattle.std.specs.Option.{option_map_or}
use Rattle.std.proofs.lemmas.Bool.{not_from_true}
use Rattle.std.proofs.lemmas.List.{length-map}
use Rattle.std.proofs.lemmas.List.Elements.{All-nil, All-cons, All-from_recursion}
use Rattle.std.proofs.lemmas.Option.{slice_get-get_or}
use Rattle.ice_base.specs.declared.number.TileAt.{TileAt}
use Rattle.ice_base.specs.declared.number.SignalNo.{SignalNo}
use Rattle.ice_base_values.specs.Order.{At, Has}
use Rattle.ice_base_values.proofs.Members.{Has_all}
use Rattle.ice_chip.specs.Database.{Parts, PackageRows}
use Rattle.ice_chip.specs.IsRead.{IsRead}
use Rattle.ice_chip.specs.Lookups.{placed_at}
use Rattle.ice_chip.specs.Names.{pad_output_name, output_enable_name, input_clock_name, output_clock_name, in_out_enable_name}
use Rattle.ice_chip.specs.Within.{IsPackage}
use Rattle.ice_chip.specs.declared.rows.Pad.{Pad}
use Rattle.ice_chip_laws.specs.Laws.{LookupsAreLawful}
use Rattle.ice_chip_laws.specs.Names.{HasNames}
use Rattle.ice_bits.specs.Configuration.{Bits}
use Rattle.ice_net.specs.declared.cell.Cell.{Cell}
use Rattle.ice_net.specs.Drives.{output_type}
use Rattle.ice_net.specs.Uses.{input_type, is_type}
use Rattle.ice_net.specs.Formed.{IsBelow, IsPresent, IsFormedCell, IsPortBelow, IsFormed}
use Rattle.ice_net.specs.Kinds.{reset_names}
use Rattle.ice_net.specs.NetlistData.{NetlistData}
use Rattle.ice_check.specs.Faults.{cell_is, is_type_out, pin_type_out}
use Rattle.ice_check.specs.Sound.{IsSound}
use Rattle.ice_decode.specs.declared.point.Point.{Point}
use Rattle.ice_decode.specs.Cells.{cells, logic_tiles, has_carry, has_flop, cell_bit, reset_by}
use Rattle.ice_decode.specs.Reads.{at_pin, cell_inputs, carry_inputs}
use Rattle.ice_decode.specs.Refusals.{IsFaultless}
use Rattle.ice_decode.specs.Pads.{has_output_register}
use Rattle.ice_decode.proofs.Members.{At_map_cases}
use Rattle.ice_decode.proofs.PointPlaces.{cells_long}
use Rattle.ice_back_laws.specs.Back.{signal_at, reader, pin_reader, buffer_type, buffer_cell, pad_cell, register_cell, input_cell, input_cells, output_cell, output_cells, level_cell, level_cells, side_cells, table_cells, carry_cells, flop_cells, logic_cells, fixed_cells, numbered_pads}
use Rattle.ice_back_laws.specs.Law.{NetlistIsSound}
use Rattle.ice_back_laws.specs.Numbers.{port_number, input_number, given_number, kept_number, level_number, reader_of, root_number, signal}
use Rattle.ice_back_laws.specs.Roots.{LevelRoot, Fixed, Input, Taken, Given, Kept, Level, Table, Register, Sum, is_registered, feeds_global, pad_at, cell_table, is_reading_name, table_root, root_of}
use Rattle.ice_back_laws.proofs.Bounds.{few_tiles, few_pads}
use Rattle.ice_back_laws.proofs.Driving.{first_none, connected}
use Rattle.ice_back_laws.proofs.Inputs.{output_reads, enable_reads, IsUsed, pin_used, input_used, inputs_there, carry_input_used, below_some, point_good}
use Rattle.ice_back_laws.proofs.Loopless.{loopless}
use Rattle.ice_back_laws.proofs.PinTypes.{pio_below, buffer_typed}
use Rattle.ice_back_laws.proofs.Ranks.{IsThere, AreBelow, table_good}
use Rattle.ice_back_laws.proofs.Standing.{netlist, cell_of, cell_made, root_below, names_long, port_made, pad_stands}
use Rattle.ice_back_laws.proofs.Twice.{none_twice, none_shared}

-- ---- lists
pub all_at : {X : Type 0} (P : X → Type 0) (xs : List X) → ((j : ℕ) (x : X) → At xs j x → P x) → All P xs
all_at P xs each k d lt = each k (get_or xs k d) (slice_get-get_or xs k d lt)

flat_few : {X Y : Type 0} (f : X → List Y) (k : ℕ) → ((x : X) → length (f x) ≤ k) → (xs : List X) → length (flat_map f xs) ≤ k * length xs
flat_few f k each [] = omega arith
flat_few f k each (x ∷ xs) =
    let here = each x in
    let rest = flat_few f k each xs in
    let long = length-append (f x) (flat_map f xs) in
    let more : k + k * length xs ≡ k * suc (length xs) = one k (length xs) in
    omega (arith, here, rest, long, more)
  where
    one : (a b : ℕ) → a + a * b ≡ a * suc b
    one a b = search (rules, arith)

reset_one : (set at_once : Bool) → length (reset_names (reset_by set at_once)) ≡ 1
reset_one false false = refl
reset_one false true = refl
reset_one true false = refl
reset_one true true = refl

-- one of the three types is of six digits
type_below : (t : ℕ) → is_type t ≡ true → t < 64
type_below t e = first (t == input_type) refl e
  where
    second : (b : Bool) → (t == output_type) ≡ b → (if b then true else t == 41) ≡ true → t < 64
    second true f g = let h : t ≡ 25 = eqb-true t output_type f in omega (arith, h)
    second false f g = let h : t ≡ 41 = eqb-true t 41 g in omega (arith, h)

    first : (b : Bool) → (t == input_type) ≡ b → (if b then true else (if t == output_type then true else t == 41)) ≡ true → t < 64
    first true f g = let h : t ≡ 1 = eqb-true t input_type f in omega (arith, h)
    first false f g = second (t == output_type) refl g

module _ (parts : Parts) (bits : Bits) (extras : List (ℕ × ℕ × ℕ)) (read : IsRead parts) (names : HasNames parts) (faultless : IsFaultless parts bits extras) (package_rows : PackageRows) (has : Has parts.packages package_rows) where
  abbrev n : NetlistData
  n = netlist parts bits extras package_rows

  abbrev pads : List Pad
  pads = package_rows.pads

  abbrev signals : ℕ
  signals = length n.names

  abbrev own : LevelRoot → Cell
  own r = cell_of parts bits extras package_rows r

  -- ---- signals of cells have names
  reader_below : (bare : Bool) (q : LevelRoot) → IsThere parts bits extras pads q → IsBelow signals (reader_of parts pads bare q)
  reader_below true (Fixed true) there = tt
  reader_below true (Fixed false) there = root_below parts bits extras package_rows (Fixed false) there
  reader_below false (Fixed true) there = root_below parts bits extras package_rows (Fixed true) there
  reader_below false (Fixed false) there = tt
  reader_below true (Input k) there = root_below parts bits extras package_rows (Input k) there
  reader_below true (Taken k) there = root_below parts bits extras package_rows (Taken k) there
  reader_below true (Given k) there = root_below parts bits extras package_rows (Given k) there
  reader_below true (Kept k) there = root_below parts bits extras package_rows (Kept k) there
  reader_below true (Level k) there = root_below parts bits extras package_rows (Level k) there
  reader_below true (Table t i) there = root_below parts bits extras package_rows (Table t i) there
  reader_below true (Register t i) there = root_below parts bits extras package_rows (Register t i) there
  reader_below true (Sum t i) there = root_below parts bits extras package_rows (Sum t i) there
  reader_below false (Input k) there = root_below parts bits extras package_rows (Input k) there
  reader_below false (Taken k) there = root_below parts bits extras package_rows (Taken k) there
  reader_below false (Given k) there = root_below parts bits extras package_rows (Given k) there
  reader_below false (Kept k) there = root_below parts bits extras package_rows (Kept k) there
  reader_below false (Level k) there = root_below parts bits extras package_rows (Level k) there
  reader_below false (Table t i) there = root_below parts bits extras package_rows (Table t i) there
  reader_below false (Register t i) there = root_below parts bits extras package_rows (Register t i) there
  reader_below false (Sum t i) there = root_below parts bits extras package_rows (Sum t i) there

  point_below : (bare : Bool) (o : Option Point) → ((p : Point) → o ≡ Some p → IsUsed parts read bits names p) → IsBelow signals (reader parts bits extras pads bare o)
  point_below bare None used = tt
  point_below bare (Some p) used = reader_below bare (root_of parts bits extras pads p) (point_good parts read bits names extras faultless pads p (used p refl))

  pin_below : (bare : Bool) (t : TileAt) (name : List ℕ) → is_reading_name (placed_at t name) ≡ true → IsBelow signals (pin_reader parts bits extras pads bare t name)
  pin_below bare t name reads = point_below bare (at_pin parts t name) (λ p f. pin_used parts read bits names t name reads p f)

  all_below : (ps : List (Option Point)) → ((j : ℕ) (p : Point) → At ps j (Some p) → IsUsed parts read bits names p) → All (IsBelow signals) (map (reader parts bits extras pads false) ps)
  all_below ps used =
      all_at (IsBelow signals) (map (reader parts bits extras pads false) ps)
      (λ j x at. let found = At_map_cases (reader parts bits extras pads false) ps j x at in
      subst (IsBelow signals) found.2 (point_below false found.0 (λ p e. used j p (found.1 ∙ ap (λ (o : Option Point). Some o) e))))

  one_below : (s : Option SignalNo) → IsBelow signals s → All (IsBelow signals) (s ∷ [])
  one_below s below = All-cons (IsBelow signals) s [] below (All-nil (IsBelow signals))

  -- ---- cells
  fixed_formed : (level : Bool) → IsFormedCell signals (own (Fixed level))
  fixed_formed true = record {
    ins_long = refl;
    outs_long = refl;
    ins_below = All-nil (IsBelow signals);
    outs_below = one_below (Some (signal 1)) (root_below parts bits extras package_rows (Fixed true) tt);
    kind = record {
      narrow = omega arith;
      fits = omega arith;
      ins_present = All-nil (IsPresent signals);
      outs_present = All-cons (IsPresent signals) (Some (signal 1)) [] (root_below parts bits extras package_rows (Fixed true) tt) (All-nil (IsPresent signals));
    };
  }
  fixed_formed false = record {
    ins_long = refl;
    outs_long = refl;
    ins_below = All-nil (IsBelow signals);
    outs_below = one_below (Some (signal 0)) (root_below parts bits extras package_rows (Fixed false) tt);
    kind = record {
      narrow = omega arith;
      fits = omega arith;
      ins_present = All-nil (IsPresent signals);
      outs_present = All-cons (IsPresent signals) (Some (signal 0)) [] (root_below parts bits extras package_rows (Fixed false) tt) (All-nil (IsPresent signals));
    };
  }

  flop_formed : (t : TileAt) (i : ℕ) → IsThere parts bits extras pads (Register t i) → IsFormedCell signals (own (Register t i))
  flop_formed t i there = record {
    ins_long = (let e = reset_one (cell_bit parts bits t i 18) (cell_bit parts bits t i 19) in omega (arith, e));
    outs_long = refl;
    ins_below = All-from_recursion (IsBelow signals) (own (Register t i)).ins (
      pin_below false t (codes "lutff_global/clk") refl,
      (
        reader_below false (table_root parts bits t i) (table_good parts bits extras read names faultless pads below.0 t i there.0 below.1).0,
        (pin_below true t (codes "lutff_global/cen") refl, (pin_below false t (codes "lutff_global/s_r") refl, tt)),
      ),
    );
    outs_below = one_below (signal_at (root_number parts pads (Register t i))) (root_below parts bits extras package_rows (Register t i) there);
    kind = tt;
  }
    where
      below : (m : ℕ) × AreBelow parts bits extras read names faultless pads m (cell_inputs parts t i)
      below = below_some parts read bits names extras faultless pads (cell_inputs parts t i) (inputs_there parts read bits names t i there.0.2)

  -- ---- cells of pads
  abbrev pad : ℕ → Pad
  pad k = pad_at pads k

  pio : (k : ℕ) → k < length pads → (pad k).pio < 2
  pio k lt =
      pio_below parts.width parts.height package_rows (Has_all (IsPackage parts.width parts.height) parts.packages package_rows read.package_forms has) (pad k) (k, pad_stands pads k lt)

  pad_typed : (k : ℕ) → k < length pads → is_type (buffer_type parts bits (pad k)) ≡ true
  pad_typed k lt = buffer_typed parts bits read extras faultless (pad k) (pio k lt)

  output_below : (k : ℕ) → k < length pads → IsBelow signals (pin_reader parts bits extras pads false (pad k).tile (pad_output_name (pad k).pio))
  output_below k lt = pin_below false (pad k).tile (pad_output_name (pad k).pio) (output_reads (pad k).tile (pad k).pio (pio k lt))

  port_below : (k : ℕ) → k < length pads → port_number k < signals
  port_below k lt = omega (arith, names_long parts bits extras package_rows, lt)

  -- what a pad is driven with
  driven_below : (k : ℕ) → k < length pads → (b : Bool) → has_output_register parts bits (pad k) ≡ b
      → IsBelow signals (if b then signal_at (kept_number k) else pin_reader parts bits extras pads false (pad k).tile (pad_output_name (pad k).pio))
  driven_below k lt true e = root_below parts bits extras package_rows (Kept k) (lt, e)
  driven_below k lt false e = output_below k lt

  buffer_formed : (k given : ℕ) → k < length pads → given < signals → IsFormedCell signals (buffer_cell parts bits extras pads (k, pad k) given)
  buffer_formed k given lt below = record {
    ins_long = refl;
    outs_long = refl;
    ins_below = All-from_recursion (IsBelow signals) (buffer_cell parts bits extras pads (k, pad k) given).ins (
      port_below k lt,
      (
        driven_below k lt (has_output_register parts bits (pad k)) refl,
        (pin_below false (pad k).tile (output_enable_name (pad k).pio) (enable_reads (pad k).tile (pad k).pio (pio k lt)), (tt, (tt, (tt, (tt, (tt, tt)))))),
      ),
    );
    outs_below = All-from_recursion (IsBelow signals) (buffer_cell parts bits extras pads (k, pad k) given).outs (below, (tt, tt));
    kind = type_below (buffer_type parts bits (pad k)) (pad_typed k lt);
  }

  register_formed : (t : TileAt) (clock_name : List ℕ) (datum : Option SignalNo) (output : ℕ) → is_reading_name (placed_at t clock_name) ≡ true → IsBelow signals datum → output < signals
      → IsFormedCell signals (register_cell parts bits extras pads t clock_name datum output)
  register_formed t clock_name datum output reads given below = record {
    ins_long = refl;
    outs_long = refl;
    ins_below = All-from_recursion (IsBelow signals) (register_cell parts bits extras pads t clock_name datum output).ins
        (pin_below false t clock_name reads, (given, (pin_below true t in_out_enable_name refl, tt)));
    outs_below = one_below (signal_at output) below;
    kind = tt;
  }

  level_formed : (k : ℕ) → k < length pads → level_number k < signals → IsFormedCell signals (own (Level k))
  level_formed k lt below = record {
    ins_long = refl;
    outs_long = refl;
    ins_below = one_below (signal_at (port_number k)) (port_below k lt);
    outs_below = one_below (signal_at (level_number k)) below;
    kind = tt;
  }

  root_formed : (r : LevelRoot) → IsThere parts bits extras pads r → IsFormedCell signals (own r)
  root_formed (Fixed level) there = fixed_formed level
  root_formed (Input k) there = buffer_formed k (input_number k) there.0 (root_below parts bits extras package_rows (Input k) there)
  root_formed (Taken k) there =
      register_formed (pad k).tile input_clock_name (signal_at (given_number k)) (input_number k) refl (root_below parts bits extras package_rows (Given k) there)
      (root_below parts bits extras package_rows (Taken k) there)
  root_formed (Given k) there = buffer_formed k (given_number k) there.0 (root_below parts bits extras package_rows (Given k) there)
  root_formed (Kept k) there =
      register_formed (pad k).tile output_clock_name (pin_reader parts bits extras pads false (pad k).tile (pad_output_name (pad k).pio)) (kept_number k) refl (output_below k there.0)
      (root_below parts bits extras package_rows (Kept k) there)
  root_formed (Level k) there = level_formed k there.0 (root_below parts bits extras package_rows (Level k) there)
  root_formed (Table t i) there = record {
    ins_long = refl;
    outs_long = refl;
    ins_below = all_below (cell_inputs parts t i) (λ j p at. input_used parts read bits names t i p there.0.2 j at);
    outs_below = one_below (signal_at (root_number parts pads (Table t i))) (root_below parts bits extras package_rows (Table t i) there);
    kind = tt;
  }
  root_formed (Register t i) there = flop_formed t i there
  root_formed (Sum t i) there = record {
    ins_long = refl;
    outs_long = refl;
    ins_below = all_below (carry_inputs parts t i) (λ j p at. carry_input_used parts read bits names t i p there.0 j at);
    outs_below = one_below (signal_at (root_number parts pads (Sum t i))) (root_below parts bits extras package_rows (Sum t i) there);
    kind = tt;
  }

  pub cells_formed : All (IsFormedCell signals) n.cells
  cells_formed =
      all_at (IsFormedCell signals) n.cells
      (λ j c at. let made = cell_made parts bits extras package_rows c (j, at) in subst (IsFormedCell signals) (sym made.2) (root_formed made.0 made.1))

  -- ---- how many there are
  pub few_names : signals ≤ 2228226
  few_names =
      let tiles = few_tiles parts read in
      let bonded = few_pads parts package_rows read has in
      omega (arith, names_long parts bits extras package_rows, tiles, bonded)

  three_at_most : (c : TileAt × ℕ) → length (logic_cells parts bits extras pads c) ≤ 3
  three_at_most (t, i) =
      let a = length-append (table_cells parts bits extras pads (t, i)) (carry_cells parts bits extras pads (t, i) ++ flop_cells parts bits extras pads (t, i)) in
      let b = length-append (carry_cells parts bits extras pads (t, i)) (flop_cells parts bits extras pads (t, i)) in
      let one = table (cell_table parts bits t i == 0) in
      let two = carry (has_carry parts bits t i) in
      let three = flop (has_flop parts bits t i) in
      omega (arith, a, b, one, two, three)
    where
      table : (b : Bool) → length (if b then [] else own (Table t i) ∷ []) ≤ 1
      table true = omega arith
      table false = omega arith

      carry : (b : Bool) → length (if b then own (Sum t i) ∷ [] else []) ≤ 1
      carry true = omega arith
      carry false = omega arith

      flop : (b : Bool) → length (if b then own (Register t i) ∷ [] else []) ≤ 1
      flop true = omega arith
      flop false = omega arith

  numbered_few : (a : ℕ) (xs : List Pad) → length (zip (range_with_len a (length xs)) xs) ≡ length xs
  numbered_few a [] = refl
  numbered_few a (x ∷ xs) = let rest = numbered_few (a + 1) xs in omega (arith, rest)

  three_beside : (x : ℕ × Pad) → length (side_cells parts bits extras pads x) ≤ 3
  three_beside x =
      let a = length-append (input_cells parts bits extras pads x) (output_cells parts bits extras pads x ++ level_cells parts bits extras x) in
      let b = length-append (output_cells parts bits extras pads x) (level_cells parts bits extras x) in
      let one = at_most (is_registered parts bits x.1) (input_cell parts bits extras pads x) in
      let two = at_most (has_output_register parts bits x.1) (output_cell parts bits extras pads x) in
      let three = at_most (feeds_global parts bits extras x.1) (level_cell x.0) in
      omega (arith, a, b, one, two, three)
    where
      at_most : (b : Bool) (c : Cell) → length (if b then c ∷ [] else []) ≤ 1
      at_most true c = omega arith
      at_most false c = omega arith

  abbrev buffers : List Cell
  buffers = map (pad_cell parts bits extras pads) (numbered_pads pads)

  abbrev sides : List Cell
  sides = flat_map (side_cells parts bits extras pads) (numbered_pads pads)

  abbrev logic : List Cell
  logic = flat_map (logic_cells parts bits extras pads) (cells parts)

  pub few_cells : length n.cells ≤ 2097154
  few_cells =
      let a = length-append fixed_cells (buffers ++ (sides ++ logic)) in
      let b = length-append buffers (sides ++ logic) in
      let c = length-append sides logic in
      let pads_long = numbered_few 0 pads in
      let d : length buffers ≡ length (numbered_pads pads) = length-map (numbered_pads pads) (pad_cell parts bits extras pads) in
      let e = flat_few (side_cells parts bits extras pads) 3 three_beside (numbered_pads pads) in
      let f = flat_few (logic_cells parts bits extras pads) 3 three_at_most (cells parts) in
      let g : length (cells parts) ≡ 8 * length (logic_tiles parts) = cells_long (logic_tiles parts) in
      let tiles = few_tiles parts read in
      let bonded = few_pads parts package_rows read has in
      omega (arith, a, b, c, d, e, f, g, pads_long, tiles, bonded)

  pub ports_below : All (IsPortBelow signals) n.ports
  ports_below =
      all_at (IsPortBelow signals) n.ports
      (λ j p at. let made = port_made parts bits extras package_rows p (j, at) in
      subst (IsPortBelow signals) (sym made.2) (let lt = made.1 in omega (arith, names_long parts bits extras package_rows, lt)))

  pub formed : IsFormed n
  formed = record { few = (let few = few_names in omega (arith, few)); few_cells = (let few = few_cells in omega (arith, few)); ports = ports_below; cells = cells_formed }

  -- ---- types
  root_typed : (r : LevelRoot) → IsThere parts bits extras pads r → is_type_out (own r).kind ≡ false
  root_typed (Fixed true) there = refl
  root_typed (Fixed false) there = refl
  root_typed (Input k) there = not_from_true (is_type (buffer_type parts bits (pad k))) (pad_typed k there.0)
  root_typed (Taken k) there = refl
  root_typed (Given k) there = not_from_true (is_type (buffer_type parts bits (pad k))) (pad_typed k there.0)
  root_typed (Kept k) there = refl
  root_typed (Level k) there = refl
  root_typed (Table t i) there = refl
  root_typed (Register t i) there = refl
  root_typed (Sum t i) there = refl

  all_typed : pin_type_out n ≡ None
  all_typed = first_none (cell_is n (λ (c : Cell). is_type_out c.kind)) 0 (length n.cells) (λ i lt. by i (slice_get n.cells i) refl)
    where
      by : (i : ℕ) (o : Option Cell) → slice_get n.cells i ≡ o → option_map_or (λ (c : Cell). is_type_out c.kind) (slice_get n.cells i) false ≡ false
      by i None e = ap (λ (o : Option Cell). option_map_or (λ (c : Cell). is_type_out c.kind) o false) e
      by i (Some c) e =
          let made = cell_made parts bits extras package_rows c (i, e) in
          ap (λ (o : Option Cell). option_map_or (λ (c : Cell). is_type_out c.kind) o false) (e ∙ ap (λ (d : Cell). Some d) made.2) ∙ root_typed made.0 made.1

pub sound : (parts : Parts) (bits : Bits) (extras : List (ℕ × ℕ × ℕ)) (package_rows : PackageRows) → IsRead parts → HasNames parts → IsFaultless parts bits extras → Has parts.packages package_rows
    → IsSound (netlist parts bits extras package_rows)
sound parts bits extras package_rows read names faultless has =
    let is = connected parts bits extras package_rows read names faultless has in
    record {
      driven = is.driven;
      driven_once = none_twice parts bits extras package_rows read;
      loopless = loopless parts bits extras package_rows read names faultless has;
      pads_apart = none_shared parts bits extras package_rows;
      pin_types = all_typed parts bits extras read names faultless package_rows has;
      pins_at_ports = is.pins_at_ports;
      inouts_buffered = is.inouts_buffered;
    }

pub is_sound : LookupsAreLawful → NetlistIsSound
is_sound lawful parts bits extras package_rows chip faultless has = sound parts bits extras package_rows chip.read (lawful parts chip).names faultless has
