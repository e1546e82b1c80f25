-- No signal of the netlist of a circuit is driven twice, and no port has two SB_IO.
use Rattle.std.proofs.Common.{◌≡◌, ◌⊎◌, ℕ, zero, suc, ◌+◌, ◌*◌, ◌<◌, ◌==◌, Bool, true, false, Option, None, Some, List, [], ◌∷◌, ◌++◌, length, map, zip, inl, inr, refl, sym, ap, ◌∙◌, subst, true≢false, nat_lt, arith, if◌then◌else◌}
use Rattle.std.specs.Prelude.{slice_get, unwrap_or}
use Rattle.std.specs.List.{flat_map, range_with_len}
use Rattle.std.specs.Option.{option_map_or}
use Rattle.std.proofs.lemmas.List.{map-append}
use Rattle.std.proofs.lemmas.Option.{get_or_from_slice_get}
use Rattle.ice_base.specs.declared.number.TileAt.{TileAt}
use Rattle.ice_base.specs.declared.number.SignalNo.{SignalNo}
use Rattle.ice_base_values.specs.Order.{At}
use Rattle.ice_chip.specs.Database.{Parts, PackageRows}
use Rattle.ice_chip.specs.IsRead.{IsRead}
use Rattle.ice_chip.specs.declared.rows.Pad.{Pad}
use Rattle.ice_bits.specs.Configuration.{Bits}
use Rattle.ice_net.specs.declared.cell.Cell.{Cell}
use Rattle.ice_net.specs.declared.port.Port.{Port}
use Rattle.ice_net.specs.Drivers as net
use Rattle.ice_net.specs.Drivers.{pin_of, pad_of, output_of, outputs}
use Rattle.ice_net.specs.NetlistData.{NetlistData}
use Rattle.ice_check.specs.Faults.{is_driven_twice, driven_twice, port_is, is_shared, pad_shared}
use Rattle.ice_check.specs.Tables.{times}
use Rattle.ice_decode.specs.Cells.{cells, logic_tiles, has_carry, has_flop}
use Rattle.ice_decode.specs.Pads.{has_output_register}
use Rattle.ice_decode.proofs.Members.{At_map_cases, At_range_cases}
use Rattle.ice_decode.proofs.PointPlaces.{cell_cases}
use Rattle.ice_back_laws.specs.Back.{pad_cell, input_cells, output_cells, level_cells, side_cells, table_cells, carry_cells, flop_cells, logic_cells, fixed_cells, numbered_pads, pad_port}
use Rattle.ice_back_laws.specs.Numbers.{port_number, input_number, given_number, kept_number, level_number, cell_number, signal}
use Rattle.ice_back_laws.specs.Roots.{LevelRoot, Taken, Kept, Level, Table, Register, Sum, no_pad, pad_at, is_registered, feeds_global, cell_table}
use Rattle.ice_back_laws.proofs.Counting.{IsRare, rare_none, rare_weaker, rare_join, rare_few, not_many, times_one, append_rare, flat_rare, map_rare}
use Rattle.ice_back_laws.proofs.Driving.{first_none}
use Rattle.ice_back_laws.proofs.Standing.{netlist, cell_of, numbered_cases}
use Rattle.ice_back_laws.proofs.TilesOnce.{own_place}

map_flat : {X Y Z : Type 0} (f : Y → Z) (g : X → List Y) (xs : List X) → map f (flat_map g xs) ≡ flat_map (λ x. map f (g x)) xs
map_flat f g [] = refl
map_flat f g (x ∷ xs) = map-append f (g x) (flat_map g xs) ∙ ap (λ ys. map f (g x) ++ ys) (map_flat f g xs)

map_map : {X Y Z : Type 0} (f : Y → Z) (g : X → Y) (xs : List X) → map f (map g xs) ≡ map (λ x. f (g x)) xs
map_map f g [] = refl
map_map f g (x ∷ xs) = ap (λ ys. f (g x) ∷ ys) (map_map f g xs)

module _ (parts : Parts) (bits : Bits) (extras : List (ℕ × ℕ × ℕ)) (package_rows : PackageRows) (s : ℕ) where
  abbrev n : NetlistData
  n = netlist parts bits extras package_rows

  abbrev bonded : List Pad
  bonded = package_rows.pads

  abbrev pad_cells : List Cell
  pad_cells = map (pad_cell parts bits extras bonded) (numbered_pads bonded)

  abbrev sides : List Cell
  sides = flat_map (side_cells parts bits extras bonded) (numbered_pads bonded)

  abbrev logic : List Cell
  logic = flat_map (logic_cells parts bits extras bonded) (cells parts)

  abbrev of_sides : (Cell → Option SignalNo) → List (Option SignalNo)
  of_sides f = flat_map (λ x. map f (side_cells parts bits extras bonded x)) (numbered_pads bonded)

  abbrev of_logic : (Cell → Option SignalNo) → List (Option SignalNo)
  of_logic f = flat_map (λ c. map f (logic_cells parts bits extras bonded c)) (cells parts)

  behind_pads : (f : Cell → Option SignalNo) → map f (sides ++ logic) ≡ of_sides f ++ of_logic f
  behind_pads f =
      map-append f sides logic ∙ (λ i. map_flat f (side_cells parts bits extras bonded) (numbered_pads bonded) i ++ map_flat f (logic_cells parts bits extras bonded) (cells parts) i)

  -- a list of signals of all cells is made of those of the fixed levels, of the SB_IO, of the cells beside them and of the logic cells
  four : (f : Cell → Option SignalNo)
      → map f n.cells
      ≡ map f fixed_cells
      ++ (map (λ x. f (pad_cell parts bits extras bonded x)) (numbered_pads bonded) ++ (of_sides f ++ of_logic f))
  four f =
      map-append f fixed_cells (pad_cells ++ (sides ++ logic))
      ∙ ap (λ ys. map f fixed_cells ++ ys)
      (map-append f pad_cells (sides ++ logic) ∙ (λ i. map_map f (pad_cell parts bits extras bonded) (numbered_pads bonded) i ++ behind_pads f i))

  -- ---- the place of a signal
  -- of a fixed level, of a port, of what an SB_IO gives, of a cell beside it, or of a logic cell
  abbrev IsFixed : Type 0
  IsFixed = (0 ≡ s) ⊎ (1 ≡ s)

  abbrev IsPort : Type 0
  IsPort = (k : ℕ) × (k < length bonded) × (port_number k ≡ s)

  -- the number of what the SB_IO of a pad gives
  abbrev buffer_number : ℕ × Pad → ℕ
  buffer_number p = if is_registered parts bits p.1 then given_number p.0 else input_number p.0

  abbrev IsBuffer : Type 0
  IsBuffer = (k : ℕ) × (k < length bonded) × (buffer_number (k, pad_at bonded k) ≡ s)

  -- a number of the cells beside the SB_IO of a pad
  abbrev IsOfSide : ℕ → Type 0
  IsOfSide k = ((is_registered parts bits (pad_at bonded k) ≡ true) × (input_number k ≡ s)) ⊎ ((kept_number k ≡ s) ⊎ (level_number k ≡ s))

  abbrev IsSide : Type 0
  IsSide = (k : ℕ) × (k < length bonded) × IsOfSide k

  -- a number of the three of the cell at a place
  abbrev IsOfCell : ℕ → Type 0
  IsOfCell m = (d : ℕ) × (d < 3) × (2 + 5 * length bonded + 3 * m + d ≡ s)

  abbrev IsLogic : Type 0
  IsLogic = (m : ℕ) × (m < length (cells parts)) × IsOfCell m

  fixed_once : IsRare (times s (map output_of fixed_cells)) IsFixed
  fixed_once = append_rare s (Some (signal 0) ∷ []) (Some (signal 1) ∷ []) (0 ≡ s) (1 ≡ s) (times_one 0 s) (times_one 1 s) (λ a b. omega (arith, a, b))

  numbered_long : (a : ℕ) (xs : List Pad) → length (zip (range_with_len a (length xs)) xs) ≡ length xs
  numbered_long a [] = refl
  numbered_long a (x ∷ xs) = let rest = numbered_long (a + 1) xs in omega (arith, rest)

  numbered_is : (k : ℕ) (x : ℕ × Pad) → At (numbered_pads bonded) k x → x ≡ (k, pad_at bonded k)
  numbered_is k x at =
      let is = numbered_cases 0 bonded k x at in
      let e : x.0 ≡ k = omega (arith, is.0) in
      let pad : x.1 ≡ pad_at bonded k = sym (get_or_from_slice_get bonded k x.1 no_pad is.1) in
      λ j. (e j, pad j)

  -- signals of pads, one for each
  pads_once : (number : ℕ × Pad → ℕ) → ((j k : ℕ) → number (j, pad_at bonded j) ≡ number (k, pad_at bonded k) → j ≡ k)
      → IsRare (times s (map (λ (x : ℕ × Pad). Some (signal (number x))) (numbered_pads bonded))) ((k : ℕ) × (k < length bonded) × (number (k, pad_at bonded k) ≡ s))
  pads_once number only =
      subst (λ m. IsRare (times s (map (λ (x : ℕ × Pad). Some (signal (number x))) (numbered_pads bonded))) ((k : ℕ) × (k < m) × (number (k, pad_at bonded k) ≡ s))) (numbered_long 0 bonded)
      (map_rare (λ (x : ℕ × Pad). Some (signal (number x))) s (λ k. number (k, pad_at bonded k) ≡ s) (λ j k a b. only j k (a ∙ sym b)) (numbered_pads bonded)
      (λ k x at. rare_weaker (times s (Some (signal (number x)) ∷ [])) (number x ≡ s) (number (k, pad_at bonded k) ≡ s) (λ f. ap number (sym (numbered_is k x at)) ∙ f) (times_one (number x) s)))

  buffers_apart : (a b : Bool) (j k : ℕ) → (if a then given_number j else input_number j) ≡ (if b then given_number k else input_number k) → j ≡ k
  buffers_apart true true j k e = omega (arith, e)
  buffers_apart true false j k e = omega (arith, e)
  buffers_apart false true j k e = omega (arith, e)
  buffers_apart false false j k e = omega (arith, e)

  buffers_once : IsRare (times s (map (λ x. output_of (pad_cell parts bits extras bonded x)) (numbered_pads bonded))) IsBuffer
  buffers_once = pads_once buffer_number (λ j k e. buffers_apart (is_registered parts bits (pad_at bonded j)) (is_registered parts bits (pad_at bonded k)) j k e)

  -- the signals of pads but ports are near their pads' numbers
  abbrev IsNear : Type 0
  IsNear = (k : ℕ) × (k < length bonded) × ((d : ℕ) × (d < 4) × (3 + 5 * k + d ≡ s))

  side_near : (k : ℕ) → IsOfSide k → (d : ℕ) × (d < 4) × (3 + 5 * k + d ≡ s)
  side_near k (inl (is, e)) = (0, omega arith, omega (arith, e))
  side_near k (inr (inl e)) = (2, omega arith, omega (arith, e))
  side_near k (inr (inr e)) = (3, omega arith, omega (arith, e))

  buffer_near : IsBuffer → IsNear
  buffer_near (k, lt, e) = (k, lt, by (is_registered parts bits (pad_at bonded k)) e)
    where
      by : (b : Bool) → (if b then given_number k else input_number k) ≡ s → (d : ℕ) × (d < 4) × (3 + 5 * k + d ≡ s)
      by true f = (1, omega arith, omega (arith, f))
      by false f = (0, omega arith, omega (arith, f))

  near : IsBuffer ⊎ IsSide → IsNear
  near (inl buffer) = buffer_near buffer
  near (inr (k, lt, side)) = (k, lt, side_near k side)

  ports_once : IsRare (times s (net.pad_signals n)) IsPort
  ports_once =
      rare_weaker (times s (net.pad_signals n)) ((k : ℕ) × (k < length n.ports) × (port_number k ≡ s)) IsPort (λ p. (p.0, (let long = ports_long in let lt = p.1 in omega (arith, long, lt)), p.2))
      (map_rare (pad_of n.cells) s (λ k. port_number k ≡ s) (λ j k a b. omega (arith, a, b)) n.ports
      (λ k p at. let found = At_map_cases pad_port (range_with_len 0 (length bonded)) k p at in
      let inside = At_range_cases 0 (length bonded) k found.0 found.1 in
      let e : found.0 ≡ k = omega (arith, inside.1) in
      subst (λ (q : Port). IsRare (times s (pad_of n.cells q ∷ [])) (port_number k ≡ s)) found.2
      (rare_weaker (times s (Some (signal (port_number found.0)) ∷ [])) (port_number found.0 ≡ s) (port_number k ≡ s) (λ f. ap port_number (sym e) ∙ f) (times_one (port_number found.0) s))))
    where
      ports_long : length n.ports ≡ length bonded
      ports_long = many 0 (length bonded)
        where
          many : (a m : ℕ) → length (map pad_port (range_with_len a m)) ≡ m
          many a zero = refl
          many a (suc m) = let rest = many (a + 1) m in omega (arith, rest)

  -- ---- cells beside an SB_IO
  module _ (k : ℕ) where
    abbrev spot : ℕ × Pad
    spot = (k, pad_at bonded k)

    abbrev made : LevelRoot → Cell
    made r = cell_of parts bits extras package_rows r

    sides_split : (f : Cell → Option SignalNo)
        → map f (side_cells parts bits extras bonded spot)
        ≡ map f (input_cells parts bits extras bonded spot) ++ (map f (output_cells parts bits extras bonded spot) ++ map f (level_cells parts bits extras spot))
    sides_split f =
        map-append f (input_cells parts bits extras bonded spot) (output_cells parts bits extras bonded spot ++ level_cells parts bits extras spot)
        ∙ ap (λ ys. map f (input_cells parts bits extras bonded spot) ++ ys) (map-append f (output_cells parts bits extras bonded spot) (level_cells parts bits extras spot))

    -- the signals that the three cells give each stand at most once, and apart
    sides_each : (f : Cell → Option SignalNo) (P Q R : Type 0)
        → (is_registered parts bits (pad_at bonded k) ≡ true → IsRare (times s (f (made (Taken k)) ∷ [])) P) → IsRare (times s (f (made (Kept k)) ∷ [])) Q → IsRare (times s (f (made (Level k)) ∷ [])) R
        → (P → Q ⊎ R → ⊥) → (Q → R → ⊥) → IsRare (times s (map f (side_cells parts bits extras bonded spot))) (P ⊎ (Q ⊎ R))
    sides_each f P Q R input output level first second =
        subst (λ ys. IsRare (times s ys) (P ⊎ (Q ⊎ R))) (sym (sides_split f))
        (append_rare s (map f (input_cells parts bits extras bonded spot)) (map f (output_cells parts bits extras bonded spot) ++ map f (level_cells parts bits extras spot)) P (Q ⊎ R)
        (in_input (is_registered parts bits (pad_at bonded k)) refl)
        (append_rare s (map f (output_cells parts bits extras bonded spot)) (map f (level_cells parts bits extras spot)) Q R
        (in_output (has_output_register parts bits (pad_at bonded k))) (in_level (feeds_global parts bits extras (pad_at bonded k))) second) first)
      where
        in_input : (b : Bool) → is_registered parts bits (pad_at bonded k) ≡ b → IsRare (times s (map f (if b then made (Taken k) ∷ [] else []))) P
        in_input true e = input e
        in_input false e = rare_none P

        in_output : (b : Bool) → IsRare (times s (map f (if b then made (Kept k) ∷ [] else []))) Q
        in_output true = output
        in_output false = rare_none Q

        in_level : (b : Bool) → IsRare (times s (map f (if b then made (Level k) ∷ [] else []))) R
        in_level true = level
        in_level false = rare_none R

    side_once : IsRare (times s (map output_of (side_cells parts bits extras bonded spot))) (IsOfSide k)
    side_once =
        sides_each output_of ((is_registered parts bits (pad_at bonded k) ≡ true) × (input_number k ≡ s)) (kept_number k ≡ s) (level_number k ≡ s)
        (λ is. rare_weaker (times s (Some (signal (input_number k)) ∷ [])) (input_number k ≡ s) ((is_registered parts bits (pad_at bonded k) ≡ true) × (input_number k ≡ s)) (λ e. (is, e)) (times_one (input_number k) s))
        (times_one (kept_number k) s) (times_one (level_number k) s)
        (λ a b. let e = a.1 in elim b [ inl kept ↦ omega (arith, e, kept) | inr level ↦ omega (arith, e, level) ]) (λ a b. omega (arith, a, b))

    -- and no SB_IO is among them
    side_unpinned : IsRare (times s (map pin_of (side_cells parts bits extras bonded spot))) ⊥
    side_unpinned =
        rare_weaker (times s (map pin_of (side_cells parts bits extras bonded spot))) (⊥ ⊎ (⊥ ⊎ ⊥)) ⊥ no_side (sides_each pin_of ⊥ ⊥ ⊥ (λ is. inl refl) (inl refl) (inl refl) (λ a b. a) (λ a b. a))
      where
        no_side : ⊥ ⊎ (⊥ ⊎ ⊥) → ⊥
        no_side (inl never) = never
        no_side (inr (inl never)) = never
        no_side (inr (inr never)) = never

  sides_once : IsRare (times s (of_sides output_of)) IsSide
  sides_once =
      subst (λ m. IsRare (times s (of_sides output_of)) ((k : ℕ) × (k < m) × IsOfSide k)) (numbered_long 0 bonded)
      (flat_rare (λ x. map output_of (side_cells parts bits extras bonded x)) s IsOfSide (λ j k a b. one_side j k (side_near j a) (side_near k b)) (numbered_pads bonded)
      (λ k x at. subst (λ (y : ℕ × Pad). IsRare (times s (map output_of (side_cells parts bits extras bonded y))) (IsOfSide k)) (sym (numbered_is k x at)) (side_once k)))
    where
      one_side : (j k : ℕ) → (d : ℕ) × (d < 4) × (3 + 5 * j + d ≡ s) → (d : ℕ) × (d < 4) × (3 + 5 * k + d ≡ s) → j ≡ k
      one_side j k (d, lt, e) (c, less, f) = omega (arith, lt, less, e, f)

  sides_unpinned : times s (of_sides pin_of) ≡ 0
  sides_unpinned =
      by (flat_rare (λ x. map pin_of (side_cells parts bits extras bonded x)) s (λ k. ⊥) (λ j k a b. absurd a) (numbered_pads bonded)
      (λ k x at. subst (λ (y : ℕ × Pad). IsRare (times s (map pin_of (side_cells parts bits extras bonded y))) ⊥) (sym (numbered_is k x at)) (side_unpinned k)))
    where
      by : IsRare (times s (of_sides pin_of)) ((k : ℕ) × (k < length (numbered_pads bonded)) × ⊥)
          → times s (of_sides pin_of) ≡ 0
      by (inl e) = e
      by (inr (p, few)) = absurd p.2

  -- ---- logic cells
  module _ (t : TileAt) (i : ℕ) where
    abbrev number : ℕ
    number = cell_number parts bonded t i

    abbrev own : LevelRoot → Cell
    own r = cell_of parts bits extras package_rows r

    split : (f : Cell → Option SignalNo)
        → map f (logic_cells parts bits extras bonded (t, i)) ≡ map f (table_cells parts bits extras bonded (t, i)) ++ (map f (carry_cells parts bits extras bonded (t, i)) ++ map f (flop_cells parts bits extras bonded (t, i)))
    split f =
        map-append f (table_cells parts bits extras bonded (t, i)) (carry_cells parts bits extras bonded (t, i) ++ flop_cells parts bits extras bonded (t, i))
        ∙ ap (λ ys. map f (table_cells parts bits extras bonded (t, i)) ++ ys) (map-append f (carry_cells parts bits extras bonded (t, i)) (flop_cells parts bits extras bonded (t, i)))

    -- the signals that the three cells give each stand at most once, and apart
    each_once : (f : Cell → Option SignalNo) (P Q R : Type 0)
        → IsRare (times s (f (own (Table t i)) ∷ [])) P → IsRare (times s (f (own (Sum t i)) ∷ [])) Q → IsRare (times s (f (own (Register t i)) ∷ [])) R → (P → Q ⊎ R → ⊥) → (Q → R → ⊥)
        → IsRare (times s (map f (logic_cells parts bits extras bonded (t, i)))) (P ⊎ (Q ⊎ R))
    each_once f P Q R table carry flop first second =
        subst (λ ys. IsRare (times s ys) (P ⊎ (Q ⊎ R))) (sym (split f))
        (append_rare s (map f (table_cells parts bits extras bonded (t, i))) (map f (carry_cells parts bits extras bonded (t, i)) ++ map f (flop_cells parts bits extras bonded (t, i))) P (Q ⊎ R) (in_table (cell_table parts bits t i == 0))
        (append_rare s (map f (carry_cells parts bits extras bonded (t, i))) (map f (flop_cells parts bits extras bonded (t, i))) Q R (in_carry (has_carry parts bits t i)) (in_flop (has_flop parts bits t i)) second) first)
      where
        in_table : (b : Bool) → IsRare (times s (map f (if b then [] else own (Table t i) ∷ []))) P
        in_table true = rare_none P
        in_table false = table

        in_carry : (b : Bool) → IsRare (times s (map f (if b then own (Sum t i) ∷ [] else []))) Q
        in_carry true = carry
        in_carry false = rare_none Q

        in_flop : (b : Bool) → IsRare (times s (map f (if b then own (Register t i) ∷ [] else []))) R
        in_flop true = flop
        in_flop false = rare_none R

    cell_once : IsRare (times s (map output_of (logic_cells parts bits extras bonded (t, i)))) ((d : ℕ) × (d < 3) × (number + d ≡ s))
    cell_once =
        rare_weaker (times s (map output_of (logic_cells parts bits extras bonded (t, i)))) ((number ≡ s) ⊎ ((number + 2 ≡ s) ⊎ (number + 1 ≡ s))) ((d : ℕ) × (d < 3) × (number + d ≡ s)) which
        (each_once output_of (number ≡ s) (number + 2 ≡ s) (number + 1 ≡ s) (times_one number s) (times_one (number + 2) s) (times_one (number + 1) s)
        (λ a b. elim b [ inl two ↦ omega (arith, a, two) | inr one ↦ omega (arith, a, one) ]) (λ a b. omega (arith, a, b)))
      where
        which : (number ≡ s) ⊎ ((number + 2 ≡ s) ⊎ (number + 1 ≡ s)) → (d : ℕ) × (d < 3) × (number + d ≡ s)
        which (inl e) = (0, omega arith, omega (arith, e))
        which (inr (inl e)) = (2, omega arith, e)
        which (inr (inr e)) = (1, omega arith, e)

    -- and no SB_IO is among them
    unpinned : IsRare (times s (map pin_of (logic_cells parts bits extras bonded (t, i)))) ⊥
    unpinned =
        rare_weaker (times s (map pin_of (logic_cells parts bits extras bonded (t, i)))) (⊥ ⊎ (⊥ ⊎ ⊥)) ⊥ none (each_once pin_of ⊥ ⊥ ⊥ (inl refl) (inl refl) (inl refl) (λ a b. a) (λ a b. a))
      where
        none : ⊥ ⊎ (⊥ ⊎ ⊥) → ⊥
        none (inl never) = never
        none (inr (inl never)) = never
        none (inr (inr never)) = never

  logic_unpinned : times s (of_logic pin_of) ≡ 0
  logic_unpinned = by (flat_rare (λ c. map pin_of (logic_cells parts bits extras bonded c)) s (λ k. ⊥) (λ j k a b. absurd a) (cells parts) (λ k c at. unpinned c.0 c.1))
    where
      by : IsRare (times s (of_logic pin_of)) ((k : ℕ) × (k < length (cells parts)) × ⊥) → times s (of_logic pin_of) ≡ 0
      by (inl e) = e
      by (inr (p, few)) = absurd p.2

  module _ (read : IsRead parts) where
    logic_once : IsRare (times s (of_logic output_of)) IsLogic
    logic_once =
        flat_rare (λ c. map output_of (logic_cells parts bits extras bonded c)) s IsOfCell (λ j k a b. of_one j k a b) (cells parts)
        (λ k c at. let spot = cell_cases (logic_tiles parts) k c at in
        let place = own_place parts read spot.place c.0 spot.stands in
        let number_is : cell_number parts bonded c.0 c.1 ≡ 2 + 5 * length bonded + 3 * (8 * spot.place + c.1) = ap (λ (o : Option ℕ). 2 + 5 * length bonded + 3 * (8 * unwrap_or o 0 + c.1)) place in
        let e : cell_number parts bonded c.0 c.1 ≡ 2 + 5 * length bonded + 3 * k = number_is ∙ ap (λ m. 2 + 5 * length bonded + 3 * m) (sym spot.number) in
        rare_weaker (times s (map output_of (logic_cells parts bits extras bonded c))) ((d : ℕ) × (d < 3) × (cell_number parts bonded c.0 c.1 + d ≡ s)) (IsOfCell k) (λ p. (p.0, p.1, ap (λ m. m + p.0) (sym e) ∙ p.2)) (cell_once c.0 c.1))
      where
        of_one : (j k : ℕ) → IsOfCell j → IsOfCell k → j ≡ k
        of_one j k (d, lt, e) (c, less, f) = omega (arith, lt, less, e, f)

    outputs_once : IsRare (times s (outputs n)) (IsFixed ⊎ (IsBuffer ⊎ (IsSide ⊎ IsLogic)))
    outputs_once =
        subst (λ ys. IsRare (times s ys) (IsFixed ⊎ (IsBuffer ⊎ (IsSide ⊎ IsLogic)))) (sym (four output_of))
        (append_rare s (map output_of fixed_cells) (buffers ++ (beside ++ logics)) IsFixed (IsBuffer ⊎ (IsSide ⊎ IsLogic)) fixed_once
        (append_rare s buffers (beside ++ logics) IsBuffer (IsSide ⊎ IsLogic) buffers_once
        (append_rare s beside logics IsSide IsLogic sides_once logic_once side_or_logic) buffer_or_other) fixed_or_other)
      where
        buffers : List (Option SignalNo)
        buffers = map (λ x. output_of (pad_cell parts bits extras bonded x)) (numbered_pads bonded)

        beside : List (Option SignalNo)
        beside = of_sides output_of

        logics : List (Option SignalNo)
        logics = of_logic output_of

        near_or_logic : IsNear → IsLogic → ⊥
        near_or_logic (k, lt, (d, few, e)) (m, less, (c, low, f)) = omega (arith, lt, few, e, f)

        side_or_logic : IsSide → IsLogic → ⊥
        side_or_logic side logic_is = near_or_logic (near (inr side)) logic_is

        -- the register of a pad's input takes what its SB_IO gives, and that has another number
        buffer_or_side : IsBuffer → IsSide → ⊥
        buffer_or_side (k, lt, e) (j, less, inl (is, f)) = by (is_registered parts bits (pad_at bonded k)) refl e
          where
            by : (b : Bool) → is_registered parts bits (pad_at bonded k) ≡ b → (if b then given_number k else input_number k) ≡ s → ⊥
            by true g h = omega (arith, h, f)
            by false g h = let same : j ≡ k = omega (arith, h, f) in true≢false (sym is ∙ ap (λ m. is_registered parts bits (pad_at bonded m)) same ∙ g)
        buffer_or_side (k, lt, e) (j, less, inr (inl f)) = by (is_registered parts bits (pad_at bonded k)) e
          where
            by : (b : Bool) → (if b then given_number k else input_number k) ≡ s → ⊥
            by true h = omega (arith, h, f)
            by false h = omega (arith, h, f)
        buffer_or_side (k, lt, e) (j, less, inr (inr f)) = by (is_registered parts bits (pad_at bonded k)) e
          where
            by : (b : Bool) → (if b then given_number k else input_number k) ≡ s → ⊥
            by true h = omega (arith, h, f)
            by false h = omega (arith, h, f)

        buffer_or_other : IsBuffer → IsSide ⊎ IsLogic → ⊥
        buffer_or_other buffer (inl side) = buffer_or_side buffer side
        buffer_or_other buffer (inr logic_is) = near_or_logic (buffer_near buffer) logic_is

        fixed_or_near : IsFixed → IsNear → ⊥
        fixed_or_near (inl e) (k, lt, (d, few, f)) = omega (arith, e, f)
        fixed_or_near (inr e) (k, lt, (d, few, f)) = omega (arith, e, f)

        fixed_or_other : IsFixed → IsBuffer ⊎ (IsSide ⊎ IsLogic) → ⊥
        fixed_or_other is (inl buffer) = fixed_or_near is (buffer_near buffer)
        fixed_or_other is (inr (inl side)) = fixed_or_near is (near (inr side))
        fixed_or_other (inl e) (inr (inr (m, less, (d, low, f)))) = omega (arith, e, f)
        fixed_or_other (inr e) (inr (inr (m, less, (d, low, f)))) = omega (arith, e, f)

    driven_once : is_driven_twice n s ≡ false
    driven_once =
        not_many (times s (net.pad_signals n) + times s (outputs n))
        (rare_few (times s (net.pad_signals n) + times s (outputs n)) (IsPort ⊎ (IsFixed ⊎ (IsBuffer ⊎ (IsSide ⊎ IsLogic))))
        (rare_join (times s (net.pad_signals n)) (times s (outputs n)) IsPort (IsFixed ⊎ (IsBuffer ⊎ (IsSide ⊎ IsLogic))) ports_once outputs_once port_or_output))
      where
        port_or_near : IsPort → IsNear → ⊥
        port_or_near (k, lt, e) (j, less, (d, few, f)) = omega (arith, few, e, f)

        port_or_output : IsPort → IsFixed ⊎ (IsBuffer ⊎ (IsSide ⊎ IsLogic)) → ⊥
        port_or_output (k, lt, e) (inl (inl f)) = omega (arith, e, f)
        port_or_output (k, lt, e) (inl (inr f)) = omega (arith, e, f)
        port_or_output port (inr (inl buffer)) = port_or_near port (buffer_near buffer)
        port_or_output port (inr (inr (inl side))) = port_or_near port (near (inr side))
        port_or_output (k, lt, e) (inr (inr (inr (m, less, (d, low, f))))) = omega (arith, lt, e, f)

  -- ---- the SB_IO of a port
  pins_once : IsRare (times s (map pin_of n.cells)) IsPort
  pins_once =
      subst (λ ys. IsRare (times s ys) IsPort) (sym (four pin_of))
      (rare_weaker (times s (map pin_of fixed_cells ++ (pins ++ (beside ++ logics)))) (⊥ ⊎ (IsPort ⊎ (⊥ ⊎ ⊥))) IsPort which
      (append_rare s (map pin_of fixed_cells) (pins ++ (beside ++ logics)) ⊥ (IsPort ⊎ (⊥ ⊎ ⊥)) (inl refl)
      (append_rare s pins (beside ++ logics) IsPort (⊥ ⊎ ⊥) (pads_once (λ x. port_number x.0) (λ j k e. omega (arith, e)))
      (append_rare s beside logics ⊥ ⊥ (inl sides_unpinned) (inl logic_unpinned) (λ a b. b)) (λ a b. neither b)) (λ a b. a)))
    where
      pins : List (Option SignalNo)
      pins = map (λ x. pin_of (pad_cell parts bits extras bonded x)) (numbered_pads bonded)

      beside : List (Option SignalNo)
      beside = of_sides pin_of

      logics : List (Option SignalNo)
      logics = of_logic pin_of

      neither : ⊥ ⊎ ⊥ → ⊥
      neither (inl never) = never
      neither (inr never) = never

      which : ⊥ ⊎ (IsPort ⊎ (⊥ ⊎ ⊥)) → IsPort
      which (inl never) = absurd never
      which (inr (inl p)) = p
      which (inr (inr never)) = absurd (neither never)

  pin_once : nat_lt 1 (times s (map pin_of n.cells)) ≡ false
  pin_once = not_many (times s (map pin_of n.cells)) (rare_few (times s (map pin_of n.cells)) IsPort pins_once)

module _ (parts : Parts) (bits : Bits) (extras : List (ℕ × ℕ × ℕ)) (package_rows : PackageRows) where
  pub none_twice : IsRead parts → driven_twice (netlist parts bits extras package_rows) ≡ None
  none_twice read = first_none (is_driven_twice (netlist parts bits extras package_rows)) 0 (length (netlist parts bits extras package_rows).names) (λ s lt. driven_once parts bits extras package_rows s read)

  pub none_shared : pad_shared (netlist parts bits extras package_rows) ≡ None
  none_shared =
      first_none (port_is (netlist parts bits extras package_rows) (is_shared (netlist parts bits extras package_rows).cells)) 0 (length (netlist parts bits extras package_rows).ports) (λ k lt. by (slice_get (netlist parts bits extras package_rows).ports k))
    where
      by : (o : Option Port) → option_map_or (is_shared (netlist parts bits extras package_rows).cells) o false ≡ false
      by None = refl
      by (Some p) = pin_once parts bits extras package_rows p.signal.0
