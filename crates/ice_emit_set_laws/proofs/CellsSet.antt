-- The bits of a placed design set each slot and each tile of cells as its cells and clusters say.
use Rattle.std.proofs.Common.{◌≡◌, ℕ, zero, ◌+◌, ◌<◌, ◌≤◌, ◌==◌, ◌^◌, true, false, Option, Some, List, ◌++◌, length, refl, ap, sym, ◌∙◌, subst, arith}
use Rattle.std.specs.Prelude.{slice_get, slice_index_or, nat_lt}
use Rattle.std.specs.List.{range_with_len}
use Rattle.std.specs.Option.{option_map_or, option_and_then}
use Rattle.std.proofs.lemmas.Bool.{eqb-true, ltb-true}
use Rattle.std.proofs.lemmas.Option.{same_Some}
use Rattle.ice_base.specs.declared.number.TileAt.{TileAt}
use Rattle.ice_base.specs.declared.bit.BitAt.{BitAt}
use Rattle.ice_base_values.specs.Order.{At, Has}
use Rattle.ice_base_values.proofs.Members.{At_within, any_Has, all_Has}
use Rattle.ice_base_values.proofs.Places.{At_same}
use Rattle.ice_net.specs.Meaning.{number_of}
use Rattle.ice_lut.specs.Tables.{table_places}
use Rattle.ice_lut.proofs.TableLaws.{number_bound}
use Rattle.ice_chip.specs.Names.{cell_function, falling_clock_function}
use Rattle.ice_chip.specs.FunctionNames.{carry_set_function}
use Rattle.ice_chip.specs.Lookups.{kind_at, function_of}
use Rattle.ice_chip_names.specs.declared.function_names.TileFunction.TheVariants.{Cell, FallingClock, CarrySet}
use Rattle.ice_chip.specs.declared.rows.TileKind.{TileKind}
use Rattle.ice_chip.specs.declared.rows.TileKind.TheVariants.{Logic}
use Rattle.ice_chip_laws.specs.Functions.{HasFunction}
use Rattle.ice_bits.specs.Configuration.{Bits}
use Rattle.ice_bits.specs.Settings.{function_bit, set_at}
use Rattle.ice_decode.specs.Cells.{cell_bit, reset_by}
use Rattle.ice_cells.specs.declared.cell.Control.{Control}
use Rattle.ice_cells.specs.declared.cell.LogicCell.{LogicCell}
use Rattle.ice_cells.specs.declared.cluster.Cluster.{Cluster}
use Rattle.ice_cells.specs.declared.design.Run.{Run}
use Rattle.ice_emit_rows_laws.specs.Settings.{Setting, function_bits}
use Rattle.ice_emit_rows_laws.specs.Wanted.{AreWanted, set_bits}
use Rattle.ice_place_defs.specs.Loads.{slots_give}
use Rattle.ice_emit_defs.specs.Arrivals.{written_table}
use Rattle.ice_emit_defs.specs.Functions.{setting, cell_settings, edge_settings, is_set, carry_settings, cluster_settings}
use Rattle.ice_emit_defs.specs.Set.{IsCellSet, IsFreeSlot, IsTileSet}
use Rattle.ice_emit_defs.specs.Slots.{IsOn, StandsIn}
use Rattle.ice_decode.proofs.Members.{Has_left, Has_right}
use Rattle.ice_emit_set_laws.proofs.CellNumbers.{Has_if, lists, named, in_cell, carry_lists, flop_lists, reset_lists, entry_lists}
use Rattle.ice_emit_set_laws.proofs.FunctionKinds.{own_name, cell_named}
use Rattle.ice_emit_set_laws.proofs.Inside.{slots_on, clusters_on}
use Rattle.ice_emit_set_laws.proofs.Lists.{Has_range}
use Rattle.ice_emit_set_laws.proofs.LogicTiles.{at_tile, on_logic}
use Rattle.ice_emit_set_laws.proofs.SetAt.{set_false, set_as}
use Rattle.ice_emit_set_laws.proofs.Told.{Case, slot_within, all, told_at, all_own, in_clusters, falls_in_tile}

-- ---- each entry of a table has its bit
places_below : (j : ℕ) → j < 16 → slice_index_or table_places j 0 < 20
places_below j lt = ltb-true (slice_index_or table_places j 0) 20 (all_Has (λ m. nat_lt (slice_index_or table_places m 0) 20) (range_with_len 0 16) j refl (Has_range 16 j lt))

module _ (z : Case) (are : AreWanted z.parts z.wanted) where
  abbrev bits : Bits
  bits = set_bits z.parts z.wanted (function_bits z.parts (all z))

  -- ---- what stands where
  on_tile : (t : TileAt) (cluster : Cluster) → IsOn z.plan t cluster → kind_at z.parts t ≡ Some Logic
  on_tile t cluster on = on_logic z.parts z.rows z.plan z.pullups z.placed t cluster on

  same_cluster : (t : TileAt) (a b : Cluster) → IsOn z.plan t a → IsOn z.plan t b → a ≡ b
  same_cluster t a b one other =
      let same : one.number ≡ other.number
      = z.placed.legal.apart one.number other.number (At_within z.plan.at one.number t one.tile_is) (At_within z.plan.at other.number t other.tile_is) (at_tile z.plan t a one ∙ sym (at_tile z.plan t b other)) in
      At_same z.plan.clusters other.number a b (subst (λ n. At z.plan.clusters n a) same one.cluster_is) other.cluster_is

  same_cell : (t : TileAt) (i b c : ℕ) (x y : LogicCell) → StandsIn z.plan t i b x → StandsIn z.plan t i c y → x ≡ y
  same_cell t i b c x y one other =
      let cluster = same_cluster t one.cluster other.cluster one.on other.on in
      let slot = At_same other.cluster.cells i (Some b) (Some c) (subst (λ (k : Cluster). At k.cells i (Some b)) cluster one.slot) other.slot in
      At_same z.plan.design.cells c x y (subst (λ n. At z.plan.design.cells n x) (same_Some b c slot) one.cell_is) other.cell_is

  -- ---- the bits of logic tiles
  logic_bit : (t : TileAt) (name : List ℕ) (count k : ℕ) → kind_at z.parts t ≡ Some Logic → HasFunction z.parts Logic name count → k < count → (b : BitAt) × (function_bit z.parts t name k ≡ Some b)
  logic_bit t name count k known has lt =
      let there = has.bits k lt in
      (there.0, ap (option_and_then (λ (kind : TileKind). option_and_then (λ f. slice_get f.bits k) (function_of z.parts kind name))) known ∙ there.1)

  in_cluster : (t : TileAt) (cluster : Cluster) → IsOn z.plan t cluster → (x : Setting) → Has (cluster_settings z.parts z.held z.plan.design t cluster) x → Has (all z) x
  in_cluster t cluster on x has = in_clusters z x (clusters_on z.parts z.held z.plan.design z.plan.at z.plan.clusters on.number t cluster x on.tile_is on.cluster_is has)

  -- ---- cells
  abbrev of_cell : TileAt → ℕ → LogicCell → List Setting
  of_cell t i cell = cell_settings z.parts z.held t i cell

  cell_there : (t : TileAt) (i c : ℕ) (cell : LogicCell) → StandsIn z.plan t i c cell → (k : ℕ) → lists k (of_cell t i cell) ≡ true → Has (all z) (setting t (cell_function i) k)
  cell_there t i c cell stands k listed =
      let one = any_Has (λ (x : Setting). x.number == k) (of_cell t i cell) listed in
      let is = named t (cell_function i) (written_table z.parts z.held t i cell) cell.carry cell.flop one.0 one.1 in
      let number : one.0.number ≡ k = eqb-true one.0.number k one.2 in
      let same : one.0 ≡ setting t (cell_function i) k = λ j. record { tile = is.0 j; name = is.1 j; number = number j } in
      let slots = slots_give of_cell z.plan.design.cells t 0 stands.cluster.cells in
      let inside : Has slots one.0
      = slots_on of_cell z.plan.design.cells t 0 stands.cluster.cells i c cell one.0 stands.slot stands.cell_is
      (subst (λ n. Has (of_cell t n cell) one.0) (let e : i ≡ 0 + i = omega arith in e) one.1) in
      subst (λ (x : Setting). Has (all z) x) same
      (in_cluster t stands.cluster stands.on one.0
      (Has_left (slots ++ edge_settings t stands.cluster.control) (carry_settings z.plan.design.runs t stands.cluster.run) one.0 (Has_left slots (edge_settings t stands.cluster.control) one.0 inside)))

  cell_bit_is : (t : TileAt) (i c : ℕ) (cell : LogicCell) → StandsIn z.plan t i c cell → (k : ℕ) → k < 20 → cell_bit z.parts bits t i k ≡ lists k (of_cell t i cell)
  cell_bit_is t i c cell stands k lt =
      let within : i < 8 = slot_within z t stands.cluster i c stands.on stands.slot in
      let known = on_tile t stands.cluster stands.on in
      let place = logic_bit t (cell_function i) 20 k known ((z.known.lawful.functions.logic t known).cells (cell_function i) (cell_named i within)) lt in
      set_as z.parts z.known.chip z.known.lawful (all z) (all_own z) z.wanted are (lists k (of_cell t i cell)) t (cell_function i) k place.0 (own_name z.parts t (Cell i) (λ e io. cc e)) place.1 (cell_there t i c cell stands k)
      (λ has.
      let other = told_at z t k (Cell i) within has in
      subst (λ (x : LogicCell). lists k (of_cell t i x) ≡ true) (same_cell t i other.0 c other.1 cell other.2 stands) other.3)

  sixteen : (n m : ℕ) → n < m → m ≡ 16 → n < 16
  sixteen n m lt e = omega arith

  pub cell_set : (t : TileAt) (i c : ℕ) (cell : LogicCell) → StandsIn z.plan t i c cell → IsCellSet z.parts bits z.held t i cell
  cell_set t i c cell stands = record {
    flop = cell_bit_is t i c cell stands 9 (omega arith) ∙ flop_lists t (cell_function i) table cell.carry cell.flop;
    carry = cell_bit_is t i c cell stands 8 (omega arith) ∙ carry_lists t (cell_function i) table cell.carry cell.flop;
    table = λ xs four.
        let lt = sixteen (number_of xs) (2 ^ 4) (number_bound xs 4 (let le : length xs ≤ 4 = omega arith in le)) refl in
        cell_bit_is t i c cell stands (slice_index_or table_places (number_of xs) 0) (places_below (number_of xs) lt)
        ∙ entry_lists t (cell_function i) table cell.carry cell.flop (number_of xs) lt;
    reset = λ control kind is.
        (λ j. reset_by (cell_bit_is t i c cell stands 18 (omega arith) j) (cell_bit_is t i c cell stands 19 (omega arith) j))
        ∙ ap (λ o. reset_by (lists 18 (in_cell t (cell_function i) table cell.carry o)) (lists 19 (in_cell t (cell_function i) table cell.carry o))) is
        ∙ reset_lists t (cell_function i) table cell.carry control kind;
  }
    where
      table : ℕ
      table = written_table z.parts z.held t i cell

  pub free_slot : (t : TileAt) (i : ℕ) → i < 8 → ((c : ℕ) (cell : LogicCell) → StandsIn z.plan t i c cell → ⊥) → IsFreeSlot z.parts bits t i
  free_slot t i lt free = record { flop = unset 9; carry = unset 8 }
    where
      unset : (k : ℕ) → cell_bit z.parts bits t i k ≡ false
      unset k =
          set_false z.parts z.known.chip z.known.lawful (all z) (all_own z) z.wanted are t (cell_function i) k (own_name z.parts t (Cell i) (λ e io. cc e))
          (λ has. let other = told_at z t k (Cell i) lt has in free other.0 other.1 other.2)

  -- ---- tiles
  pub tile_set : (t : TileAt) (cluster : Cluster) → IsOn z.plan t cluster → IsTileSet z.parts z.plan bits t cluster
  tile_set t cluster on = record { edge = edge; entry = entry }
    where
      known : kind_at z.parts t ≡ Some Logic
      known = on_tile t cluster on

      slots : List Setting
      slots = slots_give of_cell z.plan.design.cells t 0 cluster.cells

      in_edge : (x : Setting) → Has (edge_settings t cluster.control) x → Has (all z) x
      in_edge x has =
          in_cluster t cluster on x (Has_left (slots ++ edge_settings t cluster.control) (carry_settings z.plan.design.runs t cluster.run) x (Has_right slots (edge_settings t cluster.control) x has))

      in_carry : (x : Setting) → Has (carry_settings z.plan.design.runs t cluster.run) x → Has (all z) x
      in_carry x has = in_cluster t cluster on x (Has_right (slots ++ edge_settings t cluster.control) (carry_settings z.plan.design.runs t cluster.run) x has)

      edge : (control : Control) → cluster.control ≡ Some control → set_at z.parts bits t falling_clock_function 0 ≡ control.falling
      edge control is =
          let place = logic_bit t falling_clock_function 1 0 known (z.known.lawful.functions.logic t known).clock_edge (omega arith) in
          set_as z.parts z.known.chip z.known.lawful (all z) (all_own z) z.wanted are control.falling t falling_clock_function 0 place.0 (own_name z.parts t FallingClock (λ e io. cc (known, io))) place.1
          (λ falls.
          in_edge (setting t falling_clock_function 0)
          (subst (λ o. Has (edge_settings t o) (setting t falling_clock_function 0)) (sym is) (Has_if control.falling t falling_clock_function 0 falls)))
          (λ has.
          let other = falls_in_tile z t known (told_at z t 0 FallingClock tt has) in
          let same = same_cluster t other.0 cluster other.2 on in
          let control_is : Some other.1 ≡ Some control = sym other.3 ∙ ap (λ (x : Cluster). x.control) same ∙ is in
          ap (λ (x : Control). x.falling) (sym (same_Some other.1 control control_is)) ∙ other.4)

      entry : (r : ℕ) (run : Run) → cluster.run ≡ Some (r, zero) → At z.plan.design.runs r run → set_at z.parts bits t carry_set_function 0 ≡ run.set
      entry r run is at =
          let place = logic_bit t carry_set_function 1 0 known (z.known.lawful.functions.logic t known).first_carry (omega arith) in
          let set : is_set z.plan.design.runs r ≡ run.set = ap (λ (o : Option Run). option_map_or (λ (x : Run). x.set) o false) at in
          set_as z.parts z.known.chip z.known.lawful (all z) (all_own z) z.wanted are run.set t carry_set_function 0 place.0 (own_name z.parts t CarrySet (λ e io. cc e)) place.1
          (λ sets.
          in_carry (setting t carry_set_function 0)
          (subst (λ o. Has (carry_settings z.plan.design.runs t o) (setting t carry_set_function 0)) (sym is) (Has_if (is_set z.plan.design.runs r) t carry_set_function 0 (set ∙ sets))))
          (λ has.
          let other = told_at z t 0 CarrySet tt has in
          let same = same_cluster t other.0 cluster other.2 on in
          let run_is : Some (other.1, zero) ≡ Some (r, zero) = sym other.3 ∙ ap (λ (x : Cluster). x.run) same ∙ is in
          let number : other.1 ≡ r = ap (λ (p : ℕ × ℕ). p.0) (same_Some (other.1, zero) (r, zero) run_is) in
          sym set ∙ ap (is_set z.plan.design.runs) (sym number) ∙ other.4)
