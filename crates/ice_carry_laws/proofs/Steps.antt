-- A design shows with its runs, step by step, what it showed without.
use Rattle.std.proofs.Common.{◌≡◌, ℕ, suc, Bool, true, false, Option, None, Some, List, [], ◌∷◌, length, map, refl, sym, ap, ◌∙◌, subst, arith}
use Rattle.std.specs.Prelude.{unwrap_or, slice_index_or}
use Rattle.std.specs.Option.{option_map_or}
use Rattle.ice_net.specs.declared.kind.Reset.{Reset}
use Rattle.ice_net.specs.Drives.{pad_drive}
use Rattle.ice_net.specs.Kinds.{is_edge, fired}
use Rattle.ice_net.specs.Meaning.{number_of, table_bit, State}
use Rattle.ice_base_values.specs.Arriving.{HasValue}
use Rattle.ice_base_values.specs.System.{reading}
use Rattle.ice_base_values.specs.Simulations.{Simulates}
use Rattle.ice_base_values.specs.Order.{At, Has}
use Rattle.ice_base_values.proofs.Machines.{shows_always_alike}
use Rattle.ice_base_values.proofs.Members.{At_within}
use Rattle.ice_base_values.proofs.ListPlaces.{all_alike}
use Rattle.ice_cells.specs.declared.cell.Control.{Control}
use Rattle.ice_cells.specs.declared.cell.LogicCell.{LogicCell}
use Rattle.ice_cells.specs.declared.design.Design.{Design}
use Rattle.ice_cells.specs.declared.design.DesignPad.{DesignPad}
use Rattle.ice_cells.specs.declared.root.Root.{Root}
use Rattle.ice_cells.specs.declared.root.Root.TheVariants.{CellOut}
use Rattle.ice_cells.specs.Meaning.{node_reads, system_of, node_level, HasValues, at_root, given, flop_keeps, flop_clock, cell_keeps, cell_clock, state_after, pad_drives, step, start, shows}
use Rattle.ice_cells.specs.Moves.{renamed, renamed_source, renamed_flop, kept_flop, become, moved_cell}
use Rattle.ice_cells.specs.Nodes.{Node, Net, net}
use Rattle.ice_cells.specs.Readings.{control_roots, cell_roots, roots_read}
use Rattle.ice_cells.specs.Runs.{renamed_pad}
use Rattle.ice_cells.proofs.TableLaws.{get_or-table, passes}
use Rattle.ice_carry_laws.proofs.Arriving.{arrives, read_value, have_four, table_new}
use Rattle.ice_cells.proofs.NodeLevels.{level_is, level_meets, level_rank, level_falls}
use Rattle.ice_carry_laws.proofs.ReadRoots.{cell_read, four_read, pad_read}
use Rattle.ice_carry_laws.proofs.Renaming.{four, four_new, old_inputs, new_inputs}
use Rattle.ice_carry_laws.specs.AreRuns.{IsIn, home, own, AreRuns}

-- each flip-flop keeps the same in both states, and has seen the same level of its clock
pub record Tied (old : Design) (moved : List (Option ℕ)) (s t : State) : Type 0 where
  pub kept : (c : ℕ) (cell : LogicCell) (flop : Control × Reset) → At old.cells c cell → cell.flop ≡ Some flop → slice_index_or s.kept (home moved c) false ≡ slice_index_or t.kept c false
  pub clocks : (c : ℕ) (cell : LogicCell) (flop : Control × Reset) → At old.cells c cell → cell.flop ≡ Some flop → slice_index_or s.clocks (home moved c) None ≡ slice_index_or t.clocks c None

map_alike : {X Y Z : Type 0} (f : Y → Z) (g : X → Y) (h : X → Z) (xs : List X) → ((k : ℕ) (x : X) → At xs k x → f (g x) ≡ h x) → map f (map g xs) ≡ map h xs
map_alike f g h [] same = refl
map_alike f g h (x ∷ xs) same = (λ i. same 0 x refl i ∷ map_alike f g h xs (λ k y at. same (suc k) y at) i)

module _ (old new : Design) (moved fed : List (Option ℕ)) (runs : AreRuns old new moved fed) (values : HasValues old)
    (roots : (root : Root) → Has (roots_read old) (Some root) → IsIn old (Net root))
    (closed : (p q : Node) → IsIn old p → Has (node_reads old p) (Some q) → IsIn old q) where
  module _ (levels : List Bool) (s t : State) (tied : Tied old moved s t) where
    abbrev v : Node → Bool
    v n = node_level old levels t.kept n

    abbrev w : Node → Bool
    w n = node_level new levels s.kept n

    has_own : (n : Node) → IsIn old n → HasValue (system_of new levels s.kept) (own moved n) (v n)
    has_own n is =
        arrives old new moved fed runs levels t.kept s.kept tied.kept v (level_meets old values levels t.kept) (level_rank old values levels t.kept) (level_falls old values levels t.kept) closed
        (suc (level_rank old values levels t.kept n)) n (omega arith) is

    root_level : (r : Root) → Has (roots_read old) (Some r) → w (Net (renamed moved fed r)) ≡ v (Net r)
    root_level r has =
        level_is new levels s.kept (Net (renamed moved fed r)) (v (Net r))
        (read_value old new moved fed runs levels t.kept s.kept tied.kept v (level_meets old values levels t.kept) (level_rank old values levels t.kept) (level_falls old values levels t.kept) closed
        r (has_own (Net r) (roots r has)))

    -- what is read at a root that may be missing
    source_level : (bare : Bool) (o : Option Root) → ((r : Root) → o ≡ Some r → Has (roots_read old) (Some r)) → at_root bare w (renamed_source moved fed o) ≡ at_root bare v o
    source_level bare None reads = refl
    source_level bare (Some r) reads = root_level r (reads r refl)

    input_level : (o : Option Root) → ((r : Root) → o ≡ Some r → Has (roots_read old) (Some r)) → reading false w (net (renamed_source moved fed o)) ≡ reading false v (net o)
    input_level None reads = refl
    input_level (Some r) reads = root_level r (reads r refl)

    -- ---- what tables give
    reads_at : (c : ℕ) (cell : LogicCell) → At old.cells c cell → (k : ℕ) (o : Option Root) → At (cell_roots cell) k o → (r : Root) → o ≡ Some r → Has (roots_read old) (Some r)
    reads_at c cell at k o there r e = cell_read old c cell r at (k, there ∙ ap Some e)

    given_same : (c : ℕ) (cell : LogicCell) → At old.cells c cell → given new w c (become moved fed c cell) ≡ given old v c cell
    given_same c cell at =
        let e0 = input_level (slice_index_or cell.ins 0 None) (reads_at c cell at 0 (slice_index_or cell.ins 0 None) refl) in
        let e1 = input_level (slice_index_or cell.ins 1 None) (reads_at c cell at 1 (slice_index_or cell.ins 1 None) refl) in
        let e2 = input_level (slice_index_or cell.ins 2 None) (reads_at c cell at 2 (slice_index_or cell.ins 2 None) refl) in
        let e3 = input_level (slice_index_or cell.ins 3 None) (reads_at c cell at 3 (slice_index_or cell.ins 3 None) refl) in
        let same : map (reading false w) (four_new moved fed cell) ≡ map (reading false v) (four cell) = λ i. e0 i ∷ e1 i ∷ e2 i ∷ e3 i ∷ [] in
        ap (λ ns. table_bit cell.table (number_of (map (reading false w) ns))) (new_inputs old new moved fed runs c cell at) ∙ ap (λ xs. table_bit cell.table (number_of xs)) same
        ∙ ap (λ ns. table_bit cell.table (number_of (map (reading false v) ns))) (sym (old_inputs old new moved fed runs c cell at))

    net_back : (c : ℕ) (cell : LogicCell) → At old.cells c cell → (k : ℕ) (r : Option Root) → At (four cell) k (net r) → (q : Root) → r ≡ Some q
        → HasValue (system_of new levels s.kept) (own moved (Net q)) (v (Net q))
    net_back c cell at k r there q e = has_own (Net q) (roots q (four_read old c cell at k r there q e))

    -- the cell that a flip-flop moved to takes what its table gave
    moved_given : (c m : ℕ) (cell : LogicCell) → At old.cells c cell → slice_index_or moved c None ≡ Some m → given new w m (moved_cell moved fed old.cells c) ≡ given old v c cell
    moved_given c m cell at mo =
        passes (w (Net (CellOut c)))
        ∙ level_is new levels s.kept (Net (CellOut c)) (given old v c cell)
        (table_new old new moved fed runs levels t.kept s.kept tied.kept v (level_meets old values levels t.kept) (level_rank old values levels t.kept) (level_falls old values levels t.kept) closed
        c cell at
        (have_four old new moved fed runs levels t.kept s.kept tied.kept v (level_meets old values levels t.kept) (level_rank old values levels t.kept) (level_falls old values levels t.kept) closed
        cell (net_back c cell at))
        (ap (λ o. renamed_flop moved fed (kept_flop o cell.flop)) mo))

    -- ---- where a flip-flop is found again
    record IsFlop (m c : ℕ) (cell : LogicCell) (flop : Control × Reset) : Type 0 where
      pub z : LogicCell
      pub at : At new.cells m z
      pub flop_is : z.flop ≡ renamed_flop moved fed (Some flop)
      pub takes : given new w m z ≡ given old v c cell

    found : (c : ℕ) (cell : LogicCell) (flop : Control × Reset) → At old.cells c cell → cell.flop ≡ Some flop → IsFlop (home moved c) c cell flop
    found c cell flop at e = whither (slice_index_or moved c None) refl
      where
        whither : (o : Option ℕ) → slice_index_or moved c None ≡ o → IsFlop (home moved c) c cell flop
        whither None mo =
            subst (λ (o : Option ℕ). IsFlop (unwrap_or o c) c cell flop) (sym mo)
            (record { z = become moved fed c cell; at = runs.cells c cell at; flop_is = (λ i. renamed_flop moved fed (kept_flop (mo i) (e i))); takes = given_same c cell at })
        whither (Some m) mo =
            subst (λ (o : Option ℕ). IsFlop (unwrap_or o c) c cell flop) (sym mo)
            (record {
              z = moved_cell moved fed old.cells c;
              at = (runs.moves c m mo).4;
              flop_is = ap (λ o. renamed_flop moved fed (option_map_or (λ (x : LogicCell). x.flop) o None)) at ∙ ap (renamed_flop moved fed) e;
              takes = moved_given c m cell at mo;
            })

    -- ---- the state afterwards
    module _ (c : ℕ) (cell : LogicCell) (flop : Control × Reset) (at : At old.cells c cell) (e : cell.flop ≡ Some flop) where
      control_read : (k : ℕ) (o : Option Root) → At (control_roots (Some flop)) k o → (r : Root) → o ≡ Some r → Has (roots_read old) (Some r)
      control_read k o there r f =
          cell_read old c cell r at
          (suc (suc (suc (suc k))), subst (λ (x : Option (Control × Reset)). At (control_roots x) k (Some r)) (sym e) (there ∙ ap Some f))

      clock_level : at_root false w (renamed_source moved fed flop.0.clock) ≡ at_root false v flop.0.clock
      clock_level = source_level false flop.0.clock (control_read 0 flop.0.clock refl)

      enable_level : at_root true w (renamed_source moved fed flop.0.enable) ≡ at_root true v flop.0.enable
      enable_level = source_level true flop.0.enable (control_read 1 flop.0.enable refl)

      reset_level : at_root false w (renamed_source moved fed flop.0.reset) ≡ at_root false v flop.0.reset
      reset_level = source_level false flop.0.reset (control_read 2 flop.0.reset refl)

      abbrev m : ℕ
      m = home moved c

      keeps_same : cell_keeps new w s m ≡ cell_keeps old v t c
      keeps_same =
          let is = found c cell flop at e in
          ap (λ o. option_map_or (λ (x : LogicCell). flop_keeps w x.flop (given new w m x) (slice_index_or s.kept m false) (slice_index_or s.clocks m None)) o false) is.at
          ∙ ap (λ f. flop_keeps w f (given new w m is.z) (slice_index_or s.kept m false) (slice_index_or s.clocks m None)) is.flop_is
          ∙ (λ i. fired flop.1 (is_edge flop.0.falling (tied.clocks c cell flop at e i) (clock_level i)) (enable_level i) (reset_level i) (is.takes i) (tied.kept c cell flop at e i))
          ∙ sym (ap (λ o. option_map_or (λ (x : LogicCell). flop_keeps v x.flop (given old v c x) (slice_index_or t.kept c false) (slice_index_or t.clocks c None)) o false) at
          ∙ ap (λ f. flop_keeps v f (given old v c cell) (slice_index_or t.kept c false) (slice_index_or t.clocks c None)) e)

      clock_same : cell_clock new w m ≡ cell_clock old v c
      clock_same =
          let is = found c cell flop at e in
          ap (λ o. option_map_or (λ (x : LogicCell). flop_clock w x.flop) o None) is.at ∙ ap (flop_clock w) is.flop_is ∙ ap Some clock_level
          ∙ sym (ap (λ o. option_map_or (λ (x : LogicCell). flop_clock v x.flop) o None) at ∙ ap (flop_clock v) e)

      kept_after : slice_index_or (state_after new w s).kept m false ≡ slice_index_or (state_after old v t).kept c false
      kept_after =
          get_or-table (cell_keeps new w s) (length new.cells) m false (At_within new.cells m (found c cell flop at e).z (found c cell flop at e).at) ∙ keeps_same
          ∙ sym (get_or-table (cell_keeps old v t) (length old.cells) c false (At_within old.cells c cell at))

      clocks_after : slice_index_or (state_after new w s).clocks m None ≡ slice_index_or (state_after old v t).clocks c None
      clocks_after =
          get_or-table (cell_clock new w) (length new.cells) m None (At_within new.cells m (found c cell flop at e).z (found c cell flop at e).at) ∙ clock_same
          ∙ sym (get_or-table (cell_clock old v) (length old.cells) c None (At_within old.cells c cell at))

    tied_after : Tied old moved (state_after new w s) (state_after old v t)
    tied_after = record { kept = kept_after; clocks = clocks_after }

    -- ---- what pads show
    pad_same : (k : ℕ) (pad : DesignPad) → At old.pads k pad → pad_drives w (renamed_pad moved fed pad) ≡ pad_drives v pad
    pad_same k pad at =
        let drive = source_level false pad.drive (λ r e. pad_read old k pad r at (0, ap Some e)) in
        let enable = source_level false pad.enable (λ r e. pad_read old k pad r at (1, ap Some e)) in
        λ i. pad_drive pad.pin_type (drive i) (enable i)

    pads_same : map (pad_drives w) new.pads ≡ map (pad_drives v) old.pads
    pads_same = ap (map (pad_drives w)) runs.pads ∙ map_alike (pad_drives w) (renamed_pad moved fed) (pad_drives v) old.pads pad_same

  simulates : Simulates (step new) (step old) (Tied old moved) (λ levels. Unit {0})
  simulates s t levels allowed tied = (tied_after levels s t tied, pads_same levels s t tied)

  tied_start : Tied old moved (start new) (start old)
  tied_start = record {
    kept = λ c cell flop at e. all_alike false new.cells (home moved c) ∙ sym (all_alike false old.cells c);
    clocks = λ c cell flop at e. all_alike None new.cells (home moved c) ∙ sym (all_alike None old.cells c);
  }

  pub shows_same : (levels : List (List Bool)) → shows new levels ≡ shows old levels
  shows_same levels = shows_always_alike (step new) (step old) (Tied old moved) simulates (start new) (start old) tied_start levels
