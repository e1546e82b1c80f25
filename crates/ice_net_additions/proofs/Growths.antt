-- Netlists that grow: cells are added behind those that were there, and these may be exchanged for others that read and drive the same.
-- What drives the signals then, and what the drivers read.
use Rattle.std.proofs.Common.{◌≡◌, ℕ, zero, suc, ◌+◌, ◌<◌, ◌≤◌, Bool, false, Option, None, Some, List, [], ◌∷◌, ◌++◌, length, map, refl, ap, sym, ◌∙◌, subst, arith, length-append}
use Rattle.std.specs.Prelude.{slice_index_or}
use Rattle.std.specs.Option.{option_map_or}
use Rattle.std.proofs.Math.Path.{fun_ext}
use Rattle.std.proofs.lemmas.List.{length-map, map-append}
use Rattle.std.proofs.lemmas.Option.{none-some, same_Some}
use Rattle.ice_base.specs.declared.number.SignalNo.{SignalNo}
use Rattle.ice_base_values.specs.Order.{At}
use Rattle.ice_base_values.specs.System.{present}
use Rattle.ice_base_values.proofs.Members.{At_left, At_right, At_within}
use Rattle.ice_net.specs.declared.cell.Cell.{Cell}
use Rattle.ice_net.specs.declared.kind.CellKind.{CellKind}
use Rattle.ice_net.specs.declared.port.Port.{Port}
use Rattle.ice_net.specs.declared.driver.SignalDriver.{SignalDriver}
use Rattle.ice_net.specs.declared.driver.SignalDriver.TheVariants.{Nothing, Pad, Output}
use Rattle.ice_net.specs.NetlistData.{NetlistData}
use Rattle.ice_net.specs.Formed.{IsFormed}
use Rattle.ice_net.specs.Drivers.{numbers, place_of, is_there, pin_of, buffer_at, has_buffer, pad_by, output_of, driver_from, pad_signals, outputs, driver_of}
use Rattle.ice_net.specs.Meaning.{makes_by, cell_reads, pad_level, reads, makes, depends_on}
use Rattle.ice_check.specs.Faults.{uses_of}
use Rattle.ice_check.proofs.ListsBelow.{pads_below, outputs_below}
use Rattle.ice_check.proofs.OldSignals.{IsThere, driver_there}
use Rattle.ice_check.proofs.Places.{wire, place_left, place_right, place_above}
use Rattle.ice_net_additions.specs.AddedCells.{added_cell, added_cells}
use Rattle.ice_net_additions.proofs.AddedCells.{Ins, IsAddable, added_at, no_pins, outs_above, out_at}

-- ---- lists of cells, one beside the other
abbrev pub InPairs : (Cell → Cell → Type 0) → List Cell → List Cell → Type 0
InPairs R [] [] = Unit {0}
InPairs R [] (y ∷ ys) = ⊥
InPairs R (x ∷ xs) [] = ⊥
InPairs R (x ∷ xs) (y ∷ ys) = R x y × InPairs R xs ys

module _ (R : Cell → Cell → Type 0) where
  pub pair_at : (xs ys : List Cell) (i : ℕ) (y : Cell) → InPairs R xs ys → At ys i y → (x : Cell) × At xs i x × R x y
  pair_at xs [] i y pairs at = absurd (none-some y at)
  pair_at [] (z ∷ ys) i y pairs at = absurd pairs
  pair_at (x ∷ xs) (z ∷ ys) zero y pairs at = (x, refl, subst (R x) (same_Some z y at) pairs.0)
  pair_at (x ∷ xs) (z ∷ ys) (suc i) y pairs at = pair_at xs ys i y pairs.1 at

  pub at_pair : (xs ys : List Cell) (i : ℕ) (x : Cell) → InPairs R xs ys → At xs i x → (y : Cell) × At ys i y × R x y
  at_pair [] ys i x pairs at = absurd (none-some x at)
  at_pair (z ∷ xs) [] i x pairs at = absurd pairs
  at_pair (z ∷ xs) (y ∷ ys) zero x pairs at = (y, refl, subst (λ w. R w y) (same_Some z x at) pairs.0)
  at_pair (z ∷ xs) (y ∷ ys) (suc i) x pairs at = at_pair xs ys i x pairs.1 at

  pub pairs_long : (xs ys : List Cell) → InPairs R xs ys → length xs ≡ length ys
  pairs_long [] [] pairs = refl
  pairs_long [] (y ∷ ys) pairs = absurd pairs
  pairs_long (x ∷ xs) [] pairs = absurd pairs
  pairs_long (x ∷ xs) (y ∷ ys) pairs = ap suc (pairs_long xs ys pairs.1)

  pub pairs_same : {X : Type 0} (f : Cell → X) → ((x y : Cell) → R x y → f x ≡ f y) → (xs ys : List Cell) → InPairs R xs ys → map f xs ≡ map f ys
  pairs_same f same [] [] pairs = refl
  pairs_same f same [] (y ∷ ys) pairs = absurd pairs
  pairs_same f same (x ∷ xs) [] pairs = absurd pairs
  pairs_same f same (x ∷ xs) (y ∷ ys) pairs = ap (λ z. z ∷ map f xs) (same x y pairs.0) ∙ ap (λ zs. f y ∷ zs) (pairs_same f same xs ys pairs.1)

-- ---- what may stand for a cell
-- the other cell reads and drives what the cell does, and uses none of the first signals that the cell doesn't use
pub record IsTurned (count : ℕ) (other cell : Cell) : Type 0 where
  pub kind : other.kind ≡ cell.kind
  pub pin : pin_of other ≡ pin_of cell
  pub out : output_of other ≡ output_of cell
  pub reads : cell_reads other ≡ cell_reads cell
  pub uses : (s i : ℕ) → s < count → At (uses_of other) i (wire s) → At (uses_of cell) i (wire s)

-- a netlist, names that are added, what stands for its cells, and the kind of the cells that are added with what each of them reads
pub record Growth : Type 0 where
  pub before : NetlistData
  pub names : List (List ℕ)
  pub olds : List Cell
  pub kind : CellKind
  pub lists : List Ins
  pub addable : IsAddable kind
  pub turned : InPairs (IsTurned (length before.names)) olds before.cells

abbrev pub grown : Growth → NetlistData
grown g = record {
  names = g.before.names ++ g.names;
  ports = g.before.ports;
  cells = g.olds ++ added_cells g.kind (length g.before.names) g.lists;
}

module _ (g : Growth) where
  abbrev n : NetlistData
  n = g.before

  abbrev new : NetlistData
  new = grown g

  abbrev count : ℕ
  count = length g.before.names

  abbrev added : List Cell
  added = added_cells g.kind (length g.before.names) g.lists

  pub length_names : length new.names ≡ count + length g.names
  length_names = length-append n.names g.names

  pub long_cells : length g.olds ≡ length n.cells
  long_cells = pairs_long (IsTurned count) g.olds n.cells g.turned

  -- ---- places in the list of cells
  pub cell_kept : (i : ℕ) (cell : Cell) → At n.cells i cell → (other : Cell) × At new.cells i other × IsTurned count other cell
  cell_kept i cell at =
      let found = pair_at (IsTurned count) g.olds n.cells i cell g.turned at in
      (found.0, At_left g.olds added i found.0 found.1, found.2)

  pub cell_added : (j : ℕ) (ins : Ins) → At g.lists j ins → At new.cells (length n.cells + j) (added_cell g.kind (count + j) ins)
  cell_added j ins at =
      subst (λ k. At new.cells (k + j) (added_cell g.kind (count + j) ins)) long_cells
      (At_right g.olds added j (added_cell g.kind (count + j) ins) (added_at g.kind count g.lists j ins at))

  -- ---- lists of signals
  pub pins_are : map pin_of new.cells ≡ map pin_of n.cells ++ map pin_of added
  pins_are = map-append pin_of g.olds added ∙ ap (λ pins. pins ++ map pin_of added) (pairs_same (IsTurned count) pin_of (λ x y t. t.pin) g.olds n.cells g.turned)

  pub outputs_are : outputs new ≡ outputs n ++ map output_of added
  outputs_are = map-append output_of g.olds added ∙ ap (λ outs. outs ++ map output_of added) (pairs_same (IsTurned count) output_of (λ x y t. t.out) g.olds n.cells g.turned)

  pub buffer_same : (s : ℕ) → buffer_at new.cells s ≡ buffer_at n.cells s
  buffer_same s = ap (place_of s) pins_are ∙ place_left s (map pin_of n.cells) (map pin_of added) (no_pins g.kind g.addable s count g.lists)

  pub buffered_same : (s : ℕ) → has_buffer new.cells s ≡ has_buffer n.cells s
  buffered_same s = ap is_there (buffer_same s)

  pub pads_same : pad_signals new ≡ pad_signals n
  pads_same = ap (λ (f : Port → Option SignalNo). map f n.ports) (fun_ext (λ (port : Port). ap (λ b. pad_by port b port.way) (buffered_same port.signal.0)))

  -- ---- drivers
  pub driver_old : (s : ℕ) → s < count → driver_of new s ≡ driver_of n s
  driver_old s lt =
      ap (λ xs. driver_from (place_of s xs) (place_of s (outputs new))) pads_same
      ∙ ap (driver_from (place_of s (pad_signals n))) (ap (place_of s) outputs_are ∙ place_left s (outputs n) (map output_of added) (outs_above g.kind s count g.lists lt))

  pub driver_new : IsFormed n → (j : ℕ) (ins : Ins) → At g.lists j ins → driver_of new (count + j) ≡ Output (length n.cells + j)
  driver_new formed j ins at =
      let above : count ≤ count + j = omega arith in
      ap (λ o. driver_from o (place_of (count + j) (outputs new))) (ap (place_of (count + j)) pads_same ∙ place_above (count + j) count (pad_signals n) (pads_below n formed) above)
      ∙ ap (driver_from None) (ap (place_of (count + j)) outputs_are
      ∙ place_right (count + j) (outputs n) (map output_of added) j (place_above (count + j) count (outputs n) (outputs_below n formed) above) (out_at g.kind count g.lists j ins at)
      ∙ ap (λ k. Some (k + j)) (length-map n.cells output_of))

  -- ---- what drivers read and make
  pub reads_same : (d : SignalDriver) → IsThere n d → reads new d ≡ reads n d
  reads_same Nothing there = refl
  reads_same (Pad k) there = refl
  reads_same (Output i) (cell, at) =
      let kept = cell_kept i cell at in
      ap (λ o. option_map_or (λ (cell : Cell). cell_reads cell) o []) kept.1
      ∙ kept.2.reads
      ∙ sym (ap (λ o. option_map_or (λ (cell : Cell). cell_reads cell) o []) at)

  pub makes_same : (levels kept after : List Bool) → ((i : ℕ) → i < length n.cells → slice_index_or after i false ≡ slice_index_or kept i false)
      → (d : SignalDriver) → IsThere n d → (xs : List Bool) → makes new levels after d xs ≡ makes n levels kept d xs
  makes_same levels kept after same Nothing there xs = refl
  makes_same levels kept after same (Pad k) there xs = refl
  makes_same levels kept after same (Output i) (cell, at) xs =
      let found = cell_kept i cell at in
      ap (λ o. option_map_or (λ (cell : Cell). makes_by cell.kind (slice_index_or after i false) (pad_level n.ports levels (pin_of cell)) xs) o false) found.1
      ∙ ap (λ (kind : CellKind). makes_by kind (slice_index_or after i false) (pad_level n.ports levels (pin_of found.0)) xs) found.2.kind
      ∙ ap (λ b. makes_by cell.kind b (pad_level n.ports levels (pin_of found.0)) xs) (same i (At_within n.cells i cell at))
      ∙ ap (λ pin. makes_by cell.kind (slice_index_or kept i false) (pad_level n.ports levels pin) xs) found.2.pin
      ∙ sym (ap (λ o. option_map_or (λ (cell : Cell). makes_by cell.kind (slice_index_or kept i false) (pad_level n.ports levels (pin_of cell)) xs) o false) at)

  pub depends_old : (s : ℕ) → s < count → depends_on new s ≡ depends_on n s
  depends_old s lt = ap (λ d. present (reads new d)) (driver_old s lt) ∙ ap present (reads_same (driver_of n s) (driver_there n s))

  pub reads_new : IsFormed n → (j : ℕ) (ins : Ins) → At g.lists j ins → reads new (driver_of new (count + j)) ≡ numbers ins
  reads_new formed j ins at =
      ap (reads new) (driver_new formed j ins at)
      ∙ ap (λ o. option_map_or (λ (cell : Cell). cell_reads cell) o []) (cell_added j ins at)
      ∙ ap numbers (g.addable.reads ins)
