-- The wires of roots.
use Rattle.std.proofs.Common.{◌≡◌, ◌⊎◌, ℕ, zero, suc, ◌+◌, ◌<◌, Bool, true, false, cond, Option, None, Some, List, [], ◌∷◌, inl, inr, length, is_some, refl, sym, ap, ◌∙◌, subst, true≢false, arith}
use Rattle.std.specs.Prelude.{◌&&◌, option_map, position, slice_get, bytes_eq}
use Rattle.std.specs.Option.{option_and_then}
use Rattle.std.specs.List.{position_from}
use Rattle.std.proofs.lemmas.Bool.{and_parts}
use Rattle.std.proofs.lemmas.Iterator.Adapters.{position_from-zero}
use Rattle.std.proofs.lemmas.Option.{none-some, same_Some}
use Rattle.ice_base.specs.declared.number.TileAt.{TileAt}
use Rattle.ice_base.proofs.Keys.{nat_same, nat_self, bytes_same}
use Rattle.ice_base.proofs.Options.{and_then_some}
use Rattle.ice_base_values.specs.Order.{At, Has}
use Rattle.ice_base_values.proofs.Members.{any_Has}
use Rattle.ice_chip.specs.Database.{Parts, PackageRows}
use Rattle.ice_chip.specs.Lookups.{names_of, wire_named, placed_at}
use Rattle.ice_chip.specs.Names.{is_global_name, input_name}
use Rattle.ice_chip.specs.PinNames.{is_output_of}
use Rattle.ice_chip.specs.WireNames.{IsTileWire, wire_name, output_name, global_name}
use Rattle.ice_chip.specs.declared.rows.Pad.{Pad}
use Rattle.ice_chip.specs.declared.rows.TileKind.{TileKind}
use Rattle.ice_chip.specs.declared.rows.TileKind.TheVariants.{Io, Logic, RamBottom, RamTop}
use Rattle.ice_chip.specs.declared.placed.PlacedName.{PlacedName}
use Rattle.ice_chip_names.specs.declared.wire_names.TileWire.{TileWire}
use Rattle.ice_chip_names.specs.declared.wire_names.TileWire.TheVariants as named
use Rattle.ice_chip_sockets.specs.Sockets.{given_wire, gives}
use Rattle.ice_chip_sockets.proofs.SocketWires.{is_giving}
use Rattle.ice_chip_laws.specs.Names.{HasName}
use Rattle.ice_cells.specs.Formed.{IsRootOf}
use Rattle.ice_cells.specs.Readings.{roots_read, is_read}
use Rattle.ice_cells.specs.Same.{same_root, same_source}
use Rattle.ice_cells.specs.Tables.{is_place}
use Rattle.ice_cells.specs.declared.cell.LogicCell.{LogicCell}
use Rattle.ice_cells.specs.declared.cluster.Cluster.{Cluster}
use Rattle.ice_cells.specs.declared.root.Root.{Root}
use Rattle.ice_cells.specs.declared.root.Root.TheVariants.{PadIn, CellOut, GlobalOut, CarryOut}
use Rattle.ice_pads.specs.Globals.{has_name, global_wire}
use Rattle.ice_pads.specs.Constraints.{first_passing}
use Rattle.ice_bits_rows.specs.WireNames.{has_output_name}
use Rattle.ice_sites.specs.Site.{has_wire, has_cell}
use Rattle.ice_place_defs.specs.Plan.{Plan, Slot, slot_in, in_tile, first_slot, slot_among, slot_of}
use Rattle.ice_emit_nets.specs.Nets.{pad_wire, slot_wire, root_wire}
use Rattle.ice_emit_defs.specs.Slots.{StandsIn}
use Rattle.ice_emit_led_laws.specs.Pins.{IsOutput}
use Rattle.ice_emit_led_laws.specs.Trees.{IsOnChip}
use Rattle.ice_emit_led_laws.proofs.Pins.{output_named, outputs_same}
use Rattle.ice_emit_led_laws.proofs.Places.{on_site, logic_tile, one_cell, tile_of_cluster, slot_below, some_of}
use Rattle.ice_emit_led_laws.proofs.Sockets.{given_number, given_other, given_local, given_output}

-- ---- roots
pub root_same : (a b : Root) → same_root a b ≡ true → a ≡ b
root_same (PadIn j) (PadIn k) e = ap PadIn (nat_same j k e)
root_same (PadIn j) (CellOut k) e = absurd (true≢false (sym e))
root_same (PadIn j) (GlobalOut k) e = absurd (true≢false (sym e))
root_same (PadIn j) (CarryOut k) e = absurd (true≢false (sym e))
root_same (CellOut j) (PadIn k) e = absurd (true≢false (sym e))
root_same (CellOut j) (CellOut k) e = ap CellOut (nat_same j k e)
root_same (CellOut j) (GlobalOut k) e = absurd (true≢false (sym e))
root_same (CellOut j) (CarryOut k) e = absurd (true≢false (sym e))
root_same (GlobalOut j) (PadIn k) e = absurd (true≢false (sym e))
root_same (GlobalOut j) (CellOut k) e = absurd (true≢false (sym e))
root_same (GlobalOut j) (GlobalOut k) e = ap GlobalOut (nat_same j k e)
root_same (GlobalOut j) (CarryOut k) e = absurd (true≢false (sym e))
root_same (CarryOut j) (PadIn k) e = absurd (true≢false (sym e))
root_same (CarryOut j) (CellOut k) e = absurd (true≢false (sym e))
root_same (CarryOut j) (GlobalOut k) e = absurd (true≢false (sym e))
root_same (CarryOut j) (CarryOut k) e = ap CarryOut (nat_same j k e)

pub root_self : (a : Root) → same_root a a ≡ true
root_self (PadIn j) = nat_self j
root_self (CellOut j) = nat_self j
root_self (GlobalOut j) = nat_self j
root_self (CarryOut j) = nat_self j

-- ---- the first place that passes a test
from_at : {X : Type 0} (test : X → Bool) (i : ℕ) (xs : List X) (n : ℕ) → position_from test i xs ≡ Some n → (k : ℕ) × (n ≡ i + k) × (x : X) × At xs k x × (test x ≡ true)
from_at test i [] n e = absurd (none-some n e)
from_at {X} test i (x ∷ xs) n e = by (test x) refl e (from_at test (i + 1) xs n)
  where
    by : (b : Bool) → test x ≡ b → cond b (Some i) (position_from test (i + 1) xs) ≡ Some n → (position_from test (i + 1) xs ≡ Some n → (k : ℕ) × (n ≡ i + 1 + k) × (y : X) × At xs k y × (test y ≡ true))
        → (k : ℕ) × (n ≡ i + k) × (y : X) × At (x ∷ xs) k y × (test y ≡ true)
    by true is f later = (0, (let same : i ≡ n = same_Some i n f in omega (arith, same)), x, refl, is)
    by false is f later = let got = later f in (suc got.0, (let same : n ≡ i + 1 + got.0 = got.1 in omega (arith, same)), got.2, got.3, got.4)

from_there : {X : Type 0} (test : X → Bool) (i : ℕ) (xs : List X) (k : ℕ) (x : X) → At xs k x → test x ≡ true → (n : ℕ) × (position_from test i xs ≡ Some n)
from_there test i [] k x at e = absurd (none-some x at)
from_there {X} test i (y ∷ xs) k x at e = by (test y) refl k at (λ j there. from_there test (i + 1) xs j x there e)
  where
    by : (b : Bool) → test y ≡ b → (k : ℕ) → At (y ∷ xs) k x → ((j : ℕ) → At xs j x → (n : ℕ) × (position_from test (i + 1) xs ≡ Some n)) → (n : ℕ) × (cond b (Some i) (position_from test (i + 1) xs) ≡ Some n)
    by true is k at later = (i, refl)
    by false is zero at later = absurd (true≢false (sym e ∙ ap test (sym (same_Some y x at)) ∙ is))
    by false is (suc k) at later = later k at

pub position_at : {X : Type 0} (test : X → Bool) (xs : List X) (n : ℕ) → position test xs ≡ Some n → (x : X) × At xs n x × (test x ≡ true)
position_at {X} test xs n e =
    let got = from_at test 0 xs n (sym (position_from-zero test xs) ∙ e) in
    (got.2, subst (λ (k : ℕ). At xs k got.2) (let same : n ≡ 0 + got.0 = got.1 in let f : got.0 ≡ n = omega (arith, same) in f) got.3, got.4)

pub position_there : {X : Type 0} (test : X → Bool) (xs : List X) (k : ℕ) (x : X) → At xs k x → test x ≡ true → (n : ℕ) × (position test xs ≡ Some n)
position_there test xs k x at e = let got = from_there test 0 xs k x at e in (got.0, position_from-zero test xs ∙ got.1)

place_is : (c : ℕ) (o : Option ℕ) → is_place c o ≡ true → o ≡ Some c
place_is c None e = absurd (true≢false (sym e))
place_is c (Some k) e = ap (λ (n : ℕ). Some n) (nat_same k c e)

pub at_below : {X : Type 0} (xs : List X) (i : ℕ) → i < length xs → (x : X) × At xs i x
at_below [] i lt = absurd (omega arith)
at_below (x ∷ xs) zero lt = (x, refl)
at_below (x ∷ xs) (suc i) lt = at_below xs i (omega arith)

-- ---- slots of cells
slot_told : (clusters : List Cluster) (at : List TileAt) (c : ℕ) (slot : Slot) → slot_among clusters at c ≡ Some slot
    → (n : ℕ) × (cluster : Cluster) × At clusters n cluster × At at n slot.0 × At cluster.cells slot.1 (Some c)
slot_told [] at c slot e = absurd (none-some slot e)
slot_told (cluster ∷ clusters) [] c slot e = absurd (none-some slot e)
slot_told (cluster ∷ clusters) (t ∷ at) c slot e = by (slot_in cluster c) refl e (slot_told clusters at c slot)
  where
    by : (o : Option ℕ) → slot_in cluster c ≡ o → first_slot (option_map (in_tile t) o) (slot_among clusters at c) ≡ Some slot
        → (slot_among clusters at c ≡ Some slot → (n : ℕ) × (x : Cluster) × At clusters n x × At at n slot.0 × At x.cells slot.1 (Some c))
        → (n : ℕ) × (x : Cluster) × At (cluster ∷ clusters) n x × At (t ∷ at) n slot.0 × At x.cells slot.1 (Some c)
    by None is f later = let got = later f in (suc got.0, got.1, got.2, got.3, got.4)
    by (Some i) is f later =
        let same : (t, i) ≡ slot = same_Some (t, i) slot f in
        let got = position_at (is_place c) cluster.cells i is in
        (0, cluster, refl, ap (λ (s : Slot). Some s.0) same, subst (λ (n : ℕ). At cluster.cells n (Some c)) (ap (λ (s : Slot). s.1) same) (got.1 ∙ ap (λ (o : Option ℕ). Some o) (place_is c got.0 got.2)))

slot_there : (clusters : List Cluster) (at : List TileAt) (c n i : ℕ) (cluster : Cluster) (t : TileAt) → At clusters n cluster → At at n t → At cluster.cells i (Some c) → (slot : Slot) × (slot_among clusters at c ≡ Some slot)
slot_there [] at c n i cluster t cluster_is tile_is slot_is = absurd (none-some cluster cluster_is)
slot_there (x ∷ clusters) [] c n i cluster t cluster_is tile_is slot_is = absurd (none-some t tile_is)
slot_there (x ∷ clusters) (u ∷ at) c zero i cluster t cluster_is tile_is slot_is =
    let got = position_there (is_place c) x.cells i (Some c) (subst (λ (y : Cluster). At y.cells i (Some c)) (sym (same_Some x cluster cluster_is)) slot_is) (nat_self c) in
    ((u, got.0), ap (λ (o : Option ℕ). first_slot (option_map (in_tile u) o) (slot_among clusters at c)) got.1)
slot_there (x ∷ clusters) (u ∷ at) c (suc n) i cluster t cluster_is tile_is slot_is = by (option_map (in_tile u) (slot_in x c)) (slot_there clusters at c n i cluster t cluster_is tile_is slot_is)
  where
    by : (o : Option Slot) → (slot : Slot) × (slot_among clusters at c ≡ Some slot) → (slot : Slot) × (first_slot o (slot_among clusters at c) ≡ Some slot)
    by None later = later
    by (Some slot) later = (slot, refl)

-- ---- the first number that passes a test
passing_told : (test : ℕ → Bool) (n left m : ℕ) → first_passing test n left ≡ Some m → test m ≡ true
unfolding first_passing
passing_told test n zero m e = absurd (none-some m e)
passing_told test n (suc left) m e = by (test n) refl e (passing_told test (n + 1) left m)
  where
    by : (b : Bool) → test n ≡ b → cond b (Some n) (first_passing test (n + 1) left) ≡ Some m → (first_passing test (n + 1) left ≡ Some m → test m ≡ true) → test m ≡ true
    by true is f later = ap test (sym (same_Some n m f)) ∙ is
    by false is f later = later f

global_drives : (kind : TileKind) (n : ℕ) → is_output_of kind (named.Global n) ≡ true
global_drives Io n = refl
global_drives Logic n = refl
global_drives RamBottom n = refl
global_drives RamTop n = refl

-- where the wire of a root has its name
pub data IsRootPin (plan : Plan) : Root → TileAt → TileWire → Type 0 where
  OfPad : (k : ℕ) (pad : Pad) → At plan.ports k pad → IsRootPin plan (PadIn k) pad.tile (given_wire pad.pio)
  OfCell : (t : TileAt) (i c : ℕ) (cell : LogicCell) → StandsIn plan t i c cell → IsRootPin plan (CellOut c) t (named.CellOutput i)
  OfGlobal : (g n : ℕ) (t : TileAt) → At plan.globals g n → IsRootPin plan (GlobalOut g) t (named.Global n)

-- the last of the wires of a cell
last_holds : (parts : Parts) (t : TileAt) (i : ℕ) → has_cell parts t i ≡ true → is_some (wire_named parts t (output_name i)) ≡ true
last_holds parts t i e =
    (and_parts (has_wire parts t (input_name i 0) && has_wire parts t (input_name i 1) && has_wire parts t (input_name i 2) && has_wire parts t (input_name i 3)) (has_wire parts t (output_name i)) e).1

cell_number : (j k : ℕ) → named.CellOutput j ≡ named.CellOutput k → j ≡ k
cell_number j k e = cc e

global_number : (j k : ℕ) → named.Global j ≡ named.Global k → j ≡ k
global_number j k e = cc e

module _ (parts : Parts) (rows : PackageRows) (plan : Plan) (pullups : List Bool) (on : IsOnChip parts rows plan pullups) where
  -- a root that is read is one of the design
  pub root_of_design : (root : Root) → is_read plan.design root ≡ true → IsRootOf plan.design root
  root_of_design root e =
      let got = any_Has (same_source (Some root)) (roots_read plan.design) e in
      by got.0 got.1 got.2
    where
      by : (o : Option Root) → Has (roots_read plan.design) o → same_source (Some root) o ≡ true → IsRootOf plan.design root
      by None has same = absurd (true≢false (sym same))
      by (Some other) has same = subst (IsRootOf plan.design) (sym (root_same root other same)) (on.placed.formed.roots other has)

  -- ---- the slot of a cell
  cell_slot : (c : ℕ) → c < length plan.design.cells → (slot : Slot) × (slot_of plan c ≡ Some slot)
  cell_slot c lt =
      let there = on.slots.there c lt in
      let tile = tile_of_cluster parts rows plan pullups on there.0 there.2.cluster there.2.at in
      slot_there plan.clusters plan.at c there.0 there.1 there.2.cluster tile.0 there.2.at tile.1 there.2.slot

  cell_stands : (c : ℕ) (slot : Slot) → c < length plan.design.cells → slot_of plan c ≡ Some slot → (cell : LogicCell) × StandsIn plan slot.0 slot.1 c cell
  cell_stands c slot lt e =
      let got = slot_told plan.clusters plan.at c slot e in
      let cell = at_below plan.design.cells c lt in
      (cell.0, record { cluster = got.1; on = record { number = got.0; cluster_is = got.2; tile_is = got.3 }; slot = got.4; cell_is = cell.1 })

  -- ---- pads, cells and globals with wires
  port_of : (k : ℕ) → k < length plan.design.pads → (pad : Pad) × At plan.ports k pad
  port_of k lt = at_below plan.ports k (let e : length plan.ports ≡ length plan.design.pads = on.placed.pads.ports in omega (arith, e, lt))

  pad_gives : (k : ℕ) (pad : Pad) → At plan.ports k pad → k < length plan.design.pads → is_read plan.design (PadIn k) ≡ true → gives parts pad ≡ true
  pad_gives k pad at lt read =
      let port = at_below plan.design.pads k lt in
      (on.placed.pads.wires k port.0 pad port.1 at).input (on.placed.formed.reads k port.0 port.1 ∙ read)

  global_taken : (g : ℕ) → g < length plan.design.globals → (n : ℕ) × At plan.globals g n
  global_taken g lt = at_below plan.globals g (let e : length plan.globals ≡ length plan.design.globals = on.placed.pads.globals in omega (arith, e, lt))

  -- a root's wire has an output name, where the root stands
  abbrev pub IsAt : Root → ℕ → Type 0
  IsAt root v = (t : TileAt) × (wire : TileWire) × IsRootPin plan root t wire × IsOutput parts t wire v

  pub root_at : (root : Root) (v : ℕ) → is_read plan.design root ≡ true → root_wire parts plan root ≡ Some v → IsAt root v
  root_at (PadIn k) v read e =
      let got = and_then_some (pad_wire parts) (slice_get plan.ports k) v e in
      (got.0.tile, given_wire got.0.pio, OfPad k got.0 got.1, given_output parts got.0 v (pad_gives k got.0 got.1 (root_of_design (PadIn k) read) read) got.2)
  root_at (CellOut c) v read e =
      let got = and_then_some (slot_wire parts) (slot_of plan c) v e in
      let s = cell_stands c got.0 (root_of_design (CellOut c) read) got.1 in (
        got.0.0,
        named.CellOutput got.0.1,
        OfCell got.0.0 got.0.1 c s.0 s.1,
        record {
          kind = Logic;
          kind_is = logic_tile parts rows plan pullups on got.0.0 s.1.cluster s.1.on;
          within = slot_below parts rows plan pullups on got.0.0 got.0.1 c s.0 s.1;
          found = got.2;
          drives = refl;
        },
      )
  root_at (GlobalOut g) v read e =
      let got = and_then_some (global_wire parts) (slice_get plan.globals g) v e in
      let passes = passing_told (has_name parts (global_name got.0)) 0 parts.wires v got.2 in
      let n = any_Has (λ (n : PlacedName). bytes_eq n.name (global_name got.0)) (names_of parts v) passes in
      let stands = on.lawful.names.placed v n.0 n.1 in
      let has : HasName parts v (placed_at n.0.tile (global_name got.0)) = subst (λ (x : List ℕ). HasName parts v (placed_at n.0.tile x)) (bytes_same n.0.name (global_name got.0) n.2) n.1 in (
        n.0.tile,
        named.Global got.0,
        OfGlobal g got.0 n.0.tile got.1,
        record {
          kind = stands.0;
          kind_is = stands.1;
          within = (on.placed.pads.named g got.0 got.1).below;
          found = on.lawful.names.named n.0.tile (global_name got.0) v has;
          drives = global_drives stands.0 got.0;
        },
      )
  root_at (CarryOut c) v read e = absurd (none-some v e)

  pub root_out : (root : Root) (v : ℕ) → is_read plan.design root ≡ true → root_wire parts plan root ≡ Some v → has_output_name parts v ≡ true
  root_out root v read e = let at = root_at root v read e in output_named parts on.lawful on.names at.0 at.1 v at.3

  -- ---- roots that are read have wires
  pub root_wired : (root : Root) → is_read plan.design root ≡ true → (v : ℕ) × (root_wire parts plan root ≡ Some v)
  root_wired (PadIn k) read =
      let lt = root_of_design (PadIn k) read in
      let pad = port_of k lt in
      let is = is_giving parts pad.0 (pad_gives k pad.0 pad.1 lt read) in
      (is.wire, ap (option_and_then (pad_wire parts)) pad.1 ∙ is.found)
  root_wired (CellOut c) read =
      let lt = root_of_design (CellOut c) read in
      let slot = cell_slot c lt in
      let s = cell_stands c slot.0 lt slot.1 in
      let site = on_site parts rows plan pullups on slot.0.0 s.1.cluster s.1.on in
      let cell = site.cells slot.0.1 (slot_below parts rows plan pullups on slot.0.0 slot.0.1 c s.0 s.1) in
      let wire = some_of (wire_named parts slot.0.0 (output_name slot.0.1)) (last_holds parts slot.0.0 slot.0.1 cell) in
      (wire.0, ap (option_and_then (slot_wire parts)) slot.1 ∙ wire.1)
  root_wired (GlobalOut g) read =
      let n = global_taken g (root_of_design (GlobalOut g) read) in
      let wire = some_of (global_wire parts n.0) (on.placed.pads.named g n.0 n.1).wire in
      (wire.0, ap (option_and_then (global_wire parts)) n.1 ∙ wire.1)
  root_wired (CarryOut c) read = absurd (root_of_design (CarryOut c) read)

  -- ---- different roots have different wires
  one_root : (a b : Root) (t u : TileAt) (x y : TileWire) → IsRootPin plan a t x → IsRootPin plan b u y → IsTileWire x → x ≡ y → (t ≡ u) ⊎ (is_global_name (wire_name x) ≡ true) → a ≡ b
  one_root a b t u x y (OfPad k pad at) (OfPad j other at_other) within same tile = by tile
    where
      by : (pad.tile ≡ other.tile) ⊎ (is_global_name (wire_name (given_wire pad.pio)) ≡ true) → PadIn k ≡ PadIn j
      by (inr global) = absurd (true≢false (sym global ∙ given_local pad.pio within))
      by (inl tile) =
          let pio : pad.pio ≡ other.pio = given_number pad.pio other.pio same in
          let pads : pad ≡ other = λ i. record { tile = tile i; pio = pio i } in
          ap PadIn (on.placed.pads.apart k j other (subst (λ (p : Pad). At plan.ports k p) pads at) at_other)
  one_root a b t u x y (OfPad k pad at) (OfCell v i c cell s) within same tile = absurd (given_other pad.pio (named.CellOutput i) refl same)
  one_root a b t u x y (OfPad k pad at) (OfGlobal g n v at_other) within same tile = absurd (given_other pad.pio (named.Global n) refl same)
  one_root a b t u x y (OfCell v i c cell s) (OfPad k pad at) within same tile = absurd (given_other pad.pio (named.CellOutput i) refl (sym same))
  one_root a b t u x y (OfCell v i c cell s) (OfCell w j d other r) within same tile = by tile
    where
      by : (v ≡ w) ⊎ (is_global_name (output_name i) ≡ true) → CellOut c ≡ CellOut d
      by (inr global) = absurd (true≢false (sym global))
      by (inl tile) =
          let slot : i ≡ j = cell_number i j same in
          let moved = subst (λ (k : ℕ). StandsIn plan w k c cell) slot (subst (λ (z : TileAt). StandsIn plan z i c cell) tile s) in
          ap CellOut (one_cell parts rows plan pullups on w j c d cell other moved r).0
  one_root a b t u x y (OfCell v i c cell s) (OfGlobal g n w at_other) within same tile = absurd (cc same)
  one_root a b t u x y (OfGlobal g n v at) (OfPad k pad at_other) within same tile = absurd (given_other pad.pio (named.Global n) refl (sym same))
  one_root a b t u x y (OfGlobal g n v at) (OfCell w i c cell s) within same tile = absurd (cc same)
  one_root a b t u x y (OfGlobal g n v at) (OfGlobal h m w at_other) within same tile =
      let number : n ≡ m = global_number n m same in
      ap GlobalOut (on.placed.pads.single g h m (at ∙ ap Some number) at_other)

  pub roots_apart : (a b : Root) (v : ℕ) → is_read plan.design a ≡ true → is_read plan.design b ≡ true → root_wire parts plan a ≡ Some v → root_wire parts plan b ≡ Some v → a ≡ b
  roots_apart a b v read_a read_b wire_a wire_b =
      let p = root_at a v read_a wire_a in
      let q = root_at b v read_b wire_b in
      let one = outputs_same parts on.lawful on.names p.0 q.0 p.1 q.1 v p.3 q.3 in
      one_root a b p.0 q.0 p.1 q.1 p.2 q.2 p.3.within one.0 one.1
