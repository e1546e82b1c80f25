-- Where the nodes of a design start on the chip, and what comes into the carries of slots.
use Rattle.std.proofs.Common.{◌≡◌, ℕ, zero, suc, ◌+◌, ◌*◌, ◌/◌, ◌%◌, ◌<◌, true, Some, length, sym, ap, ◌∙◌, subst, arith}
use Rattle.std.specs.Prelude.{slice_get}
use Rattle.std.proofs.lemmas.Option.{none-some, get_or_from_slice_get, slice_get_within}
use Rattle.ice_base.specs.declared.number.TileAt.{TileAt}
use Rattle.ice_base.specs.declared.number.WireNo.{WireNo}
use Rattle.ice_base.proofs.Options.{and_then_some}
use Rattle.ice_base_values.specs.Order.{At, Has}
use Rattle.ice_base_values.proofs.Places.{At_same}
use Rattle.ice_chip.specs.Lookups.{wire_named}
use Rattle.ice_chip_sockets.specs.Sockets.{given_name}
use Rattle.ice_chip.specs.WireNames.{output_name, carry_out_name, first_carry_name}
use Rattle.ice_chip.specs.declared.rows.Pad.{Pad}
use Rattle.ice_decode.specs.declared.driver.Switch.{Switch}
use Rattle.ice_decode.specs.declared.driver.Driver.TheVariants.{Nothing}
use Rattle.ice_decode.specs.declared.point.Point.{Point}
use Rattle.ice_decode.specs.declared.point.Point.TheVariants.{Wire, Carry}
use Rattle.ice_decode.specs.Drivers.{driver}
use Rattle.ice_decode.specs.Reads.{wire_point}
use Rattle.ice_cells.specs.declared.cell.LogicCell.{LogicCell}
use Rattle.ice_cells.specs.declared.cluster.Cluster.{Cluster}
use Rattle.ice_cells.specs.declared.design.Design.{Design}
use Rattle.ice_cells.specs.declared.design.DesignPad.{DesignPad}
use Rattle.ice_cells.specs.declared.design.Run.{Run}
use Rattle.ice_cells.specs.declared.root.Root.{Root}
use Rattle.ice_cells.specs.declared.root.Root.TheVariants.{PadIn, CellOut, GlobalOut, CarryOut}
use Rattle.ice_cells.specs.Nodes.{Node, Net, Level}
use Rattle.ice_cluster.specs.Slots.{StandsInSlot}
use Rattle.ice_pads.specs.Globals.{global_wire}
use Rattle.ice_place_defs.specs.Plan.{slot_of, listed}
use Rattle.ice_emit_nets.specs.Ends.{wire_no}
use Rattle.ice_emit_nets.specs.Nets.{pad_wire, slot_wire, root_wire}
use Rattle.ice_emit_defs.specs.Led.{IsEntryLed}
use Rattle.ice_emit_defs.specs.Slots.{IsOn, StandsIn}
use Rattle.ice_emit_meaning_laws.proofs.Premises.{Premises}
use Rattle.ice_emit_meaning_laws.proofs.CarriesIn.{IsInRun, run_before}
use Rattle.ice_emit_meaning_laws.proofs.Read.{IsReadable, item_beside, item_there}
use Rattle.ice_emit_meaning_laws.proofs.Slots.{first_there, slot_stands, stands_on}

-- where a node starts: the output of a cell, its carry, the wire that a pad gives its level to, a global, and the carry into a run
pub data Starts (g : Premises) : Point → Node → Type 0 where
  AtCell : (w : WireNo) (t : TileAt) (i c : ℕ) (cell : LogicCell) → StandsIn g.plan t i c cell → wire_named g.parts t (output_name i) ≡ Some w.0 → driver g.parts g.bits w.0 ≡ Nothing → Starts g (Wire w) (Net (CellOut c))
  AtCarry : (t : TileAt) (i c : ℕ) (cell : LogicCell) → StandsIn g.plan t i c cell → cell.carry ≡ true → Starts g (Carry t i) (Net (CarryOut c))
  AtPad : (w : WireNo) (k : ℕ) (pad : Pad) (port : DesignPad) → At g.plan.ports k pad → At g.plan.design.pads k port → port.reads ≡ true → wire_named g.parts pad.tile (given_name pad.pio) ≡ Some w.0
      → driver g.parts g.bits w.0 ≡ Nothing → Starts g (Wire w) (Net (PadIn k))
  AtGlobal : (w : WireNo) (b n : ℕ) → At g.plan.globals b n → global_wire g.parts n ≡ Some w.0 → driver g.parts g.bits w.0 ≡ Nothing → Starts g (Wire w) (Net (GlobalOut b))
  AtFirst : (w : WireNo) (t : TileAt) (r : ℕ) (cluster : Cluster) (run : Run) → IsOn g.plan t cluster → cluster.run ≡ Some (r, 0) → At g.plan.design.runs r run → wire_named g.parts t first_carry_name ≡ Some w.0
      → driver g.parts g.bits w.0 ≡ Nothing → Starts g (Wire w) (Level run.set)

-- what comes into the carry of slot i of a tile: the carry of the slot below, the level of a run, or the carry of another tile's last slot
pub data Below (g : Premises) (t : TileAt) : ℕ → Node → Type 0 where
  FromSlot : (j x : ℕ) (cell : LogicCell) → StandsIn g.plan t j x cell → cell.carry ≡ true → Below g t (suc j) (Net (CarryOut x))
  FromRun : (w r : ℕ) (cluster : Cluster) (run : Run) → IsOn g.plan t cluster → cluster.run ≡ Some (r, 0) → At g.plan.design.runs r run → wire_named g.parts t first_carry_name ≡ Some w
      → driver g.parts g.bits w ≡ Nothing → Below g t 0 (Level run.set)
  FromTile : (low : TileAt) (x : ℕ) (cell : LogicCell) (s : Switch) → StandsIn g.plan low 7 x cell → cell.carry ≡ true → Has g.wanted s → wire_named g.parts low (carry_out_name 7) ≡ Some s.source.0
      → wire_named g.parts t first_carry_name ≡ Some s.target.0 → Below g t 0 (Net (CarryOut x))

module _ (g : Premises) where
  abbrev d : Design
  d = g.plan.design

  -- the wire of a root is where it starts
  pub root_starts : (r : Root) (v : ℕ) → root_wire g.parts g.plan r ≡ Some v → IsReadable d r → Starts g (wire_point v) (Net r)
  root_starts (PadIn k) v e read =
      let pad = and_then_some (pad_wire g.parts) (slice_get g.plan.ports k) v e in
      let port = item_beside g.plan.ports d.pads k pad.0 g.placed.pads.ports pad.1 in
      AtPad (wire_no v) k pad.0 port.0 pad.1 port.1 (g.placed.formed.reads k port.0 port.1 ∙ read) pad.2 (g.wired.bare v (g.led.roots (PadIn k) v read e))
  root_starts (CellOut c) v e read =
      let slot = and_then_some (slot_wire g.parts) (slot_of g.plan c) v e in
      let stands = slot_stands g c slot.0 slot.1 in
      AtCell (wire_no v) slot.0.0 slot.0.1 c stands.0 stands.1 slot.2 (g.wired.bare v (g.led.roots (CellOut c) v read e))
  root_starts (GlobalOut b) v e read =
      let n = and_then_some (global_wire g.parts) (slice_get g.plan.globals b) v e in
      AtGlobal (wire_no v) b n.0 n.1 n.2 (g.wired.bare v (g.led.roots (GlobalOut b) v read e))
  root_starts (CarryOut c) v e read = absurd (none-some v e)

  -- ---- runs
  -- the carry of the cell before another in a run
  pub before_carries : (r q x y : ℕ) (run : Run) (cell : LogicCell) → At d.runs r run → At run.cells q x → At run.cells (suc q) y → At d.cells x cell → cell.carry ≡ true
  before_carries r q x y run cell at one two here =
      let lt = slice_get_within run.cells (suc q) y two in g.placed.formed.carries r q x run cell at one (let e : q + 1 < length run.cells = omega (arith, lt) in e) here

  before_is : (run : Run) (q x p : ℕ) → p ≡ suc q → At run.cells q x → Net (CarryOut x) ≡ run_before run p
  before_is run q x p e at = sym (ap (run_before run) e ∙ ap (λ c. Net (CarryOut c)) (get_or_from_slice_get run.cells q x 0 at))

  -- the cluster where a cell of a run stands is that of its chunk
  pub record IsChunk (t : TileAt) (i c : ℕ) (cluster : Cluster) (is : IsInRun d c) : Type 0 where
    pub run_is : cluster.run ≡ Some (is.number, is.place / 8)
    pub slot : i ≡ is.place % 8

  chunk : (t : TileAt) (i c : ℕ) (cell : LogicCell) (s : StandsIn g.plan t i c cell) (is : IsInRun d c) → IsChunk t i c s.cluster is
  chunk t i c cell s is =
      let there = g.chunks.there is.number is.place c is.run is.run_is is.cell_is in
      let here : StandsInSlot (listed g.plan) s.on.number i c = record { cluster = s.cluster; at = s.on.cluster_is; slot = s.slot } in
      let also : StandsInSlot (listed g.plan) there.0 (is.place % 8) c = record { cluster = there.1; at = there.2; slot = there.4 } in
      let same = g.slots.once c s.on.number i there.0 (is.place % 8) here also in
      let cluster : there.1 ≡ s.cluster = At_same g.plan.clusters there.0 there.1 s.cluster there.2 (subst (λ n. At g.plan.clusters n s.cluster) same.0 s.on.cluster_is) in
      record { run_is = ap (λ (x : Cluster). x.run) (sym cluster) ∙ there.3; slot = same.1 }

  -- slot i of the chunk's tile has the cell of the run at its place
  chunk_slot : (t : TileAt) (cluster : Cluster) (on : IsOn g.plan t cluster) (r k : ℕ) (run : Run) → cluster.run ≡ Some (r, k) → At d.runs r run → (i x : ℕ) → i < 8 → At run.cells (8 * k + i) x
      → (cell : LogicCell) × StandsIn g.plan t i x cell
  chunk_slot t cluster on r k run is at i x lt there =
      let holds = g.chunks.holds on.number r k cluster on.cluster_is is in
      let same : run ≡ holds.run = At_same d.runs r run holds.run at holds.run_is in
      stands_on g t cluster on i x (holds.cells i x lt (subst (λ (y : Run). At y.cells (8 * k + i) x) same there))

  pub below_is : (t : TileAt) (i c : ℕ) (cell : LogicCell) (s : StandsIn g.plan t i c cell) (is : IsInRun d c) → Below g t i (run_before is.run is.place)
  below_is t i c cell s is = by i (is.place / 8) (chunk t i c cell s is).slot (chunk t i c cell s is).run_is whole
    where
      whole : is.place ≡ 8 * (is.place / 8) + is.place % 8
      whole = omega arith

      before : (q : ℕ) → suc q ≡ is.place → (x : ℕ) × At is.run.cells q x
      before q e = let lt = slice_get_within is.run.cells is.place c is.cell_is in item_there is.run.cells q (omega (arith, lt, e))

      by : (j k : ℕ) → j ≡ is.place % 8 → s.cluster.run ≡ Some (is.number, k) → is.place ≡ 8 * k + is.place % 8 → Below g t j (run_before is.run is.place)
      by (suc j) k slot run_is place =
          let q : suc (8 * k + j) ≡ is.place = omega (arith, slot, place) in
          let lt : j < 8 = (let less : is.place % 8 < 8 = omega arith in omega (arith, slot, less)) in
          let x = before (8 * k + j) q in
          let there = chunk_slot t s.cluster s.on is.number k is.run run_is is.run_is j x.0 lt x.1 in
          let carry = before_carries is.number (8 * k + j) x.0 c is.run there.0 is.run_is x.1 (subst (λ p. At is.run.cells p c) (sym q) is.cell_is) there.1.cell_is in
          subst (λ n. Below g t (suc j) n) (before_is is.run (8 * k + j) x.0 is.place (sym q) x.1) (FromSlot j x.0 there.0 there.1 carry)
      by zero zero slot run_is place =
          let e : is.place ≡ 0 = omega (arith, slot, place) in
          let first = first_there g t s.cluster s.on in
          let bare = g.wired.bare first.0 (subst (λ o. IsEntryLed g.parts g.plan g.wanted t o) run_is (g.led.entries t s.cluster s.on) first.0 first.1) in
          subst (λ n. Below g t 0 n) (sym (ap (run_before is.run) e)) (FromRun first.0 is.number s.cluster is.run s.on run_is is.run_is first.1 bare)
      by zero (suc k) slot run_is place =
          let e : suc (8 * k + 7) ≡ is.place = omega (arith, slot, place) in
          let entry = subst (λ o. IsEntryLed g.parts g.plan g.wanted t o) run_is (g.led.entries t s.cluster s.on) in
          let x = before (8 * k + 7) e in
          let there = chunk_slot entry.0 entry.1 entry.2 is.number k is.run entry.3 is.run_is 7 x.0 (omega arith) x.1 in
          let carry = before_carries is.number (8 * k + 7) x.0 c is.run there.0 is.run_is x.1 (subst (λ p. At is.run.cells p c) (sym e) is.cell_is) there.1.cell_is in
          subst (λ n. Below g t 0 n) (before_is is.run (8 * k + 7) x.0 is.place (sym e) x.1) (FromTile entry.0 x.0 there.0 entry.4.0 there.1 carry entry.4.1 entry.4.2 entry.4.3)
