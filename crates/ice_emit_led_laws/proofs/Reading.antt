-- What pins read is read in the design, and the wires of these pins are inputs.
use Rattle.std.proofs.Common.{◌≡◌, ◌⊎◌, ℕ, zero, suc, ◌<◌, Bool, true, Option, None, Some, List, [], ◌∷◌, ◌++◌, inl, inr, length, map, refl, sym, ap, ◌∙◌, subst, arith}
use Rattle.std.specs.Prelude.{flat_map, slice_index_or}
use Rattle.std.proofs.lemmas.Option.{none-some, same_Some, slice_get_within, get_or_from_slice_get}
use Rattle.ice_base.specs.declared.number.TileAt.{TileAt}
use Rattle.ice_base_values.specs.Order.{At, Has}
use Rattle.ice_base_values.proofs.Members.{Has_any}
use Rattle.ice_chip.specs.Database.{Parts, PackageRows}
use Rattle.ice_chip.specs.Lookups.{kind_at, wire_named}
use Rattle.ice_chip.specs.Names.{output_enable_name}
use Rattle.ice_chip.specs.WireNames.{fabout_name}
use Rattle.ice_chip.specs.declared.rows.TileKind.TheVariants.{Io, Logic}
use Rattle.ice_chip_sockets.proofs.SocketWires.{io_wire}
use Rattle.ice_net.specs.declared.kind.Reset.{Reset}
use Rattle.ice_decode.proofs.Members.{Has_left, Has_right}
use Rattle.ice_cells.specs.Formed.{IsPad}
use Rattle.ice_cells.specs.Readings.{carry_root, control_roots, cell_roots, pad_roots, roots_read, is_read}
use Rattle.ice_cells.specs.Same.{same_source}
use Rattle.ice_cells.specs.declared.cell.Control.{Control}
use Rattle.ice_cells.specs.declared.cell.LogicCell.{LogicCell}
use Rattle.ice_cells.specs.declared.cluster.Cluster.{Cluster}
use Rattle.ice_cells.specs.declared.design.DesignPad.{DesignPad}
use Rattle.ice_cells.specs.declared.root.Root.{Root}
use Rattle.ice_place_defs.specs.Plan.{Plan, listed}
use Rattle.ice_place_defs.specs.Loads.{Pin, pin_name}
use Rattle.ice_emit_nets.specs.Ends.{End, ends}
use Rattle.ice_emit_defs.specs.Slots.{IsOn}
use Rattle.ice_emit_led_laws.specs.Pins.{IsInput, wire_of}
use Rattle.ice_emit_led_laws.specs.Reads.{Reads, AtDrive, AtDriveEnable, AtFeed, AtFixed, AtFree, AtClock, AtEnable, AtReset}
use Rattle.ice_emit_led_laws.specs.Trees.{IsOnChip}
use Rattle.ice_emit_led_laws.proofs.Lists.{Has_flat}
use Rattle.ice_emit_led_laws.proofs.Places.{logic_tile, slot_below, pio_below}
use Rattle.ice_emit_led_laws.proofs.Controls.{control_told}
use Rattle.ice_emit_led_laws.proofs.Ends.{each_end}
use Rattle.ice_emit_led_laws.proofs.Roots.{root_self}
use Rattle.ice_emit_led_laws.proofs.Sockets.{driven_input}

-- ---- pads that are driven
pub drive_type : (port : DesignPad) (root : Root) → IsPad port → port.drive ≡ Some root → (port.pin_type ≡ 25) ⊎ (port.pin_type ≡ 41)
drive_type port root (inl one) e = absurd (none-some root (sym one.1 ∙ e))
drive_type port root (inr (inl two)) e = inl two.0
drive_type port root (inr (inr three)) e = inr three

pub enable_type : (port : DesignPad) (root : Root) → IsPad port → port.enable ≡ Some root → port.pin_type ≡ 41
enable_type port root (inl one) e = absurd (none-some root (sym one.2 ∙ e))
enable_type port root (inr (inl two)) e = absurd (none-some root (sym two.1 ∙ e))
enable_type port root (inr (inr three)) e = three

module _ (parts : Parts) (rows : PackageRows) (plan : Plan) (pullups : List Bool) (on : IsOnChip parts rows plan pullups) where
  -- ---- what is read
  of_root : (root : Root) → Has (roots_read plan.design) (Some root) → is_read plan.design root ≡ true
  of_root root has = Has_any (same_source (Some root)) (roots_read plan.design) (Some root) has.0 has.1 (root_self root)

  of_cell : (c : ℕ) (cell : LogicCell) (root : Root) → At plan.design.cells c cell → Has (cell_roots cell) (Some root) → is_read plan.design root ≡ true
  of_cell c cell root at has =
      of_root root
      (Has_left (map carry_root plan.design.carries ++ flat_map cell_roots plan.design.cells ++ flat_map pad_roots plan.design.pads) plan.design.globals (Some root)
      (Has_left (map carry_root plan.design.carries ++ flat_map cell_roots plan.design.cells) (flat_map pad_roots plan.design.pads) (Some root)
      (Has_right (map carry_root plan.design.carries) (flat_map cell_roots plan.design.cells) (Some root) (Has_flat cell_roots plan.design.cells c cell (Some root) at has))))

  of_pad : (k : ℕ) (port : DesignPad) (root : Root) → At plan.design.pads k port → Has (pad_roots port) (Some root) → is_read plan.design root ≡ true
  of_pad k port root at has =
      of_root root
      (Has_left (map carry_root plan.design.carries ++ flat_map cell_roots plan.design.cells ++ flat_map pad_roots plan.design.pads) plan.design.globals (Some root)
      (Has_right (map carry_root plan.design.carries ++ flat_map cell_roots plan.design.cells) (flat_map pad_roots plan.design.pads) (Some root) (Has_flat pad_roots plan.design.pads k port (Some root) at has)))

  of_global : (g : ℕ) (root : Root) → At plan.design.globals g (Some root) → is_read plan.design root ≡ true
  of_global g root at =
      of_root root (Has_right (map carry_root plan.design.carries ++ flat_map cell_roots plan.design.cells ++ flat_map pad_roots plan.design.pads) plan.design.globals (Some root) (g, at))

  input_root : (cell : LogicCell) (k : ℕ) (root : Root) → k < 4 → slice_index_or cell.ins k None ≡ Some root → Has (cell_roots cell) (Some root)
  input_root cell zero root lt e = (0, ap (λ (o : Option Root). Some o) e)
  input_root cell (suc zero) root lt e = (1, ap (λ (o : Option Root). Some o) e)
  input_root cell (suc (suc zero)) root lt e = (2, ap (λ (o : Option Root). Some o) e)
  input_root cell (suc (suc (suc zero))) root lt e = (3, ap (λ (o : Option Root). Some o) e)
  input_root cell (suc (suc (suc (suc k)))) root lt e = absurd (omega arith)

  of_control : (t : TileAt) (cluster : Cluster) (control : Control) (root : Root) → IsOn plan t cluster → cluster.control ≡ Some control → (j : ℕ)
      → At (control.clock ∷ control.enable ∷ control.reset ∷ []) j (Some root) → is_read plan.design root ≡ true
  of_control t cluster control root is e j at =
      let told = control_told plan.design (listed plan) on.placed.clusters is.number cluster control is.cluster_is e in
      let roots : Has (control_roots told.1.flop) (Some root) = subst (λ (o : Option (Control × Reset)). Has (control_roots o) (Some root)) (sym told.4) (j, at) in
      of_cell told.0 told.1 root told.3
      (Has_right (slice_index_or told.1.ins 0 None ∷ slice_index_or told.1.ins 1 None ∷ slice_index_or told.1.ins 2 None ∷ slice_index_or told.1.ins 3 None ∷ []) (control_roots told.1.flop) (Some root) roots)

  -- a root that a pin reads is read
  pub reads_read : (t : TileAt) (pin : Pin) (root : Root) → Reads parts plan t pin root → is_read plan.design root ≡ true
  reads_read t pin root (AtDrive k pad port r at at_port e) = of_pad k port r at_port (0, ap (λ (o : Option Root). Some o) e)
  reads_read t pin root (AtDriveEnable k pad port r at at_port e) = of_pad k port r at_port (1, ap (λ (o : Option Root). Some o) e)
  reads_read t pin root (AtFeed g n u r at at_root not_direct feeds) = of_global g r at_root
  reads_read t pin root (AtFixed u i k c cell r s fixed lt e) = of_cell c cell r s.cell_is (input_root cell k r lt e)
  reads_read t pin root (AtFree u i k j c cell r s free lt at) =
      let four : length cell.ins ≡ 4 = on.placed.formed.four c cell s.cell_is in
      of_cell c cell r s.cell_is (input_root cell j r (let w = slice_get_within cell.ins j (Some r) at in omega (arith, w, four)) (get_or_from_slice_get cell.ins j (Some r) None at))
  reads_read t pin root (AtClock u cluster control r is e f) = of_control u cluster control r is e 0 (ap (λ (o : Option Root). Some o) f)
  reads_read t pin root (AtEnable u cluster control r is e f) = of_control u cluster control r is e 1 (ap (λ (o : Option Root). Some o) f)
  reads_read t pin root (AtReset u cluster control r is e f) = of_control u cluster control r is e 2 (ap (λ (o : Option Root). Some o) f)

  pub end_read : (e : End) → Has (ends parts plan) e → is_read plan.design e.0 ≡ true
  end_read e has = let is = each_end parts plan e has in reads_read is.tile is.pin e.0 is.reads

  -- ---- the wires of pins that read
  pub reads_input : (t : TileAt) (pin : Pin) (root : Root) (w : ℕ) → Reads parts plan t pin root → wire_named parts t (pin_name pin) ≡ Some w → IsInput parts t (wire_of pin) w
  reads_input t pin root w (AtDrive k pad port r at at_port e) found =
      driven_input parts pad w ((on.placed.pads.wires k port pad at_port at).output (drive_type port r (on.placed.formed.pads k port at_port) e)) found
  reads_input t pin root w (AtDriveEnable k pad port r at at_port e) found =
      let io = io_wire parts pad.tile (output_enable_name pad.pio) ((on.placed.pads.wires k port pad at_port at).enable (enable_type port r (on.placed.formed.pads k port at_port) e)) in
      record { kind = Io; kind_is = io.0; within = pio_below parts rows plan pullups on k pad at io.0; found = found; reads = refl }
  reads_input t pin root w (AtFeed g n u r at at_root not_direct feeds) found =
      let fed = on.placed.pads.fed g n at not_direct in
      let io = io_wire parts fed.tile fabout_name fed.fabout in
      record { kind = Io; kind_is = ap (kind_at parts) (same_Some u fed.tile (sym feeds ∙ fed.feeds)) ∙ io.0; within = tt; found = found; reads = refl }
  reads_input t pin root w (AtFixed u i k c cell r s fixed lt e) found =
      record { kind = Logic; kind_is = logic_tile parts rows plan pullups on u s.cluster s.on; within = (slot_below parts rows plan pullups on u i c cell s, lt); found = found; reads = refl }
  reads_input t pin root w (AtFree u i k j c cell r s free lt at) found =
      record { kind = Logic; kind_is = logic_tile parts rows plan pullups on u s.cluster s.on; within = (slot_below parts rows plan pullups on u i c cell s, lt); found = found; reads = refl }
  reads_input t pin root w (AtClock u cluster control r is e f) found = record { kind = Logic; kind_is = logic_tile parts rows plan pullups on u cluster is; within = tt; found = found; reads = refl }
  reads_input t pin root w (AtEnable u cluster control r is e f) found = record { kind = Logic; kind_is = logic_tile parts rows plan pullups on u cluster is; within = tt; found = found; reads = refl }
  reads_input t pin root w (AtReset u cluster control r is e f) found = record { kind = Logic; kind_is = logic_tile parts rows plan pullups on u cluster is; within = tt; found = found; reads = refl }
