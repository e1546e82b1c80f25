-- Each sink of a placed design has a target, and its targets are wires of the chip.
use Rattle.std.proofs.Common.{◌≡◌, ℕ, zero, suc, ◌+◌, ◌<◌, Bool, true, false, cond, Option, None, Some, List, [], ◌∷◌, ◌++◌, inl, inr, refl, sym, ap, ◌∙◌, subst, arith}
use Rattle.std.specs.Prelude.{◌&&◌, map, option_map, slice_index_or}
use Rattle.std.proofs.lemmas.Bool.{and_parts}
use Rattle.std.proofs.lemmas.Option.{same_Some}
use Rattle.ice_base.specs.declared.number.TileAt.{TileAt}
use Rattle.ice_base.specs.declared.number.WireNo.{WireNo}
use Rattle.ice_base_values.specs.Order.{Has}
use Rattle.ice_base_values.proofs.Members.{Has_none, map_Has}
use Rattle.ice_chip.specs.Database.{Parts, PackageRows}
use Rattle.ice_chip.specs.Lookups.{wire_named, placed_at}
use Rattle.ice_chip.specs.Names.{input_name, output_enable_name}
use Rattle.ice_chip.specs.WireNames.{output_name, clock_name, clock_enable_name, set_reset_name, fabout_name}
use Rattle.ice_chip.specs.declared.rows.Pad.{Pad}
use Rattle.ice_chip_sockets.specs.Sockets.{is_driven}
use Rattle.ice_chip_sockets.proofs.SocketWires.{io_wire, is_driving}
use Rattle.ice_decode.proofs.Members.{Has_append_cases}
use Rattle.ice_cells.specs.declared.cell.Control.{Control}
use Rattle.ice_cells.specs.declared.cell.LogicCell.{LogicCell}
use Rattle.ice_cells.specs.declared.cluster.Cluster.{Cluster}
use Rattle.ice_cells.specs.declared.root.Root.{Root}
use Rattle.ice_sites.specs.Site.{has_wire, has_cell}
use Rattle.ice_place_defs.specs.Plan.{Plan}
use Rattle.ice_place_defs.proofs.Feeding.{fed_back}
use Rattle.ice_place_defs.specs.Loads.{Pin, Input, Clock, Enable, SetReset, Feed, Drive, DriveEnable, pin_name, Load, load_at, pads_loads, fed_roots, globals_loads, cell_loads, control_loads, clusters_give}
use Rattle.ice_emit_nets.specs.Ends.{End, wire_no, pin_wire, pin_wires, load_end, is_free, free_ends, inputs_of, cell_ends, control_ends, ends}
use Rattle.ice_emit_rows_laws.proofs.Mapped.{mapped_by_Has}
use Rattle.ice_emit_defs.specs.Slots.{IsOn, StandsIn}
use Rattle.ice_emit_led_laws.specs.Trees.{IsOnChip}
use Rattle.ice_emit_led_laws.proofs.Ends.{slot_given, cluster_given, load_given, pad_given, global_given, free_given, each_end}
use Rattle.ice_emit_led_laws.proofs.Places.{on_site, slot_below, some_of}
use Rattle.ice_emit_led_laws.proofs.Reading.{drive_type, enable_type}

module _ (parts : Parts) (rows : PackageRows) (plan : Plan) (pullups : List Bool) (on : IsOnChip parts rows plan pullups) where
  pub named_below : (t : TileAt) (name : List ℕ) (w : ℕ) → wire_named parts t name ≡ Some w → w < parts.wires
  named_below t name w e = on.lawful.names.below w (placed_at t name) (on.lawful.names.found t name w e)

  -- ---- pins with a wire
  abbrev HasPin : TileAt → Pin → Type 0
  HasPin t pin = (w : ℕ) × (wire_named parts t (pin_name pin) ≡ Some w)

  input_there : (t : TileAt) (i k : ℕ) → has_cell parts t i ≡ true → k < 4 → HasPin t (Input i k)
  input_there t i k e lt =
      let a = and_parts (has_wire parts t (input_name i 0) && has_wire parts t (input_name i 1) && has_wire parts t (input_name i 2) && has_wire parts t (input_name i 3)) (has_wire parts t (output_name i)) e in
      let b = and_parts (has_wire parts t (input_name i 0) && has_wire parts t (input_name i 1) && has_wire parts t (input_name i 2)) (has_wire parts t (input_name i 3)) a.0 in
      let c = and_parts (has_wire parts t (input_name i 0) && has_wire parts t (input_name i 1)) (has_wire parts t (input_name i 2)) b.0 in
      let d = and_parts (has_wire parts t (input_name i 0)) (has_wire parts t (input_name i 1)) c.0 in
      by k lt d.0 d.1 c.1 b.1
    where
      by : (k : ℕ) → k < 4 → has_wire parts t (input_name i 0) ≡ true → has_wire parts t (input_name i 1) ≡ true → has_wire parts t (input_name i 2) ≡ true → has_wire parts t (input_name i 3) ≡ true → HasPin t (Input i k)
      by zero lt zeroth first second third = some_of (wire_named parts t (input_name i 0)) zeroth
      by (suc zero) lt zeroth first second third = some_of (wire_named parts t (input_name i 1)) first
      by (suc (suc zero)) lt zeroth first second third = some_of (wire_named parts t (input_name i 2)) second
      by (suc (suc (suc zero))) lt zeroth first second third = some_of (wire_named parts t (input_name i 3)) third
      by (suc (suc (suc (suc k)))) lt zeroth first second third = absurd (omega (arith, lt))

  slot_input : (t : TileAt) (i c k : ℕ) (cell : LogicCell) → StandsIn plan t i c cell → k < 4 → HasPin t (Input i k)
  slot_input t i c k cell s lt = input_there t i k ((on_site parts rows plan pullups on t s.cluster s.on).cells i (slot_below parts rows plan pullups on t i c cell s)) lt

  -- ---- loads
  abbrev IsThere : Load → Type 0
  IsThere load = HasPin load.tile load.pin

  at_pin : (t : TileAt) (pin : Pin) (o : Option Root) → ((root : Root) → o ≡ Some root → HasPin t pin) → (load : Load) → Has (load_at t pin o) load → IsThere load
  at_pin t pin o there load has = let l = load_given t pin o load has in subst IsThere (sym l.2) (there l.0 l.1)

  driven_there : (pad : Pad) → is_driven parts pad ≡ true → HasPin pad.tile (Drive pad.pio)
  driven_there pad e = let is = is_driving parts pad e in (is.wire, is.found)

  pads_there : (load : Load) → Has (pads_loads plan.ports plan.design.pads) load → IsThere load
  pads_there load has =
      let got = pad_given plan.ports plan.design.pads load has in
      let wires = on.placed.pads.wires got.0 got.2 got.1 got.4 got.3 in
      let form = on.placed.formed.pads got.0 got.2 got.4 in
      elim (Has_append_cases (load_at got.1.tile (Drive got.1.pio) got.2.drive) (load_at got.1.tile (DriveEnable got.1.pio) got.2.enable) load got.5) [
        | inl drive ↦ at_pin got.1.tile (Drive got.1.pio) got.2.drive (λ root e. driven_there got.1 (wires.output (drive_type got.2 root form e))) load drive
        | inr enable ↦ at_pin got.1.tile (DriveEnable got.1.pio) got.2.enable (λ root e. (io_wire parts got.1.tile (output_enable_name got.1.pio) (wires.enable (enable_type got.2 root form e))).1) load enable
      ]

  globals_there : (load : Load) → Has (globals_loads parts plan.globals (fed_roots plan.direct plan.design.globals)) load → IsThere load
  globals_there load has =
      let got = global_given parts plan.globals (fed_roots plan.direct plan.design.globals) load has in
      let fed = on.placed.pads.fed got.0 got.1 got.4 (fed_back plan.direct plan.design.globals got.0 got.2 got.5).0 in
      let same : fed.tile ≡ got.3 = same_Some fed.tile got.3 (sym fed.feeds ∙ got.6) in
      subst IsThere (sym got.7) (subst (λ (t : TileAt). HasPin t Feed) same (io_wire parts fed.tile fabout_name fed.fabout).1)

  fixed_there : (t : TileAt) (i c : ℕ) (cell : LogicCell) → StandsIn plan t i c cell → (load : Load) → Has (cell_loads t i cell) load → IsThere load
  fixed_there t i c cell s load has =
      elim (Has_append_cases (load_at t (Input i 0) (slice_index_or cell.ins 0 None) ++ load_at t (Input i 1) (slice_index_or cell.ins 1 None) ++ load_at t (Input i 2) (slice_index_or cell.ins 2 None)) (load_at t (Input i 3) (slice_index_or cell.ins 3 None)) load has) [
        | inr three ↦ one 3 (omega arith) three
        | inl rest ↦ elim (Has_append_cases (load_at t (Input i 0) (slice_index_or cell.ins 0 None) ++ load_at t (Input i 1) (slice_index_or cell.ins 1 None)) (load_at t (Input i 2) (slice_index_or cell.ins 2 None)) load rest) [
          | inr two ↦ one 2 (omega arith) two
          | inl less ↦ elim (Has_append_cases (load_at t (Input i 0) (slice_index_or cell.ins 0 None)) (load_at t (Input i 1) (slice_index_or cell.ins 1 None)) load less) [
            | inl zero_th ↦ one 0 (omega arith) zero_th
            | inr first ↦ one 1 (omega arith) first
          ]
        ]
      ]
    where
      one : (k : ℕ) → k < 4 → Has (load_at t (Input i k) (slice_index_or cell.ins k None)) load → IsThere load
      one k lt h = at_pin t (Input i k) (slice_index_or cell.ins k None) (λ root e. slot_input t i c k cell s lt) load h

  controls_there : (t : TileAt) (cluster : Cluster) → IsOn plan t cluster → (o : Option Control) → (load : Load) → Has (control_loads t o) load → IsThere load
  controls_there t cluster is None load has = absurd (Has_none load has)
  controls_there t cluster is (Some control) load has =
      let site = on_site parts rows plan pullups on t cluster is in
      let a = and_parts (has_wire parts t clock_name && has_wire parts t clock_enable_name) (has_wire parts t set_reset_name) site.controls in
      let b = and_parts (has_wire parts t clock_name) (has_wire parts t clock_enable_name) a.0 in
      elim (Has_append_cases (load_at t Clock control.clock ++ load_at t Enable control.enable) (load_at t SetReset control.reset) load has) [
        | inr reset ↦ at_pin t SetReset control.reset (λ root e. some_of (wire_named parts t set_reset_name) a.1) load reset
        | inl rest ↦ elim (Has_append_cases (load_at t Clock control.clock) (load_at t Enable control.enable) load rest) [
          | inl clock ↦ at_pin t Clock control.clock (λ root e. some_of (wire_named parts t clock_name) b.0) load clock
          | inr enable ↦ at_pin t Enable control.enable (λ root e. some_of (wire_named parts t clock_enable_name) b.1) load enable
        ]
      ]

  -- ---- sinks
  abbrev HasTarget : End → Type 0
  HasTarget e = (w : WireNo) × Has e.1 w

  loads_reach : (loads : List Load) → ((load : Load) → Has loads load → IsThere load) → (e : End) → Has (map (load_end parts) loads) e → HasTarget e
  loads_reach loads there e has =
      let got = map_Has (load_end parts) loads e has in
      let pin = there got.0 got.1 in
      subst HasTarget got.2 (wire_no pin.0, mapped_by_Has (pin_wire parts got.0.tile) (got.0.pin ∷ []) got.0.pin (wire_no pin.0) (0, refl) (ap (option_map wire_no) pin.1))

  free_reach : (t : TileAt) (i c : ℕ) (cell : LogicCell) → StandsIn plan t i c cell → (e : End) → Has (free_ends (pin_wires parts t (inputs_of i)) [] cell.ins) e → HasTarget e
  free_reach t i c cell s e has =
      let got = free_given parts plan (pin_wires parts t (inputs_of i)) [] cell.ins e has in
      let pin = slot_input t i c 0 cell s (omega arith) in
      (wire_no pin.0, subst (λ (ws : List WireNo). Has ws (wire_no pin.0)) (sym got.2) (mapped_by_Has (pin_wire parts t) (inputs_of i) (Input i 0) (wire_no pin.0) (0, refl) (ap (option_map wire_no) pin.1)))

  cell_reach : (t : TileAt) (i c : ℕ) (cell : LogicCell) → StandsIn plan t i c cell → (e : End) → Has (cell_ends parts t i cell) e → HasTarget e
  cell_reach t i c cell s e has = by (is_free cell) has
    where
      by : (b : Bool) → Has (cond b (free_ends (pin_wires parts t (inputs_of i)) [] cell.ins) (map (load_end parts) (cell_loads t i cell))) e → HasTarget e
      by true h = free_reach t i c cell s e h
      by false h = loads_reach (cell_loads t i cell) (fixed_there t i c cell s) e h

  pub each_target : (e : End) → Has (ends parts plan) e → HasTarget e
  each_target e has =
      elim (Has_append_cases (map (load_end parts) (pads_loads plan.ports plan.design.pads) ++ map (load_end parts) (globals_loads parts plan.globals (fed_roots plan.direct plan.design.globals)))
      (clusters_give (cell_ends parts) (control_ends parts) plan.design.cells plan.at plan.clusters) e has) [
        | inl outer ↦ elim (Has_append_cases (map (load_end parts) (pads_loads plan.ports plan.design.pads)) (map (load_end parts) (globals_loads parts plan.globals (fed_roots plan.direct plan.design.globals))) e outer) [
          | inl pads ↦ loads_reach (pads_loads plan.ports plan.design.pads) pads_there e pads
          | inr globals ↦ loads_reach (globals_loads parts plan.globals (fed_roots plan.direct plan.design.globals)) globals_there e globals
        ]
        | inr inner ↦ (
            let got = cluster_given (cell_ends parts) (control_ends parts) plan.design.cells plan.at plan.clusters e inner in
            let is : IsOn plan got.1 got.2 = record { number = got.0; cluster_is = got.4; tile_is = got.3 } in
            elim got.5 [
              | inl cells ↦ (
                  let slot = slot_given (cell_ends parts) plan.design.cells got.1 0 got.2.cells e cells in
                  let here : 0 + slot.0 ≡ slot.0 = omega arith in
                  cell_reach got.1 slot.0 slot.1 slot.2 (record { cluster = got.2; on = is; slot = slot.3; cell_is = slot.4 }) e (subst (λ (n : ℕ). Has (cell_ends parts got.1 n slot.2) e) here slot.5))
              | inr control ↦ loads_reach (control_loads got.1 got.2.control) (controls_there got.1 got.2 is got.2.control) e control
            ])
      ]

  -- the targets are wires of the chip
  pub target_below : (e : End) (w : WireNo) → Has (ends parts plan) e → Has e.1 w → w.0 < parts.wires
  target_below e w has target = let got = (each_end parts plan e has).targets w target in named_below got.0 (pin_name got.1) w.0 got.3
