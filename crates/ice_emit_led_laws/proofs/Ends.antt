-- The sinks of a placed design are of pins that read their roots.
use Rattle.std.proofs.Common.{◌≡◌, ◌⊎◌, ℕ, zero, suc, ◌+◌, ◌<◌, Bool, true, false, cond, Option, None, Some, List, [], ◌∷◌, ◌++◌, inl, inr, refl, sym, ap, ◌∙◌, subst, arith}
use Rattle.std.specs.Prelude.{map, slice_get, slice_index_or}
use Rattle.std.specs.Option.{option_map_or}
use Rattle.std.proofs.lemmas.Option.{none-some, same_Some}
use Rattle.ice_base.specs.declared.number.TileAt.{TileAt}
use Rattle.ice_base.specs.declared.number.WireNo.{WireNo}
use Rattle.ice_base.proofs.Options.{option_map_some}
use Rattle.ice_base_values.specs.Order.{At, Has}
use Rattle.ice_base_values.proofs.Members.{Has_none, Has_cases, map_Has}
use Rattle.ice_chip.specs.Database.{Parts}
use Rattle.ice_chip.specs.Lookups.{wire_named, global_of}
use Rattle.ice_chip.specs.declared.rows.Pad.{Pad}
use Rattle.ice_decode.proofs.Members.{Has_append_cases}
use Rattle.ice_cells.specs.declared.cell.Control.{Control}
use Rattle.ice_cells.specs.declared.cell.LogicCell.{LogicCell}
use Rattle.ice_cells.specs.declared.cluster.Cluster.{Cluster}
use Rattle.ice_cells.specs.declared.design.DesignPad.{DesignPad}
use Rattle.ice_cells.specs.declared.root.Root.{Root}
use Rattle.ice_place_defs.specs.Plan.{Plan}
use Rattle.ice_place_defs.proofs.Feeding.{fed_back}
use Rattle.ice_place_defs.specs.Loads.{Pin, Input, Clock, Enable, SetReset, Feed, Drive, DriveEnable, pin_name, Load, load_at, pad_loads, pads_loads, feed_load, fed_roots, global_loads, globals_loads, cell_loads, control_loads, slot_gives, slots_give, clusters_give}
use Rattle.ice_emit_nets.specs.Ends.{End, wire_no, pin_wire, pin_wires, load_end, is_free, is_seen, free_ends, inputs_of, cell_ends, control_ends, ends}
use Rattle.ice_emit_rows_laws.proofs.Mapped.{Has_mapped_by}
use Rattle.ice_emit_defs.specs.Slots.{IsOn, StandsIn}
use Rattle.ice_emit_led_laws.specs.Reads.{Reads, AtDrive, AtDriveEnable, AtFeed, AtFixed, AtFree, AtClock, AtEnable, AtReset, IsEnd}

-- ---- what clusters give
-- an item that slots give is given by the cell of one of them
pub slot_given : {A : Type 0} (of_cell : TileAt → ℕ → LogicCell → List A) (cells : List LogicCell) (t : TileAt) (i : ℕ) (slots : List (Option ℕ)) (x : A) → Has (slots_give of_cell cells t i slots) x
    → (k : ℕ) × (c : ℕ) × (cell : LogicCell) × At slots k (Some c) × At cells c cell × Has (of_cell t (i + k) cell) x
slot_given of_cell cells t i [] x has = absurd (Has_none x has)
slot_given {A} of_cell cells t i (slot ∷ slots) x has =
    elim (Has_append_cases (slot_gives of_cell cells t i slot) (slots_give of_cell cells t (i + 1) slots) x has) [
      | inl here ↦ by slot here
      | inr there ↦ let got = slot_given of_cell cells t (i + 1) slots x there in
          (suc got.0, got.1, got.2, got.3, got.4, subst (λ (n : ℕ). Has (of_cell t n got.2) x) (let e : i + 1 + got.0 ≡ i + suc got.0 = omega arith in e) got.5)
    ]
  where
    of : (c : ℕ) (o : Option LogicCell) → slice_get cells c ≡ o → Has (option_map_or (of_cell t i) o []) x → (cell : LogicCell) × At cells c cell × Has (of_cell t (i + 0) cell) x
    of c None is h = absurd (Has_none x h)
    of c (Some cell) is h = (cell, is, subst (λ (n : ℕ). Has (of_cell t n cell) x) (let e : i ≡ i + 0 = omega arith in e) h)

    by : (o : Option ℕ) → Has (slot_gives of_cell cells t i o) x → (k : ℕ) × (c : ℕ) × (cell : LogicCell) × At (o ∷ slots) k (Some c) × At cells c cell × Has (of_cell t (i + k) cell) x
    by None h = absurd (Has_none x h)
    by (Some c) h = let got = of c (slice_get cells c) refl h in (0, c, got.0, refl, got.1, got.2)

-- an item that clusters give is given by a cell or by a control set
pub cluster_given : {A : Type 0} (of_cell : TileAt → ℕ → LogicCell → List A) (of_control : TileAt → Option Control → List A) (cells : List LogicCell) (at : List TileAt) (clusters : List Cluster) (x : A)
    → Has (clusters_give of_cell of_control cells at clusters) x
    → (n : ℕ) × (t : TileAt) × (cluster : Cluster) × At at n t × At clusters n cluster × (Has (slots_give of_cell cells t 0 cluster.cells) x ⊎ Has (of_control t cluster.control) x)
cluster_given of_cell of_control cells [] clusters x has = absurd (Has_none x has)
cluster_given of_cell of_control cells (t ∷ at) [] x has = absurd (Has_none x has)
cluster_given of_cell of_control cells (t ∷ at) (cluster ∷ clusters) x has =
    elim (Has_append_cases (slots_give of_cell cells t 0 cluster.cells ++ of_control t cluster.control) (clusters_give of_cell of_control cells at clusters) x has) [
      | inl here ↦ (0, t, cluster, refl, refl, Has_append_cases (slots_give of_cell cells t 0 cluster.cells) (of_control t cluster.control) x here)
      | inr there ↦ let got = cluster_given of_cell of_control cells at clusters x there in (suc got.0, got.1, got.2, got.3, got.4, got.5)
    ]

-- ---- loads
pub load_given : (t : TileAt) (pin : Pin) (o : Option Root) (load : Load) → Has (load_at t pin o) load → (root : Root) × (o ≡ Some root) × (load ≡ record { root = root; tile = t; pin = pin })
load_given t pin None load has = absurd (Has_none load has)
load_given t pin (Some root) load has = elim (Has_cases (record { root = root; tile = t; pin = pin }) load [] has) [
  | inl same ↦ (root, refl, sym same)
  | inr none ↦ absurd (Has_none load none)
]

pub pad_given : (places : List Pad) (pads : List DesignPad) (load : Load) → Has (pads_loads places pads) load
    → (k : ℕ) × (place : Pad) × (pad : DesignPad) × At places k place × At pads k pad × Has (pad_loads place pad) load
pad_given [] pads load has = absurd (Has_none load has)
pad_given (place ∷ places) [] load has = absurd (Has_none load has)
pad_given (place ∷ places) (pad ∷ pads) load has = elim (Has_append_cases (pad_loads place pad) (pads_loads places pads) load has) [
  | inl here ↦ (0, place, pad, refl, refl, here)
  | inr there ↦ let got = pad_given places pads load there in (suc got.0, got.1, got.2, got.3, got.4, got.5)
]

pub global_given : (parts : Parts) (ns : List ℕ) (roots : List (Option Root)) (load : Load) → Has (globals_loads parts ns roots) load
    → (g : ℕ) × (n : ℕ) × (root : Root) × (t : TileAt) × At ns g n × At roots g (Some root) × (global_of parts n ≡ Some t) × (load ≡ record { root = root; tile = t; pin = Feed })
global_given parts [] roots load has = absurd (Has_none load has)
global_given parts (n ∷ ns) [] load has = absurd (Has_none load has)
global_given parts (n ∷ ns) (root ∷ roots) load has = elim (Has_append_cases (global_loads parts n root) (globals_loads parts ns roots) load has) [
  | inl here ↦ by (global_of parts n) refl here
  | inr there ↦ let got = global_given parts ns roots load there in (suc got.0, got.1, got.2, got.3, got.4, got.5, got.6, got.7)
]
  where
    by : (o : Option TileAt) → global_of parts n ≡ o → Has (option_map_or (feed_load root) o []) load
        → (g : ℕ) × (m : ℕ) × (r : Root) × (t : TileAt) × At (n ∷ ns) g m × At (root ∷ roots) g (Some r) × (global_of parts m ≡ Some t) × (load ≡ record { root = r; tile = t; pin = Feed })
    by None is h = absurd (Has_none load h)
    by (Some t) is h = let got = load_given t Feed root load h in (0, n, got.0, t, refl, ap (λ (o : Option Root). Some o) got.1, is, got.2)

-- the sink of a load has the wire of the load's pin alone
load_target : (parts : Parts) (load : Load) (w : WireNo) → Has (pin_wires parts load.tile (load.pin ∷ [])) w → wire_named parts load.tile (pin_name load.pin) ≡ Some w.0
load_target parts load w has =
    let got = Has_mapped_by (pin_wire parts load.tile) (load.pin ∷ []) w has in
    let pin : load.pin ≡ got.0 = elim (Has_cases load.pin got.0 [] got.1) [ inl same ↦ same | inr none ↦ absurd (Has_none got.0 none) ] in
    let named = option_map_some wire_no (wire_named parts load.tile (pin_name got.0)) w got.2 in
    ap (λ (p : Pin). wire_named parts load.tile (pin_name p)) pin ∙ named.1 ∙ ap (λ (v : WireNo). Some v.0) named.2

module _ (parts : Parts) (plan : Plan) where
  abbrev IsOfReader : Load → Type 0
  IsOfReader load = Reads parts plan load.tile load.pin load.root

  load_is : (loads : List Load) → ((load : Load) → Has loads load → IsOfReader load) → (e : End) → Has (map (load_end parts) loads) e → IsEnd parts plan e
  load_is loads each e has =
      let got = map_Has (load_end parts) loads e has in
      subst (IsEnd parts plan) got.2 (record {
        tile = got.0.tile;
        pin = got.0.pin;
        reads = each got.0 got.1;
        targets = λ w h. (got.0.tile, got.0.pin, each got.0 got.1, load_target parts got.0 w h);
      })

  -- ---- pads, and what feeds globals
  pads_read : (load : Load) → Has (pads_loads plan.ports plan.design.pads) load → IsOfReader load
  pads_read load has =
      let got = pad_given plan.ports plan.design.pads load has in
      elim (Has_append_cases (load_at got.1.tile (Drive got.1.pio) got.2.drive) (load_at got.1.tile (DriveEnable got.1.pio) got.2.enable) load got.5) [
        | inl drive ↦ let l = load_given got.1.tile (Drive got.1.pio) got.2.drive load drive in subst IsOfReader (sym l.2) (AtDrive got.0 got.1 got.2 l.0 got.3 got.4 l.1)
        | inr enable ↦ let l = load_given got.1.tile (DriveEnable got.1.pio) got.2.enable load enable in subst IsOfReader (sym l.2) (AtDriveEnable got.0 got.1 got.2 l.0 got.3 got.4 l.1)
      ]

  globals_read : (load : Load) → Has (globals_loads parts plan.globals (fed_roots plan.direct plan.design.globals)) load → IsOfReader load
  globals_read load has =
      let got = global_given parts plan.globals (fed_roots plan.direct plan.design.globals) load has in
      let fed = fed_back plan.direct plan.design.globals got.0 got.2 got.5 in
      subst IsOfReader (sym got.7) (AtFeed got.0 got.1 got.3 got.2 got.4 fed.1 fed.0 got.6)

  -- ---- cells
  fixed_read : (t : TileAt) (i c : ℕ) (cell : LogicCell) → StandsIn plan t i c cell → is_free cell ≡ false → (load : Load) → Has (cell_loads t i cell) load → IsOfReader load
  fixed_read t i c cell s not_free load has =
      elim (Has_append_cases (load_at t (Input i 0) (slice_index_or cell.ins 0 None) ++ load_at t (Input i 1) (slice_index_or cell.ins 1 None) ++ load_at t (Input i 2) (slice_index_or cell.ins 2 None)) (load_at t (Input i 3) (slice_index_or cell.ins 3 None)) load has) [
        | inr three ↦ one 3 (omega arith) three
        | inl rest ↦ elim (Has_append_cases (load_at t (Input i 0) (slice_index_or cell.ins 0 None) ++ load_at t (Input i 1) (slice_index_or cell.ins 1 None)) (load_at t (Input i 2) (slice_index_or cell.ins 2 None)) load rest) [
          | inr two ↦ one 2 (omega arith) two
          | inl less ↦ elim (Has_append_cases (load_at t (Input i 0) (slice_index_or cell.ins 0 None)) (load_at t (Input i 1) (slice_index_or cell.ins 1 None)) load less) [
            | inl zero_th ↦ one 0 (omega arith) zero_th
            | inr first ↦ one 1 (omega arith) first
          ]
        ]
      ]
    where
      one : (k : ℕ) → k < 4 → Has (load_at t (Input i k) (slice_index_or cell.ins k None)) load → IsOfReader load
      one k lt h = let l = load_given t (Input i k) (slice_index_or cell.ins k None) load h in subst IsOfReader (sym l.2) (AtFixed t i k c cell l.0 s not_free lt l.1)

  -- a sink of a free cell is of a root that the cell reads
  pub free_given : (targets : List WireNo) (seen : List Root) (ins : List (Option Root)) (e : End) → Has (free_ends targets seen ins) e → (j : ℕ) × At ins j (Some e.0) × (e.1 ≡ targets)
  free_given targets seen [] e has = absurd (Has_none e has)
  free_given targets seen (None ∷ ins) e has = let got = free_given targets seen ins e has in (suc got.0, got.1, got.2)
  free_given targets seen (Some root ∷ ins) e has = by (is_seen seen root) (free_given targets seen ins e) (free_given targets (root ∷ seen) ins e) has
    where
      by : (b : Bool) → (Has (free_ends targets seen ins) e → (j : ℕ) × At ins j (Some e.0) × (e.1 ≡ targets)) → (Has (free_ends targets (root ∷ seen) ins) e → (j : ℕ) × At ins j (Some e.0) × (e.1 ≡ targets))
          → Has (cond b (free_ends targets seen ins) ((root, targets) ∷ free_ends targets (root ∷ seen) ins)) e → (j : ℕ) × At (Some root ∷ ins) j (Some e.0) × (e.1 ≡ targets)
      by true again new h = let got = again h in (suc got.0, got.1, got.2)
      by false again new h = elim (Has_cases (root, targets) e (free_ends targets (root ∷ seen) ins) h) [
        | inl same ↦ (0, ap (λ (x : End). Some (Some x.0)) same, ap (λ (x : End). x.1) (sym same))
        | inr more ↦ let got = new more in (suc got.0, got.1, got.2)
      ]

  -- a wire of a cell's inputs is that of one of them
  pub input_target : (t : TileAt) (i : ℕ) (w : WireNo) → Has (pin_wires parts t (inputs_of i)) w → (k : ℕ) × (k < 4) × (wire_named parts t (pin_name (Input i k)) ≡ Some w.0)
  input_target t i w has =
      let got = Has_mapped_by (pin_wire parts t) (inputs_of i) w has in
      let named = option_map_some wire_no (wire_named parts t (pin_name got.0)) w got.2 in
      let pin = which got.0 got.1 in
      (pin.0, pin.1, ap (λ (p : Pin). wire_named parts t (pin_name p)) pin.2 ∙ named.1 ∙ ap (λ (v : WireNo). Some v.0) named.2)
    where
      which : (pin : Pin) → Has (inputs_of i) pin → (k : ℕ) × (k < 4) × (Input i k ≡ pin)
      which pin (zero, at) = (0, omega arith, same_Some (Input i 0) pin at)
      which pin (suc zero, at) = (1, omega arith, same_Some (Input i 1) pin at)
      which pin (suc (suc zero), at) = (2, omega arith, same_Some (Input i 2) pin at)
      which pin (suc (suc (suc zero)), at) = (3, omega arith, same_Some (Input i 3) pin at)
      which pin (suc (suc (suc (suc n))), at) = absurd (none-some pin at)

  free_read : (t : TileAt) (i c : ℕ) (cell : LogicCell) → StandsIn plan t i c cell → is_free cell ≡ true → (e : End) → Has (free_ends (pin_wires parts t (inputs_of i)) [] cell.ins) e → IsEnd parts plan e
  free_read t i c cell s free e has =
      let got = free_given (pin_wires parts t (inputs_of i)) [] cell.ins e has in
      record {
        tile = t;
        pin = Input i 0;
        reads = AtFree t i 0 got.0 c cell e.0 s free (omega arith) got.1;
        targets = λ w h. let in_ = input_target t i w (subst (λ (ws : List WireNo). Has ws w) got.2 h) in (t, Input i in_.0, AtFree t i in_.0 got.0 c cell e.0 s free in_.1 got.1, in_.2);
      }

  cell_read : (t : TileAt) (i c : ℕ) (cell : LogicCell) → StandsIn plan t i c cell → (e : End) → Has (cell_ends parts t i cell) e → IsEnd parts plan e
  cell_read t i c cell s e has = by (is_free cell) refl has
    where
      by : (b : Bool) → is_free cell ≡ b → Has (cond b (free_ends (pin_wires parts t (inputs_of i)) [] cell.ins) (map (load_end parts) (cell_loads t i cell))) e → IsEnd parts plan e
      by true is h = free_read t i c cell s is e h
      by false is h = load_is (cell_loads t i cell) (fixed_read t i c cell s is) e h

  -- ---- what the flip-flops of a tile share
  control_read : (t : TileAt) (cluster : Cluster) → IsOn plan t cluster → (o : Option Control) → cluster.control ≡ o → (load : Load) → Has (control_loads t o) load → IsOfReader load
  control_read t cluster is None f load has = absurd (Has_none load has)
  control_read t cluster is (Some control) f load has =
      elim (Has_append_cases (load_at t Clock control.clock ++ load_at t Enable control.enable) (load_at t SetReset control.reset) load has) [
        | inr reset ↦ let l = load_given t SetReset control.reset load reset in subst IsOfReader (sym l.2) (AtReset t cluster control l.0 is f l.1)
        | inl rest ↦ elim (Has_append_cases (load_at t Clock control.clock) (load_at t Enable control.enable) load rest) [
          | inl clock ↦ let l = load_given t Clock control.clock load clock in subst IsOfReader (sym l.2) (AtClock t cluster control l.0 is f l.1)
          | inr enable ↦ let l = load_given t Enable control.enable load enable in subst IsOfReader (sym l.2) (AtEnable t cluster control l.0 is f l.1)
        ]
      ]

  -- ---- all sinks
  pub each_end : (e : End) → Has (ends parts plan) e → IsEnd parts plan e
  each_end e has =
      elim (Has_append_cases (map (load_end parts) (pads_loads plan.ports plan.design.pads) ++ map (load_end parts) (globals_loads parts plan.globals (fed_roots plan.direct plan.design.globals)))
      (clusters_give (cell_ends parts) (control_ends parts) plan.design.cells plan.at plan.clusters) e has) [
        | inl outer ↦ elim (Has_append_cases (map (load_end parts) (pads_loads plan.ports plan.design.pads)) (map (load_end parts) (globals_loads parts plan.globals (fed_roots plan.direct plan.design.globals))) e outer) [
          | inl pads ↦ load_is (pads_loads plan.ports plan.design.pads) pads_read e pads
          | inr globals ↦ load_is (globals_loads parts plan.globals (fed_roots plan.direct plan.design.globals)) globals_read e globals
        ]
        | inr inner ↦ (
            let got = cluster_given (cell_ends parts) (control_ends parts) plan.design.cells plan.at plan.clusters e inner in
            let is : IsOn plan got.1 got.2 = record { number = got.0; cluster_is = got.4; tile_is = got.3 } in
            elim got.5 [
              | inl cells ↦ (
                  let slot = slot_given (cell_ends parts) plan.design.cells got.1 0 got.2.cells e cells in
                  let here : 0 + slot.0 ≡ slot.0 = omega arith in
                  cell_read got.1 slot.0 slot.1 slot.2 (record { cluster = got.2; on = is; slot = slot.3; cell_is = slot.4 }) e (subst (λ (n : ℕ). Has (cell_ends parts got.1 n slot.2) e) here slot.5))
              | inr control ↦ load_is (control_loads got.1 got.2.control) (control_read got.1 got.2 is got.2.control refl) e control
            ])
      ]
