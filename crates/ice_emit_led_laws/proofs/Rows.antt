-- Wanted rows enter different wires, and come from roots or are links.
use Rattle.std.proofs.Common.{◌≡◌, ◌⊎◌, ℕ, zero, suc, ◌+◌, ◌<◌, ◌≤◌, Bool, true, false, not, Option, None, Some, List, inl, inr, refl, sym, ap, ◌∙◌, subst, true≢false, arith}
use Rattle.std.specs.Prelude.{◌==◌, ◌&&◌, ◌||◌, slice_index_or}
use Rattle.std.specs.Option.{option_and_then, option_map_or}
use Rattle.std.proofs.lemmas.Bool.{and_parts, or_cases, ltb-true}
use Rattle.std.proofs.lemmas.Option.{none-some, same_Some}
use Rattle.ice_base.specs.declared.number.TileAt.{TileAt}
use Rattle.ice_base.specs.declared.number.WireNo.{WireNo}
use Rattle.ice_base.proofs.Booleans.{not_true}
use Rattle.ice_base.proofs.Keys.{nat_same}
use Rattle.ice_base_values.specs.Order.{At, Has}
use Rattle.ice_base_values.proofs.Members.{Has_any}
use Rattle.ice_base_values.proofs.Places.{At_same}
use Rattle.ice_chip.specs.Database.{Parts, PackageRows}
use Rattle.ice_chip.specs.Lookups.{kind_at, names_of, wire_named, placed_at}
use Rattle.ice_chip.specs.Names.{is_global_name, pad_input_name}
use Rattle.ice_chip.specs.PinNames.{is_input_of, is_input_name, is_output_of, is_output_name, is_memory_name}
use Rattle.ice_chip.specs.RamNames.{ram_name, is_clock_enable, is_read_out, pin_at}
use Rattle.ice_chip.specs.WireNames.{IsTileWire, wire_name, carry_out_name, carry_in_name, first_carry_name}
use Rattle.ice_chip.specs.declared.placed.PlacedName.{PlacedName}
use Rattle.ice_chip.specs.declared.rows.Pad.{Pad}
use Rattle.ice_chip.specs.declared.rows.TileKind.{TileKind}
use Rattle.ice_chip.specs.declared.rows.TileKind.TheVariants.{Io, Logic}
use Rattle.ice_chip_names.specs.RamNames.{ram_names}
use Rattle.ice_chip_names.proofs.Prefixes.{number_passes}
use Rattle.ice_chip_names.specs.declared.wire_names.TileWire.{TileWire}
use Rattle.ice_chip_names.specs.declared.wire_names.TileWire.TheVariants as named
use Rattle.ice_chip_sockets.specs.Sockets.{given_wire, has_ram_wire_in}
use Rattle.ice_decode.specs.declared.driver.Switch.{Switch}
use Rattle.ice_decode.specs.Pads.{pads}
use Rattle.ice_bits_rows.specs.FirstSound.{first_sound}
use Rattle.ice_bits_rows.specs.Bundles.{is_private}
use Rattle.ice_bits_rows.specs.Sound.{is_alone}
use Rattle.ice_bits_rows.specs.WireNames.{is_strange_in, has_strange_name, has_output_name, has_closed_name}
use Rattle.ice_cells.specs.Readings.{is_read}
use Rattle.ice_cells.specs.declared.cell.LogicCell.{LogicCell}
use Rattle.ice_cells.specs.declared.cluster.Cluster.{Cluster}
use Rattle.ice_cells.specs.declared.design.DesignPad.{DesignPad}
use Rattle.ice_cells.specs.declared.root.Root.{Root}
use Rattle.ice_cells.specs.declared.root.Root.TheVariants.{PadIn}
use Rattle.ice_place_defs.specs.Plan.{Plan}
use Rattle.ice_place_defs.specs.Loads.{Pin, Input, Clock, Enable, SetReset, Feed, Drive, DriveEnable}
use Rattle.ice_emit_nets.specs.Ends.{wire_no}
use Rattle.ice_graph.specs.Leading.{Route}
use Rattle.ice_emit_defs.specs.Led.{IsBare, IsEntryLed, IsOfRoot, IsLink}
use Rattle.ice_emit_defs.specs.Links.{switch_numbered, carry_source, tree_switch}
use Rattle.ice_emit_defs.specs.Routed.{AreTrees}
use Rattle.ice_emit_defs.specs.Slots.{IsOn, StandsIn}
use Rattle.ice_emit_defs.specs.Written.{wanted_rows}
use Rattle.ice_emit_led_laws.specs.Pins.{IsInput, IsOutput, wire_of}
use Rattle.ice_emit_led_laws.specs.Reads.{Reads, AtDrive, AtDriveEnable, AtFeed, AtFixed, AtFree, AtClock, AtEnable, AtReset}
use Rattle.ice_emit_led_laws.specs.RowsLed.{AreRowsLed}
use Rattle.ice_emit_led_laws.specs.Trees.{IsOnChip, IsTreeRow}
use Rattle.ice_emit_led_laws.proofs.Pins.{output_named, inputs_same, in_or_out, outputs_same}
use Rattle.ice_emit_led_laws.proofs.IoTiles.{io_pad}
use Rattle.ice_emit_led_laws.proofs.Sockets.{given_number, given_other, given_local, driven_other, driven_ram, low_given, pin_given, ram_reads, ram_drives, stands_read, stands_driven, ram_stands, driven_below}
use Rattle.ice_emit_led_laws.proofs.Reading.{drive_type}
use Rattle.ice_emit_led_laws.proofs.Places.{logic_tile, one_cluster, one_cell, slot_below}
use Rattle.ice_emit_led_laws.proofs.Roots.{IsRootPin, OfPad, OfCell, OfGlobal, at_below, root_at, root_of_design}
use Rattle.ice_emit_led_laws.proofs.Trees.{tree_lead, one_tree, tree_led}
use Rattle.ice_emit_led_laws.proofs.Linked.{IsCellLink, IsChunkLink, IsFirst, tile_below}
use Rattle.ice_emit_led_laws.proofs.Wanted.{not_entered, link_of, wanted_told, cell_linked, chunk_linked, entered_pin, cell_input, chunk_input, link_input}

-- ---- pins by their wires
input_of_cell : (pin : Pin) (i k : ℕ) → wire_of pin ≡ named.CellInput i k → pin ≡ Input i k
input_of_cell (Input j l) i k e = cc e
input_of_cell Clock i k e = absurd (cc e)
input_of_cell Enable i k e = absurd (cc e)
input_of_cell SetReset i k e = absurd (cc e)
input_of_cell Feed i k e = absurd (cc e)
input_of_cell (Drive pio) i k e = absurd (driven_other pio (named.CellInput i k) refl e)
input_of_cell (DriveEnable pio) i k e = absurd (cc e)

never_first : (pin : Pin) → wire_of pin ≡ named.FirstCarry → ⊥
never_first (Input j l) e = cc e
never_first Clock e = cc e
never_first Enable e = cc e
never_first SetReset e = cc e
never_first Feed e = cc e
never_first (Drive pio) e = driven_other pio named.FirstCarry refl e
never_first (DriveEnable pio) e = cc e

same_input : (i k j l : ℕ) → Input i k ≡ Input j l → (i ≡ j) × (k ≡ l)
same_input i k j l e = (cc e, cc e)

same_cell_input : (i k j l : ℕ) → named.CellInput i k ≡ named.CellInput j l → i ≡ j
same_cell_input i k j l e = cc e

cell_not_ram : (i k n : ℕ) → named.CellInput i k ≡ named.Ram n → ⊥
cell_not_ram i k n e = cc e

first_not_ram : (n : ℕ) → named.FirstCarry ≡ named.Ram n → ⊥
first_not_ram n e = cc e

cell_not_first : (i k : ℕ) → named.CellInput i k ≡ named.FirstCarry → ⊥
cell_not_first i k e = cc e

first_or_later : (r q k : ℕ) → ◌≡◌ {A = ℕ × ℕ} (r, 0) (q, suc k) → ⊥
first_or_later r q k e = let f : 0 ≡ suc k = ap (λ (p : ℕ × ℕ). p.1) e in omega (arith, f)

ram_number : (j k : ℕ) → named.Ram j ≡ named.Ram k → j ≡ k
ram_number j k e = cc e

-- a pin of a block RAM that reads is driven
driven_of_ram : (pin : Pin) (n : ℕ) → wire_of pin ≡ named.Ram n → pin ≡ Drive (n + 2)
driven_of_ram (Input i k) n e = absurd (cc e)
driven_of_ram Clock n e = absurd (cc e)
driven_of_ram Enable n e = absurd (cc e)
driven_of_ram SetReset n e = absurd (cc e)
driven_of_ram Feed n e = absurd (cc e)
driven_of_ram (Drive pio) n e = ap Drive (driven_ram pio n e)
driven_of_ram (DriveEnable pio) n e = absurd (cc e)

same_drive : (j k : ℕ) → Drive j ≡ Drive k → j ≡ k
same_drive j k e = cc e

-- the enables of clocks are the last wires of a block RAM, which it reads
enable_number : (n : ℕ) → is_clock_enable n ≡ true → (n ≡ 74) ⊎ (n ≡ 75)
enable_number n e = elim (or_cases (n == 74) (n == 75) e) [ inl first ↦ inl (nat_same n 74 first) | inr last ↦ inr (nat_same n 75 last) ]

enable_read : (n : ℕ) → (n ≡ 74) ⊎ (n ≡ 75) → (74 ≤ n) × (n < 76) × (is_read_out n ≡ false)
enable_read n (inl e) = (omega (arith, e), omega (arith, e), ap is_read_out e)
enable_read n (inr e) = (omega (arith, e), omega (arith, e), ap is_read_out e)

-- what a block RAM reads out has the name of a memory
read_out_name : (n : ℕ) → is_read_out n ≡ true → is_memory_name (ram_name n) ≡ true
unfolding ram_names
read_out_name n out = number_passes (λ k. is_memory_name (ram_name k)) n 16 (ltb-true n 16 out) refl

module _ (parts : Parts) (rows : PackageRows) (plan : Plan) (pullups : List Bool) (on : IsOnChip parts rows plan pullups) where
  pad_output : (pad : Pad) (w : ℕ) → Has (pads parts) pad → wire_named parts pad.tile (pad_input_name pad.pio) ≡ Some w → IsOutput parts pad.tile (given_wire pad.pio) w
  pad_output pad w has found =
      let io = io_pad parts on.lawful pad has in
      let out : IsOutput parts pad.tile (named.PadInput pad.pio) w = record { kind = Io; kind_is = io.0; within = io.1; found = found; drives = refl } in
      subst (λ (wire : TileWire). IsOutput parts pad.tile wire w) (sym (low_given pad.pio io.1)) out

  carry_output : (t : TileAt) (i w : ℕ) → kind_at parts t ≡ Some Logic → i < 8 → wire_named parts t (carry_out_name i) ≡ Some w → IsOutput parts t (named.CarryOut i) w
  carry_output t i w logic lt found = record { kind = Logic; kind_is = logic; within = lt; found = found; drives = refl }

  -- the last input of a chained cell reads no root
  chained_reads : (t : TileAt) (pin : Pin) (root : Root) (i c : ℕ) (cell : LogicCell) → Reads parts plan t pin root → pin ≡ Input i 3 → StandsIn plan t i c cell → cell.carry_to_in3 ≡ true → ⊥
  chained_reads t pin root i c cell (AtDrive k pad port r at at_port e) is s chained = cc is
  chained_reads t pin root i c cell (AtDriveEnable k pad port r at at_port e) is s chained = cc is
  chained_reads t pin root i c cell (AtFeed g n u r at at_root not_direct feeds) is s chained = cc is
  chained_reads t pin root i c cell (AtFixed u j k d other r o fixed lt e) is s chained =
      let two = same_input j k i 3 is in
      let one = one_cell parts rows plan pullups on u i d c other cell (subst (λ (n : ℕ). StandsIn plan u n d other) two.0 o) s in
      let none = (on.placed.formed.chained c cell s.cell_is chained).0 in
      none-some r (sym none ∙ ap (λ (x : LogicCell). slice_index_or x.ins 3 None) (sym one.1) ∙ ap (λ (n : ℕ). slice_index_or other.ins n None) (sym two.1) ∙ e)
  chained_reads t pin root i c cell (AtFree u j k l d other r o free lt at) is s chained =
      let two = same_input j k i 3 is in
      let one = one_cell parts rows plan pullups on u i d c other cell (subst (λ (n : ℕ). StandsIn plan u n d other) two.0 o) s in
      let unchained = not_true other.carry_to_in3 (and_parts (not other.carry) (not other.carry_to_in3) free).1 in
      true≢false (sym chained ∙ ap (λ (x : LogicCell). x.carry_to_in3) (sym one.1) ∙ unchained)
  chained_reads t pin root i c cell (AtClock u cluster control r o e f) is s chained = cc is
  chained_reads t pin root i c cell (AtEnable u cluster control r o e f) is s chained = cc is
  chained_reads t pin root i c cell (AtReset u cluster control r o e f) is s chained = cc is

  -- no pin is the enable of a clock of a block RAM
  undriven : (t : TileAt) (pin : Pin) (root : Root) (n : ℕ) → 74 ≤ n → pin ≡ Drive (n + 2) → Reads parts plan t pin root → ⊥
  undriven t pin root n high is (AtDrive k pad port r at at_port e) =
      let driven = (on.placed.pads.wires k port pad at_port at).output (drive_type port r (on.placed.formed.pads k port at_port) e) in
      let low = driven_below parts pad n driven (same_drive pad.pio (n + 2) is) in
      omega (arith, low, high)
  undriven t pin root n high is (AtDriveEnable k pad port r at at_port e) = cc is
  undriven t pin root n high is (AtFeed g m u r at at_root not_direct feeds) = cc is
  undriven t pin root n high is (AtFixed u j k d other r o fixed lt e) = cc is
  undriven t pin root n high is (AtFree u j k l d other r o free lt at) = cc is
  undriven t pin root n high is (AtClock u cluster control r o e f) = cc is
  undriven t pin root n high is (AtEnable u cluster control r o e f) = cc is
  undriven t pin root n high is (AtReset u cluster control r o e f) = cc is

  module _ (routes : List Route) (trees : AreTrees parts plan routes) where
    -- ---- no row enters an output
    pub out_bare : (t : TileAt) (wire : TileWire) (w : ℕ) → IsOutput parts t wire w → IsBare (wanted_rows parts plan routes) w
    out_bare t wire w out s has same = elim (wanted_told parts rows plan pullups on routes trees s has).0 [
      | inl tree ↦ (
          let none = not_true (has_output_name parts s.target.0) (and_parts (not (has_output_name parts s.target.0)) (not (has_closed_name parts s.target.0)) tree.enter).0 in
          true≢false (sym (output_named parts on.lawful on.names t wire w out) ∙ ap (has_output_name parts) (sym same) ∙ none))
      | inr link ↦ (
          let in_ = link_input parts rows plan pullups on routes trees s link.0 in
          in_or_out parts on.lawful on.names in_.0 t in_.1 wire w (subst (λ (v : ℕ). IsInput parts in_.0 in_.1 v) same in_.2) out)
    ]

    -- ---- different rows enter different wires
    tree_or_cell : (s u : Switch) → IsTreeRow parts plan routes s → IsCellLink parts plan u → s.target.0 ≡ u.target.0 → ⊥
    tree_or_cell s u p l same =
        let got = entered_pin parts rows plan pullups on routes trees s p l.tile (named.CellInput l.place 3)
        (subst (λ (v : ℕ). IsInput parts l.tile (named.CellInput l.place 3) v) (sym same) (cell_input parts rows plan pullups on routes trees u l)) in
        chained_reads l.tile got.1 got.0.0 l.place l.number l.cell got.6 (input_of_cell got.1 l.place 3 got.5) l.stands l.chained

    tree_or_chunk : (s u : Switch) → IsTreeRow parts plan routes s → IsChunkLink parts plan u → s.target.0 ≡ u.target.0 → ⊥
    tree_or_chunk s u p l same =
        let got = entered_pin parts rows plan pullups on routes trees s p l.tile named.FirstCarry (subst (λ (v : ℕ). IsInput parts l.tile named.FirstCarry v) (sym same) (chunk_input parts rows plan pullups on routes trees u l)) in
        never_first got.1 got.5

    tree_or_link : (s u : Switch) → IsTreeRow parts plan routes s → IsCellLink parts plan u ⊎ IsChunkLink parts plan u → s.target.0 ≡ u.target.0 → ⊥
    tree_or_link s u p (inl l) same = tree_or_cell s u p l same
    tree_or_link s u p (inr l) same = tree_or_chunk s u p l same

    cell_or_chunk : (s u : Switch) → IsCellLink parts plan s → IsChunkLink parts plan u → s.target.0 ≡ u.target.0 → ⊥
    cell_or_chunk s u l m same =
        cell_not_first l.place 3
        (inputs_same parts on.lawful on.names l.tile m.tile (named.CellInput l.place 3) named.FirstCarry s.target.0 (cell_input parts rows plan pullups on routes trees s l)
        (subst (λ (v : ℕ). IsInput parts m.tile named.FirstCarry v) (sym same) (chunk_input parts rows plan pullups on routes trees u m))).0

    one_source : (s u : Switch) → IsCellLink parts plan s ⊎ IsChunkLink parts plan s → IsCellLink parts plan u ⊎ IsChunkLink parts plan u → s.target.0 ≡ u.target.0 → s.source.0 ≡ u.source.0
    one_source s u (inl l) (inl m) same =
        let two = inputs_same parts on.lawful on.names l.tile m.tile (named.CellInput l.place 3) (named.CellInput m.place 3) s.target.0 (cell_input parts rows plan pullups on routes trees s l)
        (subst (λ (v : ℕ). IsInput parts m.tile (named.CellInput m.place 3) v) (sym same) (cell_input parts rows plan pullups on routes trees u m)) in
        same_Some s.source.0 u.source.0
        (sym l.from ∙ ap (λ (t : TileAt). carry_source parts t l.place) two.1 ∙ ap (carry_source parts m.tile) (same_cell_input l.place 3 m.place 3 two.0) ∙ m.from)
    one_source s u (inl l) (inr m) same = absurd (cell_or_chunk s u l m same)
    one_source s u (inr l) (inl m) same = absurd (cell_or_chunk u s m l (sym same))
    one_source s u (inr l) (inr m) same =
        let two = inputs_same parts on.lawful on.names l.tile m.tile named.FirstCarry named.FirstCarry s.target.0 (chunk_input parts rows plan pullups on routes trees s l)
        (subst (λ (v : ℕ). IsInput parts m.tile named.FirstCarry v) (sym same) (chunk_input parts rows plan pullups on routes trees u m)) in
        same_Some s.source.0 u.source.0 (sym l.from ∙ ap (λ (t : TileAt). wire_named parts t carry_in_name) two.1 ∙ m.from)

    apart : (s u : Switch) → Has (wanted_rows parts plan routes) s → Has (wanted_rows parts plan routes) u → s.target.0 ≡ u.target.0 → s ≡ u
    apart s u has_s has_u same = by (wanted_told parts rows plan pullups on routes trees s has_s).0 (wanted_told parts rows plan pullups on routes trees u has_u).0
      where
        by : IsTreeRow parts plan routes s ⊎ ((IsCellLink parts plan s ⊎ IsChunkLink parts plan s) × IsFirst parts s)
            → IsTreeRow parts plan routes u ⊎ ((IsCellLink parts plan u ⊎ IsChunkLink parts plan u) × IsFirst parts u) → s ≡ u
        by (inl p) (inl q) =
            let target : s.target ≡ u.target = λ i. record { 0 = same i } in
            let one = one_tree parts rows plan pullups on routes trees p.root q.root p.route q.route s.target p.tree q.tree (p.place + 1, p.target) (q.place + 1, subst (λ (w : WireNo). At q.route.wires (q.place + 1) w) (sym target) q.target) in
            let there : At q.route.wires (p.place + 1) u.target = subst (λ (r : Route). At r.wires (p.place + 1) u.target) one.1 (subst (λ (w : WireNo). At p.route.wires (p.place + 1) w) target p.target) in
            let places : p.place + 1 ≡ q.place + 1 = (tree_lead parts rows plan pullups on routes trees q.root q.route q.tree).once (p.place + 1) (q.place + 1) u.target there q.target in
            let place : p.place ≡ q.place = omega (arith, places) in
            let row : s.row ≡ u.row = At_same q.route.rows q.place s.row u.row (subst (λ (n : ℕ). At q.route.rows n s.row) place (subst (λ (r : Route). At r.rows p.place s.row) one.1 p.row)) q.row in
            same_Some s u (sym p.numbered ∙ ap (tree_switch parts) row ∙ q.numbered)
        by (inl p) (inr m) = absurd (tree_or_link s u p m.0 same)
        by (inr l) (inl q) = absurd (tree_or_link u s q l.0 (sym same))
        by (inr l) (inr m) =
            let source = one_source s u l.0 m.0 same in
            same_Some s u
            (sym l.1.first ∙ ap (λ (v : ℕ). option_and_then (switch_numbered parts) (first_sound parts v s.target.0)) source ∙ ap (λ (w : ℕ). option_and_then (switch_numbered parts) (first_sound parts u.source.0 w)) same ∙ m.1.first)

    -- ---- the carry into a tile
    entry_bare : (t : TileAt) (cluster : Cluster) → IsOn plan t cluster → ((r k : ℕ) → cluster.run ≡ Some (r, suc k) → ⊥) → (w : ℕ) → wire_named parts t first_carry_name ≡ Some w → IsBare (wanted_rows parts plan routes) w
    entry_bare t cluster is never w found s has same =
        let input : IsInput parts t named.FirstCarry s.target.0 = record { kind = Logic; kind_is = logic_tile parts rows plan pullups on t cluster is; within = tt; found = found ∙ ap (λ (n : ℕ). Some n) (sym same); reads = refl } in
        elim (wanted_told parts rows plan pullups on routes trees s has).0 [
          | inl tree ↦ (let got = entered_pin parts rows plan pullups on routes trees s tree t named.FirstCarry input in never_first got.1 got.5)
          | inr (inl cell, first) ↦ (
              let two = inputs_same parts on.lawful on.names cell.tile t (named.CellInput cell.place 3) named.FirstCarry s.target.0 (cell_input parts rows plan pullups on routes trees s cell) input in
              cell_not_first cell.place 3 two.0)
          | inr (inr chunk, first) ↦ (
              let two = inputs_same parts on.lawful on.names chunk.tile t named.FirstCarry named.FirstCarry s.target.0 (chunk_input parts rows plan pullups on routes trees s chunk) input in
              let clusters : chunk.cluster ≡ cluster = one_cluster parts rows plan pullups on t chunk.cluster cluster (subst (λ (u : TileAt). IsOn plan u chunk.cluster) two.1 chunk.on) is in
              never chunk.run chunk.chunk (ap (λ (c : Cluster). c.run) (sym clusters) ∙ chunk.run_is))
        ]

    entry : (t : TileAt) (cluster : Cluster) → IsOn plan t cluster → (o : Option (ℕ × ℕ)) → cluster.run ≡ o → IsEntryLed parts plan (wanted_rows parts plan routes) t o
    entry t cluster is None e = entry_bare t cluster is (λ r k f. none-some (r, suc k) (sym e ∙ f))
    entry t cluster is (Some (r, zero)) e = entry_bare t cluster is (λ q k f. first_or_later r q k (same_Some (r, 0) (q, suc k) (sym e ∙ f)))
    entry t cluster is (Some (r, suc k)) e =
        let got = chunk_linked parts rows plan pullups on routes trees t cluster r k is e in
        (got.0.low, got.0.below, got.0.on, got.0.run_is, got.1)

    -- ---- where wanted rows come from
    origin : (s : Switch) → Has (wanted_rows parts plan routes) s → IsOfRoot parts plan (wanted_rows parts plan routes) s.source ⊎ IsLink parts plan s
    origin s has = elim (wanted_told parts rows plan pullups on routes trees s has).0 [
      | inl tree ↦ (let led = tree_led parts rows plan pullups on routes trees tree.root tree.route s.source tree.tree tree.source in inl (tree.root, tree.tree.read, led.0, led.1, led.2))
      | inr link ↦ inr (link_of parts rows plan pullups on routes trees s link.0)
    ]

    -- a row that leaves the wire to which a pad gives its level leaves that of a port's pad that is read
    given_port : (s : Switch) (pad : Pad) → Has (wanted_rows parts plan routes) s → IsOutput parts pad.tile (given_wire pad.pio) s.source.0
        → (k : ℕ) × (port : DesignPad) × At plan.ports k pad × At plan.design.pads k port × (port.reads ≡ true)
    given_port s pad has out = by (wanted_told parts rows plan pullups on routes trees s has).0
      where
        of_root : (root : Root) (t : TileAt) (wire : TileWire) → IsRootPin plan root t wire → IsTileWire wire → is_read plan.design root ≡ true → wire ≡ given_wire pad.pio
            → (t ≡ pad.tile) ⊎ (is_global_name (wire_name wire) ≡ true) → (k : ℕ) × (port : DesignPad) × At plan.ports k pad × At plan.design.pads k port × (port.reads ≡ true)
        of_root root t wire (OfPad k other at) within read same place =
            let port = at_below plan.design.pads k (root_of_design parts rows plan pullups on (PadIn k) read) in
            let tile : other.tile ≡ pad.tile = elim place [ inl there ↦ there | inr global ↦ absurd (true≢false (sym global ∙ given_local other.pio within)) ] in
            let pio : other.pio ≡ pad.pio = given_number other.pio pad.pio same in
            let pads_same : other ≡ pad = λ i. record { tile = tile i; pio = pio i } in
            (k, port.0, subst (λ (p : Pad). At plan.ports k p) pads_same at, port.1, on.placed.formed.reads k port.0 port.1 ∙ read)
        of_root root t wire (OfCell u i c cell stands) within read same place = absurd (given_other pad.pio (named.CellOutput i) refl (sym same))
        of_root root t wire (OfGlobal g n u at) within read same place = absurd (given_other pad.pio (named.Global n) refl (sym same))

        carry_or_pad : (t : TileAt) (i : ℕ) → kind_at parts t ≡ Some Logic → i < 8 → wire_named parts t (carry_out_name i) ≡ Some s.source.0 → ⊥
        carry_or_pad t i logic lt from =
            given_other pad.pio (named.CarryOut i) refl
            (sym (outputs_same parts on.lawful on.names t pad.tile (named.CarryOut i) (given_wire pad.pio) s.source.0 (carry_output t i s.source.0 logic lt from) out).0)

        never_link : IsCellLink parts plan s ⊎ IsChunkLink parts plan s → ⊥
        never_link (inl l) = cell_source l.place (slot_below parts rows plan pullups on l.tile l.place l.number l.cell l.stands) l.from
          where
            logic : kind_at parts l.tile ≡ Some Logic
            logic = logic_tile parts rows plan pullups on l.tile l.stands.cluster l.stands.on

            cell_source : (i : ℕ) → i < 8 → carry_source parts l.tile i ≡ Some s.source.0 → ⊥
            cell_source zero lt from =
                in_or_out parts on.lawful on.names l.tile pad.tile named.FirstCarry (given_wire pad.pio) s.source.0 (record { kind = Logic; kind_is = logic; within = tt; found = from; reads = refl }) out
            cell_source (suc j) lt from = carry_or_pad l.tile j logic (omega (arith, lt)) from
        never_link (inr l) =
            let b = tile_below parts rows plan pullups on l.tile l.cluster l.run l.chunk l.on l.run_is in
            carry_or_pad b.low 7 (logic_tile parts rows plan pullups on b.low b.below b.on) (omega arith) (b.out ∙ sym b.into ∙ l.from)

        by : IsTreeRow parts plan routes s ⊎ ((IsCellLink parts plan s ⊎ IsChunkLink parts plan s) × IsFirst parts s) → (k : ℕ) × (port : DesignPad) × At plan.ports k pad × At plan.design.pads k port × (port.reads ≡ true)
        by (inl p) =
            let first : s.source ≡ wire_no p.tree.net.0 =
            not_entered parts rows plan pullups on routes trees p.root p.route s.source p.tree p.source (output_named parts on.lawful on.names pad.tile (given_wire pad.pio) s.source.0 out) in
            let at = root_at parts rows plan pullups on p.root p.tree.net.0 p.tree.read p.tree.wire in
            let here : IsOutput parts at.0 at.1 s.source.0 = subst (λ (v : WireNo). IsOutput parts at.0 at.1 v.0) (sym first) at.3 in
            let one = outputs_same parts on.lawful on.names at.0 pad.tile at.1 (given_wire pad.pio) s.source.0 here out in
            of_root p.root at.0 at.1 at.2 here.within p.tree.read one.0 one.1
        by (inr link) = absurd (never_link link.0)

    -- ---- wires of block RAMs
    -- no row leaves a wire that has the name of a memory and is no pin
    never_strange : (s : Switch) (t : TileAt) (name : List ℕ) → Has (wanted_rows parts plan routes) s → wire_named parts t name ≡ Some s.source.0 → is_strange_in (kind_at parts t) name ≡ true → ⊥
    never_strange s t name has found strange =
        let r = (wanted_told parts rows plan pullups on routes trees s has).1 in
        let both = and_parts (is_private parts r.group.tile r.group.wire && not (has_strange_name parts r.row_in.source)) (is_alone parts.groups r.group s.row.0 r.row_in) r.sound in
        let none = not_true (has_strange_name parts r.row_in.source) (and_parts (is_private parts r.group.tile r.group.wire) (not (has_strange_name parts r.row_in.source)) both.0).1 in
        let named_so = on.lawful.names.found t name s.source.0 found in
        let some : has_strange_name parts s.source.0 ≡ true =
        Has_any (λ (n : PlacedName). is_strange_in (kind_at parts n.tile) n.name) (names_of parts s.source.0) (placed_at t name) named_so.0 named_so.1 strange in
        true≢false (sym some ∙ ap (has_strange_name parts) r.is_row.source ∙ none)

    -- the name in a tile that has no such wire of a block RAM
    elsewhere : (n : ℕ) (o : Option TileKind) → is_read_out n ≡ true → has_ram_wire_in n o ≡ false → is_strange_in o (ram_name n) ≡ true
    elsewhere n None out absent = ap (λ b. b && true) (read_out_name n out)
    elsewhere n (Some kind) out absent =
        let below : n < 76 = (let lt = ltb-true n 16 out in omega (arith, lt)) in
        let read = on.names.read (named.Ram n) below in
        let input : is_input_name kind (ram_name n) ≡ false = ap (λ (o : Option TileWire). option_map_or (is_input_of kind) o false) read ∙ ram_reads kind n ∙ ap (λ b. b && not (is_read_out n)) absent in
        let output : is_output_name kind (ram_name n) ≡ false = ap (λ (o : Option TileWire). option_map_or (is_output_of kind) o false) read ∙ ram_drives kind n ∙ ap (λ b. b && is_read_out n) absent in
        ap (λ b. b && not (is_input_name kind (ram_name n) || is_output_name kind (ram_name n))) (read_out_name n out) ∙ ap (λ b. not (b || is_output_name kind (ram_name n))) input ∙ ap not output

    -- what is read out and a row leaves is read out of a port's pin
    read_out : (s : Switch) (t : TileAt) (n : ℕ) → Has (wanted_rows parts plan routes) s → is_read_out n ≡ true → wire_named parts t (ram_name n) ≡ Some s.source.0 → Has plan.ports (pin_at t n)
    read_out s t n has out found = by (has_ram_wire_in n (kind_at parts t)) refl
      where
        by : (b : Bool) → has_ram_wire_in n (kind_at parts t) ≡ b → Has plan.ports (pin_at t n)
        by false absent = absurd (never_strange s t (ram_name n) has found (elsewhere n (kind_at parts t) out absent))
        by true stands =
            (let there = ram_stands parts t n s.source.0 stands found in
            let of_ram : IsOutput parts t (named.Ram n) s.source.0 = record {
              kind = there.0;
              kind_is = there.1;
              within = (let lt = ltb-true n 16 out in let below : n < 76 = omega (arith, lt) in below);
              found = found;
              drives = stands_driven there.0 n there.2 out;
            } in
            let port = given_port s (pin_at t n) has (subst (λ (wire : TileWire). IsOutput parts t wire s.source.0) (sym (pin_given n)) of_ram) in
            (port.0, port.2))

    -- no row enters the enable of a clock
    clock_enable_bare : (t : TileAt) (n w : ℕ) → is_clock_enable n ≡ true → has_ram_wire_in n (kind_at parts t) ≡ true → wire_named parts t (ram_name n) ≡ Some w → IsBare (wanted_rows parts plan routes) w
    clock_enable_bare t n w is_enable stands found s has same =
        let facts = enable_read n (enable_number n is_enable) in
        let there = ram_stands parts t n w stands found in
        let input : IsInput parts t (named.Ram n) s.target.0 = record {
          kind = there.0;
          kind_is = there.1;
          within = facts.1;
          found = found ∙ ap (λ (v : ℕ). Some v) (sym same);
          reads = stands_read there.0 n there.2 facts.2;
        } in
        elim (wanted_told parts rows plan pullups on routes trees s has).0 [
          | inl tree ↦ (
              let got = entered_pin parts rows plan pullups on routes trees s tree t (named.Ram n) input in
              undriven t got.1 got.0.0 n facts.0 (driven_of_ram got.1 n got.5) got.6)
          | inr (inl cell, first) ↦ (
              let two = inputs_same parts on.lawful on.names cell.tile t (named.CellInput cell.place 3) (named.Ram n) s.target.0 (cell_input parts rows plan pullups on routes trees s cell) input in
              cell_not_ram cell.place 3 n two.0)
          | inr (inr chunk, first) ↦ (
              let two = inputs_same parts on.lawful on.names chunk.tile t named.FirstCarry (named.Ram n) s.target.0 (chunk_input parts rows plan pullups on routes trees s chunk) input in
              first_not_ram n two.0)
        ]

    pub rows_led : AreRowsLed parts plan (wanted_rows parts plan routes)
    rows_led = record {
      rows = record {
        rows = λ s has. let r = (wanted_told parts rows plan pullups on routes trees s has).1 in (r.group, r.row_in, r.is_row, r.sound);
        apart = apart;
      };
      roots = λ root v read wire. let at = root_at parts rows plan pullups on root v read wire in out_bare at.0 at.1 v at.3;
      carries = λ t i w logic lt found. out_bare t (named.CarryOut i) w (carry_output t i w logic lt found);
      entries = λ t cluster is. entry t cluster is cluster.run refl;
      chained = λ t i c cell stands takes. cell_linked parts rows plan pullups on routes trees t i c cell stands takes;
      clock_enables = clock_enable_bare;
      origins = origin;
      inputs = λ s pad has in_pads found. given_port s pad has (pad_output pad s.source.0 in_pads found);
      outputs = read_out;
    }
