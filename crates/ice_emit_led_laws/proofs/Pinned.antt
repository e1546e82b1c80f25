-- What pins read is led to them, and no wanted row enters a pin that reads nothing.
use Rattle.std.proofs.Common.{◌≡◌, ◌⊎◌, ℕ, ◌+◌, ◌<◌, Bool, true, false, Option, None, Some, List, [], ◌∷◌, inl, inr, refl, sym, ap, ◌∙◌, subst, true≢false, arith}
use Rattle.std.specs.Prelude.{slice_index_or, not}
use Rattle.std.proofs.lemmas.Bool.{and_parts}
use Rattle.std.proofs.lemmas.Option.{none-some, same_Some}
use Rattle.ice_base.specs.declared.number.TileAt.{TileAt}
use Rattle.ice_base.specs.declared.number.WireNo.{WireNo}
use Rattle.ice_base_values.specs.Order.{At, Has}
use Rattle.ice_base_values.proofs.Places.{At_same}
use Rattle.ice_chip.specs.Database.{Parts, PackageRows}
use Rattle.ice_chip.specs.Lookups.{kind_at, wire_named, global_of}
use Rattle.ice_chip.specs.Names.{input_name}
use Rattle.ice_chip.specs.WireNames.{fabout_name}
use Rattle.ice_chip.specs.declared.rows.Pad.{Pad}
use Rattle.ice_chip.specs.declared.rows.TileKind.TheVariants.{Io, Logic}
use Rattle.ice_chip_names.specs.declared.wire_names.TileWire.TheVariants as wires
use Rattle.ice_chip_sockets.specs.Sockets.{driven_wire, has_io_wire}
use Rattle.ice_chip_sockets.proofs.SocketWires.{io_wire}
use Rattle.ice_decode.specs.declared.driver.Switch.{Switch}
use Rattle.ice_decode.specs.Pads.{pads}
use Rattle.ice_cells.specs.declared.cell.Control.{Control}
use Rattle.ice_cells.specs.declared.cell.LogicCell.{LogicCell}
use Rattle.ice_cells.specs.declared.cluster.Cluster.{Cluster}
use Rattle.ice_cells.specs.declared.design.DesignPad.{DesignPad}
use Rattle.ice_cells.specs.declared.root.Root.{Root}
use Rattle.ice_place_defs.specs.Plan.{Plan, is_direct}
use Rattle.ice_place_defs.specs.Loads.{Pin, Input, Clock, Enable, SetReset, Feed, Drive, DriveEnable, pin_name}
use Rattle.ice_emit_nets.specs.Ends.{End, wire_no, pin_wires, is_free, inputs_of, ends}
use Rattle.ice_graph.specs.Leading.{Route}
use Rattle.ice_emit_defs.specs.Arrivals.{arrival}
use Rattle.ice_emit_defs.specs.Led.{IsLed, IsFreeLed, IsControlLed, IsPadLed, IsSocket, IsLink}
use Rattle.ice_emit_defs.specs.Routed.{AreTrees}
use Rattle.ice_emit_defs.specs.Slots.{IsOn, StandsIn}
use Rattle.ice_emit_defs.specs.Written.{wanted_rows, held_by}
use Rattle.ice_emit_led_laws.specs.Pins.{IsInput, wire_of}
use Rattle.ice_emit_led_laws.specs.Trees.{IsOnChip, IsTreeOf, IsTreeRow}
use Rattle.ice_emit_led_laws.proofs.Pins.{inputs_same, input_named}
use Rattle.ice_emit_led_laws.proofs.Places.{logic_tile, one_cluster, one_cell, slot_below, pio_below}
use Rattle.ice_emit_led_laws.proofs.Ends.{each_end, input_target}
use Rattle.ice_emit_led_laws.proofs.Sockets.{driven_other, IsSocketInput, IsSocketOutput, socket_pin}
use Rattle.ice_emit_led_laws.proofs.Reading.{reads_input}
use Rattle.ice_emit_led_laws.proofs.Trees.{end_has_tree, tree_held, one_tree, tree_led, tree_input, tree_joins, tree_once}
use Rattle.ice_emit_led_laws.proofs.Wanted.{wanted_is}
use Rattle.ice_emit_led_laws.proofs.Rows.{out_bare}
use Rattle.ice_emit_led_laws.specs.PinsLed.{ArePinsLed}
use Rattle.ice_emit_led_laws.proofs.Targets.{wire_named_of, inputs_have, arrival_held, held_arrives}
use Rattle.ice_emit_led_laws.proofs.Ending.{drive_end, drive_enable_end, feed_end, fixed_end, free_end_is, clock_end, enable_end, reset_end}
use Rattle.ice_emit_led_laws.proofs.Apart.{ends_apart}
use Rattle.ice_emit_led_laws.proofs.Asking.{same_pin, Asks, asks}
use Rattle.ice_emit_led_laws.proofs.IoTiles.{io_pad}

-- a free cell takes no carry into its last input
free_unchained : (cell : LogicCell) → is_free cell ≡ true → cell.carry_to_in3 ≡ false
free_unchained cell e = by cell.carry_to_in3 (and_parts (not cell.carry) (not cell.carry_to_in3) e).1
  where
    by : (b : Bool) → not b ≡ true → b ≡ false
    by true f = cc
    by false f = refl

-- the cell and the input of a pin
abbrev input_slot : Pin → ℕ
input_slot (Input i k) = i
input_slot pin = 0

abbrev input_place : Pin → ℕ
input_place (Input i k) = k
input_place pin = 0

module _ (parts : Parts) (rows : PackageRows) (plan : Plan) (pullups : List Bool) (on : IsOnChip parts rows plan pullups) (routes : List Route) (trees : AreTrees parts plan routes) where
  abbrev wanted : List Switch
  wanted = wanted_rows parts plan routes

  -- ---- a pin that reads
  led_end : (t : TileAt) (pin : Pin) (root : Root) → Has (ends parts plan) (root, pin_wires parts t (pin ∷ [])) → IsLed parts plan wanted (wire_named parts t (pin_name pin)) (Some root)
  led_end t pin root has =
      let tree = end_has_tree parts rows plan pullups on routes trees (root, pin_wires parts t (pin ∷ [])) has in
      let target = tree_joins parts rows plan pullups on routes trees root tree.0 tree.1 (root, pin_wires parts t (pin ∷ [])) has refl in
      let led = tree_led parts rows plan pullups on routes trees root tree.0 target.0 tree.1 target.2 in
      (target.0.0, wire_named_of parts t pin target.0 target.1, (led.0, led.1, led.2))

  -- ---- a pin that a row enters
  -- what is known of a root whose tree enters a pin
  record Enters (t : TileAt) (pin : Pin) (w : ℕ) : Type 0 where
    root : Root
    route : Route
    tree : IsTreeOf parts plan routes root route
    holds : Has route.wires (wire_no w)
    reads : Asks parts plan t pin root

  -- a carry that comes to the pin
  abbrev IsChained : TileAt → Pin → Type 0
  IsChained t pin = (i : ℕ) × (c : ℕ) × (cell : LogicCell) × StandsIn plan t i c cell × (cell.carry_to_in3 ≡ true) × (pin ≡ Input i 3)

  entered : (t : TileAt) (pin : Pin) (w : ℕ) → IsInput parts t (wire_of pin) w → (s : Switch) → Has wanted s → s.target.0 ≡ w → Enters t pin w ⊎ IsChained t pin
  entered t pin w is s has into = by (wanted_is parts rows plan pullups on routes trees s has)
    where
      there : IsInput parts t (wire_of pin) s.target.0
      there = subst (λ v. IsInput parts t (wire_of pin) v) (sym into) is

      of_tree : IsTreeRow parts plan routes s → Enters t pin w
      of_tree row =
          let held : Has row.route.wires s.target = (row.place + 1, row.target) in
          let end = tree_input parts rows plan pullups on routes trees row.root row.route s.target row.tree held (input_named parts on.lawful on.names t (wire_of pin) s.target.0 there) in
          let reads = (each_end parts plan end.0 end.1).targets s.target end.3 in
          let input = reads_input parts rows plan pullups on reads.0 reads.1 end.0.0 s.target.0 reads.2 reads.3 in
          let same = inputs_same parts on.lawful on.names t reads.0 (wire_of pin) (wire_of reads.1) s.target.0 there input in
          record {
            root = row.root;
            route = row.route;
            tree = row.tree;
            holds = subst (λ v. Has row.route.wires (wire_no v)) into held;
            reads = subst (λ r. Asks parts plan t pin r) end.2
                (subst (λ p. Asks parts plan t p end.0.0) (sym (same_pin pin reads.1 same.0)) (subst (λ u. Asks parts plan u reads.1 end.0.0) (sym same.1) (asks parts plan reads.0 reads.1 end.0.0 reads.2)));
          }

      of_link : IsLink parts plan s → IsChained t pin
      of_link (inl (u, i, c, cell, stands, chained, source, target)) =
          (let input : IsInput parts u (wires.CellInput i 3) s.target.0 = record {
            kind = Logic;
            kind_is = logic_tile parts rows plan pullups on u stands.cluster stands.on;
            within = (slot_below parts rows plan pullups on u i c cell stands, omega arith);
            found = target;
            reads = refl;
          } in
          let same = inputs_same parts on.lawful on.names t u (wire_of pin) (wires.CellInput i 3) s.target.0 there input in
          (i, c, cell, subst (λ v. StandsIn plan v i c cell) (sym same.1) stands, chained, same_pin pin (Input i 3) same.0))
      of_link (inr (u, low, cluster, below, r, k, stands, is_run, under, below_run, source, target)) =
          (let input : IsInput parts u wires.FirstCarry s.target.0 = record {
            kind = Logic;
            kind_is = logic_tile parts rows plan pullups on u cluster stands;
            within = tt;
            found = target;
            reads = refl;
          } in
          let same = inputs_same parts on.lawful on.names t u (wire_of pin) wires.FirstCarry s.target.0 there input in
          absurd (no_first pin same.0))
        where
          no_first : (p : Pin) → wire_of p ≡ wires.FirstCarry → ⊥
          no_first (Input i j) e = cc
          no_first Clock e = cc
          no_first Enable e = cc
          no_first SetReset e = cc
          no_first Feed e = cc
          no_first (Drive pio) e = driven_other pio wires.FirstCarry refl e
          no_first (DriveEnable pio) e = cc

      by : IsTreeRow parts plan routes s ⊎ IsLink parts plan s → Enters t pin w ⊎ IsChained t pin
      by (inl row) = inl (of_tree row)
      by (inr link) = inr (of_link link)

  -- no row enters a pin that reads nothing
  bare_pin : (t : TileAt) (pin : Pin) → ((w : ℕ) → wire_named parts t (pin_name pin) ≡ Some w → IsInput parts t (wire_of pin) w) → ((root : Root) → Asks parts plan t pin root → ⊥) → (IsChained t pin → ⊥)
      → IsLed parts plan wanted (wire_named parts t (pin_name pin)) None
  bare_pin t pin input never unchained w named s has into = by (entered t pin w (input w named) s has into)
    where
      by : Enters t pin w ⊎ IsChained t pin → ⊥
      by (inl tree) = never tree.root tree.reads
      by (inr link) = unchained link

  no_chain : (t : TileAt) (pin : Pin) → ((i : ℕ) → pin ≡ Input i 3 → ⊥) → IsChained t pin → ⊥
  no_chain t pin other (i, c, cell, stands, chained, e) = other i e

  -- ---- cells
  module _ (t : TileAt) (i c : ℕ) (cell : LogicCell) (stands : StandsIn plan t i c cell) where
    cell_input : (k w : ℕ) → k < 4 → wire_named parts t (input_name i k) ≡ Some w → IsInput parts t (wires.CellInput i k) w
    cell_input k w lt named = record {
      kind = Logic;
      kind_is = logic_tile parts rows plan pullups on t stands.cluster stands.on;
      within = (slot_below parts rows plan pullups on t i c cell stands, lt);
      found = named;
      reads = refl;
    }

    -- a carry comes to the last input alone, and of a cell that takes one there
    chained_here : (k : ℕ) → IsChained t (Input i k) → (k ≡ 3) × (cell.carry_to_in3 ≡ true)
    chained_here k (j, d, other, there, chained, e) =
        let slot : i ≡ j = ap input_slot e in
        let same = one_cell parts rows plan pullups on t j c d cell other (subst (λ n. StandsIn plan t n c cell) slot stands) there in
        (ap input_place e, ap (λ (x : LogicCell). x.carry_to_in3) same.1 ∙ chained)

    -- what reads at an input is this cell
    asked_here : (k : ℕ) (root : Root) → Asks parts plan t (Input i k) root
        → ((is_free cell ≡ false) × (slice_index_or cell.ins k None ≡ Some root)) ⊎ ((is_free cell ≡ true) × (j : ℕ) × At cell.ins j (Some root))
    asked_here k root (d, other, there, reads) =
        subst (λ (x : LogicCell). ((is_free x ≡ false) × (slice_index_or x.ins k None ≡ Some root)) ⊎ ((is_free x ≡ true) × (j : ℕ) × At x.ins j (Some root)))
        (one_cell parts rows plan pullups on t i d c other cell there stands).1 reads

    fixed : is_free cell ≡ false → (k : ℕ) → k < 4 → (k ≡ 3 → cell.carry_to_in3 ≡ false) → IsLed parts plan wanted (wire_named parts t (input_name i k)) (slice_index_or cell.ins k None)
    fixed not_free k lt unchained = by (slice_index_or cell.ins k None) refl
      where
        by : (o : Option Root) → slice_index_or cell.ins k None ≡ o → IsLed parts plan wanted (wire_named parts t (input_name i k)) o
        by (Some root) e = led_end t (Input i k) root (fixed_end parts plan t i k c cell root stands not_free lt e)
        by None e =
            bare_pin t (Input i k) (λ w named. cell_input k w lt named) (λ root asked. none_reads root (asked_here k root asked))
            (λ chain. let both = chained_here k chain in true≢false (sym both.1 ∙ unchained both.0))
          where
            none_reads : (root : Root) → ((is_free cell ≡ false) × (slice_index_or cell.ins k None ≡ Some root)) ⊎ ((is_free cell ≡ true) × (j : ℕ) × At cell.ins j (Some root)) → ⊥
            none_reads root (inl (f, reads)) = none-some root (sym e ∙ reads)
            none_reads root (inr (free, j, at)) = true≢false (sym free ∙ not_free)

    -- ---- a free cell
    module _ (free : is_free cell ≡ true) where
      -- where a root that the cell reads arrives
      record Arrives (root : Root) : Type 0 where
        route : Route
        tree : IsTreeOf parts plan routes root route
        held : held_by parts plan routes root ≡ route.wires
        place : ℕ
        arrived : arrival parts (held_by parts plan routes root) t i ≡ Some place

      arrived_in : (root : Root) (route : Route) (j : ℕ) → held_by parts plan routes root ≡ route.wires → arrival parts route.wires t i ≡ Some j → arrival parts (held_by parts plan routes root) t i ≡ Some j
      arrived_in root route j held e = ap (λ ws. arrival parts ws t i) held ∙ e

      arrives : (k : ℕ) (root : Root) → At cell.ins k (Some root) → Arrives root
      arrives k root at =
          let sink : End = (root, pin_wires parts t (inputs_of i)) in
          let has : Has (ends parts plan) sink = free_end_is parts plan t i k c cell root stands free at in
          let tree = end_has_tree parts rows plan pullups on routes trees sink has in
          let target = tree_joins parts rows plan pullups on routes trees root tree.0 tree.1 sink has refl in
          let named = input_target parts plan t i target.0 target.1 in
          let held = tree_held parts rows plan pullups on routes trees root tree.0 tree.1 in
          let place = held_arrives parts tree.0.wires t i named.0 target.0 named.1 named.2 target.2 in
          record { route = tree.0; tree = tree.1; held = held; place = place.0; arrived = arrived_in root tree.0 place.0 held place.1 }

      -- the wire at which it arrives
      record Arrived (route : Route) (j : ℕ) : Type 0 where
        below : j < 4
        wire : WireNo
        named : wire_named parts t (input_name i j) ≡ Some wire.0
        holds : Has route.wires wire

      arrived_at : (root : Root) (a : Arrives root) (j : ℕ) → arrival parts (held_by parts plan routes root) t i ≡ Some j → Arrived a.route j
      arrived_at root a j e =
          let at = arrival_held parts a.route.wires t i j (sym (ap (λ ws. arrival parts ws t i) a.held) ∙ e) in
          record { below = at.0; wire = at.1; named = at.2; holds = at.3 }

      led_free : (root : Root) (a : Arrives root) → (j : ℕ) × (j < 4) × (arrival parts (held_by parts plan routes root) t i ≡ Some j) × IsLed parts plan wanted (wire_named parts t (input_name i j)) (Some root)
      led_free root a =
          let at = arrived_at root a a.place a.arrived in
          let led = tree_led parts rows plan pullups on routes trees root a.route at.wire a.tree at.holds in
          (a.place, at.below, a.arrived, (at.wire.0, at.named, (led.0, led.1, led.2)))

      apart : (k l j : ℕ) (one other : Root) → At cell.ins k (Some one) → At cell.ins l (Some other) → arrival parts (held_by parts plan routes one) t i ≡ Some j
          → arrival parts (held_by parts plan routes other) t i ≡ Some j → one ≡ other
      apart k l j one other a b e f =
          let x = arrives k one a in
          let y = arrives l other b in
          let p = arrived_at one x j e in
          let q = arrived_at other y j f in
          let wire : p.wire.0 ≡ q.wire.0 = same_Some p.wire.0 q.wire.0 (sym p.named ∙ q.named) in
          (one_tree parts rows plan pullups on routes trees one other x.route y.route p.wire x.tree y.tree p.holds (subst (λ v. Has y.route.wires (wire_no v)) (sym wire) q.holds)).0

      -- where no root arrives no row enters
      others : (j : ℕ) → j < 4 → ((k : ℕ) (root : Root) → At cell.ins k (Some root) → arrival parts (held_by parts plan routes root) t i ≡ Some j → ⊥)
          → IsLed parts plan wanted (wire_named parts t (input_name i j)) None
      others j lt none w named s has into = by (entered t (Input i j) w (cell_input j w lt named) s has into)
        where
          of : (e : Enters t (Input i j) w) → (is_free cell ≡ true) × (k : ℕ) × At cell.ins k (Some e.root) → ⊥
          of e (f, k, at) =
              let a = arrives k e.root at in
              let p = arrived_at e.root a a.place a.arrived in
              let holds : Has a.route.wires (wire_no w) =
              subst (λ (ws : List WireNo). Has ws (wire_no w)) (sym (tree_held parts rows plan pullups on routes trees e.root e.route e.tree) ∙ a.held) e.holds in
              let sink : End = (e.root, pin_wires parts t (inputs_of i)) in
              let has : Has (ends parts plan) sink = free_end_is parts plan t i k c cell e.root stands free at in
              let once =
              tree_once parts rows plan pullups on routes trees (ends_apart parts rows plan pullups on) e.root a.route a.tree sink has refl (wire_no w) p.wire
              (inputs_have parts t i j w lt named) (inputs_have parts t i a.place p.wire.0 p.below p.named) holds p.holds in
              let input = cell_input a.place w p.below (p.named ∙ ap (λ (x : WireNo). Some x.0) (sym once)) in
              let place = inputs_same parts on.lawful on.names t t (wires.CellInput i j) (wires.CellInput i a.place) w (cell_input j w lt named) input in
              let here : j ≡ a.place = ap input_place (same_pin (Input i j) (Input i a.place) place.0) in
              none k e.root at (a.arrived ∙ ap Some (sym here))

          by : Enters t (Input i j) w ⊎ IsChained t (Input i j) → ⊥
          by (inl e) = reading (asked_here j e.root e.reads)
            where
              reading : ((is_free cell ≡ false) × (slice_index_or cell.ins j None ≡ Some e.root)) ⊎ ((is_free cell ≡ true) × (k : ℕ) × At cell.ins k (Some e.root)) → ⊥
              reading (inl (f, reads)) = true≢false (sym free ∙ f)
              reading (inr read) = of e read
          by (inr chain) = true≢false (sym (chained_here j chain).1 ∙ free_unchained cell free)

      free_led : IsFreeLed parts plan wanted (held_by parts plan routes) t i cell
      free_led = record { arrive = λ k root at. led_free root (arrives k root at); apart = apart; others = others }

  -- ---- what a tile of cells shares
  module _ (t : TileAt) (cluster : Cluster) (control : Control) (stands : IsOn plan t cluster) (is : cluster.control ≡ Some control) where
    -- a control that reads nothing
    unasked : (of : Control → Option Root) → of control ≡ None → (root : Root)
        → (k : Cluster) × (other : Control) × IsOn plan t k × (k.control ≡ Some other) × (of other ≡ Some root) → ⊥
    unasked of e root (k, other, there, f, reads) =
        let clusters = one_cluster parts rows plan pullups on t k cluster there stands in
        let controls : other ≡ control = same_Some other control (sym f ∙ ap (λ (x : Cluster). x.control) clusters ∙ is) in
        none-some root (sym e ∙ ap of (sym controls) ∙ reads)

    clock_led : (o : Option Root) → control.clock ≡ o → IsLed parts plan wanted (wire_named parts t (pin_name Clock)) o
    clock_led (Some root) e = led_end t Clock root (clock_end parts plan t cluster control root stands is e)
    clock_led None e =
        bare_pin t Clock (λ w named. record { kind = Logic; kind_is = logic_tile parts rows plan pullups on t cluster stands; within = tt; found = named; reads = refl }) (unasked (λ (x : Control). x.clock) e)
        (no_chain t Clock (λ i f. let g : Clock ≡ Input i 3 = f in cc))

    enable_led : (o : Option Root) → control.enable ≡ o → IsLed parts plan wanted (wire_named parts t (pin_name Enable)) o
    enable_led (Some root) e = led_end t Enable root (enable_end parts plan t cluster control root stands is e)
    enable_led None e =
        bare_pin t Enable (λ w named. record { kind = Logic; kind_is = logic_tile parts rows plan pullups on t cluster stands; within = tt; found = named; reads = refl }) (unasked (λ (x : Control). x.enable) e)
        (no_chain t Enable (λ i f. let g : Enable ≡ Input i 3 = f in cc))

    reset_led : (o : Option Root) → control.reset ≡ o → IsLed parts plan wanted (wire_named parts t (pin_name SetReset)) o
    reset_led (Some root) e = led_end t SetReset root (reset_end parts plan t cluster control root stands is e)
    reset_led None e =
        bare_pin t SetReset (λ w named. record { kind = Logic; kind_is = logic_tile parts rows plan pullups on t cluster stands; within = tt; found = named; reads = refl }) (unasked (λ (x : Control). x.reset) e)
        (no_chain t SetReset (λ i f. let g : SetReset ≡ Input i 3 = f in cc))

    controls_led : IsControlLed parts plan wanted t control
    controls_led = record { clock = clock_led control.clock refl; enable = enable_led control.enable refl; reset = reset_led control.reset refl }

  -- ---- pads
  module _ (k : ℕ) (pad : Pad) (port : DesignPad) (a : At plan.ports k pad) (b : At plan.design.pads k port) (there : IsSocket parts pad) where
    -- a pad that reads nothing
    undriven : (of : DesignPad → Option Root) → of port ≡ None → (root : Root)
        → (j : ℕ) × (other : Pad) × (q : DesignPad) × At plan.ports j other × At plan.design.pads j q × (other.tile ≡ pad.tile) × (other.pio ≡ pad.pio) × (of q ≡ Some root) → ⊥
    undriven of e root (j, other, q, c, d, tile, pio, reads) =
        let pads_same : other ≡ pad = λ i. record { tile = tile i; pio = pio i } in
        let ports : j ≡ k = on.placed.pads.apart j k pad (c ∙ ap Some pads_same) a in
        let same : q ≡ port = At_same plan.design.pads k q port (subst (λ n. At plan.design.pads n q) ports d) b in
        none-some root (sym e ∙ ap of (sym same) ∙ reads)

    drive_led : (o : Option Root) → port.drive ≡ o → IsLed parts plan wanted (wire_named parts pad.tile (pin_name (Drive pad.pio))) o
    drive_led (Some root) e = led_end pad.tile (Drive pad.pio) root (drive_end parts plan k pad port root a b e)
    drive_led None e = by (socket_pin parts on.lawful pad there)
      where
        by : IsSocketInput parts pad ⊎ IsSocketOutput parts pad → IsLed parts plan wanted (wire_named parts pad.tile (pin_name (Drive pad.pio))) None
        by (inl input) = bare_pin pad.tile (Drive pad.pio) input (undriven (λ (x : DesignPad). x.drive) e) (no_chain pad.tile (Drive pad.pio) (λ i f. let g : Drive pad.pio ≡ Input i 3 = f in cc))
        by (inr output) = λ w named. out_bare parts rows plan pullups on routes trees pad.tile (driven_wire pad.pio) w (output w named)

    drive_enable_led : kind_at parts pad.tile ≡ Some Io → (o : Option Root) → port.enable ≡ o → IsLed parts plan wanted (wire_named parts pad.tile (pin_name (DriveEnable pad.pio))) o
    drive_enable_led io (Some root) e = led_end pad.tile (DriveEnable pad.pio) root (drive_enable_end parts plan k pad port root a b e)
    drive_enable_led io None e =
        bare_pin pad.tile (DriveEnable pad.pio) (λ w named. record { kind = Io; kind_is = io; within = pio_below parts rows plan pullups on k pad a io; found = named; reads = refl }) (undriven (λ (x : DesignPad). x.enable) e)
        (no_chain pad.tile (DriveEnable pad.pio) (λ i f. let g : DriveEnable pad.pio ≡ Input i 3 = f in cc))

    port_led : IsPadLed parts plan wanted pad port
    port_led = record { drive = drive_led port.drive refl; enable = λ known. drive_enable_led (io_pad parts on.lawful pad known).0 port.enable refl }

  -- ---- global buffers
  feed_led : (g n : ℕ) (root : Option Root) (t : TileAt) → At plan.globals g n → At plan.design.globals g root → is_direct plan g ≡ false → global_of parts n ≡ Some t
      → IsLed parts plan wanted (wire_named parts t fabout_name) root
  feed_led g n (Some root) t a b not_direct e = led_end t Feed root (feed_end parts plan g n t root a b not_direct e)
  feed_led g n None t a b not_direct e =
      bare_pin t Feed (λ w named. record { kind = Io; kind_is = io; within = tt; found = named; reads = refl }) unfed (no_chain t Feed (λ i f. let q : Feed ≡ Input i 3 = f in cc))
    where
      io : kind_at parts t ≡ Some Io
      io = let fed = on.placed.pads.fed g n a not_direct in (io_wire parts t fabout_name (subst (λ u. has_io_wire parts u fabout_name ≡ true) (same_Some fed.tile t (sym fed.feeds ∙ e)) fed.fabout)).0

      unfed : (root : Root) → Asks parts plan t Feed root → ⊥
      unfed root (h, m, c, d, fed, f) =
          let same : h ≡ g = on.placed.pads.others h g m n t c a fed not_direct f e in
          let nothing : Some root ≡ None = At_same plan.design.globals g (Some root) None (subst (λ j. At plan.design.globals j (Some root)) same d) b in
          none-some root (sym nothing)

  pub pins_led : ArePinsLed parts plan wanted (held_by parts plan routes)
  pins_led = record { fixed = fixed; free = free_led; controls = controls_led; ports = port_led; feeds = feed_led }
