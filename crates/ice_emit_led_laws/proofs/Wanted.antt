-- Each wanted row is a row of a tree, or a link.
use Rattle.std.proofs.Common.{◌≡◌, ◌⊎◌, ℕ, zero, suc, ◌+◌, Bool, true, Option, Some, List, inl, inr, map, refl, sym, ap, ◌∙◌, subst, true≢false, arith}
use Rattle.std.specs.Prelude.{filter_map, flat_map, not}
use Rattle.std.proofs.lemmas.Bool.{and_parts}
use Rattle.std.proofs.lemmas.Option.{same_Some, slice_get_within}
use Rattle.ice_base.specs.declared.number.RowNo.{RowNo}
use Rattle.ice_base.specs.declared.number.TileAt.{TileAt}
use Rattle.ice_base.specs.declared.number.WireNo.{WireNo}
use Rattle.ice_base.proofs.Booleans.{not_true}
use Rattle.ice_base_values.specs.Order.{At, Has}
use Rattle.ice_base_values.proofs.Members.{map_At}
use Rattle.ice_chip.specs.Database.{Parts, PackageRows, SwitchGroup, SwitchRow}
use Rattle.ice_chip.specs.Lookups.{wire_named}
use Rattle.ice_chip.specs.Names.{input_name}
use Rattle.ice_chip.specs.WireNames.{carry_out_name, first_carry_name}
use Rattle.ice_chip.specs.declared.rows.TileKind.TheVariants.{Logic}
use Rattle.ice_chip_names.specs.declared.wire_names.TileWire.{TileWire}
use Rattle.ice_chip_names.specs.declared.wire_names.TileWire.TheVariants as named
use Rattle.ice_decode.specs.declared.driver.Switch.{Switch}
use Rattle.ice_decode.proofs.Members.{Has_right, Has_append_cases}
use Rattle.ice_bits_rows.specs.Sound.{is_sound}
use Rattle.ice_bits_rows.specs.WireNames.{has_output_name, has_closed_name}
use Rattle.ice_cells.specs.declared.cell.LogicCell.{LogicCell}
use Rattle.ice_cells.specs.declared.cluster.Cluster.{Cluster}
use Rattle.ice_cells.specs.declared.root.Root.{Root}
use Rattle.ice_place_defs.specs.Plan.{Plan}
use Rattle.ice_fabric.specs.Edges.{usable_rows}
use Rattle.ice_place_defs.specs.Loads.{Pin}
use Rattle.ice_emit_nets.specs.Ends.{End, ends, wire_no}
use Rattle.ice_graph.specs.Leading.{Route}
use Rattle.ice_emit_rows_laws.specs.Wanted.{IsRowOf}
use Rattle.ice_emit_rows_laws.proofs.Mapped.{Has_mapped_by}
use Rattle.ice_emit_defs.specs.Led.{IsLinked, IsLink}
use Rattle.ice_emit_defs.specs.Links.{tree_switch, carry_source, all_links}
use Rattle.ice_emit_defs.specs.Routed.{AreTrees}
use Rattle.ice_emit_defs.specs.Slots.{IsOn, StandsIn}
use Rattle.ice_emit_defs.specs.Written.{route_rows, wanted_rows}
use Rattle.ice_emit_led_laws.specs.Trees.{IsOnChip, IsTreeOf, IsTreeRow}
use Rattle.ice_emit_led_laws.specs.Pins.{IsInput, wire_of}
use Rattle.ice_emit_led_laws.specs.Reads.{Reads}
use Rattle.ice_emit_led_laws.proofs.Pins.{input_named, inputs_same}
use Rattle.ice_emit_led_laws.proofs.Lists.{flat_Has}
use Rattle.ice_emit_led_laws.proofs.Places.{logic_tile, slot_below}
use Rattle.ice_emit_led_laws.proofs.Ends.{each_end}
use Rattle.ice_emit_led_laws.proofs.Reading.{reads_input}
use Rattle.ice_emit_led_laws.proofs.Roots.{at_below}
use Rattle.ice_emit_led_laws.proofs.Edges.{IsSwitchOf, usable_switch}
use Rattle.ice_emit_led_laws.proofs.Growing.{entered}
use Rattle.ice_emit_led_laws.proofs.Trees.{tree_lead, tree_at, tree_input}
use Rattle.ice_emit_led_laws.proofs.Linked.{IsCellLink, IsChunkLink, IsFirst, IsBelow, tile_below, link_is, cell_link, chunk_link}

-- the switch is a sound row of a group
pub record IsSoundRow (parts : Parts) (s : Switch) : Type 0 where
  pub group : SwitchGroup
  pub row_in : SwitchRow
  pub is_row : IsRowOf parts s group row_in
  pub sound : is_sound parts group s.row.0 row_in ≡ true

module _ (parts : Parts) (rows : PackageRows) (plan : Plan) (pullups : List Bool) (on : IsOnChip parts rows plan pullups) (routes : List Route) (trees : AreTrees parts plan routes) where
  -- ---- rows of trees
  tree_row : (n : ℕ) (route : Route) (row : RowNo) (s : Switch) → At routes n route → Has route.rows row → tree_switch parts row ≡ Some s → IsTreeRow parts plan routes s × IsSoundRow parts s
  tree_row n route row s at has numbered =
      let tree = tree_at parts rows plan pullups on routes trees n route at in
      let growing = (tree_lead parts rows plan pullups on routes trees tree.0 route tree.1).growing in
      let w = at_below route.wires (has.0 + 1) (let a = slice_get_within route.rows has.0 row has.1 in let b = growing.long in omega (arith, a, b)) in
      let got = growing.grows has.0 row w.0 has.1 w.1 in
      let switch_of = usable_switch parts on.lawful.rows got.0 got.1 in
      let same : switch_of.0 ≡ s = same_Some switch_of.0 s (sym switch_of.1.numbered ∙ ap (tree_switch parts) got.2 ∙ numbered) in
      let is : IsSwitchOf parts got.0 s = subst (IsSwitchOf parts got.0) same switch_of.1 in (
        record {
          root = tree.0;
          route = route;
          tree = tree.1;
          place = has.0;
          row = subst (λ (r : RowNo). At route.rows has.0 r) (sym (is.row ∙ got.2)) has.1;
          numbered = ap (tree_switch parts) (is.row ∙ got.2) ∙ numbered;
          source = (got.4.0, subst (λ (v : WireNo). At route.wires got.4.0 v) (sym is.source) got.4.2);
          target = subst (λ (v : WireNo). At route.wires (has.0 + 1) v) (sym (is.target ∙ got.3)) w.1;
          leave = is.leave;
          enter = is.enter;
        },
        record { group = is.group; row_in = is.row_in; is_row = is.is_row; sound = is.sound },
      )

  -- a wire of a tree that a row may not enter is its root's
  pub not_entered : (root : Root) (route : Route) (w : WireNo) (tree : IsTreeOf parts plan routes root route) → Has route.wires w → has_output_name parts w.0 ≡ true → w ≡ wire_no tree.net.0
  not_entered root route w tree (zero, at) out = same_Some w (wire_no tree.net.0) (sym at ∙ (tree_lead parts rows plan pullups on routes trees root route tree).growing.starts)
  not_entered root route w tree (suc j, at) out =
      let e = entered (usable_rows parts) (wire_no tree.net.0) route (tree_lead parts rows plan pullups on routes trees root route tree).growing j w at in
      let s = usable_switch parts on.lawful.rows e.edge e.there in
      let none = not_true (has_output_name parts s.0.target.0) (and_parts (not (has_output_name parts s.0.target.0)) (not (has_closed_name parts s.0.target.0)) s.1.enter).0 in
      absurd (true≢false (sym out ∙ ap (λ (v : WireNo). has_output_name parts v.0) (sym (s.1.target ∙ e.to)) ∙ none))

  -- ---- links
  pub link_of : (s : Switch) → IsCellLink parts plan s ⊎ IsChunkLink parts plan s → IsLink parts plan s
  link_of s (inl l) = inl (l.tile, l.place, l.number, l.cell, l.stands, l.chained, l.from, l.to)
  link_of s (inr l) =
      let b = tile_below parts rows plan pullups on l.tile l.cluster l.run l.chunk l.on l.run_is in
      inr (l.tile, b.low, l.cluster, b.below, l.run, l.chunk, l.on, l.run_is, b.on, b.run_is, b.out ∙ sym b.into ∙ l.from, l.to)

  -- ---- all wanted rows
  pub wanted_told : (s : Switch) → Has (wanted_rows parts plan routes) s → (IsTreeRow parts plan routes s ⊎ ((IsCellLink parts plan s ⊎ IsChunkLink parts plan s) × IsFirst parts s)) × IsSoundRow parts s
  wanted_told s has =
      elim (Has_append_cases (filter_map (tree_switch parts) (flat_map (λ (row_list : List RowNo). row_list) (map route_rows routes))) (all_links parts plan.design.cells plan.at plan.clusters) s has) [
        | inl tree ↦ (
            let row = Has_mapped_by (tree_switch parts) (flat_map (λ (row_list : List RowNo). row_list) (map route_rows routes)) s tree in
            let list = flat_Has (λ (row_list : List RowNo). row_list) (map route_rows routes) row.0 row.1 in
            let route = map_At route_rows routes list.0 list.1 list.2 in
            let got = tree_row list.0 route.0 row.0 s route.1 (subst (λ (xs : List RowNo). Has xs row.0) (sym route.2) list.3) row.2 in
            (inl got.0, got.1))
        | inr link ↦ (
            let got = link_is parts rows plan pullups on s link in
            (inr got, record { group = got.1.group; row_in = got.1.row_in; is_row = got.1.is_row; sound = got.1.sound }))
      ]

  pub wanted_is : (s : Switch) → Has (wanted_rows parts plan routes) s → IsTreeRow parts plan routes s ⊎ IsLink parts plan s
  wanted_is s has = elim (wanted_told s has).0 [ inl tree ↦ inl tree | inr link ↦ inr (link_of s link.0) ]

  link_wanted : (source target : Option ℕ) → IsLinked (all_links parts plan.design.cells plan.at plan.clusters) source target → IsLinked (wanted_rows parts plan routes) source target
  link_wanted source target l =
      (l.0, Has_right (filter_map (tree_switch parts) (flat_map (λ (row_list : List RowNo). row_list) (map route_rows routes))) (all_links parts plan.design.cells plan.at plan.clusters) l.0 l.1, l.2, l.3)

  pub cell_linked : (t : TileAt) (i c : ℕ) (cell : LogicCell) → StandsIn plan t i c cell → cell.carry_to_in3 ≡ true → IsLinked (wanted_rows parts plan routes) (carry_source parts t i) (wire_named parts t (input_name i 3))
  cell_linked t i c cell stands chained = link_wanted (carry_source parts t i) (wire_named parts t (input_name i 3)) (cell_link parts rows plan pullups on t i c cell stands chained)

  pub chunk_linked : (t : TileAt) (cluster : Cluster) (r k : ℕ) → IsOn plan t cluster → cluster.run ≡ Some (r, suc k)
      → (b : IsBelow parts plan t r k) × IsLinked (wanted_rows parts plan routes) (wire_named parts b.low (carry_out_name 7)) (wire_named parts t first_carry_name)
  chunk_linked t cluster r k is e =
      let b = tile_below parts rows plan pullups on t cluster r k is e in
      let l = chunk_link parts rows plan pullups on t cluster r k is e in
      (b, link_wanted (wire_named parts b.low (carry_out_name 7)) (wire_named parts t first_carry_name) (l.0, l.1, b.out ∙ sym b.into ∙ l.2, l.3))

  -- ---- pins that wanted rows enter
  -- where a tree's row enters an input, a pin of that name reads the tree's root
  pub entered_pin : (s : Switch) (p : IsTreeRow parts plan routes s) (t : TileAt) (wire : TileWire) → IsInput parts t wire s.target.0
      → (e : End) × (pin : Pin) × Has (ends parts plan) e × (e.0 ≡ p.root) × Has e.1 s.target × (wire_of pin ≡ wire) × Reads parts plan t pin e.0
  entered_pin s p t wire input =
      let e = tree_input parts rows plan pullups on routes trees p.root p.route s.target p.tree (p.place + 1, p.target) (input_named parts on.lawful on.names t wire s.target.0 input) in
      let target = (each_end parts plan e.0 e.1).targets s.target e.3 in
      let same = inputs_same parts on.lawful on.names target.0 t (wire_of target.1) wire s.target.0 (reads_input parts rows plan pullups on target.0 target.1 e.0.0 s.target.0 target.2 target.3) input in
      (e.0, target.1, e.1, e.2, e.3, same.0, subst (λ (u : TileAt). Reads parts plan u target.1 e.0.0) same.1 target.2)

  -- a link enters an input
  pub cell_input : (s : Switch) (l : IsCellLink parts plan s) → IsInput parts l.tile (named.CellInput l.place 3) s.target.0
  cell_input s l = record {
    kind = Logic;
    kind_is = logic_tile parts rows plan pullups on l.tile l.stands.cluster l.stands.on;
    within = (slot_below parts rows plan pullups on l.tile l.place l.number l.cell l.stands, omega arith);
    found = l.to;
    reads = refl;
  }

  pub chunk_input : (s : Switch) (l : IsChunkLink parts plan s) → IsInput parts l.tile named.FirstCarry s.target.0
  chunk_input s l = record { kind = Logic; kind_is = logic_tile parts rows plan pullups on l.tile l.cluster l.on; within = tt; found = l.to; reads = refl }

  pub link_input : (s : Switch) → IsCellLink parts plan s ⊎ IsChunkLink parts plan s → (t : TileAt) × (wire : TileWire) × IsInput parts t wire s.target.0
  link_input s (inl l) = (l.tile, named.CellInput l.place 3, cell_input s l)
  link_input s (inr l) = (l.tile, named.FirstCarry, chunk_input s l)
