-- The trees of the nets of a placed design.
use Rattle.std.proofs.Common.{◌≡◌, ℕ, zero, suc, ◌+◌, ◌<◌, Bool, true, false, cond, not, Option, None, Some, List, [], ◌∷◌, ◌++◌, inl, inr, length, refl, sym, ap, ◌∙◌, subst, true≢false, arith}
use Rattle.std.specs.Prelude.{map, filter_map, flat_map, nat_eq}
use Rattle.std.specs.List.{range_with_len, cons_option}
use Rattle.std.proofs.lemmas.Bool.{and_parts}
use Rattle.std.proofs.lemmas.Option.{none-some, same_Some, slice_get_within}
use Rattle.ice_base.specs.declared.number.RowNo.{RowNo}
use Rattle.ice_base.specs.declared.number.WireNo.{WireNo}
use Rattle.ice_base.proofs.Booleans.{not_true}
use Rattle.ice_base.proofs.Keys.{nat_same, nat_self}
use Rattle.ice_base_values.specs.Order.{At, Has}
use Rattle.ice_base_values.proofs.Members.{Has_none, At_map, Has_map}
use Rattle.ice_base_values.proofs.Places.{At_same}
use Rattle.ice_chip.specs.Database.{Parts, PackageRows}
use Rattle.ice_graph.specs.declared.edge.Edge.{Edge}
use Rattle.ice_decode.specs.declared.driver.Switch.{Switch}
use Rattle.ice_decode.proofs.Members.{At_range, Has_left, Has_right}
use Rattle.ice_bits_rows.specs.WireNames.{has_input_name, has_closed_name, may_leave}
use Rattle.ice_cells.specs.Formed.{IsRootOf}
use Rattle.ice_cells.specs.Readings.{is_read}
use Rattle.ice_cells.specs.Same.{same_root}
use Rattle.ice_cells.specs.declared.root.Root.{Root}
use Rattle.ice_cells.specs.declared.root.Root.TheVariants.{PadIn, CellOut, GlobalOut, CarryOut}
use Rattle.ice_place_defs.specs.Plan.{Plan}
use Rattle.ice_fabric.specs.Edges.{usable_rows}
use Rattle.ice_emit_nets.specs.Ends.{End, ends, wire_no}
use Rattle.ice_emit_nets.specs.Nets.{Bare, pad_root, cell_root, global_root, root_wire, roots, target_of, sinks_of, net_with, net_of, nets_of}
use Rattle.ice_graph.specs.Walks.{HasEdge}
use Rattle.ice_graph.specs.Leading.{Route}
use Rattle.ice_graph.specs.Leading.{Leads}
use Rattle.ice_emit_rows_laws.proofs.Mapped.{Has_mapped_by, mapped_by_Has}
use Rattle.ice_emit_defs.specs.Led.{LeadFrom}
use Rattle.ice_emit_defs.specs.Links.{tree_switch, all_links}
use Rattle.ice_emit_defs.specs.Routed.{AreTrees}
use Rattle.ice_emit_defs.specs.Written.{tree_from, held_from, held_by, route_rows, wanted_rows}
use Rattle.ice_emit_led_laws.specs.Pins.{wire_of}
use Rattle.ice_emit_led_laws.specs.Reads.{AreApart}
use Rattle.ice_emit_led_laws.specs.Trees.{IsOnChip, IsTreeOf}
use Rattle.ice_emit_led_laws.proofs.Pins.{input_named, input_of, in_or_out}
use Rattle.ice_emit_led_laws.proofs.Ends.{each_end}
use Rattle.ice_emit_led_laws.proofs.Lists.{Has_flat}
use Rattle.ice_emit_led_laws.proofs.Reading.{end_read, reads_input}
use Rattle.ice_emit_led_laws.proofs.Roots.{root_same, root_self, at_below, root_of_design, root_at, root_wired, roots_apart}
use Rattle.ice_emit_led_laws.proofs.Edges.{usable_switch}
use Rattle.ice_emit_led_laws.proofs.Growing.{tree_leads, end_is, sink_has}

-- ---- nets
pub net_told : (wire : Option ℕ) (sinks : List (List WireNo)) (net : Bare) → net_with wire sinks ≡ Some net → (wire ≡ Some net.0) × (net.1 ≡ sinks) × ((targets : List WireNo) × Has sinks targets)
net_told None sinks net e = absurd (none-some net e)
net_told (Some w) [] net e = absurd (none-some net e)
net_told (Some w) (sink ∷ sinks) net e =
    let same : (w, sink ∷ sinks) ≡ net = same_Some (w, sink ∷ sinks) net e in
    (ap (λ (n : Bare). Some n.0) same, ap (λ (n : Bare). n.1) (sym same), (sink, (0, refl)))

net_there : (w : ℕ) (sinks : List (List WireNo)) (targets : List WireNo) → Has sinks targets → net_with (Some w) sinks ≡ Some (w, sinks)
net_there w [] targets has = absurd (Has_none targets has)
net_there w (sink ∷ sinks) targets has = refl

in_range : (n k : ℕ) → k < n → Has (range_with_len 0 n) k
in_range n k lt = let e : 0 + k ≡ k = omega arith in (k, subst (λ (m : ℕ). At (range_with_len 0 n) k m) e (At_range 0 n k lt))

-- a sink of a root
pub sink_told : (all : List End) (root : Root) (targets : List WireNo) → Has (sinks_of all root) targets → (e : End) × Has all e × (e.0 ≡ root) × (e.1 ≡ targets)
sink_told all root targets has = let got = Has_mapped_by (target_of root) all targets has in let same = by {e = got.0} (same_root got.0.0 root) refl got.2 in (got.0, got.1, same.0, same.1)
  where
    by : {e : End} (b : Bool) → same_root e.0 root ≡ b → cond b (Some e.1) None ≡ Some targets → (e.0 ≡ root) × (e.1 ≡ targets)
    by {e = e} true is f = (root_same e.0 root is, same_Some e.1 targets f)
    by false is f = absurd (none-some targets f)

sink_there : (all : List End) (root : Root) (e : End) → Has all e → e.0 ≡ root → Has (sinks_of all root) e.1
sink_there all root e has same =
    mapped_by_Has (target_of root) all e e.1 has (ap (λ (b : Bool). cond b (Some e.1) None) (ap (same_root e.0) (sym same) ∙ root_self e.0))

root_in : (plan : Plan) (d_pads : length plan.ports ≡ length plan.design.pads) (d_globals : length plan.globals ≡ length plan.design.globals) (root : Root) → IsRootOf plan.design root → Has (roots plan) root
root_in plan pads globals (PadIn k) lt =
    Has_left (map pad_root (range_with_len 0 (length plan.ports)) ++ map cell_root (range_with_len 0 (length plan.design.cells))) (map global_root (range_with_len 0 (length plan.globals))) (PadIn k)
    (Has_left (map pad_root (range_with_len 0 (length plan.ports))) (map cell_root (range_with_len 0 (length plan.design.cells))) (PadIn k)
    (Has_map pad_root (range_with_len 0 (length plan.ports)) k (in_range (length plan.ports) k (omega (arith, pads, lt)))))
root_in plan pads globals (CellOut c) lt =
    Has_left (map pad_root (range_with_len 0 (length plan.ports)) ++ map cell_root (range_with_len 0 (length plan.design.cells))) (map global_root (range_with_len 0 (length plan.globals))) (CellOut c)
    (Has_right (map pad_root (range_with_len 0 (length plan.ports))) (map cell_root (range_with_len 0 (length plan.design.cells))) (CellOut c)
    (Has_map cell_root (range_with_len 0 (length plan.design.cells)) c (in_range (length plan.design.cells) c lt)))
root_in plan pads globals (GlobalOut g) lt =
    Has_right (map pad_root (range_with_len 0 (length plan.ports)) ++ map cell_root (range_with_len 0 (length plan.design.cells))) (map global_root (range_with_len 0 (length plan.globals))) (GlobalOut g)
    (Has_map global_root (range_with_len 0 (length plan.globals)) g (in_range (length plan.globals) g (omega (arith, globals, lt))))
root_in plan pads globals (CarryOut c) never = absurd never

-- ---- the tree that begins at a wire
passed_over : (wires : List WireNo) (rows : List RowNo) (routes : List Route) (v : ℕ) → (At wires 0 (wire_no v) → ⊥) → tree_from (record { wires = wires; rows = rows } ∷ routes) v ≡ tree_from routes v
passed_over [] rows routes v other = refl
passed_over (first ∷ wires) rows routes v other = by (nat_eq first.0 v) refl
  where
    by : (b : Bool) → nat_eq first.0 v ≡ b → cond b (first ∷ wires) (tree_from routes v) ≡ tree_from routes v
    by true is = absurd (other (let e = nat_same first.0 v is in λ i. Some (record { 0 = e i })))
    by false is = refl

taken : (wires : List WireNo) (rows : List RowNo) (routes : List Route) (v : ℕ) → At wires 0 (wire_no v) → tree_from (record { wires = wires; rows = rows } ∷ routes) v ≡ wires
taken [] rows routes v starts = absurd (none-some (wire_no v) starts)
taken (first ∷ wires) rows routes v starts =
    let is : nat_eq first.0 v ≡ true = ap (λ (w : WireNo). nat_eq w.0 v) (same_Some first (wire_no v) starts) ∙ nat_self v in
    ap (λ (b : Bool). cond b (first ∷ wires) (tree_from routes v)) is

tree_is : (routes : List Route) (n : ℕ) (route : Route) (v : ℕ) → At routes n route → At route.wires 0 (wire_no v) → ((j : ℕ) (other : Route) → At routes j other → At other.wires 0 (wire_no v) → j ≡ n) → tree_from routes v ≡ route.wires
tree_is [] n route v at starts only = absurd (none-some route at)
tree_is (first ∷ routes) zero route v at starts only =
    let same : first ≡ route = same_Some first route at in
    taken first.wires first.rows routes v (subst (λ (r : Route). At r.wires 0 (wire_no v)) (sym same) starts) ∙ ap (λ (r : Route). r.wires) same
tree_is (first ∷ routes) (suc n) route v at starts only =
    passed_over first.wires first.rows routes v (λ begins. let e : 0 ≡ suc n = only 0 first refl begins in absurd (omega (arith, e)))
    ∙ tree_is routes n route v at starts (λ j other there begins. let e : suc j ≡ suc n = only (suc j) other there begins in omega (arith, e))

-- ---- sinks apart
apart_behind : (e : End) (all : List End) → AreApart (e ∷ all) → AreApart all
apart_behind e all apart j k one other w at_one at_other same has_one has_other = let f : suc j ≡ suc k = apart (suc j) (suc k) one other w at_one at_other same has_one has_other in omega (arith, f)

sinks_apart : (all : List End) (root : Root) → AreApart all → (k l : ℕ) (ts us : List WireNo) (w : WireNo) → At (sinks_of all root) k ts → At (sinks_of all root) l us → Has ts w → Has us w → k ≡ l
sinks_apart [] root apart k l ts us w at_k at_l has_k has_l = absurd (none-some ts at_k)
sinks_apart (e ∷ all) root apart k l ts us w at_k at_l has_k has_l =
    by (same_root e.0 root) refl k l at_k at_l (λ i j at at_other. sinks_apart all root (apart_behind e all apart) i j ts us w at at_other has_k has_l)
  where
    -- the first sink shares no target with a later one
    never : (vs : List WireNo) → e.0 ≡ root → Has e.1 w → Has (sinks_of all root) vs → Has vs w → ⊥
    never vs is here later has =
        let got = sink_told all root vs later in
        let f : 0 ≡ suc got.1.0 = apart 0 (suc got.1.0) e got.0 w refl got.1.1 (is ∙ sym got.2) here (subst (λ (xs : List WireNo). Has xs w) (sym got.3) has) in
        absurd (omega (arith, f))

    by : (b : Bool) → same_root e.0 root ≡ b → (k l : ℕ) → At (cons_option (cond b (Some e.1) None) (sinks_of all root)) k ts → At (cons_option (cond b (Some e.1) None) (sinks_of all root)) l us
        → ((i j : ℕ) → At (sinks_of all root) i ts → At (sinks_of all root) j us → i ≡ j) → k ≡ l
    by false is k l at at_other rest = rest k l at at_other
    by true is zero zero at at_other rest = refl
    by true is zero (suc l) at at_other rest = absurd (never us (root_same e.0 root is) (subst (λ (xs : List WireNo). Has xs w) (sym (same_Some e.1 ts at)) has_k) (l, at_other) has_l)
    by true is (suc k) zero at at_other rest = absurd (never ts (root_same e.0 root is) (subst (λ (xs : List WireNo). Has xs w) (sym (same_Some e.1 us at_other)) has_l) (k, at) has_k)
    by true is (suc k) (suc l) at at_other rest = ap suc (rest k l at at_other)

-- ---- rows of trees
row_wanted : (parts : Parts) (plan : Plan) (routes : List Route) (n : ℕ) (route : Route) (row : RowNo) (s : Switch) → At routes n route → Has route.rows row → tree_switch parts row ≡ Some s → Has (wanted_rows parts plan routes) s
row_wanted parts plan routes n route row s at has is =
    Has_left (filter_map (tree_switch parts) (flat_map (λ (rows : List RowNo). rows) (map route_rows routes))) (all_links parts plan.design.cells plan.at plan.clusters) s
    (mapped_by_Has (tree_switch parts) (flat_map (λ (rows : List RowNo). rows) (map route_rows routes)) row s
    (Has_flat (λ (rows : List RowNo). rows) (map route_rows routes) n route.rows row (At_map route_rows routes n route at) has) is)

module _ (parts : Parts) (rows : PackageRows) (plan : Plan) (pullups : List Bool) (on : IsOnChip parts rows plan pullups) (routes : List Route) (trees : AreTrees parts plan routes) where
  -- ---- nets and their trees
  pub tree_lead : (root : Root) (route : Route) (tree : IsTreeOf parts plan routes root route) → Leads (usable_rows parts) (wire_no tree.net.0) tree.net.1 route
  tree_lead root route tree = trees.lead tree.number tree.net route tree.net_is tree.route_is

  -- each route is the tree of some root's net
  pub tree_at : (n : ℕ) (route : Route) → At routes n route → (root : Root) × IsTreeOf parts plan routes root route
  tree_at n route at =
      let net = at_below (nets_of parts plan) n (let a = slice_get_within routes n route at in let b = trees.count in omega (arith, a, b)) in
      let got = Has_mapped_by (net_of parts plan (ends parts plan)) (roots plan) net.0 (n, net.1) in
      let told = net_told (root_wire parts plan got.0) (sinks_of (ends parts plan) got.0) net.0 got.2 in
      let e = sink_told (ends parts plan) got.0 told.2.0 told.2.1 in (
        got.0,
        record {
          number = n;
          net = net.0;
          net_is = net.1;
          route_is = at;
          wire = told.0;
          sinks = told.1;
          read = subst (λ (r : Root). is_read plan.design r ≡ true) e.2 (end_read parts rows plan pullups on e.0 e.1);
        },
      )

  -- the root of each sink has a net with a tree
  pub end_has_tree : (e : End) → Has (ends parts plan) e → (route : Route) × IsTreeOf parts plan routes e.0 route
  end_has_tree e has =
      let read = end_read parts rows plan pullups on e has in
      let wire = root_wired parts rows plan pullups on e.0 read in
      let sinks : List (List WireNo) = sinks_of (ends parts plan) e.0 in
      let is : net_of parts plan (ends parts plan) e.0 ≡ Some (wire.0, sinks) =
      ap (λ (o : Option ℕ). net_with o sinks) wire.1 ∙ net_there wire.0 sinks e.1 (sink_there (ends parts plan) e.0 e has refl) in
      let net = mapped_by_Has (net_of parts plan (ends parts plan)) (roots plan) e.0 (wire.0, sinks)
      (root_in plan on.placed.pads.ports on.placed.pads.globals e.0 (root_of_design parts rows plan pullups on e.0 read)) is in
      let route = at_below routes net.0 (let a = slice_get_within (nets_of parts plan) net.0 (wire.0, sinks) net.1 in let b = trees.count in omega (arith, a, b)) in
      (route.0, record { number = net.0; net = (wire.0, sinks); net_is = net.1; route_is = route.1; wire = wire.1; sinks = refl; read = read })

  -- the wires that are held of a root are those of its tree
  pub tree_held : (root : Root) (route : Route) → IsTreeOf parts plan routes root route → held_by parts plan routes root ≡ route.wires
  tree_held root route tree =
      let starts = (tree_lead root route tree).growing.starts in
      ap (held_from routes) tree.wire
      ∙ tree_is routes tree.number route tree.net.0 tree.route_is starts (λ j other there begins. trees.apart j tree.number other route (wire_no tree.net.0) there tree.route_is (0, begins) (0, starts))

  -- a wire is in one tree
  pub one_tree : (a b : Root) (one other : Route) (w : WireNo) → IsTreeOf parts plan routes a one → IsTreeOf parts plan routes b other → Has one.wires w → Has other.wires w → (a ≡ b) × (one ≡ other)
  one_tree a b one other w p q has_one has_other =
      let number : p.number ≡ q.number = trees.apart p.number q.number one other w p.route_is q.route_is has_one has_other in
      let nets : p.net ≡ q.net = At_same (nets_of parts plan) q.number p.net q.net (subst (λ (n : ℕ). At (nets_of parts plan) n p.net) number p.net_is) q.net_is in (
        roots_apart parts rows plan pullups on a b q.net.0 p.read q.read (p.wire ∙ ap (λ (n : Bare). Some n.0) nets) q.wire,
        At_same routes q.number one other (subst (λ (n : ℕ). At routes n one) number p.route_is) q.route_is,
      )

  -- ---- rows of a tree
  pub edge_on : (root : Root) (route : Route) → IsTreeOf parts plan routes root route → (e : Edge) → HasEdge (usable_rows parts) e → Has route.rows e.row
      → (s : Switch) × Has (wanted_rows parts plan routes) s × (s.source ≡ e.from) × (s.target ≡ e.to)
  edge_on root route tree e there has =
      let s = usable_switch parts on.lawful.rows e there in
      (s.0, row_wanted parts plan routes tree.number route e.row s.0 tree.route_is has s.1.numbered, s.1.source, s.1.target)

  -- wanted rows lead from the root to each wire of its tree
  pub tree_led : (root : Root) (route : Route) (w : WireNo) → IsTreeOf parts plan routes root route → Has route.wires w
      → (v : ℕ) × (root_wire parts plan root ≡ Some v) × LeadFrom (wanted_rows parts plan routes) w (wire_no v)
  tree_led root route w tree has =
      (tree.net.0, tree.wire, tree_leads (usable_rows parts) (wire_no tree.net.0) route (tree_lead root route tree).growing (wanted_rows parts plan routes) (edge_on root route tree) w has)

  -- ---- pins that a tree enters
  -- a wire of the tree with an input name is the end of a sink
  end_at : (root : Root) (route : Route) (w : WireNo) (tree : IsTreeOf parts plan routes root route) → Has route.wires w → has_input_name parts w.0 ≡ true
      → (k : ℕ) × (targets : List WireNo) × At (tree_lead root route tree).ends k w × At tree.net.1 k targets × Has targets w
  end_at root route w tree has input =
      let lead = tree_lead root route tree in
      elim (lead.leaves w has) [
        | inl first ↦ absurd (of_root (subst (λ (v : WireNo). has_input_name parts v.0 ≡ true) first input))
        | inr (inl end) ↦ end_is tree.net.1 lead.ends route.wires w lead.are_ends end
        | inr (inr left) ↦ absurd (
            let s = usable_switch parts on.lawful.rows left.0 left.1 in
            let leave : may_leave parts w.0 ≡ true = subst (λ (v : WireNo). may_leave parts v.0 ≡ true) (s.1.source ∙ left.3) s.1.leave in
            let no_input = not_true (has_input_name parts w.0) (and_parts (not (has_input_name parts w.0)) (not (has_closed_name parts w.0)) leave).0 in
            true≢false (sym input ∙ no_input))
      ]
    where
      of_root : has_input_name parts tree.net.0 ≡ true → ⊥
      of_root e =
          let in_ = input_of parts on.lawful on.names tree.net.0 e in
          let out = root_at parts rows plan pullups on root tree.net.0 tree.read tree.wire in
          in_or_out parts on.lawful on.names in_.0 out.0 in_.1 out.1 tree.net.0 in_.2 out.3

  pub tree_input : (root : Root) (route : Route) (w : WireNo) → IsTreeOf parts plan routes root route → Has route.wires w → has_input_name parts w.0 ≡ true
      → (e : End) × Has (ends parts plan) e × (e.0 ≡ root) × Has e.1 w
  tree_input root route w tree has input =
      let end = end_at root route w tree has input in
      let e = sink_told (ends parts plan) root end.1 (subst (λ (xs : List (List WireNo)). Has xs end.1) tree.sinks (end.0, end.3)) in
      (e.0, e.1, e.2, subst (λ (ts : List WireNo). Has ts w) (sym e.3) end.4)

  -- the tree holds a target of each sink of its root
  pub tree_joins : (root : Root) (route : Route) → IsTreeOf parts plan routes root route → (e : End) → Has (ends parts plan) e → e.0 ≡ root → (w : WireNo) × Has e.1 w × Has route.wires w
  tree_joins root route tree e has same =
      let sink = subst (λ (xs : List (List WireNo)). Has xs e.1) (sym tree.sinks) (sink_there (ends parts plan) root e has same) in
      let lead = tree_lead root route tree in
      let got = sink_has tree.net.1 lead.ends route.wires sink.0 e.1 lead.are_ends sink.1 in
      (got.0, got.2, got.3)

  -- and no other, where no two sinks of one root share a target
  pub tree_once : AreApart (ends parts plan) → (root : Root) (route : Route) → IsTreeOf parts plan routes root route → (e : End) → Has (ends parts plan) e → e.0 ≡ root → (v w : WireNo)
      → Has e.1 v → Has e.1 w → Has route.wires v → Has route.wires w → v ≡ w
  tree_once apart root route tree e has same v w at_v at_w in_v in_w =
      let sink = subst (λ (xs : List (List WireNo)). Has xs e.1) (sym tree.sinks) (sink_there (ends parts plan) root e has same) in
      let end_v = end_at root route v tree in_v (named v at_v) in
      let end_w = end_at root route w tree in_w (named w at_w) in
      let one : end_v.0 ≡ sink.0 = place end_v.0 sink.0 end_v.1 e.1 v end_v.3 sink.1 end_v.4 at_v in
      let other : end_w.0 ≡ sink.0 = place end_w.0 sink.0 end_w.1 e.1 w end_w.3 sink.1 end_w.4 at_w in
      let ends_of : List WireNo = (tree_lead root route tree).ends in
      At_same ends_of sink.0 v w (subst (λ (n : ℕ). At ends_of n v) one end_v.2) (subst (λ (n : ℕ). At ends_of n w) other end_w.2)
    where
      named : (u : WireNo) → Has e.1 u → has_input_name parts u.0 ≡ true
      named u at =
          let t = (each_end parts plan e has).targets u at in
          input_named parts on.lawful on.names t.0 (wire_of t.1) u.0 (reads_input parts rows plan pullups on t.0 t.1 e.0 u.0 t.2 t.3)

      place : (k l : ℕ) (ts us : List WireNo) (u : WireNo) → At tree.net.1 k ts → At tree.net.1 l us → Has ts u → Has us u → k ≡ l
      place k l ts us u at_k at_l has_k has_l =
          sinks_apart (ends parts plan) root apart k l ts us u (subst (λ (xs : List (List WireNo)). At xs k ts) tree.sinks at_k) (subst (λ (xs : List (List WireNo)). At xs l us) tree.sinks at_l) has_k has_l
