-- Trees of nets that are routed.
use Rattle.std.proofs.Common.{◌≡◌, ℕ, zero, suc, ◌+◌, ◌≤◌, ◌<◌, true, cond, List, [], ◌∷◌, ◌++◌, Option, length, map, get_or, slice_get, refl, sym, ap, ◌∙◌, subst, arith, add-one}
use Rattle.std.proofs.lemmas.List.{length-map}
use Rattle.std.proofs.lemmas.List.Sums.{sum_by-cons}
use Rattle.std.proofs.lemmas.Option.{same_Some, slice_get_within, slice_get-get_or}
use Rattle.std.specs.Prelude.{Some}
use Rattle.ice_base.specs.declared.number.WireNo.{WireNo}
use Rattle.ice_base_values.specs.Order.{At, Has}
use Rattle.ice_base_values.proofs.Members.{map_At}
use Rattle.ice_base_values.proofs.Places.{At_push_new}
use Rattle.ice_chip.specs.Database.{Parts}
use Rattle.ice_core.specs.Moves.{holds, occupancy}
use Rattle.ice_core.specs.declared.net.Net.{Net}
use Rattle.ice_fabric.specs.Edges.{usable_rows}
use Rattle.ice_graph.specs.Network.{Network}
use Rattle.ice_graph.specs.declared.edge.Edge.{Edge}
use Rattle.ice_graph.specs.declared.tree.Tree.{Tree}
use Rattle.ice_negotiate_defs.proofs.Leading.{rounds_lead}
use Rattle.ice_negotiate_defs.proofs.Leaving.{stands_at}
use Rattle.ice_graph.specs.Leading.{Leads}
use Rattle.ice_negotiate_defs.specs.Leading.{OpeningLeads}
use Rattle.ice_negotiate_defs.specs.Logs.{AreRoutedFrom}
use Rattle.ice_negotiate_defs.specs.Rounds.{Past, AreRoundsFrom}
use Rattle.ice_graph.specs.Leading.{Route, route_of}
use Rattle.ice_negotiate_defs.specs.declared.fault.Routed.{Routed}
use Rattle.ice_emit_nets.specs.Ends.{wire_no}
use Rattle.ice_emit_nets.specs.Nets.{Bare, bare_net, nets_of}
use Rattle.ice_place_defs.specs.Plan.{Plan}
use Rattle.ice_emit_defs.specs.Routed.{AreTrees}
use Rattle.ice_emit_nets_laws.specs.Routing.{IsFabric, AreNetsOf}

-- ---- a wire that at most one tree holds
split : (w : ℕ) (t : Tree) (trees : List Tree) → occupancy (t ∷ trees) w ≡ cond (holds w t) 1 0 + occupancy trees w
split w t trees = sum_by-cons (λ (y : Tree). cond (holds w y) 1 0) t trees

counts_one : (w : ℕ) (t tree : Tree) → Some t ≡ Some tree → holds w tree ≡ true → cond (holds w t) 1 0 ≡ suc zero
counts_one w t tree at is = ap (λ b. cond b 1 0) (ap (holds w) (same_Some t tree at) ∙ is)

counted : (w : ℕ) (trees : List Tree) (j : ℕ) (tree : Tree) → At trees j tree → holds w tree ≡ true → 1 ≤ occupancy trees w
counted w [] j tree at is = absurd (cc)
counted w (t ∷ trees) zero tree at is = omega (arith, split w t trees, counts_one w t tree at is)
counted w (t ∷ trees) (suc j) tree at is = omega (arith, split w t trees, counted w trees j tree at is)

one_place : (w : ℕ) (trees : List Tree) (j k : ℕ) (one other : Tree) → occupancy trees w ≤ 1 → At trees j one → At trees k other → holds w one ≡ true → holds w other ≡ true → j ≡ k
one_place w [] j k one other few a b here there = absurd (cc)
one_place w (t ∷ trees) zero zero one other few a b here there = refl
one_place w (t ∷ trees) zero (suc k) one other few a b here there = absurd (omega (arith, few, split w t trees, counts_one w t one a here, counted w trees k other b there))
one_place w (t ∷ trees) (suc j) zero one other few a b here there = absurd (omega (arith, few, split w t trees, counts_one w t other b there, counted w trees j one a here))
one_place w (t ∷ trees) (suc j) (suc k) one other few a b here there = ap suc (one_place w trees j k one other (omega (arith, few, split w t trees)) a b here there)

held : (tree : Tree) (w : WireNo) → Has tree.wires.items w → holds w.0 tree ≡ true
held tree w has = stands_at tree.wires.items has.0 w has.1

-- ---- each round leaves a tree for each net
round_long : (graph : Network) (nets : List Net) (opening : Option (List (Option Tree))) (rounds : List Past) → AreRoundsFrom graph nets opening rounds → (k : ℕ) (one : Past) → slice_get rounds k ≡ Some one → length one.trees ≡ length nets
round_long graph nets opening rounds h zero one at = (h.first one at).done.news
round_long graph nets opening rounds h (suc k) one at =
    let lt : k < length rounds = (let l = slice_get_within rounds (suc k) one at in omega (arith, l)) in
    let next : slice_get rounds (k + 1) ≡ Some one = ap (λ j. slice_get rounds j) (add-one k) ∙ at in
    (h.follow k (get_or rounds k one) one (slice_get-get_or rounds k one lt) next).done.news

module _ (parts : Parts) (plan : Plan) (graph : Network) (nets : List Net) (opening : Option (List (Option Tree))) (permitted : ℕ) (routed : Routed)
    (fabric : IsFabric parts graph) (bare : AreNetsOf parts plan nets) (leads : OpeningLeads graph nets opening) (h : AreRoutedFrom graph nets opening permitted routed) where
  last_at : slice_get (h.earlier ++ h.last ∷ []) (length h.earlier) ≡ Some h.last
  last_at = At_push_new h.earlier h.last

  long : length h.last.trees ≡ length nets
  long = round_long graph nets opening (h.earlier ++ h.last ∷ []) h.rounds (length h.earlier) h.last last_at

  -- a route of the answer is that of a tree of the last round
  tree_of : (n : ℕ) (route : Route) → At (map route_of routed.trees.items) n route → (tree : Tree) × At h.last.trees n tree × (route_of tree ≡ route)
  tree_of n route at = let found = map_At route_of routed.trees.items n route at in (found.0, subst (λ (ts : List Tree). At ts n found.0) h.trees found.1, found.2)

  net_of : (n : ℕ) (net : Bare) → At (nets_of parts plan) n net → (one : Net) × At nets n one × (bare_net one ≡ net)
  net_of n net at = map_At bare_net nets n net (subst (λ (all : List Bare). At all n net) (sym bare) at)

  -- the wires of a tree have counts
  below : (n : ℕ) (tree : Tree) (w : WireNo) → At h.last.trees n tree → Has tree.wires.items w → w.0 < length h.last.counts
  below n tree w at has = (h.rounds.counted (length h.earlier) h.last last_at).1.within n tree at has.0 w has.1

  wires_are : length h.last.counts ≡ parts.wires
  wires_are = (h.rounds.counted (length h.earlier) h.last last_at).0 ∙ fabric.wires

  held_by_one : (n : ℕ) (tree : Tree) (w : WireNo) → At h.last.trees n tree → Has tree.wires.items w → occupancy h.last.trees w.0 ≤ 1
  held_by_one n tree w at has =
      let e = (h.rounds.counted (length h.earlier) h.last last_at).1.each w.0 (below n tree w at has) in
      let few = h.free w.0 in
      omega (arith, e, few)

  led : (n : ℕ) (net : Bare) (route : Route) → At (nets_of parts plan) n net → At (map route_of routed.trees.items) n route → Leads (usable_rows parts) (wire_no net.0) net.1 route
  led n net route at there =
      let one = net_of n net at in
      let tree = tree_of n route there in
      let lead : Leads graph.edges one.0.root one.0.sinks.items (route_of tree.0) = rounds_lead graph nets opening (h.earlier ++ h.last ∷ []) leads h.rounds (length h.earlier) n h.last one.0 tree.0 last_at one.1 tree.1 in
      let over : Leads (usable_rows parts) one.0.root one.0.sinks.items (route_of tree.0) = subst (λ (edges : List Edge). Leads edges one.0.root one.0.sinks.items (route_of tree.0)) fabric.edges lead in
      let of_net : Leads (usable_rows parts) (wire_no net.0) net.1 (route_of tree.0) = subst (λ (b : Bare). Leads (usable_rows parts) (wire_no b.0) b.1 (route_of tree.0)) one.2 over in
      subst (λ (r : Route). Leads (usable_rows parts) (wire_no net.0) net.1 r) tree.2 of_net

  pub are_trees : AreTrees parts plan (map route_of routed.trees.items)
  are_trees = record {
    count = length-map routed.trees.items route_of ∙ ap length h.trees ∙ long ∙ sym (length-map nets bare_net) ∙ ap length bare;
    lead = led;
    within = λ n route w at has. (
        let tree = tree_of n route at in
        let in_tree : Has tree.0.wires.items w = subst (λ (r : Route). Has r.wires w) (sym tree.2) has in
        subst (λ m. w.0 < m) wires_are (below n tree.0 w tree.1 in_tree));
    apart = λ j k one other w a b here there. (
        let first = tree_of j one a in
        let second = tree_of k other b in
        let in_first : Has first.0.wires.items w = subst (λ (r : Route). Has r.wires w) (sym first.2) here in
        let in_second : Has second.0.wires.items w = subst (λ (r : Route). Has r.wires w) (sym second.2) there in
        one_place w.0 h.last.trees j k first.0 second.0 (held_by_one j first.0 w first.1 in_first) first.1 second.1 (held first.0 w in_first) (held second.0 w in_second));
  }
