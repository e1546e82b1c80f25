-- Sinks that are joined one by one make a tree that leads to them.
use Rattle.std.proofs.Common.{◌≡◌, ◌⊎◌, ℕ, zero, suc, ◌+◌, ◌≤◌, ◌<◌, Option, None, Some, List, [], ◌∷◌, ◌++◌, length, map, get_or, slice_get, inl, inr, refl, sym, ap, ◌∙◌, subst, arith, add-one}
use Rattle.std.proofs.lemmas.Option.{same_Some, slice_get_within, slice_get-get_or}
use Rattle.std.proofs.lemmas.List.{length_push, append_assoc, append-nil}
use Rattle.ice_base.specs.declared.number.WireNo.{WireNo}
use Rattle.ice_base.specs.declared.number.NetNo.{NetNo}
use Rattle.ice_graph.specs.declared.edge.Edge.{Edge}
use Rattle.ice_graph.specs.declared.tree.Tree.{Tree}
use Rattle.ice_graph.specs.Network.{Network}
use Rattle.ice_core.specs.declared.net.Net.{Net}
use Rattle.ice_core.specs.Congestion.{price as price_of}
use Rattle.ice_base_values.specs.Order.{At, Has}
use Rattle.ice_base_values.proofs.Places.{At_push_cases, At_push_old, At_push_new}
use Rattle.ice_path.specs.Walks.{HasEdge, InTree, IsWalk}
use Rattle.ice_path.proofs.Taking.{taken_cheapest}
use Rattle.ice_path.proofs.Settling.{price_positive}
use Rattle.ice_negotiate_defs.specs.Trees.{AreOnce, Route, bare, extended, AreJoined, IsTree, route_of}
use Rattle.ice_negotiate_defs.specs.Rounds.{Past, AreRoundsFrom, BeginsWith, IsRound, IsOneOf, MoveFirst}
use Rattle.ice_negotiate_defs.proofs.Joining.{once_first, taken_once}
use Rattle.ice_negotiate_defs.proofs.Openings.{begun_kept, stays_kept}
use Rattle.ice_negotiate_defs.specs.Leading.{Grows, IsLeft, AreEnds, Leads, OpeningLeads}

wire_same : (v w : WireNo) → v.0 ≡ w.0 → v ≡ w
wire_same v w e = λ i. record { 0 = e i }

-- the route with one edge more
abbrev longer : Route → Edge → Route
longer route e = record { wires = route.wires ++ e.to ∷ []; rows = route.rows ++ e.row ∷ [] }

extended_none : (route : Route) → extended route [] ≡ route
extended_none route =
    let w : route.wires ++ [] ≡ route.wires = append-nil route.wires in
    let r : route.rows ++ [] ≡ route.rows = append-nil route.rows in
    λ i. record { wires = w i; rows = r i }

extended_more : (route : Route) (e : Edge) (path : List Edge) → extended route (e ∷ path) ≡ extended (longer route e) path
extended_more route e path =
    let w : route.wires ++ e.to ∷ map (λ (x : Edge). x.to) path ≡ (route.wires ++ e.to ∷ []) ++ map (λ (x : Edge). x.to) path = sym (append_assoc route.wires (e.to ∷ []) (map (λ (x : Edge). x.to) path)) in
    let r : route.rows ++ e.row ∷ map (λ (x : Edge). x.row) path ≡ (route.rows ++ e.row ∷ []) ++ map (λ (x : Edge). x.row) path = sym (append_assoc route.rows (e.row ∷ []) (map (λ (x : Edge). x.row) path)) in
    λ i. record { wires = w i; rows = r i }

module _ (edges : List Edge) (root : WireNo) where
  grows_more : (route : Route) (e : Edge) → Grows edges root route → HasEdge edges e → Has route.wires e.from → Grows edges root (longer route e)
  grows_more route e g has from = record {
    starts = At_push_old route.wires e.to 0 root g.starts;
    long = (let a = length_push route.wires e.to in let b = length_push route.rows e.row in let l = g.long in omega (arith, a, b, l));
    grows = λ i row w ar aw. elim (At_push_cases route.rows e.row i row ar) [
      | inl old ↦ elim (At_push_cases route.wires e.to (i + 1) w aw) [
        | inl here ↦ (let got = g.grows i row w old here in (got.0, got.1, got.2, got.3, (got.4.0, got.4.1, At_push_old route.wires e.to got.4.0 got.0.from got.4.2)))
        | inr last ↦ absurd (let b = slice_get_within route.rows i row old in let l = g.long in omega (arith, b, last.0, l))
      ]
      | inr new ↦ elim (At_push_cases route.wires e.to (i + 1) w aw) [
        | inl here ↦ absurd (let b = slice_get_within route.wires (i + 1) w here in let l = g.long in omega (arith, b, new.0, l))
        | inr last ↦ (let b = slice_get_within route.wires from.0 e.from from.1 in let l = g.long in
            (e, has, new.1, last.1, (from.0, omega (arith, b, new.0, l), At_push_old route.wires e.to from.0 e.from from.1)))
      ]
    ];
  }

  left_more : (route : Route) (e : Edge) (w : WireNo) → IsLeft edges route w → IsLeft edges (longer route e) w
  left_more route e w left = (left.0, left.1, (left.2.0, At_push_old route.rows e.row left.2.0 left.0.row left.2.1), left.3)

  -- what a walk out of the tip of a route leaves
  pub record Walked (Old : WireNo → Type 0) (route next : Route) (end : ℕ) : Type 0 where
    pub growing : Grows edges root next
    pub left : (w : WireNo) → Has next.wires w → (w.0 ≡ end) ⊎ (Old w ⊎ IsLeft edges next w)
    pub tip : InTree next.wires end
    pub kept : (w : WireNo) → Has route.wires w → Has next.wires w

  walked : (Old : WireNo → Type 0) (route : Route) (tip : ℕ) (path : List Edge) (end : ℕ) → Grows edges root route → ((w : WireNo) → Has route.wires w → (w.0 ≡ tip) ⊎ (Old w ⊎ IsLeft edges route w)) → InTree route.wires tip → IsWalk edges tip path end
      → Walked Old route (extended route path) end
  walked Old route tip [] end g all in' walk = subst (λ (x : Route). Walked Old route x end) (sym (extended_none route)) (record {
    growing = g;
    left = λ w has. elim (all w has) [ inl t ↦ inl (t ∙ walk) | inr o ↦ inr o ];
    tip = (in'.0, in'.1, in'.2, in'.3 ∙ walk);
    kept = λ w has. has;
  })
  walked Old route tip (e ∷ path) end g all in' walk =
      let source : in'.1 ≡ e.from = wire_same in'.1 e.from (in'.3 ∙ sym walk.1) in
      let from : Has route.wires e.from = (in'.0, subst (λ (v : WireNo). At route.wires in'.0 v) source in'.2) in
      let new : Has (route.rows ++ e.row ∷ []) e.row = (length route.rows, At_push_new route.rows e.row) in
      let more : (w : WireNo) → Has (longer route e).wires w → (w.0 ≡ e.to.0) ⊎ (Old w ⊎ IsLeft edges (longer route e) w) = λ w has. elim (At_push_cases route.wires e.to has.0 w has.1) [
        | inl old ↦ elim (all w (has.0, old)) [
          | inl t ↦ inr (inr (e, walk.0, new, wire_same e.from w (walk.1 ∙ sym t)))
          | inr (inl o) ↦ inr (inl o)
          | inr (inr l) ↦ inr (inr (left_more route e w l))
        ]
        | inr last ↦ inl (ap (λ (v : WireNo). v.0) (sym last.1))
      ] in
      let rest = walked Old (longer route e) e.to.0 path end (grows_more route e g walk.0 from) more (length route.wires, e.to, At_push_new route.wires e.to, refl) walk.2 in
      subst (λ (x : Route). Walked Old route x end) (sym (extended_more route e path)) (record {
        growing = rest.growing;
        left = rest.left;
        tip = rest.tip;
        kept = λ w has. rest.kept w (has.0, At_push_old route.wires e.to has.0 w has.1);
      })

  -- what joining sinks leaves: the ends so far are old ones
  pub record Led (Old : WireNo → Type 0) (sinks : List (List WireNo)) (route whole : Route) : Type 0 where
    pub growing : Grows edges root whole
    pub ends : List WireNo
    pub are_ends : AreEnds sinks ends whole.wires
    pub leaves : (w : WireNo) → Has whole.wires w → Old w ⊎ (Has ends w ⊎ IsLeft edges whole w)
    pub kept : (w : WireNo) → Has route.wires w → Has whole.wires w

  joined : (price : ℕ → ℕ) (Old : WireNo → Type 0) (route : Route) (sinks : List (List WireNo)) (whole : Route) → Grows edges root route → ((w : WireNo) → Has route.wires w → Old w ⊎ IsLeft edges route w)
      → AreJoined edges price route sinks whole → Led Old sinks route whole
  joined price Old route [] whole g leaves same = subst (λ (x : Route). Led Old [] route x) same (record {
    growing = g;
    ends = [];
    are_ends = tt;
    leaves = λ w has. elim (leaves w has) [ inl o ↦ inl o | inr l ↦ inr (inr l) ];
    kept = λ w has. has;
  })
  joined price Old route (targets ∷ sinks) whole g leaves (next, (path, chosen, is), rest) =
      let t : WireNo = chosen.0 in
      let walk = (taken_cheapest edges price route.wires t.0 path chosen.3).0 in
      let got = walked Old route walk.0 path t.0 g (λ w has. inr (leaves w has)) walk.1 walk.2 in
      let New : WireNo → Type 0 = λ w. Old w ⊎ (w ≡ t) in
      let more : (w : WireNo) → Has (extended route path).wires w → New w ⊎ IsLeft edges (extended route path) w = λ w has. elim (got.left w has) [
        | inl end ↦ inl (inr (wire_same w t end))
        | inr (inl o) ↦ inl (inl o)
        | inr (inr l) ↦ inr l
      ] in
      let ih = joined price New (extended route path) sinks whole got.growing more (subst (λ (x : Route). AreJoined edges price x sinks whole) is rest) in
      let tip : Has (extended route path).wires t = (got.tip.0, subst (λ (v : WireNo). At (extended route path).wires got.tip.0 v) (wire_same got.tip.1 t got.tip.3) got.tip.2) in
      record {
        growing = ih.growing;
        ends = t ∷ ih.ends;
        are_ends = ((chosen.2.place, chosen.2.stands), ih.kept t tip, ih.are_ends);
        leaves = λ w has. elim (ih.leaves w has) [
          | inl (inl o) ↦ inl o
          | inl (inr end) ↦ inr (inl (0, ap (λ (v : WireNo). Some v) (sym end)))
          | inr (inl e) ↦ inr (inl (suc e.0, e.1))
          | inr (inr l) ↦ inr (inr l)
        ];
        kept = λ w has. ih.kept w (got.kept w has);
      }

-- sinks that are joined enter no wire twice
joined_once : (edges : List Edge) (price : ℕ → ℕ) (positive : (v : ℕ) → 1 ≤ price v) (route : Route) (sinks : List (List WireNo)) (whole : Route) → AreOnce route.wires → AreJoined edges price route sinks whole → AreOnce whole.wires
joined_once edges price positive route [] whole once same = subst (λ (x : Route). AreOnce x.wires) same once
joined_once edges price positive route (targets ∷ sinks) whole once (next, (path, chosen, is), rest) =
    let more : AreOnce (extended route path).wires = taken_once edges price route.wires positive once chosen.0.0 path chosen.3 in
    joined_once edges price positive next sinks whole (subst (λ (x : Route). AreOnce x.wires) (sym is) more) rest

pub trees_lead : (edges : List Edge) (price : ℕ → ℕ) (root : WireNo) (sinks : List (List WireNo)) (route : Route) → ((v : ℕ) → 1 ≤ price v) → IsTree edges price root sinks route → Leads edges root sinks route
trees_lead edges price root sinks route positive tree =
    let led = joined edges root price (λ w. w ≡ root) (bare root) sinks route (record { starts = refl; long = refl; grows = λ i row w ar aw. absurd (cc) }) (λ w has. only w has.0 has.1) tree in
    record { growing = led.growing; once = joined_once edges price positive (bare root) sinks route (once_first root (root ∷ []) refl) tree; ends = led.ends; are_ends = led.are_ends; leaves = led.leaves }
  where
    only : (w : WireNo) (k : ℕ) → At (root ∷ []) k w → (w ≡ root) ⊎ IsLeft edges (bare root) w
    only w zero at = inl (sym (same_Some root w at))
    only w (suc k) at = absurd (cc)

-- where the trees with which they began do, the trees of all rounds lead
abbrev LeadsTo : Network → Net → Tree → Type 0
LeadsTo graph net tree = Leads graph.edges net.root net.sinks.items (route_of tree)

module _ (graph : Network) (nets : List Net) (n : ℕ) (net : Net) (at : slice_get nets n ≡ Some net) where
  -- a round gives a tree to each net that moves, and leaves that of each other
  after_round : (round : ℕ) (history counts : List ℕ) (moved : List NetNo) (old new : List Tree) (tree : Tree) → IsRound graph nets round history counts moved old new → slice_get new n ≡ Some tree
      → ((before : Tree) → slice_get old n ≡ Some before → (IsOneOf moved n → ⊥) → LeadsTo graph net before) → LeadsTo graph net tree
  after_round round history counts moved old new tree h here kept =
      let lt : n < length old = (let l = slice_get_within nets n net at in let o = h.olds in omega (arith, l, o)) in
      let before : Tree = get_or old n tree in
      let was = slice_get-get_or old n tree lt in
      elim (h.each n net before tree at was here) [
        | inl m ↦ trees_lead graph.edges (price_of m.1.prices) net.root net.sinks.items (route_of tree) (price_positive m.1.prices) m.1.joined
        | inr k ↦ subst (LeadsTo graph net) k.1 (kept before was k.0)
      ]

  -- what a net that stays in the first round begins with
  begun_leads : (opening : Option (List (Option Tree))) (moved : List NetNo) (before : List Tree) (tree : Tree) → OpeningLeads graph nets opening → MoveFirst (length nets) opening moved → BeginsWith opening before → slice_get before n ≡ Some tree → (IsOneOf moved n → ⊥) → LeadsTo graph net tree
  begun_leads None moved before tree leads moves begins here stays = absurd (stays (n, moves.each n (slice_get_within nets n net at)))
  begun_leads (Some kept) moved before tree leads moves begins here stays =
      let l = slice_get_within nets n net at in
      let t = stays_kept kept n (omega (arith, l, moves.0)) (λ one. stays (subst (λ ms. IsOneOf ms n) (sym moves.1) one)) in
      subst (λ r. Leads graph.edges net.root net.sinks.items r) (sym (begun_kept kept before n t.0 tree begins t.1 here)) (leads n net t.0 at t.1)

  round_tree : (opening : Option (List (Option Tree))) (rounds : List Past) → OpeningLeads graph nets opening → AreRoundsFrom graph nets opening rounds → (k : ℕ) (one : Past) (tree : Tree) → slice_get rounds k ≡ Some one → slice_get one.trees n ≡ Some tree → LeadsTo graph net tree
  round_tree opening rounds leads h zero one tree here has =
      let first = h.first one here in
      after_round 1 one.history first.counts one.moved first.before one.trees tree first.done has
      (λ before was stays. begun_leads opening one.moved first.before before leads first.movers first.begins was stays)
  round_tree opening rounds leads h (suc k) one tree here has =
      let lt : k < length rounds = (let l = slice_get_within rounds (suc k) one here in omega (arith, l)) in
      let earlier : Past = get_or rounds k one in
      let was = slice_get-get_or rounds k one lt in
      let next : slice_get rounds (k + 1) ≡ Some one = ap (λ j. slice_get rounds j) (add-one k) ∙ here in
      let follows = h.follow k earlier one was next in
      after_round one.round one.history earlier.counts one.moved earlier.trees one.trees tree follows.done has
      (λ before is none. round_tree opening rounds leads h k earlier before was is)

pub rounds_lead : (graph : Network) (nets : List Net) (opening : Option (List (Option Tree))) (rounds : List Past) → OpeningLeads graph nets opening → AreRoundsFrom graph nets opening rounds → (k n : ℕ) (one : Past) (net : Net) (tree : Tree)
    → slice_get rounds k ≡ Some one → slice_get nets n ≡ Some net → slice_get one.trees n ≡ Some tree → Leads graph.edges net.root net.sinks.items (route_of tree)
rounds_lead graph nets opening rounds leads h k n one net tree here at has = round_tree graph nets n net at opening rounds leads h k one tree here has
