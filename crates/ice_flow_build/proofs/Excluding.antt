-- Of one arrangement: routes without a shared wire, a sink that can't be reached, and permitted rounds that all end with an overused wire
-- leave each other out, whatever graph and nets they are stated of.
use Rattle.std.proofs.Common.{◌≡◌, ◌∙◌, ℕ, List, [], ◌∷◌, suc, Bool, true, false, None, Some, length, map, slice_get, replicate, MatchBool, if◌then◌else◌, Result, Ok, inl, inr, refl, sym, ap, subst}
use Rattle.std.proofs.lemmas.Bool.{cases_order}
use Rattle.ice_base.specs.declared.number.NetNo.{NetNo}
use Rattle.ice_base.specs.declared.number.TileAt.{TileAt}
use Rattle.ice_base.specs.declared.number.WireNo.{WireNo}
use Rattle.ice_chip.specs.Database.{Parts}
use Rattle.ice_cells.specs.Ranks.{clusters_by}
use Rattle.ice_cells.specs.declared.cluster.Clusters.{Clusters}
use Rattle.ice_cells.specs.declared.design.Design.{Design}
use Rattle.ice_core.specs.Congestion.{price}
use Rattle.ice_core.specs.declared.log.RoundLog.{RoundLog}
use Rattle.ice_core.specs.declared.net.Net.{Net}
use Rattle.ice_graph.specs.declared.edge.Edge.{Edge}
use Rattle.ice_graph.specs.declared.tree.Tree.{Tree}
use Rattle.ice_graph.specs.Network.{Network}
use Rattle.ice_emit_nets.specs.Nets.{Bare, bare_net}
use Rattle.ice_negotiate_defs.specs.Determined.{OpensAtOne}
use Rattle.ice_negotiate_defs.specs.Fitting.{wholes}
use Rattle.ice_negotiate_defs.specs.Logs.{AllEndOverusedFrom}
use Rattle.ice_negotiate_defs.specs.Tallies.{AreTalliesFrom}
use Rattle.ice_negotiate_defs.specs.Rounds.{Past, IsRound, IsMoved, IsFirstFrom, AreRoundsFrom, AreReachedBefore, IsUnreachable, MoveFirst}
use Rattle.ice_negotiate_defs.specs.declared.kept.Kept.{Kept}
use Rattle.ice_negotiate_defs.specs.declared.kept.Kept.TheVariants.{Whole}
use Rattle.ice_claim_opening.specs.Opened.{IsOpened}
use Rattle.ice_negotiate_defs.specs.Trees.{IsTree, AreReached, IsCause, route_of}
use Rattle.ice_negotiate_defs.specs.declared.stop.TreeStop.TheVariants.{Unreachable}
use Rattle.ice_negotiate_defs.proofs.Fitting.{whole_at}
use Rattle.ice_negotiate_defs.proofs.Repeating.{reached_all}
use Rattle.ice_negotiate_defs.proofs.Unchanged.{verdict_unchanged}
use Rattle.ice_negotiate_defs.specs.declared.fault.Routed.{Routed}
use Rattle.ice_negotiate.specs.Progress.{Opening}
use Rattle.ice_pads.specs.Assign.{PadsData, assign_of}
use Rattle.ice_pads.specs.declared.fault.PinFault.{PinFault}
use Rattle.ice_place.specs.declared.arrangement.Arrangement.{Arrangement}
use Rattle.ice_place_defs.specs.Plan.{Plan}
use Rattle.ice_base_values.proofs.Members.{At_map, map_At}
use Rattle.ice_words.specs.Grips.{Shut}
use Rattle.ice_flow_build.specs.Answers.{IsOpeningOf, IsRouting, IsStuck, IsGivenUp, IsRouted, opening_in}
use Rattle.ice_flow_build.specs.Laid.{Task, IsLaidOut, arrangement_in, plan_in}
use Rattle.ice_flow_build.specs.Placements.{IsRoutedSo, IsStuckOn, IsGivenUpOn}
use Rattle.ice_flow_build.specs.declared.answer.Effort.{Effort}
use Rattle.ice_flow_build.specs.declared.answer.Layout.{Layout}

-- ---- the same nets
-- each net of the others is one of these by its root and its sinks
abbrev AreAlike : List Net → List Net → Type 0
AreAlike nets others = (n : ℕ) (other : Net) → slice_get others n ≡ Some other → (net : Net) × (slice_get nets n ≡ Some net) × (net.root ≡ other.root) × (net.sinks.items ≡ other.sinks.items)

roots_same : (one other : WireNo) → one.0 ≡ other.0 → one ≡ other
roots_same one other e = ap (λ (w : ℕ). record { 0 = w }) e

first_same : (a b : Bare) → a ≡ b → a.0 ≡ b.0
first_same a b e = ap (λ (x : Bare). x.0) e

rest_same : (a b : Bare) → a ≡ b → a.1 ≡ b.1
rest_same a b e = ap (λ (x : Bare). x.1) e

are_alike : (nets others : List Net) → map bare_net nets ≡ map bare_net others → AreAlike nets others
are_alike nets others e n other at =
    let bare = subst (λ (all : List Bare). slice_get all n ≡ Some (bare_net other)) (sym e) (At_map bare_net others n other at) in
    let found = map_At bare_net nets n (bare_net other) bare in
    (found.0, found.1, roots_same found.0.root other.root (first_same (bare_net found.0) (bare_net other) found.2), rest_same (bare_net found.0) (bare_net other) found.2)

-- what the nets of one routing are to another
record AreSameRouting (graph other : Network) (nets others : List Net) : Type 0 where
  edges : graph.edges ≡ other.edges
  wires : graph.wires ≡ other.wires
  long : length nets ≡ length others
  alike : AreAlike nets others

length_bare : (nets : List Net) → length (map bare_net nets) ≡ length nets
length_bare [] = refl
length_bare (net ∷ nets) = ap (λ n. suc n) (length_bare nets)

same_routing : (parts : Parts) (plan : Plan) (graph other : Network) (nets others : List Net) → IsRouting parts plan graph nets → IsRouting parts plan other others → AreSameRouting graph other nets others
same_routing parts plan graph other nets others one two =
    let bare : map bare_net nets ≡ map bare_net others = one.nets_are ∙ sym two.nets_are in
    record {
      edges = one.fabric.edges ∙ sym two.fabric.edges;
      wires = one.fabric.wires ∙ sym two.fabric.wires;
      long = sym (length_bare nets) ∙ ap length bare ∙ length_bare others;
      alike = are_alike nets others bare;
    }

-- ---- what is true of the one is true of the other
reached_as : (edges edges' : List Edge) (net other : Net) → edges ≡ edges' → net.root ≡ other.root → net.sinks.items ≡ other.sinks.items → AreReached edges net.root net.sinks.items
    → AreReached edges' other.root other.sinks.items
reached_as edges edges' net other e r s is =
    subst (λ (es : List Edge). AreReached es other.root other.sinks.items) e
    (subst (λ (root : WireNo). AreReached edges root other.sinks.items) r (subst (λ (sinks : List (List WireNo)). AreReached edges net.root sinks) s is))

reached_before : (graph other : Network) (nets others : List Net) (count : ℕ) → AreSameRouting graph other nets others → AreReachedBefore graph nets count → AreReachedBefore other others count
reached_before graph other nets others count same reached j net lt at =
    let found = same.alike j net at in
    reached_as graph.edges other.edges found.0 net same.edges found.2 found.3 (reached j found.0 lt found.1)

tree_as : (edges edges' : List Edge) (cost : ℕ → ℕ) (net other : Net) (tree : Tree) → edges ≡ edges' → net.root ≡ other.root → net.sinks.items ≡ other.sinks.items
    → IsTree edges cost net.root net.sinks.items (route_of tree) → IsTree edges' cost other.root other.sinks.items (route_of tree)
tree_as edges edges' cost net other tree e r s is =
    subst (λ (es : List Edge). IsTree es cost other.root other.sinks.items (route_of tree)) e
    (subst (λ (root : WireNo). IsTree edges cost root other.sinks.items (route_of tree)) r (subst (λ (sinks : List (List WireNo)). IsTree edges cost net.root sinks (route_of tree)) s is))

moved_as : (graph other : Network) (round : ℕ) (history counts : List ℕ) (moved : List NetNo) (n : ℕ) (net same : Net) (old new : Tree) → graph.edges ≡ other.edges → net.root ≡ same.root
    → net.sinks.items ≡ same.sinks.items → IsMoved graph round history counts moved n net old new → IsMoved other round history counts moved n same old new
moved_as graph other round history counts moved n net same old new e r s (inl (one, moves)) = inl (
  one,
  record {
    prices = moves.prices;
    are_of = moves.are_of;
    joined = tree_as graph.edges other.edges (price moves.prices) net same new e r s moves.joined;
  },
)
moved_as graph other round history counts moved n net same old new e r s (inr stays) = inr stays

round_as : (graph other : Network) (nets others : List Net) (round : ℕ) (history counts : List ℕ) (moved : List NetNo) (old new : List Tree) → AreSameRouting graph other nets others
    → IsRound graph nets round history counts moved old new → IsRound other others round history counts moved old new
round_as graph other nets others round history counts moved old new same is = record {
  olds = is.olds ∙ same.long;
  news = is.news ∙ same.long;
  each = λ n net before after at was now.
      let found = same.alike n net at in
      moved_as graph other round history counts moved n found.0 net before after same.edges found.2 found.3 (is.each n found.0 before after found.1 was now);
}

first_as : (graph other : Network) (nets others : List Net) (opening : Opening) (one : Past) → AreSameRouting graph other nets others → IsFirstFrom graph nets opening one → IsFirstFrom other others opening one
first_as graph other nets others opening one same is = record {
  before = is.before;
  begins = is.begins;
  counts = is.counts;
  long = is.long ∙ same.wires;
  occupied = is.occupied;
  number = is.number;
  fresh = subst (λ (wires : ℕ). one.history ≡ replicate wires 0) same.wires is.fresh;
  movers = subst (λ (n : ℕ). MoveFirst n opening one.moved) same.long is.movers;
  done = round_as graph other nets others 1 one.history is.counts one.moved is.before one.trees same is.done;
}

rounds_as : (graph other : Network) (nets others : List Net) (opening : Opening) (rounds : List Past) → AreSameRouting graph other nets others → AreRoundsFrom graph nets opening rounds → AreRoundsFrom other others opening rounds
rounds_as graph other nets others opening rounds same are = record {
  first = λ one at. first_as graph other nets others opening one same (are.first one at);
  follow = λ k one next at to.
      let is = are.follow k one next at to in
      record {
        number = is.number;
        risen = is.risen;
        movers = is.movers;
        done = round_as graph other nets others next.round next.history one.counts next.moved one.trees next.trees same is.done;
      };
  counted = λ k one at. let is = are.counted k one at in (is.0 ∙ same.wires, is.1);
}

overused_as : (graph other : Network) (nets others : List Net) (opening : Opening) (permitted : ℕ) (logs : List RoundLog) (tallies : List Shut) → AreSameRouting graph other nets others
    → AllEndOverusedFrom graph nets opening permitted logs tallies → AllEndOverusedFrom other others opening permitted logs tallies
overused_as graph other nets others opening permitted logs tallies same all = record {
  past = all.past;
  rounds = rounds_as graph other nets others opening all.past same all.rounds;
  all = all.all;
  overused = all.overused;
  logs_of = all.logs_of;
  tallies_of = subst (λ (wires : ℕ). AreTalliesFrom wires opening all.past tallies) same.wires all.tallies_of;
  reached = subst (λ (n : ℕ). AreReachedBefore other others n) same.long (reached_before graph other nets others (length nets) same all.reached);
}

-- an opening in which nets keep their trees at price 1
opens_as : (graph other : Network) (nets others : List Net) (opening : Opening) → AreSameRouting graph other nets others → OpensAtOne graph nets opening → OpensAtOne other others opening
opens_as graph other nets others None same is = tt
opens_as graph other nets others (Some kept) same is = λ n net tree at here.
    let found = same.alike n net at in
    tree_as graph.edges other.edges (λ w. 1) found.0 net tree same.edges found.2 found.3 (is n found.0 tree found.1 here)

opens_at_one : (graph : Network) (nets : List Net) (effort : Effort) (kept : List Kept) → IsOpeningOf graph nets effort kept → OpensAtOne graph nets (opening_in effort kept)
opens_at_one graph nets effort kept is = by effort.opening is
  where
    by : (asked : Bool) → MatchBool asked (IsOpened graph nets effort.workers kept) (kept ≡ []) → OpensAtOne graph nets (if asked then Some (wholes kept) else None)
    by true opened = λ n net tree at here. (opened.each n net (Whole tree) at (whole_at kept n tree here)).joined
    by false none = tt

-- ---- a sink that can't be reached is the first one
-- of two such sinks of a net
sink_same : (edges : List Edge) (root : WireNo) (sinks : List (List WireNo)) (one other : WireNo) → IsCause edges root sinks (Unreachable one) → IsCause edges root sinks (Unreachable other) → one ≡ other
sink_same edges root sinks one other a b = elim (cases_order a.0 b.0) [
  | inl same ↦ first_of a.1 b.1 one other (targets_same sinks a.0 b.0 a.1 b.1 same a.2 b.2) a.3 b.3
  | inr apart ↦ elim apart [
    | inl lower ↦ absurd (a.4 (b.5 a.0 a.1 lower a.2))
    | inr higher ↦ absurd (b.4 (a.5 b.0 b.1 higher b.2))
  ]
]
  where
    targets_same : (all : List (List WireNo)) (j k : ℕ) (x y : List WireNo) → j ≡ k → slice_get all j ≡ Some x → slice_get all k ≡ Some y → x ≡ y
    targets_same all j k x y e at to = let both : slice_get all k ≡ Some x = subst (λ (i : ℕ). slice_get all i ≡ Some x) e at in cc

    first_of : (x y : List WireNo) (v w : WireNo) → x ≡ y → slice_get x 0 ≡ Some v → slice_get y 0 ≡ Some w → v ≡ w
    first_of x y v w e at to = let both : slice_get y 0 ≡ Some v = subst (λ (ts : List WireNo). slice_get ts 0 ≡ Some v) e at in cc

-- of two such sinks of nets, both on the same nets
stuck_same : (graph : Network) (nets : List Net) (net other : NetNo) (sink last : WireNo) → IsUnreachable graph nets net sink → IsUnreachable graph nets other last → (net ≡ other) × (sink ≡ last)
stuck_same graph nets net other sink last one two = elim (cases_order net.0 other.0) [
  | inl same ↦ (ap (λ (n : ℕ). record { 0 = n }) same, at_one same (net_same nets net.0 other.0 one.the_net two.the_net same one.at two.at))
  | inr apart ↦ elim apart [
    | inl lower ↦ absurd (unreached one.the_net sink one.cause (two.earlier net.0 one.the_net lower one.at))
    | inr higher ↦ absurd (unreached two.the_net last two.cause (one.earlier other.0 two.the_net higher two.at))
  ]
]
  where
    unreached : (the_net : Net) (wire : WireNo) → IsCause graph.edges the_net.root the_net.sinks.items (Unreachable wire) → AreReached graph.edges the_net.root the_net.sinks.items → ⊥
    unreached the_net wire cause reached = cause.4 (reached cause.0 cause.1 cause.2)

    net_same : (all : List Net) (j k : ℕ) (x y : Net) → j ≡ k → slice_get all j ≡ Some x → slice_get all k ≡ Some y → x ≡ y
    net_same all j k x y e at to = let both : slice_get all k ≡ Some x = subst (λ (i : ℕ). slice_get all i ≡ Some x) e at in cc

    at_one : net.0 ≡ other.0 → one.the_net ≡ two.the_net → sink ≡ last
    at_one same e = sink_same graph.edges two.the_net.root two.the_net.sinks.items sink last
        (subst (λ (x : Net). IsCause graph.edges x.root x.sinks.items (Unreachable sink)) e one.cause) two.cause

stuck_as : (graph other : Network) (nets others : List Net) (net : NetNo) (sink : WireNo) → AreSameRouting graph other nets others → AreSameRouting other graph others nets → IsUnreachable graph nets net sink
    → IsUnreachable other others net sink
stuck_as graph other nets others net sink same back is =
    let found = back.alike net.0 is.the_net is.at in
    record {
      the_net = found.0;
      at = found.1;
      cause = cause_as graph.edges other.edges is.the_net found.0 same.edges (sym found.2) (sym found.3) is.cause;
      earlier = reached_before graph other nets others net.0 same is.earlier;
    }
  where
    cause_as : (edges edges' : List Edge) (a b : Net) → edges ≡ edges' → a.root ≡ b.root → a.sinks.items ≡ b.sinks.items → IsCause edges a.root a.sinks.items (Unreachable sink)
        → IsCause edges' b.root b.sinks.items (Unreachable sink)
    cause_as edges edges' a b e r s cause =
        subst (λ (es : List Edge). IsCause es b.root b.sinks.items (Unreachable sink)) e
        (subst (λ (root : WireNo). IsCause edges root b.sinks.items (Unreachable sink)) r (subst (λ (sinks : List (List WireNo)). IsCause edges a.root sinks (Unreachable sink)) s cause))

-- ---- of one placed design
routed_not_stuck : (parts : Parts) (plan : Plan) (effort : Effort) (kept : List Kept) (routed : Routed) (net : NetNo) (sink : WireNo) → IsRouted parts plan effort kept routed → IsStuck parts plan net sink → ⊥
routed_not_stuck parts plan effort kept routed net sink (graph, nets, one, opened, are) (other, others, two, stuck) =
    let same = same_routing parts plan graph other nets others one two in
    reached_all other others net sink (subst (λ (n : ℕ). AreReachedBefore other others n) same.long (reached_before graph other nets others (length nets) same are.reached)) stuck

given_up_not_stuck : (parts : Parts) (plan : Plan) (effort : Effort) (kept : List Kept) (logs : List RoundLog) (tallies : List Shut) (net : NetNo) (sink : WireNo) → IsGivenUp parts plan effort kept logs tallies
    → IsStuck parts plan net sink → ⊥
given_up_not_stuck parts plan effort kept logs tallies net sink (graph, nets, one, opened, all) (other, others, two, stuck) =
    let same = same_routing parts plan graph other nets others one two in
    reached_all other others net sink (subst (λ (n : ℕ). AreReachedBefore other others n) same.long (reached_before graph other nets others (length nets) same all.reached)) stuck

-- whatever two openings they begin from
routed_not_given_up : (parts : Parts) (plan : Plan) (effort : Effort) (kept its : List Kept) (routed : Routed) (logs : List RoundLog) (tallies : List Shut) → IsRouted parts plan effort kept routed
    → IsGivenUp parts plan effort its logs tallies → ⊥
routed_not_given_up parts plan effort kept its routed logs tallies (graph, nets, one, opened, are) (other, others, two, also, all) =
    let same = same_routing parts plan other graph others nets two one in
    verdict_unchanged graph nets (opening_in effort kept) (opening_in effort its) effort.rounds routed logs tallies
    (opens_at_one graph nets effort kept opened) (opens_as other graph others nets (opening_in effort its) same (opens_at_one other others effort its also))
    are (overused_as other graph others nets (opening_in effort its) effort.rounds logs tallies same all)

stuck_at_one : (parts : Parts) (plan : Plan) (net other : NetNo) (sink last : WireNo) → IsStuck parts plan net sink → IsStuck parts plan other last → (net ≡ other) × (sink ≡ last)
stuck_at_one parts plan net other sink last (graph, nets, one, stuck) (graph', nets', two, stuck') =
    stuck_same graph' nets' net other sink last
    (stuck_as graph graph' nets nets' net sink (same_routing parts plan graph graph' nets nets' one two) (same_routing parts plan graph' graph nets' nets two one) stuck) stuck'

-- ---- a task has one placed design with an arrangement
abbrev layout_of : Design → List ℕ → Clusters → PadsData → List TileAt → Layout
layout_of design ranks clusters pads placement = record { design = design; ranks = ranks; clusters = clusters; pads = pads; placement = placement }

one_pads : (said : Result PadsData PinFault) (a b : PadsData) → said ≡ Ok a → said ≡ Ok b → a ≡ b
one_pads said a b e f = cc

same_layout : (task : Task) (a b : Layout) → IsLaidOut task a → IsLaidOut task b → arrangement_in a ≡ arrangement_in b → a ≡ b
same_layout task a b one two e =
    let ranks : a.ranks ≡ b.ranks = ap (λ (x : Arrangement). x.ranks) e in
    let placement : a.placement ≡ b.placement = ap (λ (x : Arrangement). x.placement) e in
    let design : a.design ≡ b.design = one.design ∙ sym two.design in
    let clusters : a.clusters ≡ b.clusters = one.clusters ∙ (λ i. clusters_by (ranks i) (design i)) ∙ sym two.clusters in
    let said = subst (λ (d : Design). assign_of task.parts task.name task.constraints task.circuit task.closing d ≡ Ok a.pads) design one.pads in
    let pads : a.pads ≡ b.pads = one_pads (assign_of task.parts task.name task.constraints task.circuit task.closing b.design) a.pads b.pads said two.pads in
    whole a.design b.design a.ranks b.ranks a.clusters b.clusters a.pads b.pads a.placement b.placement design ranks clusters pads placement
  where
    whole : (d d' : Design) (r r' : List ℕ) (c c' : Clusters) (p p' : PadsData) (t t' : List TileAt) → d ≡ d' → r ≡ r' → c ≡ c' → p ≡ p' → t ≡ t' → layout_of d r c p t ≡ layout_of d' r' c' p' t'
    whole d d' r r' c c' p p' t t' e f g h i = cc

-- ---- of one arrangement
pub routed_not_stuck_on : (task : Task) (effort : Effort) (arrangement : Arrangement) (kept : List Kept) (routed : Routed) (net : NetNo) (sink : WireNo) → IsRoutedSo task effort arrangement kept routed
    → IsStuckOn task arrangement net sink → ⊥
routed_not_stuck_on task effort arrangement kept routed net sink (one, is, on, so) (layout, laid, here, stuck) =
    let same = same_layout task layout one laid is (here ∙ sym on) in
    routed_not_stuck task.parts (plan_in one) effort kept routed net sink so (subst (λ (l : Layout). IsStuck task.parts (plan_in l) net sink) same stuck)

pub routed_not_given_up_on : (task : Task) (effort : Effort) (arrangement : Arrangement) (kept its : List Kept) (routed : Routed) (logs : List RoundLog) (tallies : List Shut) → IsRoutedSo task effort arrangement kept routed
    → IsGivenUpOn task effort arrangement its logs tallies → ⊥
routed_not_given_up_on task effort arrangement kept its routed logs tallies (one, is, on, so) (layout, laid, here, all) =
    let same = same_layout task layout one laid is (here ∙ sym on) in
    routed_not_given_up task.parts (plan_in one) effort kept its routed logs tallies so (subst (λ (l : Layout). IsGivenUp task.parts (plan_in l) effort its logs tallies) same all)

pub given_up_not_stuck_on : (task : Task) (effort : Effort) (arrangement : Arrangement) (kept : List Kept) (logs : List RoundLog) (tallies : List Shut) (net : NetNo) (sink : WireNo) → IsGivenUpOn task effort arrangement kept logs tallies
    → IsStuckOn task arrangement net sink → ⊥
given_up_not_stuck_on task effort arrangement kept logs tallies net sink (layout, laid, here, all) (other, laid', there, stuck) =
    let same = same_layout task other layout laid' laid (there ∙ sym here) in
    given_up_not_stuck task.parts (plan_in layout) effort kept logs tallies net sink all (subst (λ (l : Layout). IsStuck task.parts (plan_in l) net sink) same stuck)

pub stuck_on_one : (task : Task) (arrangement : Arrangement) (net other : NetNo) (sink last : WireNo) → IsStuckOn task arrangement net sink → IsStuckOn task arrangement other last
    → (net ≡ other) × (sink ≡ last)
stuck_on_one task arrangement net other sink last (layout, laid, here, stuck) (layout', laid', there, stuck') =
    let same = same_layout task layout' layout laid' laid (there ∙ sym here) in
    stuck_at_one task.parts (plan_in layout) net other sink last stuck (subst (λ (l : Layout). IsStuck task.parts (plan_in l) other last) same stuck')
