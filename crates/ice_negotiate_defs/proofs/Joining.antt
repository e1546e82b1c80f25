-- One sink more is joined to a tree.
use Rattle.std.proofs.Common.{◌≡◌, ℕ, zero, suc, ◌≤◌, ◌<◌, ◌+◌, List, [], ◌∷◌, ◌++◌, Some, length, get_or, drop, map, slice_get, refl, sym, ap, ◌∙◌, subst, arith, inl, inr, ◌⊎◌}
use Rattle.std.specs.Prelude.{reverse}
use Rattle.std.proofs.lemmas.List.{drop_more, drop_all, append_assoc, append-nil, map-append, reverse-reverse}
use Rattle.std.proofs.lemmas.Grind.{reverse_onto}
use Rattle.std.proofs.lemmas.Bool.{cases_eq}
use Rattle.std.proofs.lemmas.Option.{slice_get-get_or}
use Rattle.ice_base.specs.declared.number.WireNo.{WireNo}
use Rattle.ice_graph.specs.declared.edge.Edge.{Edge}
use Rattle.ice_graph.specs.Network.{Network, AreBetween}
use Rattle.ice_path.specs.Walks.{HasEdge, InTree, IsLabel, IsWalk, NoWalkTo, cost}
use Rattle.ice_path.specs.Paths.{IsTaken, IsTakenTo, LeadBack}
use Rattle.ice_path.proofs.Taking.{label_unique, of_rows_into, taken_cheapest}
use Rattle.ice_path.proofs.Choosing.{choice_unique}
use Rattle.ice_negotiate_defs.proofs.Listing.{pushed}
use Rattle.ice_negotiate_defs.specs.Trees.{AreOnce, Route, bare, extended, IsJoined, AreJoined, IsTree, IsCause, IsReached, IsRooted, IsSinkReached, StopsAt}
use Rattle.ice_negotiate_defs.specs.declared.stop.TreeStop.{TreeStop}
use Rattle.ice_negotiate_defs.specs.declared.stop.TreeStop.TheVariants.{Unreachable, NoMemory}

walks_joined : (edges : List Edge) (a b c : ℕ) (one other : List Edge) → IsWalk edges a one b → IsWalk edges b other c → IsWalk edges a (one ++ other) c
walks_joined edges a b c [] other h k = subst (λ x. IsWalk edges x other c) (sym h) k
walks_joined edges a b c (e ∷ one) other h k = (h.0, h.1, walks_joined edges e.to.0 b c one other h.2 k)

-- a walk leads on from the root to each wire that the walk enters
entered_reached : (edges : List Edge) (root : WireNo) (a b : ℕ) (walk : List Edge) → (start : List Edge) → IsWalk edges root.0 start a → IsWalk edges a walk b → (k : ℕ) (e : Edge) → slice_get walk k ≡ Some e
    → IsReached edges root e.to × HasEdge edges e
entered_reached edges root a b [] start from h k e at = absurd (cc)
entered_reached edges root a b (f ∷ walk) start from h zero e at =
    let same : f ≡ e = (cc) in
    let one : IsWalk edges root.0 (start ++ f ∷ []) f.to.0 = walks_joined edges root.0 a f.to.0 start (f ∷ []) from (h.0, h.1, refl) in
    subst (λ (x : Edge). IsReached edges root x.to × HasEdge edges x) same ((start ++ f ∷ [], one), h.0)
entered_reached edges root a b (f ∷ walk) start from h (suc k) e at =
    entered_reached edges root f.to.0 b walk (start ++ f ∷ []) (walks_joined edges root.0 a f.to.0 start (f ∷ []) from (h.0, h.1, refl)) h.2 k e at

-- an element behind an append is an old one or comes from a new one
append_cases : (wires : List WireNo) (path : List Edge) (k : ℕ) (v : WireNo) → slice_get (wires ++ map (λ (e : Edge). e.to) path) k ≡ Some v
    → (slice_get wires k ≡ Some v) ⊎ ((j : ℕ) × (e : Edge) × (slice_get path j ≡ Some e) × (e.to ≡ v))
append_cases [] [] k v at = absurd (cc)
append_cases [] (e ∷ path) zero v at = (let same : e.to ≡ v = (cc) in inr (0, e, refl, same))
append_cases [] (e ∷ path) (suc k) v at = elim (append_cases [] path k v at) [
  | inl bad ↦ absurd (cc)
  | inr t ↦ inr (suc t.0, t.1, t.2, t.3)
]
append_cases (w ∷ wires) path zero v at = inl at
append_cases (w ∷ wires) path (suc k) v at = append_cases wires path k v at

append_old : (wires more : List WireNo) (k : ℕ) (v : WireNo) → slice_get wires k ≡ Some v → slice_get (wires ++ more) k ≡ Some v
append_old [] more k v at = absurd (cc)
append_old (w ∷ wires) more zero v at = at
append_old (w ∷ wires) more (suc k) v at = append_old wires more k v at

module _ (graph : Network) (root : WireNo) where
  pub rooted_bare : root.0 < graph.wires → IsRooted graph root (root ∷ [])
  rooted_bare lt = record {
    within = λ k v at. (let same = only k v at in subst (λ (x : WireNo). x.0 < graph.wires) same lt);
    root_in = (0, root, refl, refl);
    reached = λ k v at. (let same = only k v at in ([], ap (λ (x : WireNo). x.0) same));
  }
    where
      only : (k : ℕ) (v : WireNo) → slice_get (root ∷ []) k ≡ Some v → root ≡ v
      only zero v at = cc
      only (suc k) v at = absurd (cc)

  -- a wire of the tree, and the walk to it from the root
  in_tree_reached : (wires : List WireNo) → IsRooted graph root wires → (w : ℕ) → InTree wires w → (walk : List Edge) × IsWalk graph.edges root.0 walk w
  in_tree_reached wires h w root' = let t = h.reached root'.0 root'.1 root'.2 in (t.0, subst (λ x. IsWalk graph.edges root.0 t.0 x) root'.3 t.1)

  -- the sink behind a taken path is reached
  pub sink_reached : (price : ℕ → ℕ) (wires targets : List WireNo) (path : List Edge) → IsRooted graph root wires → IsTakenTo graph.edges price wires targets path → IsSinkReached graph.edges root targets
  sink_reached price wires targets path h chosen =
      let sink : WireNo = chosen.0 in
      let t = taken_cheapest graph.edges price wires sink.0 path chosen.3 in
      let start = in_tree_reached wires h t.0.0 t.0.1 in
      (chosen.2.place, sink, chosen.2.stands, (start.0 ++ path, walks_joined graph.edges root.0 t.0.0 sink.0 start.0 path start.1 t.0.2))

  -- the tree with a taken path
  pub rooted_more : (price : ℕ → ℕ) (wires targets : List WireNo) (path : List Edge) → AreBetween graph.wires graph.edges → IsRooted graph root wires → IsTakenTo graph.edges price wires targets path
      → IsRooted graph root (wires ++ map (λ (e : Edge). e.to) path)
  rooted_more price wires targets path between h chosen =
      let sink : WireNo = chosen.0 in
      let t = taken_cheapest graph.edges price wires sink.0 path chosen.3 in
      let start = in_tree_reached wires h t.0.0 t.0.1 in
      let entered = entered_reached graph.edges root t.0.0 sink.0 path start.0 start.1 t.0.2 in
      record {
        within = λ k v at. elim (append_cases wires path k v at) [
          | inl old ↦ h.within k v old
          | inr s ↦ (let e = entered s.0 s.1 s.2 in subst (λ (x : WireNo). x.0 < graph.wires) s.3 (between e.1.0 s.1 e.1.1).1)
        ];
        root_in = (h.root_in.0, h.root_in.1, append_old wires (map (λ (e : Edge). e.to) path) h.root_in.0 h.root_in.1 h.root_in.2, h.root_in.3);
        reached = λ k v at. elim (append_cases wires path k v at) [
          | inl old ↦ h.reached k v old
          | inr s ↦ subst (IsReached graph.edges root) s.3 (entered s.0 s.1 s.2).0
        ];
      }

  -- no walk leads from the tree, so none from the root
  pub unreached : (wires targets : List WireNo) → IsRooted graph root wires → NoWalkTo graph.edges wires targets → IsSinkReached graph.edges root targets → ⊥
  unreached wires targets h none s = none s.1.0 (s.0, s.1, s.2, refl) root.0 s.3.0 h.root_in s.3.1

-- what is left to be joined, from the route so far
pub record GoesOn (edges : List Edge) (price : ℕ → ℕ) (root : WireNo) (sinks : List (List WireNo)) (i : ℕ) (route : Route) : Type 0 where
  pub on : (whole : Route) → AreJoined edges price route (drop i sinks) whole → IsTree edges price root sinks whole

pub goes_first : (edges : List Edge) (price : ℕ → ℕ) (root : WireNo) (sinks : List (List WireNo)) (route : Route) → route ≡ bare root → GoesOn edges price root sinks 0 route
goes_first edges price root sinks route same = record { on = λ whole h. subst (λ r. AreJoined edges price r sinks whole) same h }

pub goes_more : (edges : List Edge) (price : ℕ → ℕ) (root : WireNo) (sinks : List (List WireNo)) (i : ℕ) (d : List WireNo) (route next : Route) → i < length sinks
    → IsJoined edges price route (get_or sinks i d) next → GoesOn edges price root sinks i route → GoesOn edges price root sinks (i + 1) next
goes_more edges price root sinks i d route next lt joined h = record {
  on = λ whole rest. h.on whole (subst (λ xs. AreJoined edges price route xs whole) (sym (drop_more sinks i d lt)) (next, joined, rest));
}

pub goes_last : (edges : List Edge) (price : ℕ → ℕ) (root : WireNo) (sinks : List (List WireNo)) (i : ℕ) (route : Route) → length sinks ≤ i → GoesOn edges price root sinks i route → IsTree edges price root sinks route
goes_last edges price root sinks i route le h = h.on route (subst (λ xs. AreJoined edges price route xs route) (sym (drop_all i sinks le)) refl)

-- the sinks before i + 1 are reached
pub reached_more : (edges : List Edge) (root : WireNo) (sinks : List (List WireNo)) (i : ℕ) (d : List WireNo) → i < length sinks → IsSinkReached edges root (get_or sinks i d)
    → ((k : ℕ) (v : List WireNo) → k < i → slice_get sinks k ≡ Some v → IsSinkReached edges root v) → (k : ℕ) (v : List WireNo) → k < i + 1 → slice_get sinks k ≡ Some v → IsSinkReached edges root v
reached_more edges root sinks i d lt here before k v less at = elim (cases_eq k i) [
  | inl same ↦ (let both : Some v ≡ Some (get_or sinks i d) = sym at ∙ (ap (λ j. slice_get sinks j) same ∙ slice_get-get_or sinks i d lt) in let is : v ≡ get_or sinks i d = (cc) in subst (IsSinkReached edges root) (sym is) here)
  | inr other ↦ before k v (grind arith) at
]

-- the first sink that is not joined
pub stop_cause : (edges : List Edge) (root : WireNo) (sinks : List (List WireNo)) (i : ℕ) (d : List WireNo) → i < length sinks → ((k : ℕ) (v : List WireNo) → k < i → slice_get sinks k ≡ Some v → IsSinkReached edges root v)
    → (stop : TreeStop) → StopsAt edges root (get_or sinks i d) stop → IsCause edges root sinks stop
stop_cause edges root sinks i d lt before (Unreachable wire) s = (i, get_or sinks i d, slice_get-get_or sinks i d lt, s.0, s.1, before)
stop_cause edges root sinks i d lt before NoMemory s = record {}

next_unique : (edges : List Edge) (price : ℕ → ℕ) (route : Route) (targets : List WireNo) (one other : Route) → IsJoined edges price route targets one → IsJoined edges price route targets other → one ≡ other
next_unique edges price route targets one other h k =
    let same = choice_unique edges price route.wires targets h.0 k.0 h.1 k.1 in
    h.2 ∙ (ap (λ p. extended route p) same ∙ sym k.2)

pub joined_unique : (edges : List Edge) (price : ℕ → ℕ) (route : Route) (sinks : List (List WireNo)) (one other : Route) → AreJoined edges price route sinks one → AreJoined edges price route sinks other → one ≡ other
joined_unique edges price route [] one other h k = sym h ∙ k
joined_unique edges price route (targets ∷ sinks) one other h k =
    let same = next_unique edges price route targets h.0 k.0 h.1 k.1 in
    joined_unique edges price k.0 sinks one other (subst (λ r. AreJoined edges price r sinks one) same h.2) k.2

-- the root stands once in the tree that holds it alone
once_bare : (root : WireNo) → AreOnce (root ∷ [])
once_bare root zero zero v a b = refl
once_bare root zero (suc k) v a b = absurd (cc)
once_bare root (suc j) k v a b = absurd (cc)

pub once_first : (root : WireNo) (wires : List WireNo) → wires ≡ root ∷ [] → AreOnce wires
once_first root wires is = subst AreOnce (sym is) (once_bare root)

-- with one wire more that was not there
once_push : (wires : List WireNo) (new : WireNo) → AreOnce wires → ((k : ℕ) → slice_get wires k ≡ Some new → ⊥) → AreOnce (wires ++ new ∷ [])
once_push wires new once none = λ j k v a b. elim (pushed wires new j v a) [
  | inl old ↦ elim (pushed wires new k v b) [
    | inl other ↦ once j k v old other
    | inr end ↦ absurd (none j (old ∙ ap Some (sym end.1)))
  ]
  | inr end ↦ elim (pushed wires new k v b) [
    | inl other ↦ absurd (none k (other ∙ ap Some (sym end.1)))
    | inr again ↦ end.0 ∙ sym again.0
  ]
]

-- each wire stands once, and is a wire of the tree or has a label of at most c
record Entered (edges : List Edge) (price : ℕ → ℕ) (tree : List WireNo) (c : ℕ) (wires : List WireNo) : Type 0 where
  pub apart : AreOnce wires
  pub each : (k : ℕ) (v : WireNo) → slice_get wires k ≡ Some v → InTree tree v.0 ⊎ ((l : ℕ) × IsLabel edges price tree v.0 l × (l ≤ c))

module _ (edges : List Edge) (price : ℕ → ℕ) (tree : List WireNo) (positive : (v : ℕ) → 1 ≤ price v) (once : AreOnce tree) where
  -- one wire more, with a label above the others'
  entered_more : (b c : ℕ) (wires : List WireNo) (new : WireNo) → b < c → Entered edges price tree b wires → (InTree tree new.0 → ⊥) → IsLabel edges price tree new.0 c → Entered edges price tree c (wires ++ new ∷ [])
  entered_more b c wires new less h outside label = record {
    apart = once_push wires new h.apart (λ k at. elim (h.each k new at) [
      | inl inside ↦ outside inside
      | inr t ↦ (let same = label_unique edges price tree new.0 t.0 c t.1 label in omega (arith, t.2))
    ]);
    each = λ k v at. elim (pushed wires new k v at) [
      | inl old ↦ elim (h.each k v old) [
        | inl inside ↦ inl inside
        | inr t ↦ inr (t.0, t.1, omega (arith, t.2))
      ]
      | inr end ↦ inr (c, subst (λ (x : WireNo). IsLabel edges price tree x.0 c) end.1 label, omega arith)
    ];
  }

  -- edges that lead back enter each wire once, and none of the tree
  back_entered : (w c : ℕ) (back : List Edge) → LeadBack edges price tree w back → IsLabel edges price tree w c → Entered edges price tree c (tree ++ map (λ (e : Edge). e.to) (reverse back))
  back_entered w c [] h label = subst (Entered edges price tree c) (sym (append-nil tree)) (record { apart = once; each = λ k v at. inl (k, v, at, refl) })
  back_entered w c (e ∷ back) h label =
      let makes = h.1.makes in
      let same : makes.0 + price w ≡ c = label_unique edges price tree w (makes.0 + price w) c makes.2 label in
      let less : makes.0 < c = omega (arith, same, positive w) in
      let enters : e.to.0 ≡ w = (of_rows_into edges w e (h.1.place, h.1.stands)).1 in
      let before : List WireNo = map (λ (e : Edge). e.to) (reverse back) in
      let turned : tree ++ map (λ (e : Edge). e.to) (reverse (e ∷ back)) ≡ (tree ++ before) ++ e.to ∷ [] =
      ap (λ p. tree ++ map (λ (e : Edge). e.to) p) (reverse_onto back e []) ∙ (ap (λ q. tree ++ q) (map-append (λ (e : Edge). e.to) (reverse back) (e ∷ [])) ∙ sym (append_assoc tree before (e.to ∷ []))) in
      subst (Entered edges price tree c) (sym turned)
      (entered_more makes.0 c (tree ++ before) e.to less (back_entered e.from.0 makes.0 back h.2 makes.1) (λ inside. h.0 (subst (InTree tree) enters inside)) (subst (λ x. IsLabel edges price tree x c) (sym enters) label))

  -- with a taken path no wire stands twice
  pub taken_once : (w : ℕ) (path : List Edge) → IsTaken edges price tree w path → AreOnce (tree ++ map (λ (e : Edge). e.to) path)
  taken_once w path h =
      let t = taken_cheapest edges price tree w path h in
      subst (λ p. AreOnce (tree ++ map (λ (e : Edge). e.to) p)) (reverse-reverse path) (back_entered w (cost price path) (reverse path) h t.1).apart
