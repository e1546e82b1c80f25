-- Rounds from openings of trees at price 1 leave the routes that rounds without one leave.
use Rattle.std.proofs.Common.{◌≡◌, ℕ, zero, suc, ◌+◌, ◌-◌, ◌*◌, ◌++◌, List, [], ◌∷◌, Option, None, Some, length, replicate, slice_get, slice_index, sym, ap, ◌∙◌, subst, arith, inl, inr}
use Rattle.std.proofs.Math.Path.{fun_ext}
use Rattle.std.proofs.lemmas.Option.{slice_get_within}
use Rattle.ice_base.specs.declared.number.NetNo.{NetNo}
use Rattle.ice_graph.specs.declared.tree.Tree.{Tree}
use Rattle.ice_graph.specs.Network.{Network}
use Rattle.ice_core.specs.declared.log.RoundLog.{RoundLog}
use Rattle.ice_core.specs.declared.net.Net.{Net}
use Rattle.ice_core.specs.declared.prices.Prices.{Prices}
use Rattle.ice_core.specs.Congestion.{price}
use Rattle.ice_core.specs.Moves.{IsOccupancy}
use Rattle.ice_words.specs.Grips.{Shut}
use Rattle.ice_words_hands.proofs.Lists.{zeros_index}
use Rattle.ice_negotiate_defs.specs.Trees.{route_of, bare, IsTree}
use Rattle.ice_negotiate_defs.specs.Rounds.{Past, ArePricesOf, AreRoundsFrom, BeginsWith, IsFirstFrom, IsOneOf, Moves, MoveFirst}
use Rattle.ice_negotiate_defs.specs.Logs.{AllEndOverusedFrom, AreRoutedFrom}
use Rattle.ice_negotiate_defs.specs.declared.fault.Routed.{Routed}
use Rattle.ice_negotiate_defs.specs.Determined.{AreAlike, LeaveSame, OpensAtOne}
use Rattle.ice_negotiate_defs.proofs.Joining.{joined_unique}
use Rattle.ice_negotiate_defs.proofs.Openings.{begun_kept, stays_kept}
use Rattle.ice_negotiate_defs.proofs.Repeating.{but_for_moved, counts_same, free_not_over, last_at, net_at, next_same, past_at, tree_at}

-- the net's tree where every wire costs 1
abbrev AtOne : Network → Net → Tree → Type 0
AtOne graph net tree = IsTree graph.edges (λ w. 1) net.root net.sinks.items (route_of tree)

one_price : (n : ℕ) → 1 * (1 + 0 * n) ≡ 1
one_price n = omega arith

-- in a first round without a history every wire costs 1
one_each : (wires : ℕ) (history counts : List ℕ) (old : Tree) (p : Prices) → history ≡ replicate wires 0 → ArePricesOf 1 history counts old p → (w : ℕ) → price p w ≡ 1
one_each wires history counts old p fresh are w =
    let none : slice_index p.history.items w ≡ 0 = ap (λ xs. slice_index xs w) (are.histories ∙ fresh) ∙ zeros_index wires w in
    ap (λ h. (1 + h) * (1 + (p.round - 1) * slice_index p.others.items w)) none ∙ ap (λ r. 1 * (1 + (r - 1) * slice_index p.others.items w)) are.number ∙ one_price (slice_index p.others.items w)

moved_at_one : (graph : Network) (wires : ℕ) (history counts : List ℕ) (net : Net) (old new : Tree) → history ≡ replicate wires 0 → Moves graph 1 history counts net old new → AtOne graph net new
moved_at_one graph wires history counts net old new fresh moves = subst (λ f. IsTree graph.edges f net.root net.sinks.items (route_of new)) (fun_ext (one_each wires history counts old moves.prices fresh moves.are_of)) moves.joined

module _ (graph : Network) (nets : List Net) where
  -- a net that stays in the first round keeps its tree
  begun_at_one : (opening : Option (List (Option Tree))) (moved : List NetNo) (before : List Tree) (n : ℕ) (net : Net) (tree : Tree) → OpensAtOne graph nets opening → MoveFirst (length nets) opening moved → BeginsWith opening before
      → slice_get nets n ≡ Some net → slice_get before n ≡ Some tree → (IsOneOf moved n → ⊥) → AtOne graph net tree
  begun_at_one None moved before n net tree at_one moves begins at here stays = absurd (stays (n, moves.each n (slice_get_within nets n net at)))
  begun_at_one (Some kept) moved before n net tree at_one moves begins at here stays =
      let l = slice_get_within nets n net at in
      let t = stays_kept kept n (omega (arith, l, moves.0)) (λ one. stays (subst (λ ms. IsOneOf ms n) (sym moves.1) one)) in
      subst (λ r. IsTree graph.edges (λ w. 1) net.root net.sinks.items r) (sym (begun_kept kept before n t.0 tree begins t.1 here)) (at_one n net t.0 at t.1)

  first_at_one : (opening : Option (List (Option Tree))) (one : Past) → OpensAtOne graph nets opening → IsFirstFrom graph nets opening one → (n : ℕ) (net : Net) (tree : Tree) → slice_get nets n ≡ Some net → slice_get one.trees n ≡ Some tree → AtOne graph net tree
  first_at_one opening one at_one h n net tree at here =
      let lt = slice_get_within nets n net at in
      let olds = h.done.olds in
      let before = tree_at h.before n (omega arith) in
      elim (h.done.each n net before.0 tree at before.1 here) [
        | inl moves ↦ moved_at_one graph graph.wires one.history h.counts net before.0 tree h.fresh moves.1
        | inr stays ↦ subst (AtOne graph net) stays.1 (begun_at_one opening one.moved h.before n net before.0 at_one h.movers h.begins at before.1 stays.0)
      ]

  first_left : (opening its : Option (List (Option Tree))) (one other : Past) → OpensAtOne graph nets opening → OpensAtOne graph nets its → (length one.counts ≡ graph.wires) × IsOccupancy one.counts one.trees → (length other.counts ≡ graph.wires) × IsOccupancy other.counts other.trees
      → IsFirstFrom graph nets opening one → IsFirstFrom graph nets its other → LeaveSame one other
  first_left opening its one other a_one b_one c d h k =
      let news = h.done.news in
      let news' = k.done.news in
      let alike : AreAlike one.trees other.trees = record { long = omega arith; each = each_tree } in
      record {
        round = h.number ∙ sym k.number;
        history = h.fresh ∙ sym k.fresh;
        counts = counts_same graph.wires one.counts other.counts one.trees other.trees c.0 d.0 c.1 d.1 alike;
        routes = alike;
      }
    where
      each_tree : (n : ℕ) (a b : Tree) → slice_get one.trees n ≡ Some a → slice_get other.trees n ≡ Some b → route_of a ≡ route_of b
      each_tree n a b at to =
          let lt = slice_get_within one.trees n a at in
          let news = h.done.news in
          let net = net_at nets n (omega arith) in
          joined_unique graph.edges (λ w. 1) (bare net.0.root) net.0.sinks.items (route_of a) (route_of b) (first_at_one opening one a_one h n net.0 a net.1 at) (first_at_one its other b_one k n net.0 b net.1 to)

pub unchanged : (graph : Network) (nets : List Net) (opening its : Option (List (Option Tree))) (rounds others : List Past) → OpensAtOne graph nets opening → OpensAtOne graph nets its
    → AreRoundsFrom graph nets opening rounds → AreRoundsFrom graph nets its others → (k : ℕ) (one other : Past) → slice_get rounds k ≡ Some one → slice_get others k ≡ Some other → LeaveSame one other
unchanged graph nets opening its rounds others a_one b_one h g zero one other at to = first_left graph nets opening its one other a_one b_one (h.counted 0 one at) (g.counted 0 other to) (h.first one at) (g.first other to)
unchanged graph nets opening its rounds others a_one b_one h g (suc k) one other at to =
    let lt = slice_get_within rounds (suc k) one at in
    let lt' = slice_get_within others (suc k) other to in
    let before = past_at rounds k (omega arith) in
    let before' = past_at others k (omega arith) in
    let one_more : suc k ≡ k + 1 = omega arith in
    but_for_moved one other
    (next_same graph nets before.0 before'.0 one other (unchanged graph nets opening its rounds others a_one b_one h g k before.0 before'.0 before.1 before'.1) (h.counted (suc k) one at) (g.counted (suc k) other to)
    (h.follow k before.0 one before.1 (subst (λ n. slice_get rounds n ≡ Some one) one_more at)) (g.follow k before'.0 other before'.1 (subst (λ n. slice_get others n ≡ Some other) one_more to)))

pub verdict_unchanged : (graph : Network) (nets : List Net) (opening its : Option (List (Option Tree))) (permitted : ℕ) (routed : Routed) (logs : List RoundLog) (tallies : List Shut) → OpensAtOne graph nets opening → OpensAtOne graph nets its
    → AreRoutedFrom graph nets opening permitted routed → AllEndOverusedFrom graph nets its permitted logs tallies → ⊥
verdict_unchanged graph nets opening its permitted routed logs tallies a_one b_one h k =
    let few = h.few in
    let all = k.all in
    let place = length h.earlier in
    let other = past_at k.past place (omega arith) in
    let same = unchanged graph nets opening its (h.earlier ++ h.last ∷ []) k.past a_one b_one h.rounds k.rounds place h.last other.0 (last_at h.earlier h.last) other.1 in
    let over = k.overused place other.0 other.1 in
    free_not_over h.last.counts other.0.counts over.0 same.counts (h.free over.0) over.1
