-- What a round leaves, net by net.
use Rattle.std.proofs.Common.{◌≡◌, ◌≢◌, ℕ, zero, suc, ◌≤◌, ◌<◌, ◌⊎◌, List, [], ◌∷◌, Some, length, slice_get, refl, sym, ap, ◌∙◌, subst, arith, inl, inr}
use Rattle.std.proofs.lemmas.Bool.{cases_eq}
use Rattle.std.proofs.lemmas.List.Sums.{sum_by-cons}
use Rattle.std.proofs.lemmas.Option.{slice_get_within, get_or_from_slice_get}
use Rattle.std.specs.List.{sum_by}
use Rattle.ice_base.specs.declared.number.WireNo.{WireNo}
use Rattle.ice_base.specs.declared.number.NetNo.{NetNo}
use Rattle.ice_graph.specs.declared.tree.Tree.{Tree}
use Rattle.ice_graph.specs.Network.{Network}
use Rattle.ice_core.specs.declared.net.Net.{Net}
use Rattle.ice_core.specs.declared.round_prices.RoundPrices.{RoundPrices}
use Rattle.ice_core.specs.declared.task.Task.{Task}
use Rattle.ice_core.specs.Congestion.{price}
use Rattle.ice_core.specs.Moves.{IsOccupancy}
use Rattle.ice_core.specs.Routes.{numbers, times, tree_wires}
use Rattle.ice_core.proofs.Counting.{some_same}
use Rattle.ice_path.specs.Room.{AreWires}
use Rattle.ice_negotiate_defs.specs.Trees.{AreOnce, AreReached, IsCause, IsTree, route_of}
use Rattle.ice_negotiate_defs.specs.Rounds.{AreBounded, AreDifferent, AreMoversReached, HoldOnce, IsRound, Moves}
use Rattle.ice_negotiate_defs.specs.Logs.{IsStop}
use Rattle.ice_negotiate_defs.specs.declared.stop.TreeStop.TheVariants.{Unreachable as Bare}
use Rattle.ice_negotiate_defs.specs.declared.fault.RouteFault.{RouteFault}
use Rattle.ice_words.specs.Grips.{Shut}
use Rattle.ice_worker.specs.declared.stop.WorkStop.{WorkStop}
use Rattle.ice_worker.specs.declared.stop.WorkStop.TheVariants.{Unreachable as Cut, NoMemory as Memory}
use Rattle.ice_worker.specs.Tasks.{IsMade}
use Rattle.ice_negotiate_defs.specs.Tallies.{IsTally, wires_in}
use Rattle.ice_negotiate_round.specs.Moving.{AreTasksOf, IsFaultAt, placed}
use Rattle.ice_negotiate_round.specs.Played.{IsPlayed, IsTaskStop}
use Rattle.ice_negotiate_round.proofs.Finishing.{tree_at}
use Rattle.ice_negotiate_round.proofs.Opening.{held_by, known, map_sum, occupied_sum, olds_sum, prices_of, route_sum, some_there}
use Rattle.ice_negotiate_round.proofs.Replacing.{AreBelow, IsNone, placed_here, placed_long, placed_other, placed_sum}

-- the net n is one of these, or none of them
one_or_none : (moved : List NetNo) (n : ℕ) → ((k : ℕ) × (net : NetNo) × (slice_get moved k ≡ Some net) × (net.0 ≡ n)) ⊎ IsNone moved n
one_or_none [] n = inr (λ k net at. absurd (let none : List NetNo = [] in let lt : k < 0 = slice_get_within none k net at in omega arith))
one_or_none (x ∷ moved) n = elim (cases_eq x.0 n) [
  | inl same ↦ inl (0, x, refl, same)
  | inr other ↦ elim (one_or_none moved n) [
    | inl t ↦ inl (suc t.0, t.1, t.2, t.3)
    | inr none ↦ inr (both x moved n other none)
  ]
]
  where
    both : (x : NetNo) (moved : List NetNo) (n : ℕ) → x.0 ≢ n → IsNone moved n → IsNone (x ∷ moved) n
    both x moved n other none zero net at = (λ e. other (ap (λ (y : NetNo). y.0) (get_or_from_slice_get (x ∷ moved) 0 net x at) ∙ e))
    both x moved n other none (suc k) net at = none k net at

sums_same : {A B : Type 0} (f : A → ℕ) (g : B → ℕ) (xs : List A) (ys : List B) → length xs ≡ length ys → ((k : ℕ) (a : A) (b : B) → slice_get xs k ≡ Some a → slice_get ys k ≡ Some b → f a ≡ g b) → sum_by f xs ≡ sum_by g ys
sums_same f g [] [] long same = refl
sums_same f g [] (y ∷ ys) long same = absurd (omega arith)
sums_same f g (x ∷ xs) [] long same = absurd (omega arith)
sums_same f g (x ∷ xs) (y ∷ ys) long same = omega (arith, sum_by-cons f x xs, sum_by-cons g y ys, same 0 x y refl refl, sums_same f g xs ys (omega arith) (λ k a b. same (suc k) a b))

abbrev numbered : ℕ → NetNo
numbered n = record { 0 = n }

module _ (graph : Network) (r : RoundPrices) (nets : List Net) (trees : List Tree) (moved : List NetNo) (tasks : List Task) (news : List Tree) (shut : Shut)
    (are : AreTasksOf nets trees moved tasks) (different : AreDifferent nets moved) (many : length trees ≡ length nets) (few : length nets ≤ 65536) (occupied : IsOccupancy r.counts.items trees) (once : HoldOnce trees)
    (bounded : AreBounded graph r.round r.history.items r.counts.items) (is : IsPlayed graph r tasks news shut) where
  long : length news ≡ length moved
  long = is.trees.long ∙ are.long

  below : AreBelow (length trees) moved
  below k net at = omega (arith, different.within k net at, many)

  -- the new tree of a net that moves
  here : (k : ℕ) (net : NetNo) → slice_get moved k ≡ Some net → slice_get (placed trees moved news) net.0 ≡ slice_get news k
  here k net at = placed_here trees moved news k net different.apart below long at

  pub made_here : (k : ℕ) (net : NetNo) (after : Tree) → slice_get moved k ≡ Some net → slice_get (placed trees moved news) net.0 ≡ Some after → IsMade graph r tasks (k, after)
  made_here k net after at there = is.trees.each k after (sym (here k net at) ∙ there)

  pub moves_here : (k : ℕ) (number : NetNo) (net : Net) (before after : Tree) → slice_get moved k ≡ Some number → slice_get nets number.0 ≡ Some net → slice_get trees number.0 ≡ Some before → IsMade graph r tasks (k, after)
      → Moves graph r.round r.history.items r.counts.items net before after
  moves_here k number net before after at net_at tree_is made =
      let one = are.each k number net before made.task at net_at tree_is made.at in
      record {
        prices = made.tree.0;
        are_of = prices_of nets trees moved tasks are different many graph r few occupied once bounded before made.task made.tree.0 one.old made.tree.1;
        joined = subst (λ sinks. IsTree graph.edges (price made.tree.0) net.root sinks (route_of after)) one.sinks (subst (λ root. IsTree graph.edges (price made.tree.0) root made.task.sinks.items (route_of after)) one.root made.tree.2);
      }

  -- a tree of the round is an old one or a new one
  from_where : (P : Tree → Type 0) → ((n : ℕ) (tree : Tree) → slice_get trees n ≡ Some tree → P tree) → ((k : ℕ) (tree : Tree) → IsMade graph r tasks (k, tree) → P tree)
      → (n : ℕ) (tree : Tree) → slice_get (placed trees moved news) n ≡ Some tree → P tree
  from_where P old new n tree at = elim (one_or_none moved n) [
    | inl t ↦ new t.0 tree (made_here t.0 t.1 tree t.2 (ap (slice_get (placed trees moved news)) t.3 ∙ at))
    | inr none ↦ old n tree (sym (placed_other trees moved news n none) ∙ at)
  ]

  pub is_round : IsRound graph nets r.round r.history.items r.counts.items moved trees (placed trees moved news)
  is_round = record {
    olds = many;
    news = placed_long trees moved news ∙ many;
    each = λ n net before after net_at b a. elim (one_or_none moved n) [
      | inl t ↦
          (let same : t.1 ≡ numbered n = ap numbered t.3 in
          let made = made_here t.0 t.1 after t.2 (ap (slice_get (placed trees moved news)) t.3 ∙ a) in
          inl ((t.0, t.2 ∙ ap Some same), moves_here t.0 t.1 net before after t.2 (ap (slice_get nets) t.3 ∙ net_at) (ap (slice_get trees) t.3 ∙ b) made))
      | inr none ↦ inr ((λ t. none t.0 (numbered n) t.1 refl), some_same trees n before after b (sym (placed_other trees moved news n none) ∙ a))
    ];
  }

  pub hold_once : HoldOnce (placed trees moved news)
  hold_once = from_where (λ (tree : Tree). AreOnce tree.wires.items) once (λ k tree made. made.once)

  pub all_reached : AreMoversReached graph nets moved (length moved)
  all_reached j number net lt at net_at =
      let tree = some_there news j (omega (arith, lt, long)) in
      let before = some_there trees number.0 (below j number at) in
      let made = is.trees.each j tree.0 tree.1 in
      let one = are.each j number net before.0 made.task at net_at before.1 made.at in
      subst (λ sinks. AreReached graph.edges net.root sinks) one.sinks (subst (λ root. AreReached graph.edges root made.task.sinks.items) one.root made.reached)

  -- ---- the counts
  held_in : (w : ℕ) (net : NetNo) (tree : Tree) → slice_get trees net.0 ≡ Some tree → times w (wires_in trees net) ≡ held_by w tree
  held_in w net tree at = ap (times w) (tree_at trees net.0 tree at)

  pub closed_is : IsOccupancy shut.closed (placed trees moved news)
  closed_is = record {
    each = λ w lt.
        (let small : w < length r.counts.items = omega (arith, lt, is.long) in omega (
          arith,
          is.closed w small,
          olds_sum nets trees moved tasks are different many (times w),
          placed_sum (held_by w) (λ (net : NetNo). times w (wires_in trees net)) trees moved news (held_in w) different.apart below long,
          route_sum w news,
          occupied_sum w trees once,
          occupied.each w small,
          occupied_sum w (placed trees moved news) hold_once,
        ));
    within = from_where (λ (tree : Tree). AreWires (length shut.closed) tree.wires.items) (λ n tree at k v got. omega (arith, occupied.within n tree at k v got, is.long)) (λ k tree made j v got. omega (arith, made.rooted.within j v got, is.long, bounded.counted));
  }

  -- the new trees, by the nets that moved
  news_sum : (g : List ℕ → ℕ) → sum_by g (tree_wires news) ≡ sum_by (λ (number : NetNo). g (wires_in (placed trees moved news) number)) moved
  news_sum g =
      map_sum g (λ (t : Tree). numbers t.wires.items) news
      ∙ sums_same (λ (t : Tree). g (numbers t.wires.items)) (λ (number : NetNo). g (wires_in (placed trees moved news) number)) news moved long (λ k tree number there at. ap g (sym (tree_at (placed trees moved news) number.0 tree (here k number at ∙ there))))

  pub is_tally : IsTally graph.wires moved trees (placed trees moved news) shut
  is_tally = record {
    all = ap length is.opened ∙ bounded.counted;
    long = ap length is.opened ∙ sym is.long;
    opened = subst (λ counts. IsOccupancy counts trees) (sym is.opened) occupied;
    closed = closed_is;
    claims = is.claims ∙ are.long;
    releases = is.releases ∙ olds_sum nets trees moved tasks are different many length;
    holds = is.holds ∙ news_sum length;
  }

-- ---- why there is no round
module _ (graph : Network) (nets : List Net) (trees : List Tree) (moved : List NetNo) (tasks : List Task) (are : AreTasksOf nets trees moved tasks) (different : AreDifferent nets moved) (many : length trees ≡ length nets) where
  pub round_stop : (stop : WorkStop) (fault : RouteFault) → IsTaskStop graph tasks stop → IsFaultAt moved stop fault → IsStop graph nets moved fault
  round_stop (Cut task sink) fault is at = subst (IsStop graph nets moved) (sym at.2) (
      let one = known nets trees moved tasks are different many task is.0.0 is.0.1 in
      let same : one.number ≡ at.0 = some_same moved task one.number at.0 one.at at.1 in
      record {
        place = task;
        at = at.1;
        net = one.net;
        is = ap (λ (x : NetNo). slice_get nets x.0) (sym same) ∙ one.net_at;
        cause = subst (λ sinks. IsCause graph.edges one.net.root sinks (Bare sink)) one.is.sinks (subst (λ root. IsCause graph.edges root is.0.0.sinks.items (Bare sink)) one.is.root is.0.2);
        earlier = λ j number net lt number_at net_at.
            (let earlier = some_there tasks j (omega (arith, lt, slice_get_within tasks task is.0.0 is.0.1)) in
            let before = some_there trees number.0 (omega (arith, different.within j number number_at, many)) in
            let other = are.each j number net before.0 earlier.0 number_at net_at before.1 earlier.1 in
            subst (λ sinks. AreReached graph.edges net.root sinks) other.sinks (subst (λ root. AreReached graph.edges root earlier.0.sinks.items) other.root (is.1 j earlier.0 lt earlier.1)));
      })
  round_stop Memory fault is at = subst (IsStop graph nets moved) (sym at) (record {})

  pub stop_within : (stop : WorkStop) → IsTaskStop graph tasks stop → (task : ℕ) (sink : WireNo) → stop ≡ Cut task sink → task < length moved
  stop_within stop is task sink e =
      let cut = subst (IsTaskStop graph tasks) e is in
      omega (arith, slice_get_within tasks task cut.0.0 cut.0.1, are.long)
