-- The tasks of the nets that move can be done in the prices of the round.
use Rattle.std.proofs.Common.{◌≡◌, ◌≢◌, ℕ, zero, suc, ◌-◌, ◌≤◌, ◌<◌, ◌||◌, cond, List, [], ◌∷◌, Some, length, map, min, slice_get, slice_index, refl, sym, ap, ◌∙◌, subst, arith, inl, inr}
use Rattle.std.proofs.lemmas.Bool.{cases_eq, cases_lt, ne_eqb, eq-eqb}
use Rattle.std.proofs.lemmas.List.{length-map}
use Rattle.std.proofs.lemmas.List.Sums.{sum_by-cons}
use Rattle.std.proofs.lemmas.List.Elements.{All-from_recursion}
use Rattle.std.proofs.lemmas.Option.{slice_get_within, get_or_from_slice_get}
use Rattle.std.specs.List.{sum_by, AllByRecursion}
use Rattle.ice_base.specs.declared.number.WireNo.{WireNo}
use Rattle.ice_base.specs.declared.number.NetNo.{NetNo}
use Rattle.ice_graph.specs.declared.tree.Tree.{Tree}
use Rattle.ice_graph.specs.Network.{Network}
use Rattle.ice_core.specs.declared.net.Net.{Net}
use Rattle.ice_core.specs.declared.prices.Prices.{Prices}
use Rattle.ice_core.specs.declared.round_prices.RoundPrices.{RoundPrices}
use Rattle.ice_core.specs.declared.task.Task.{Task}
use Rattle.ice_core.specs.Moves.{IsOccupancy, holds, occupancy, stands_in}
use Rattle.ice_core.specs.Routes.{IsOpening, numbers, old_wires, times, tree_wires, wires_of}
use Rattle.ice_core.proofs.Sums.{at_itself, at_other, below_lists, is_at, once_short, times_cons}
use Rattle.ice_path.specs.Room.{AreWires}
use Rattle.ice_negotiate_defs.specs.Trees.{AreOnce, AreSinks}
use Rattle.ice_negotiate_defs.specs.Rounds.{AreBounded, AreDifferent, AreNets, ArePricesOf, HoldOnce}
use Rattle.ice_negotiate_defs.proofs.Advancing.{few_others, left_prices}
use Rattle.ice_negotiate_defs.proofs.Rounding.{count_low}
use Rattle.ice_worker.specs.Tasks.{AreFor, IsTaskOf, KeepsBounds, ArePlayable}
use Rattle.ice_negotiate_defs.proofs.Wires.{once_times}
use Rattle.ice_worker.proofs.Working.{wires_at}
use Rattle.ice_negotiate_defs.specs.Tallies.{wires_in}
use Rattle.ice_negotiate_round.specs.Moving.{AreTasksOf, IsTaskFor}
use Rattle.ice_negotiate_round.proofs.Finishing.{many_olds, tree_at}
use Rattle.ice_negotiate_round.proofs.Replacing.{AreApart, AreBelow, apart_rest, below_rest, first_apart, placed_sum}

-- ---- lists
pub some_there : {A : Type 0} (xs : List A) (k : ℕ) → k < length xs → (a : A) × (slice_get xs k ≡ Some a)
some_there [] k lt = absurd (omega arith)
some_there (x ∷ xs) zero lt = (x, refl)
some_there (x ∷ xs) (suc k) lt = some_there xs k (omega arith)

pub map_sum : {A B : Type 0} (g : B → ℕ) (f : A → B) (xs : List A) → sum_by g (map f xs) ≡ sum_by (λ x. g (f x)) xs
map_sum g f [] = refl
map_sum g f (x ∷ xs) = omega (arith, sum_by-cons g (f x) (map f xs), sum_by-cons (λ y. g (f y)) x xs, map_sum g f xs)

by_places : {A : Type 0} (P : A → Type 0) (xs : List A) → ((k : ℕ) (a : A) → slice_get xs k ≡ Some a → P a) → AllByRecursion P xs
by_places P [] each = tt
by_places P (x ∷ xs) each = (each 0 x refl, by_places P xs (λ k a at. each (suc k) a at))

wires_beyond : (lists : List (List ℕ)) (t : ℕ) → length lists ≤ t → wires_of lists t ≡ []
wires_beyond [] t le = refl
wires_beyond (x ∷ lists) zero le = absurd (omega arith)
wires_beyond (x ∷ lists) (suc t) le = wires_beyond lists t (omega arith)

-- ---- how many trees hold a wire, as a sum
held_min : (w : ℕ) (wires : List WireNo) → cond (stands_in wires w) 1 0 ≡ min 1 (times w (numbers wires))
held_min w [] = refl
held_min w (u ∷ wires) = elim (cases_eq u.0 w) [
  | inl same ↦ ap (λ b. cond (b || stands_in wires w) 1 0) (eq-eqb u.0 w same) ∙ omega (arith, times_cons w u.0 (numbers wires), ap (is_at u.0) (sym same), at_itself u.0)
  | inr other ↦ ap (λ b. cond (b || stands_in wires w) 1 0) (ne_eqb u.0 w other) ∙ (held_min w wires ∙ ap (min 1) (omega (arith, times_cons w u.0 (numbers wires), at_other u.0 w other)))
]

pub held_times : (w : ℕ) (wires : List WireNo) → AreOnce wires → cond (stands_in wires w) 1 0 ≡ times w (numbers wires)
held_times w wires once = omega (arith, held_min w wires, once_times wires once w)

abbrev pub held_by : ℕ → Tree → ℕ
held_by w tree = times w (numbers tree.wires.items)

pub occupied_sum : (w : ℕ) (trees : List Tree) → HoldOnce trees → occupancy trees w ≡ sum_by (held_by w) trees
occupied_sum w [] once = refl
occupied_sum w (t ∷ trees) once =
    omega (arith, sum_by-cons (λ (y : Tree). cond (holds w y) 1 0) t trees, sum_by-cons (held_by w) t trees, held_times w t.wires.items (once 0 t refl), occupied_sum w trees (λ n tree at. once (suc n) tree at))

pub route_sum : (w : ℕ) (trees : List Tree) → sum_by (held_by w) trees ≡ sum_by (times w) (tree_wires trees)
route_sum w trees = sym (map_sum (times w) (λ (t : Tree). numbers t.wires.items) trees)

-- ---- the numbers of different nets are no more than the nets
abbrev net_numbers : List NetNo → List ℕ
net_numbers moved = map (λ (net : NetNo). net.0) moved

absent : (moved : List NetNo) (n : ℕ) → ((k : ℕ) (net : NetNo) → slice_get moved k ≡ Some net → net.0 ≢ n) → times n (net_numbers moved) ≡ 0
absent [] n none = refl
absent (x ∷ moved) n none = omega (arith, times_cons n x.0 (net_numbers moved), at_other x.0 n (none 0 x refl), absent moved n (λ k net at. none (suc k) net at))

net_times : (moved : List NetNo) → AreApart moved → (n : ℕ) → times n (net_numbers moved) ≤ 1
net_times [] apart n = omega arith
net_times (x ∷ moved) apart n = elim (cases_eq x.0 n) [
  | inl same ↦ subst (λ m. times m (net_numbers (x ∷ moved)) ≤ 1) same (omega (arith, times_cons x.0 x.0 (net_numbers moved), absent moved x.0 (first_apart x moved apart), at_itself x.0))
  | inr other ↦ omega (arith, times_cons n x.0 (net_numbers moved), at_other x.0 n other, net_times moved (apart_rest x moved apart) n)
]

numbers_below : (n : ℕ) (moved : List NetNo) → AreBelow n moved → AllByRecursion (λ x. x < n) (net_numbers moved)
numbers_below n [] below = tt
numbers_below n (x ∷ moved) below = (below 0 x refl, numbers_below n moved (below_rest n x moved below))

pub few_moved : (nets : List Net) (moved : List NetNo) → AreDifferent nets moved → length moved ≤ length nets
few_moved nets moved different =
    omega (arith, once_short (length nets) (net_numbers moved) (numbers_below (length nets) moved different.within) (net_times moved different.apart), length-map moved (λ (net : NetNo). net.0))

-- ---- the wires of nets that move are counted
abbrev no_wires : List NetNo → List (List ℕ)
no_wires moved = map (λ (net : NetNo). []) moved

no_sum : (w : ℕ) (moved : List NetNo) → sum_by (times w) (no_wires moved) ≡ 0
no_sum w [] = refl
no_sum w (x ∷ moved) = no_sum w moved

pub moved_sum : (w : ℕ) (trees : List Tree) (moved : List NetNo) → AreApart moved → AreBelow (length trees) moved → sum_by (λ (net : NetNo). times w (wires_in trees net)) moved ≤ sum_by (times w) (tree_wires trees)
moved_sum w trees moved apart below =
    let lists = tree_wires trees in
    let below' : AreBelow (length lists) moved = λ k net at. omega (arith, below k net at, length-map trees (λ (t : Tree). numbers t.wires.items)) in
    let e = placed_sum (times w) (λ (net : NetNo). times w (wires_in trees net)) lists moved (no_wires moved) (λ net a at. ap (times w) (get_or_from_slice_get lists net.0 a [] at)) apart below' (length-map moved (λ (net : NetNo). [])) in
    omega (arith, e, no_sum w moved)

-- ---- the task of a net
pub record IsKnown (nets : List Net) (trees : List Tree) (moved : List NetNo) (k : ℕ) (task : Task) : Type 0 where
  pub number : NetNo
  pub at : slice_get moved k ≡ Some number
  pub net : Net
  pub net_at : slice_get nets number.0 ≡ Some net
  pub tree : Tree
  pub tree_at : slice_get trees number.0 ≡ Some tree
  pub is : IsTaskFor net tree number task

module _ (nets : List Net) (trees : List Tree) (moved : List NetNo) (tasks : List Task) (are : AreTasksOf nets trees moved tasks) (different : AreDifferent nets moved) (many : length trees ≡ length nets) where
  pub known : (k : ℕ) (task : Task) → slice_get tasks k ≡ Some task → IsKnown nets trees moved k task
  known k task at =
      let number = some_there moved k (omega (arith, slice_get_within tasks k task at, are.long)) in
      let lt = different.within k number.0 number.1 in
      let net = some_there nets number.0.0 lt in
      let tree = some_there trees number.0.0 (omega (arith, lt, many)) in
      record { number = number.0; at = number.1; net = net.0; net_at = net.1; tree = tree.0; tree_at = tree.1; is = are.each k number.0 net.0 tree.0 task number.1 net.1 tree.1 at }

  pub olds_are : old_wires tasks ≡ map (wires_in trees) moved
  olds_are = lists_same moved tasks are.long (λ k number task number_at at.
      (let one = known k task at in
      let same : one.number ≡ number = sym (get_or_from_slice_get moved k one.number one.number one.at) ∙ get_or_from_slice_get moved k number one.number number_at in
      ap numbers one.is.old ∙ (sym (tree_at trees one.number.0 one.tree one.tree_at) ∙ ap (wires_in trees) same)))
    where
      lists_same : (moved : List NetNo) (tasks : List Task) → length tasks ≡ length moved → ((k : ℕ) (number : NetNo) (task : Task) → slice_get moved k ≡ Some number → slice_get tasks k ≡ Some task → numbers task.old.items ≡ wires_in trees number)
          → old_wires tasks ≡ map (wires_in trees) moved
      lists_same [] [] long same = refl
      lists_same [] (t ∷ tasks) long same = absurd (omega arith)
      lists_same (x ∷ moved) [] long same = absurd (omega arith)
      lists_same (x ∷ moved) (t ∷ tasks) long same =
          let first : numbers t.old.items ≡ wires_in trees x = same 0 x t refl refl in
          let rest = lists_same moved tasks (omega arith) (λ k number task a b. same (suc k) number task a b) in
          λ k. first k ∷ rest k

  pub olds_sum : (g : List ℕ → ℕ) → sum_by g (old_wires tasks) ≡ sum_by (λ (number : NetNo). g (wires_in trees number)) moved
  olds_sum g = ap (sum_by g) olds_are ∙ map_sum g (wires_in trees) moved

  -- what holds of the old wires of each task holds of the lists
  each_list : (P : List ℕ → Type 0) → P [] → ((k : ℕ) (task : Task) → slice_get tasks k ≡ Some task → P (numbers task.old.items)) → (t : ℕ) → P (wires_of (old_wires tasks) t)
  each_list P none each t = elim (cases_lt t (length tasks)) [
    | inl lt ↦ (let task = some_there tasks t lt in subst P (sym (wires_at tasks t task.0 task.1)) (each t task.0 task.1))
    | inr le ↦ subst P (sym (wires_beyond (old_wires tasks) t (omega (arith, le, many_olds tasks)))) none
  ]

  module _ (graph : Network) (r : RoundPrices) (few : length nets ≤ 65536) (occupied : IsOccupancy r.counts.items trees) (once : HoldOnce trees) (bounded : AreBounded graph r.round r.history.items r.counts.items) where
    opening : IsOpening (old_wires tasks) r.counts.items
    opening = record {
      tasks = omega (arith, few, few_moved nets moved different, are.long, many_olds tasks);
      wires = omega (arith, bounded.wires, bounded.counted);
      within = each_list (AllByRecursion (λ w. w < length r.counts.items)) tt (λ k task at.
          (let one = known k task at in within_of (length r.counts.items) task.old.items (subst (AreWires (length r.counts.items)) (sym one.is.old) (occupied.within one.number.0 one.tree one.tree_at))));
      once = λ t w. each_list (λ ws. times w ws ≤ 1) (omega arith) (λ k task at. (let one = known k task at in once_times task.old.items (subst AreOnce (sym one.is.old) (once one.number.0 one.tree one.tree_at)) w)) t;
      few = λ w lt. count_low r.counts.items trees occupied (omega (arith, few, many)) w;
      counted = λ w lt. omega (
        arith,
        below_lists (times w) (old_wires tasks),
        olds_sum (times w),
        moved_sum w trees moved different.apart (λ k net at. omega (arith, different.within k net at, many)),
        route_sum w trees,
        occupied_sum w trees once,
        occupied.each w lt,
      );
    }
      where
        within_of : (n : ℕ) (wires : List WireNo) → AreWires n wires → AllByRecursion (λ w. w < n) (numbers wires)
        within_of n [] within = tt
        within_of n (u ∷ wires) within = (within 0 u refl, within_of n wires (λ k v at. within (suc k) v at))

    -- the prices of a task are those of its net
    pub prices_of : (tree : Tree) (task : Task) (p : Prices) → task.old.items ≡ tree.wires.items → AreFor r task p → ArePricesOf r.round r.history.items r.counts.items tree p
    prices_of tree task p same a = record {
      number = a.number;
      histories = a.histories;
      long = a.others.long;
      others = λ w lt. a.others.each w lt ∙ ap (λ ws. slice_index r.counts.items w - cond (stands_in ws w) 1 0) same;
    }

    pub are_playable : AreNets graph nets → ArePlayable graph r tasks
    are_playable are_nets = record {
      histories = bounded.long;
      counts = bounded.counted;
      opening = opening;
      wires = All-from_recursion (IsTaskOf graph) tasks (by_places (IsTaskOf graph) tasks (λ k task at.
          (let one = known k task at in
          let net = are_nets one.number.0 one.net one.net_at in
          record {
            root = subst (λ (v : WireNo). v.0 < graph.wires) (sym one.is.root) net.0;
            sinks = subst (AreSinks graph.wires) (sym one.is.sinks) net.1;
          })));
      bounded = All-from_recursion (KeepsBounds r) tasks (by_places (KeepsBounds r) tasks (λ k task at p a.
          (let one = known k task at in left_prices graph r.round r.history.items r.counts.items one.tree p bounded (few_others r.counts.items trees one.number.0 one.tree occupied (omega (arith, few, many)) one.tree_at) (prices_of one.tree task p one.is.old a))));
    }
