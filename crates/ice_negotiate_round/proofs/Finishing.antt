-- What a round gives where no worker stopped.
use Rattle.std.proofs.Common.{◌≡◌, ℕ, zero, suc, ◌+◌, ◌-◌, ◌*◌, ◌≤◌, ◌<◌, List, [], ◌∷◌, All, length, min, None, Some, slice_get, slice_index, inl, inr, refl, sym, ap, subst, arith, ◌∙◌}
use Rattle.std.proofs.Math.Path.{fun_ext}
use Rattle.std.proofs.lemmas.Bool.{cases_eq, cases_lt}
use Rattle.std.proofs.lemmas.List.{length-map}
use Rattle.std.specs.List.{sum_by, fold, AllByRecursion}
use Rattle.std.proofs.lemmas.List.Sums.{sum_by-cons}
use Rattle.std.proofs.lemmas.List.Elements.{All-head, All-tail, All-weaker}
use Rattle.std.proofs.lemmas.Option.{slice_get_within, get_or_from_slice_get, slice_get-get_or}
use Rattle.ice_graph.specs.declared.tree.Tree.{Tree}
use Rattle.ice_graph.specs.Network.{Network}
use Rattle.ice_core.specs.declared.prices.Prices.{Prices}
use Rattle.ice_core.specs.declared.round_prices.RoundPrices.{RoundPrices}
use Rattle.ice_core.specs.declared.task.Task.{Task}
use Rattle.ice_core.specs.Congestion.{price}
use Rattle.ice_core.specs.Routes.{numbers, old_wires, sum_below, times, tree_wires, wires_of}
use Rattle.ice_core.proofs.Sums.{is_at, at_other, below_lists, below_once, below_ones}
use Rattle.ice_core.proofs.Counting.{some_same}
use Rattle.ice_negotiate_defs.specs.Trees.{IsTree, Route, route_of}
use Rattle.ice_negotiate_defs.proofs.Advancing.{beyond_end}
use Rattle.ice_negotiate_defs.proofs.Joining.{joined_unique}
use Rattle.ice_words.specs.declared.view.Claim.{Claim}
use Rattle.ice_words.specs.declared.view.View.{View}
use Rattle.ice_words.specs.Views.{total_in, total, one, task_by, releases_of, holds_of, ends_of, ends, no_part}
use Rattle.ice_words.specs.Rule.{IsClosing}
use Rattle.ice_words.specs.Lawful.{IsSettled}
use Rattle.ice_words.specs.Grips.{Board, Shut}
use Rattle.ice_words.proofs.Closing.{closing_law}
use Rattle.ice_worker.specs.Tasks.{AreFor, IsMade, IsNewTree}
use Rattle.ice_worker.specs.Kits.{finished, claims_of, made_by}
use Rattle.ice_worker.specs.Lawfulness.{AreNewOf}
use Rattle.ice_worker.proofs.Lawful.{work_lawful}
use Rattle.ice_negotiate_round.specs.declared.jobs.Done.{Done}
use Rattle.ice_negotiate_round.specs.Jobs.{AreStarted, main_view}
use Rattle.ice_negotiate_round.specs.Played.{IsLeft, AreTrees, IsPlayed, NoneStopped, made_at, made_in, part_by, part_of, parts_of}

-- ---- a task has one new tree
same_others : (r : RoundPrices) (task : Task) (p q : Prices) → AreFor r task p → AreFor r task q → (w : ℕ) → slice_index p.others.items w ≡ slice_index q.others.items w
same_others r task p q a b w = elim (cases_lt w (length r.counts.items)) [
  | inl lt ↦ a.others.each w lt ∙ sym (b.others.each w lt)
  | inr le ↦ beyond_end p.others.items w (omega (arith, le, a.others.long)) ∙ sym (beyond_end q.others.items w (omega (arith, le, b.others.long)))
]

same_price : (r : RoundPrices) (task : Task) (p q : Prices) → AreFor r task p → AreFor r task q → (w : ℕ) → price p w ≡ price q w
same_price r task p q a b w =
    ap (λ h. (1 + slice_index h w) * (1 + (p.round - 1) * slice_index p.others.items w)) (a.histories ∙ sym b.histories)
    ∙ (ap (λ n. (1 + slice_index q.history.items w) * (1 + (n - 1) * slice_index p.others.items w)) (a.number ∙ sym b.number)
    ∙ ap (λ n. (1 + slice_index q.history.items w) * (1 + (q.round - 1) * n)) (same_others r task p q a b w))

new_unique : (graph : Network) (r : RoundPrices) (task : Task) (one other : Tree) → IsNewTree graph r task one → IsNewTree graph r task other → route_of one ≡ route_of other
new_unique graph r task one other (p, a, is) (q, b, also) =
    joined_unique graph.edges (price q) (record { wires = task.root ∷ []; rows = [] }) task.sinks.items (route_of one) (route_of other)
    (subst (λ f. IsTree graph.edges f task.root task.sinks.items (route_of one)) (fun_ext (same_price r task p q a b)) is) also

pub made_unique : (graph : Network) (r : RoundPrices) (tasks : List Task) (t : ℕ) (one other : Tree) → IsMade graph r tasks (t, one) → IsMade graph r tasks (t, other) → route_of one ≡ route_of other
made_unique graph r tasks t one other a b =
    new_unique graph r a.task one other a.tree (subst (λ (x : Task). IsNewTree graph r x other) (some_same tasks t b.task a.task b.at a.at) b.tree)

-- ---- what is counted over the claims of a worker is counted over its trees
claims_from : (g : Claim → ℕ) (olds : List (List ℕ)) (trees : List (ℕ × Tree)) (cs : List Claim) → sum_by g (fold (λ (cs : List Claim) (m : ℕ × Tree). finished olds m ∷ cs) cs trees) ≡ sum_by g cs + sum_by (λ m. g (finished olds m)) trees
claims_from g olds [] cs = omega arith
claims_from g olds (m ∷ trees) cs = omega (arith, claims_from g olds trees (finished olds m ∷ cs), sum_by-cons g (finished olds m) cs, sum_by-cons (λ m. g (finished olds m)) m trees)

pub claims_sum : (g : Claim → ℕ) (olds : List (List ℕ)) (trees : List (ℕ × Tree)) → sum_by g (claims_of olds trees) ≡ sum_by (λ m. g (finished olds m)) trees
claims_sum g olds trees = omega (arith, claims_from g olds trees [])

at_same : (x y : ℕ) → is_at x y ≡ is_at y x
at_same x y = elim (cases_eq x y) [
  | inl same ↦ ap (λ k. is_at k y) same ∙ ap (is_at y) (sym same)
  | inr other ↦ at_other x y other ∙ sym (at_other y x (λ e. other (sym e)))
]

pub made_sum : (t : ℕ) (olds : List (List ℕ)) (trees : List (ℕ × Tree)) → sum_by (task_by (is_at t)) (claims_of olds trees) ≡ made_at t trees
made_sum t olds trees = claims_sum (task_by (is_at t)) olds trees ∙ same_sum trees
  where
    same_sum : (trees : List (ℕ × Tree)) → sum_by (λ (m : ℕ × Tree). is_at t m.0) trees ≡ made_at t trees
    same_sum [] = refl
    same_sum (m ∷ trees) = omega (arith, sum_by-cons (λ (m : ℕ × Tree). is_at t m.0) m trees, sum_by-cons (λ (m : ℕ × Tree). is_at m.0 t) m trees, same_sum trees, at_same t m.0)

-- where no worker stopped, the tasks of all parts are those of all trees
pub all_made : (t : ℕ) (olds : List (List ℕ)) (dones : List Done) → NoneStopped dones → sum_by (total_in (task_by (is_at t))) (parts_of olds dones) ≡ made_in t dones
all_made t olds [] none = refl
all_made t olds (d ∷ dones) none =
    let P : Done → Type 0 = λ (d : Done). d.stop ≡ None in
    let first : total_in (task_by (is_at t)) (part_of olds d) ≡ made_at t (made_by d.kit) = ap (λ s. total_in (task_by (is_at t)) (part_by (claims_of olds (made_by d.kit)) s)) (All-head P d dones none) ∙ made_sum t olds (made_by d.kit) in
    omega (arith, sum_by-cons (total_in (task_by (is_at t))) (part_of olds d) (parts_of olds dones), sum_by-cons (λ (d : Done). made_at t (made_by d.kit)) d dones, first, all_made t olds dones (All-tail P d dones none))

pub some_ended : (olds : List (List ℕ)) (dones : List Done) → NoneStopped dones → 1 ≤ length dones → 1 ≤ sum_by ends_of (parts_of olds dones)
some_ended olds [] none le = absurd (omega arith)
some_ended olds (d ∷ dones) none le =
    let P : Done → Type 0 = λ (d : Done). d.stop ≡ None in
    let over : ends_of (part_of olds d) ≡ 1 = ap (λ s. ends_of (part_by (claims_of olds (made_by d.kit)) s)) (All-head P d dones none) in
    omega (arith, sum_by-cons ends_of (part_of olds d) (parts_of olds dones), over)

-- ---- the parts are lawful
pub tree_at : (news : List Tree) (i : ℕ) (tree : Tree) → slice_get news i ≡ Some tree → wires_of (tree_wires news) i ≡ numbers tree.wires.items
tree_at [] i tree at = absurd (let none : List Tree = [] in let lt : i < 0 = slice_get_within none i tree at in omega arith)
tree_at (x ∷ news) zero tree at = ap (λ (u : Tree). numbers u.wires.items) (get_or_from_slice_get (x ∷ news) 0 tree x at)
tree_at (x ∷ news) (suc i) tree at = tree_at news i tree at

module _ (graph : Network) (r : RoundPrices) (tasks : List Task) (news : List Tree) (are : AreTrees graph r tasks news) where
  pub made_wires : (m : ℕ × Tree) → IsMade graph r tasks m → numbers m.1.wires.items ≡ wires_of (tree_wires news) m.0
  made_wires m made =
      let lt : m.0 < length news = omega (arith, are.long, slice_get_within tasks m.0 made.task made.at) in
      let there = slice_get-get_or news m.0 m.1 lt in
      ap (λ (u : Route). numbers u.wires) (made_unique graph r tasks m.0 m.1 _ made (are.each m.0 _ there)) ∙ sym (tree_at news m.0 _ there)

  all_made_wires : (trees : List (ℕ × Tree)) → All (IsMade graph r tasks) trees → AreNewOf (tree_wires news) trees
  all_made_wires trees made = All-weaker (IsMade graph r tasks) (λ (m : ℕ × Tree). numbers m.1.wires.items ≡ wires_of (tree_wires news) m.0) made_wires trees made

  settled_all : (olds : List (List ℕ)) (dones : List Done) → All (IsLeft graph r tasks olds) dones → NoneStopped dones → AllByRecursion (IsSettled olds (tree_wires news)) (parts_of olds dones)
  settled_all olds [] left none = tt
  settled_all olds (d ∷ dones) left none =
      let first = All-head (IsLeft graph r tasks olds) d dones left in
      let over : d.stop ≡ None = All-head (λ (d : Done). d.stop ≡ None) d dones none in
      let settled = (work_lawful olds (tree_wires news) (made_by d.kit) (all_made_wires (made_by d.kit) first.made) first.falls).done in
      (subst (λ s. IsSettled olds (tree_wires news) (part_by (claims_of olds (made_by d.kit)) s)) (sym over) settled, settled_all olds dones (All-tail (IsLeft graph r tasks olds) d dones left) (All-tail (λ (d : Done). d.stop ≡ None) d dones none))

-- the main view at the close
abbrev pub end_view : Board → ℕ → List Done → View
end_view board splits dones = main_view board splits 0 (parts_of board.olds dones)

main_ends : (board : Board) (splits : ℕ) (dones : List Done) → NoneStopped dones → 1 ≤ length dones → 1 ≤ ends (end_view board splits dones)
main_ends board splits dones none le = omega (arith, sum_by-cons ends_of no_part (parts_of board.olds dones), some_ended board.olds dones none le)

-- each task has a tree in some kit
pub all_wanted : (board : Board) (tasks : List Task) (splits : ℕ) (dones : List Done) (closed : List ℕ) → IsClosing (end_view board splits dones) closed → length board.olds ≡ length tasks → NoneStopped dones → 1 ≤ length dones
    → (t : ℕ) → t < length tasks → 1 ≤ made_in t dones
all_wanted board tasks splits dones closed is long none le t lt =
    let v = end_view board splits dones in
    let all : min (total one v + ends v) (length board.olds) ≡ length board.olds = omega (arith, main_ends board splits dones none le, is.draws (λ x. 1), below_ones (min (total one v + ends v) (length board.olds))) in
    let once : total (task_by (is_at t)) v ≡ 1 = is.draws (is_at t) ∙ (ap (λ m. sum_below m (is_at t)) all ∙ below_once (length board.olds) t (omega (arith, long, lt))) in
    omega (arith, once, sum_by-cons (total_in (task_by (is_at t))) no_part (parts_of board.olds dones), all_made t board.olds dones none)

pub many_olds : (tasks : List Task) → length (old_wires tasks) ≡ length tasks
many_olds tasks = length-map tasks (λ (t : Task). numbers t.old.items)

pub round_done : (graph : Network) (r : RoundPrices) (tasks : List Task) (board : Board) (splits : ℕ) (dones : List Done) (news : List Tree) (shut : Shut) → AreStarted graph r tasks board → IsClosing (end_view board splits dones) shut.closed → shut.opened ≡ board.counts
    → (shut.claims ≡ total one (end_view board splits dones)) × (shut.releases ≡ total releases_of (end_view board splits dones)) × (shut.holds ≡ total holds_of (end_view board splits dones))
    → All (IsLeft graph r tasks board.olds) dones → NoneStopped dones → 1 ≤ length dones → AreTrees graph r tasks news
    → IsPlayed graph r tasks news shut
round_done graph r tasks board splits dones news shut started is opened numbers_are left none le trees =
    let v = end_view board splits dones in
    let routes = closing_law v shut.closed (tree_wires news) is (main_ends board splits dones none le) (record { lawful = record { claims = tt; ended = λ over. tt }; over = inr refl }, settled_all graph r tasks news trees board.olds dones left none) in
    let many : length board.olds ≡ length tasks = ap length started.olds ∙ many_olds tasks in
    let many_news : length (tree_wires news) ≡ length board.olds = length-map news (λ (t : Tree). numbers t.wires.items) ∙ (trees.long ∙ sym many) in
    let over_olds = λ (g : List ℕ → ℕ). below_lists g board.olds ∙ ap (sum_by g) started.olds in
    let over_news = λ (g : List ℕ → ℕ). ap (λ n. sum_below n (λ t. g (wires_of (tree_wires news) t))) (sym many_news) ∙ below_lists g (tree_wires news) in
    record {
      trees = trees;
      opened = opened ∙ started.counts;
      long = is.long ∙ ap length started.counts;
      closed = λ w lt. (let counts : slice_index board.counts w ≡ slice_index r.counts.items w = ap (λ xs. slice_index xs w) started.counts in let e = routes.counts w (omega (arith, lt, ap length started.counts)) in omega (arith, e, counts, over_olds (times w), over_news (times w)));
      claims = numbers_are.0 ∙ (routes.claims ∙ many);
      releases = numbers_are.1 ∙ (routes.releases ∙ over_olds length);
      holds = numbers_are.2 ∙ (routes.holds ∙ over_news length);
    }
