-- The least task with a sink to which no walk leads.
use Rattle.std.proofs.Common.{◌≡◌, ◌≢◌, ℕ, zero, suc, ◌+◌, ◌≤◌, ◌<◌, ◌⊎◌, Bool, true, false, true≢false, List, [], ◌∷◌, All, length, min, cond, eqb, nat_lt, if◌then◌else◌, Option, None, Some, slice_get, inl, inr, refl, sym, ap, subst, arith, ◌∙◌}
use Rattle.std.proofs.lemmas.Bool.{cases_eq, cases_lt, lt-ltb, le-ltb}
use Rattle.std.specs.List.{sum_by, fold, AllByRecursion}
use Rattle.std.proofs.lemmas.List.Sums.{sum_by-cons}
use Rattle.std.proofs.lemmas.List.Elements.{All-head, All-tail, All-from_recursion}
use Rattle.std.proofs.lemmas.Option.{get_or_from_slice_get}
use Rattle.ice_base.specs.declared.number.WireNo.{WireNo}
use Rattle.ice_graph.specs.declared.tree.Tree.{Tree}
use Rattle.ice_graph.specs.Network.{Network}
use Rattle.ice_core.specs.declared.round_prices.RoundPrices.{RoundPrices}
use Rattle.ice_core.specs.declared.task.Task.{Task}
use Rattle.ice_core.specs.Routes.{sum_below}
use Rattle.ice_core.proofs.Sums.{is_at, at_itself, at_other, below_once, below_of}
use Rattle.ice_negotiate_defs.specs.Trees.{AreReached}
use Rattle.ice_words.specs.Views.{total_in, total, one, task_by, ends, claim_of, no_part}
use Rattle.ice_words.specs.Rule.{IsClosing}
use Rattle.ice_words.specs.Grips.{Board}
use Rattle.ice_worker.specs.declared.stop.WorkStop.{WorkStop}
use Rattle.ice_worker.specs.declared.stop.WorkStop.TheVariants.{Unreachable, NoMemory}
use Rattle.ice_worker.specs.Tasks.{IsMade}
use Rattle.ice_worker.specs.Kits.{claims_of, made_by}
use Rattle.ice_negotiate_round.specs.declared.jobs.Done.{Done}
use Rattle.ice_negotiate_round.specs.Played.{IsCut, IsLeft, IsTaskStop, NoneStopped, made_at, made_in, part_by, part_of, parts_of, sooner, soonest}
use Rattle.ice_negotiate_round.proofs.Finishing.{made_sum, end_view}

some_not_none : (stop : WorkStop) → Some stop ≡ None → ⊥
some_not_none stop is = absurd (let e : is_there (Some stop) ≡ is_there None = ap is_there is in true≢false e)
  where
    is_there : Option WorkStop → Bool
    is_there None = false
    is_there (Some stop) = true

less : (u t : ℕ) → nat_lt u t ≡ true → u < t
less u t is = elim (cases_lt u t) [
  | inl lt ↦ lt
  | inr ge ↦ absurd (true≢false (sym is ∙ le-ltb u t ge))
]

more : (u t : ℕ) → nat_lt u t ≡ false → t ≤ u
more u t is = elim (cases_lt u t) [
  | inl lt ↦ absurd (true≢false (sym (lt-ltb u t lt) ∙ is))
  | inr ge ↦ ge
]

-- ---- the soonest stop
abbrev task_at : Option WorkStop → ℕ
task_at None = 0
task_at (Some (Unreachable t s)) = t
task_at (Some NoMemory) = 0

abbrev HasStop : WorkStop → List Done → Type 0
HasStop stop [] = ⊥
HasStop stop (d ∷ dones) = (d.stop ≡ Some stop) ⊎ HasStop stop dones

abbrev IsNotBefore : ℕ → Done → Type 0
IsNotBefore t d = (u : ℕ) (r : WireNo) → d.stop ≡ Some (Unreachable u r) → t ≤ u

abbrev HasMemory : Done → Type 0
HasMemory d = d.stop ≢ Some NoMemory

-- the soonest of these and of the best so far
record IsSoonest (best : Option WorkStop) (dones : List Done) (t : ℕ) (s : WireNo) : Type 0 where
  found : (best ≡ Some (Unreachable t s)) ⊎ HasStop (Unreachable t s) dones
  first : (u : ℕ) (r : WireNo) → best ≡ Some (Unreachable u r) → t ≤ u
  each : AllByRecursion (IsNotBefore t) dones

none_first : (a b : Option WorkStop) → sooner a b ≡ None → (a ≡ None) × (b ≡ None)
none_first None b is = (refl, is)
none_first (Some (Unreachable t s)) None is = absurd (some_not_none (Unreachable t s) is)
none_first (Some (Unreachable t s)) (Some (Unreachable u r)) is = by_test (nat_lt u t) is
  where
    by_test : (b : Bool) → (if b then Some (Unreachable u r) else Some (Unreachable t s)) ≡ None → (Some (Unreachable t s) ≡ None) × (Some (Unreachable u r) ≡ None)
    by_test true is = absurd (some_not_none (Unreachable u r) is)
    by_test false is = absurd (some_not_none (Unreachable t s) is)
none_first (Some (Unreachable t s)) (Some NoMemory) is = absurd (some_not_none NoMemory is)
none_first (Some NoMemory) b is = absurd (some_not_none NoMemory is)

picked : (a b : Option WorkStop) (stop : WorkStop) → sooner a b ≡ Some stop → (a ≡ Some stop) ⊎ (b ≡ Some stop)
picked None b stop is = inr is
picked (Some (Unreachable t s)) None stop is = inl is
picked (Some (Unreachable t s)) (Some (Unreachable u r)) stop is = by_test (nat_lt u t) is
  where
    by_test : (b : Bool) → (if b then Some (Unreachable u r) else Some (Unreachable t s)) ≡ Some stop → (Some (Unreachable t s) ≡ Some stop) ⊎ (Some (Unreachable u r) ≡ Some stop)
    by_test true is = inr is
    by_test false is = inl is
picked (Some (Unreachable t s)) (Some NoMemory) stop is = inr is
picked (Some NoMemory) b stop is = inl is

-- the sooner of two is at no greater task than each
abbrev AtMost : ℕ → Option WorkStop → Type 0
AtMost u stop = (v : ℕ) × (q : WireNo) × (stop ≡ Some (Unreachable v q)) × (v ≤ u)

both_low : (t : ℕ) (s : WireNo) (u : ℕ) (r : WireNo) (b : Bool) → nat_lt u t ≡ b → AtMost t (if b then Some (Unreachable u r) else Some (Unreachable t s)) × AtMost u (if b then Some (Unreachable u r) else Some (Unreachable t s))
both_low t s u r true lt = (let l : u < t = less u t lt in ((u, r, refl, omega arith), (u, r, refl, omega arith)))
both_low t s u r false ge = (let l : t ≤ u = more u t ge in ((t, s, refl, omega arith), (t, s, refl, omega arith)))

low_first : (b : Option WorkStop) (t : ℕ) (s : WireNo) → b ≢ Some NoMemory → AtMost t (sooner (Some (Unreachable t s)) b)
low_first None t s memory = (t, s, refl, omega arith)
low_first (Some (Unreachable u r)) t s memory = (both_low t s u r (nat_lt u t) refl).0
low_first (Some NoMemory) t s memory = absurd (memory refl)

low_second : (a : Option WorkStop) (u : ℕ) (r : WireNo) → a ≢ Some NoMemory → AtMost u (sooner a (Some (Unreachable u r)))
low_second None u r memory = (u, r, refl, omega arith)
low_second (Some (Unreachable t s)) u r memory = (both_low t s u r (nat_lt u t) refl).1
low_second (Some NoMemory) u r memory = absurd (memory refl)

abbrev best_of : Option WorkStop → List Done → Option WorkStop
best_of best dones = fold (λ (best : Option WorkStop) (d : Done). sooner best d.stop) best dones

none_stopped : (best : Option WorkStop) (dones : List Done) → best_of best dones ≡ None → (best ≡ None) × AllByRecursion (λ (d : Done). d.stop ≡ None) dones
none_stopped best [] is = (is, tt)
none_stopped best (d ∷ dones) is =
    let t = none_stopped (sooner best d.stop) dones is in
    let both = none_first best d.stop t.0 in
    (both.0, (both.1, t.1))

memory_kept : (a b : Option WorkStop) → a ≢ Some NoMemory → b ≢ Some NoMemory → sooner a b ≢ Some NoMemory
memory_kept a b one other is = elim (picked a b NoMemory is) [
  | inl e ↦ one e
  | inr e ↦ other e
]

is_soonest : (best : Option WorkStop) (dones : List Done) (t : ℕ) (s : WireNo) → best ≢ Some NoMemory → AllByRecursion HasMemory dones → best_of best dones ≡ Some (Unreachable t s) → IsSoonest best dones t s
is_soonest best [] t s memory each is = record {
  found = inl is;
  first = λ u r e. (let same : t ≡ u = ap task_at (sym is ∙ e) in omega arith);
  each = tt;
}
is_soonest best (d ∷ dones) t s memory each is =
    let rest = is_soonest (sooner best d.stop) dones t s (memory_kept best d.stop memory each.0) each.1 is in
    record {
      found = elim rest.found [
        | inl e ↦ elim (picked best d.stop (Unreachable t s) e) [
          | inl a ↦ inl a
          | inr b ↦ inr (inl b)
        ]
        | inr h ↦ inr (inr h)
      ];
      first = λ u r e. (let low = subst (λ (a : Option WorkStop). AtMost u (sooner a d.stop)) (sym e) (low_first d.stop u r each.0) in let le : t ≤ low.0 = rest.first low.0 low.1 low.2 in let m : low.0 ≤ u = low.3 in omega arith);
      each = ((λ u r e. (let low = subst (λ (b : Option WorkStop). AtMost u (sooner best b)) (sym e) (low_second best u r memory) in let le : t ≤ low.0 = rest.first low.0 low.1 low.2 in let m : low.0 ≤ u = low.3 in omega arith)), rest.each);
    }

pub none_stopped_all : (dones : List Done) → soonest dones ≡ None → NoneStopped dones
none_stopped_all dones is = All-from_recursion (λ (d : Done). d.stop ≡ None) dones (none_stopped None dones is).1

-- ---- the tasks before the stop
part_made : (j t : ℕ) (olds : List (List ℕ)) (d : Done) → IsNotBefore t d → j < t → total_in (task_by (is_at j)) (part_of olds d) ≡ made_at j (made_by d.kit)
part_made j t olds d after lt = by_stop d.stop refl
  where
    by_stop : (stop : Option WorkStop) → d.stop ≡ stop → total_in (task_by (is_at j)) (part_by (claims_of olds (made_by d.kit)) stop) ≡ made_at j (made_by d.kit)
    by_stop None is = made_sum j olds (made_by d.kit)
    by_stop (Some (Unreachable u r)) is =
        let le : t ≤ u = after u r is in
        let other : j ≢ u = omega arith in
        omega (arith, sum_by-cons (task_by (is_at j)) (claim_of u) (claims_of olds (made_by d.kit)), at_other j u other, made_sum j olds (made_by d.kit))
    by_stop (Some NoMemory) is = made_sum j olds (made_by d.kit)

parts_made : (j t : ℕ) (olds : List (List ℕ)) (dones : List Done) → AllByRecursion (IsNotBefore t) dones → j < t → sum_by (total_in (task_by (is_at j))) (parts_of olds dones) ≡ made_in j dones
parts_made j t olds [] each lt = refl
parts_made j t olds (d ∷ dones) each lt = omega (arith, sum_by-cons (total_in (task_by (is_at j))) (part_of olds d) (parts_of olds dones), sum_by-cons (λ (d : Done). made_at j (made_by d.kit)) d dones, part_made j t olds d each.0 lt, parts_made j t olds dones each.1 lt)

stop_claimed : (t : ℕ) (s : WireNo) (olds : List (List ℕ)) (dones : List Done) → HasStop (Unreachable t s) dones → 1 ≤ sum_by (total_in (task_by (is_at t))) (parts_of olds dones)
stop_claimed t s olds [] has = absurd has
stop_claimed t s olds (d ∷ dones) (inl is) =
    let cs = claims_of olds (made_by d.kit) in
    let here : total_in (task_by (is_at t)) (part_of olds d) ≡ sum_by (task_by (is_at t)) (claim_of t ∷ cs) = ap (λ stop. total_in (task_by (is_at t)) (part_by cs stop)) is in
    omega (arith, sum_by-cons (total_in (task_by (is_at t))) (part_of olds d) (parts_of olds dones), here, sum_by-cons (task_by (is_at t)) (claim_of t) cs, at_itself t)
stop_claimed t s olds (d ∷ dones) (inr has) = omega (arith, sum_by-cons (total_in (task_by (is_at t))) (part_of olds d) (parts_of olds dones), stop_claimed t s olds dones has)

module _ (graph : Network) (r : RoundPrices) (tasks : List Task) where
  -- a task that was made has a tree
  made_tree : (j : ℕ) (trees : List (ℕ × Tree)) → All (IsMade graph r tasks) trees → 1 ≤ made_at j trees → (m : ℕ × Tree) × (m.0 ≡ j) × IsMade graph r tasks m
  made_tree j [] made some_of = absurd (omega (arith, some_of))
  made_tree j (m ∷ trees) made some_of = elim (cases_eq m.0 j) [
    | inl same ↦ (m, same, All-head (IsMade graph r tasks) m trees made)
    | inr other ↦ made_tree j trees (All-tail (IsMade graph r tasks) m trees made) (omega (arith, some_of, sum_by-cons (λ (m : ℕ × Tree). cond (eqb m.0 j) 1 0) m trees, at_other m.0 j other))
  ]

  module _ (olds : List (List ℕ)) where
    all_memory : (dones : List Done) → All (IsLeft graph r tasks olds) dones → AllByRecursion HasMemory dones
    all_memory [] left = tt
    all_memory (d ∷ dones) left = ((All-head (IsLeft graph r tasks olds) d dones left).memory, all_memory dones (All-tail (IsLeft graph r tasks olds) d dones left))

    done_tree : (j : ℕ) (dones : List Done) → All (IsLeft graph r tasks olds) dones → 1 ≤ made_in j dones → (m : ℕ × Tree) × (m.0 ≡ j) × IsMade graph r tasks m
    done_tree j [] left some_of = absurd (omega (arith, some_of))
    done_tree j (d ∷ dones) left some_of = elim (none_or_some (made_at j (made_by d.kit))) [
      | inl none ↦ done_tree j dones (All-tail (IsLeft graph r tasks olds) d dones left) (omega (arith, some_of, none, sum_by-cons (λ (d : Done). made_at j (made_by d.kit)) d dones))
      | inr more ↦ made_tree j (made_by d.kit) (All-head (IsLeft graph r tasks olds) d dones left).made more
    ]
      where
        none_or_some : (n : ℕ) → (n ≡ 0) ⊎ (1 ≤ n)
        none_or_some zero = inl refl
        none_or_some (suc n) = inr (omega arith)

    cause_of : (t : ℕ) (s : WireNo) (dones : List Done) → All (IsLeft graph r tasks olds) dones → HasStop (Unreachable t s) dones → IsCut graph tasks t s
    cause_of t s [] left has = absurd has
    cause_of t s (d ∷ dones) left (inl is) = (All-head (IsLeft graph r tasks olds) d dones left).stop t s is
    cause_of t s (d ∷ dones) left (inr has) = cause_of t s dones (All-tail (IsLeft graph r tasks olds) d dones left) has

  pub round_stopped : (board : Board) (splits : ℕ) (dones : List Done) (closed : List ℕ) (stop : WorkStop) → IsClosing (end_view board splits dones) closed → All (IsLeft graph r tasks board.olds) dones → soonest dones ≡ Some stop → IsTaskStop graph tasks stop
  round_stopped board splits dones closed NoMemory is left best = tt
  round_stopped board splits dones closed (Unreachable t s) is left best =
      let soon = is_soonest None dones t s (λ e. some_not_none NoMemory (sym e)) (all_memory board.olds dones left) best in
      let has : HasStop (Unreachable t s) dones = elim soon.found [
        | inl e ↦ absurd (some_not_none (Unreachable t s) (sym e))
        | inr h ↦ h
      ] in
      let v = end_view board splits dones in
      let m : ℕ = min (total one v + ends v) (length board.olds) in
      let drawn : 1 ≤ sum_below m (is_at t) = omega (arith, is.draws (is_at t), sum_by-cons (total_in (task_by (is_at t))) no_part (parts_of board.olds dones), stop_claimed t s board.olds dones has) in
      let below : t < m = below_of m t drawn in (
        cause_of board.olds t s dones left has,
        λ j task lt at.
            let once : sum_below m (is_at j) ≡ 1 = below_once m j (omega arith) in
            let made : 1 ≤ made_in j dones = omega (arith, once, is.draws (is_at j), sum_by-cons (total_in (task_by (is_at j))) no_part (parts_of board.olds dones), parts_made j t board.olds dones soon.each lt) in
            let u = done_tree board.olds j dones left made in
            let at' : slice_get tasks j ≡ Some u.2.task = subst (λ k. slice_get tasks k ≡ Some u.2.task) u.1 u.2.at in
            let same : u.2.task ≡ task = sym (get_or_from_slice_get tasks j u.2.task u.2.task at') ∙ get_or_from_slice_get tasks j task u.2.task at in
            subst (λ (x : Task). AreReached graph.edges x.root x.sinks.items) same u.2.reached,
      )
