-- Words show a state of the core: the steps are undone one by one until none is left, and then done again in the core.
use Rattle.std.proofs.Common.{◌≡◌, ℕ, zero, suc, ◌+◌, ◌-◌, ◌≤◌, ◌<◌, ◌⊎◌, List, [], ◌∷◌, ◌++◌, length, map, min, set, drop, Bool, true, false, true≢false, nat_lt, if◌then◌else◌, lt-ltb, le-ltb, inl, inr, get_or-set_same, get_or-set_other, length-set, length-append, append_assoc, append-nil, slice_index, slice_set, slice_get, Some, refl, sym, ap, subst, arith, ◌∙◌}
use mathlib.Core.Option.{some, some-injective, some-ne-none}
use lib.ListN.{get_elem?}
use Rattle.std.proofs.lemmas.Option.{slice_get_within, get_or_from_slice_get}
use Rattle.std.proofs.lemmas.Bool.{cases_eq}
use Rattle.std.proofs.lemmas.List.Sums.{sum_by-cons}
use Rattle.std.specs.List.{sum_by, AllByRecursion}
use Rattle.ice_words.specs.declared.view.Claim.{Claim}
use Rattle.ice_words.specs.declared.view.Part.{Part}
use Rattle.ice_core.specs.Routes.{times, sum_below, wires_of}
use Rattle.ice_words.specs.Views.{total_in, one, task_by, released_on, held_on, ends_of}
use Rattle.ice_words.specs.Lawful.{AreFinished, IsNewestUnderWay, IsNewestFinished, IsLawful}
use Rattle.ice_core.specs.declared.event.Event.{Event}
use Rattle.ice_core.specs.declared.event.Event.TheVariants.{Claim as Claims, Release as Releases, Hold as Holds, Post as Posts}
use Rattle.ice_core.specs.Machine.{Worker, CoreState, Allowed, with_task, ending, claiming, releasing, holding, posting, changed_at, next}
use Rattle.ice_words.specs.Showing.{left_of, rest_of, worker_of, core_of, bare, bare_state, IsShown}
use Rattle.ice_core.proofs.Counting.{reached_more}
use Rattle.ice_core.proofs.Sums.{sum_set, sum_at, each_set, each_at, sum_at_most, below_ones, below_upto, at_itself, at_other, times_push, times_append}
use Rattle.ice_words.proofs.Fronts.{before_claim}

-- ---- lists
drop_front : (xs ys zs : List ℕ) → xs ++ ys ≡ zs → drop (length xs) zs ≡ ys
drop_front xs ys zs is = subst (λ us. drop (length xs) us ≡ ys) is (drop_own xs ys)
  where
    drop_own : (xs ys : List ℕ) → drop (length xs) (xs ++ ys) ≡ ys
    drop_own [] ys = refl
    drop_own (x ∷ xs) ys = drop_own xs ys

pub last_of : (xs : List ℕ) → (xs ≡ []) ⊎ ((ys : List ℕ) × (w : ℕ) × (xs ≡ ys ++ w ∷ []))
last_of [] = inl refl
last_of (x ∷ xs) = elim (last_of xs) [
  | inl none ↦ inr ([], x, ap (λ us. x ∷ us) none)
  | inr t ↦ inr (x ∷ t.0, t.1, ap (λ us. x ∷ us) t.2)
]

set_down_up : (xs : List ℕ) (i : ℕ) → 1 ≤ slice_index xs i → slice_set (slice_set xs i (slice_index xs i - 1)) i (slice_index (slice_set xs i (slice_index xs i - 1)) i + 1) ≡ xs
set_down_up [] i le = refl
set_down_up (x ∷ xs) zero le = (let e : x - 1 + 1 ≡ x = omega arith in ap (λ y. y ∷ xs) e)
set_down_up (x ∷ xs) (suc i) le = ap (λ ys. x ∷ ys) (set_down_up xs i le)

set_up_down : (xs : List ℕ) (i : ℕ) → slice_set (slice_set xs i (slice_index xs i + 1)) i (slice_index (slice_set xs i (slice_index xs i + 1)) i - 1) ≡ xs
set_up_down [] i = refl
set_up_down (x ∷ xs) zero = (let e : x + 1 - 1 ≡ x = omega arith in ap (λ y. y ∷ xs) e)
set_up_down (x ∷ xs) (suc i) = ap (λ ys. x ∷ ys) (set_up_down xs i)

pub same_list : (xs ys : List ℕ) → length xs ≡ length ys → ((i : ℕ) → i < length ys → slice_index xs i ≡ slice_index ys i) → xs ≡ ys
same_list [] [] long same = refl
same_list [] (y ∷ ys) long same = absurd (omega arith)
same_list (x ∷ xs) [] long same = absurd (omega arith)
same_list (x ∷ xs) (y ∷ ys) long same =
    let first : x ≡ y = same 0 (omega arith) in
    let rest : xs ≡ ys = same_list xs ys (omega arith) (λ i lt. same (suc i) (omega arith)) in
    λ k. first k ∷ rest k

-- ---- a step more in the core
pub core_same : (n m : ℕ) (xs ys : List ℕ) (us vs : List Worker) → n ≡ m → xs ≡ ys → us ≡ vs → core_of n xs us ≡ core_of m ys vs
core_same n m xs ys us vs number counts workers = λ k. record { number = number k; counts = counts k; up = 0; down = 0; workers = workers k }

-- what the bare worker may do, the worker may do
bare_at : (us : List Worker) (k : ℕ) (v : Worker) → slice_get (map bare us) k ≡ Some v → (u : Worker) × (slice_get us k ≡ Some u) × (bare u ≡ v)
bare_at [] k v at = absurd (let none : List Worker = [] in let lt : k < 0 = slice_get_within none k v at in omega arith)
bare_at (u ∷ us) zero v at = (u, refl, get_or_from_slice_get (bare u ∷ map bare us) zero v (bare u) at)
bare_at (u ∷ us) (suc k) v at = bare_at us k v at

bare_allowed : (s : CoreState) (e : Event) → Allowed (bare_state s) e → Allowed s e
bare_allowed s (Claims k) may =
    let t = bare_at s.workers k may.0 may.1 in
    (t.0, t.1, (ap (λ (u : Worker). u.left) t.2 ∙ may.2.0, ap (λ (u : Worker). u.rest) t.2 ∙ may.2.1, ap (λ (u : Worker). u.ended) t.2 ∙ may.2.2))
bare_allowed s (Releases k w) may =
    let t = bare_at s.workers k may.0 may.1 in
    (t.0, t.1, (may.2.0, ap (λ (u : Worker). u.left) t.2 ∙ may.2.1))
bare_allowed s (Holds k w) may =
    let t = bare_at s.workers k may.0 may.1 in
    (t.0, t.1, (ap (λ (u : Worker). u.left) t.2 ∙ may.2.0, (may.2.1.0, ap (λ (u : Worker). u.rest) t.2 ∙ may.2.1.1)))
bare_allowed s (Posts k up) may = (let t = bare_at s.workers k may.0 may.1 in (t.0, t.1))

-- an event does the same to bare workers
bare_changed : (f g : Worker → Worker) → ((u : Worker) → bare (f u) ≡ bare (g (bare u))) → (us : List Worker) (k : ℕ) → map bare (changed_at k f us) ≡ map bare (changed_at k g (map bare us))
bare_changed f g same [] k = refl
bare_changed f g same (u ∷ us) zero = λ i. same u i ∷ bare_twice us i
  where
    bare_twice : (us : List Worker) → map bare us ≡ map bare (map bare us)
    bare_twice [] = refl
    bare_twice (u ∷ us) = ap (λ vs. bare u ∷ vs) (bare_twice us)
bare_changed f g same (u ∷ us) (suc k) = ap (λ vs. bare u ∷ vs) (bare_changed f g same us k)

claiming_bare : (olds news : List (List ℕ)) (n : ℕ) (u : Worker) → bare (claiming olds news n u) ≡ bare (claiming olds news n (bare u))
claiming_bare olds news n u = by_test (nat_lt n (length olds))
  where
    by_test : (b : Bool) → bare (if b then with_task olds news n u else ending u) ≡ bare (if b then with_task olds news n (bare u) else ending (bare u))
    by_test true = refl
    by_test false = refl

bare_next : (olds news : List (List ℕ)) (s : CoreState) (e : Event) → bare_state (next olds news s e) ≡ bare_state (next olds news (bare_state s) e)
bare_next olds news s (Claims k) = ap (λ us. core_of (s.number + 1) s.counts us) (bare_changed (claiming olds news s.number) (claiming olds news s.number) (claiming_bare olds news s.number) s.workers k)
bare_next olds news s (Releases k w) = ap (λ us. core_of s.number (slice_set s.counts w.0 (slice_index s.counts w.0 - 1)) us) (bare_changed (releasing (slice_index s.counts w.0)) (releasing (slice_index s.counts w.0)) (λ u. refl) s.workers k)
bare_next olds news s (Holds k w) = ap (λ us. core_of s.number (slice_set s.counts w.0 (slice_index s.counts w.0 + 1)) us) (bare_changed (holding (slice_index s.counts w.0)) (holding (slice_index s.counts w.0)) (λ u. refl) s.workers k)
bare_next olds news s (Posts k true) = ap (λ us. core_of s.number s.counts us) (bare_changed (posting true) (posting true) (λ u. refl) s.workers k)
bare_next olds news s (Posts k false) = ap (λ us. core_of s.number s.counts us) (bare_changed (posting false) (posting false) (λ u. refl) s.workers k)

reach_more : (olds news : List (List ℕ)) (opening : List ℕ) (t u : CoreState) (e : Event) → IsShown olds news opening t → Allowed t e → bare_state (next olds news t e) ≡ u → IsShown olds news opening u
reach_more olds news opening t u e r may is = record {
  state = next olds news r.state e;
  reached = reached_more olds news opening r.state e r.reached (bare_allowed r.state e (subst (λ s. Allowed s e) (sym r.same) may));
  same = bare_next olds news r.state e ∙ (ap (λ s. bare_state (next olds news s e)) r.same ∙ is);
}

abbrev workers_of : List (List ℕ) → List (List ℕ) → List Part → List Worker
workers_of olds news ps = map (worker_of olds news) ps

worker_at : (olds news : List (List ℕ)) (ps : List Part) (k : ℕ) (p q : Part) → get_elem? ps k ≡ some p → slice_get (map (worker_of olds news) (set ps k q)) k ≡ Some (worker_of olds news q)
worker_at olds news [] k p q at = absurd (some-ne-none p (sym at))
worker_at olds news (x ∷ ps) zero p q at = refl
worker_at olds news (x ∷ ps) (suc k) p q at = worker_at olds news ps k p q at

pub bare_workers : (olds news : List (List ℕ)) (ps : List Part) → map bare (map (worker_of olds news) ps) ≡ map (worker_of olds news) ps
bare_workers olds news [] = refl
bare_workers olds news (p ∷ ps) = ap (λ us. worker_of olds news p ∷ us) (bare_workers olds news ps)

workers_step : (olds news : List (List ℕ)) (f : Worker → Worker) (ps : List Part) (k : ℕ) (p q : Part) → get_elem? ps k ≡ some p → bare (f (worker_of olds news q)) ≡ worker_of olds news p → map bare (changed_at k f (map (worker_of olds news) (set ps k q))) ≡ map (worker_of olds news) ps
workers_step olds news f [] k p q at is = absurd (some-ne-none p (sym at))
workers_step olds news f (x ∷ ps) zero p q at is =
    let first : bare (f (worker_of olds news q)) ≡ worker_of olds news x = is ∙ ap (worker_of olds news) (sym (some-injective x p at)) in
    λ i. first i ∷ bare_workers olds news ps i
workers_step olds news f (x ∷ ps) (suc k) p q at is = ap (λ us. worker_of olds news x ∷ us) (workers_step olds news f ps k p q at is)

-- ---- parts and counts that belong together
abbrev pub AreWithin : ℕ → Part → Type 0
AreWithin n p = AllByRecursion (λ (c : Claim). AllByRecursion (λ w. w < n) c.held) p.claims

abbrev pub sum_of : (Claim → ℕ) → List Part → ℕ
sum_of g ps = sum_by (total_in g) ps

pub record IsConfig (olds news : List (List ℕ)) (opening : List ℕ) (number : ℕ) (counts : List ℕ) (ps : List Part) : Type 0 where
  pub few : length ps ≤ 8
  pub lawful : AllByRecursion (IsLawful olds news) ps
  pub within : AllByRecursion (AreWithin (length opening)) ps
  pub draws : (f : ℕ → ℕ) → sum_of (task_by f) ps ≡ sum_below (min number (length olds)) f
  pub drawn : number ≡ sum_of one ps + sum_by ends_of ps
  pub long : length counts ≡ length opening
  pub each : (w : ℕ) → w < length opening → slice_index counts w + sum_of (released_on w) ps ≡ slice_index opening w + sum_of (held_on w) ps

-- the part q comes before p
record Undone (olds news : List (List ℕ)) (opening : List ℕ) (number : ℕ) (counts : List ℕ) (earlier : ℕ) (before : List ℕ) (p q : Part) : Type 0 where
  lawful : IsLawful olds news q
  within : AreWithin (length opening) q
  draws : (f : ℕ → ℕ) → total_in (task_by f) q + sum_below (min number (length olds)) f ≡ total_in (task_by f) p + sum_below (min earlier (length olds)) f
  drawn : earlier + (total_in one p + ends_of p) ≡ number + (total_in one q + ends_of q)
  long : length before ≡ length counts
  each : (w : ℕ) → w < length opening → slice_index before w + total_in (released_on w) q + total_in (held_on w) p ≡ slice_index counts w + total_in (released_on w) p + total_in (held_on w) q

config_set : (olds news : List (List ℕ)) (opening : List ℕ) (number : ℕ) (counts : List ℕ) (earlier : ℕ) (before : List ℕ) (ps : List Part) (k : ℕ) (p q : Part) → IsConfig olds news opening number counts ps → get_elem? ps k ≡ some p → Undone olds news opening number counts earlier before p q
    → IsConfig olds news opening earlier before (set ps k q)
config_set olds news opening number counts earlier before ps k p q is at undone =
    let change = λ (h : Part → ℕ). sum_set h ps k p q at in
    record {
      few = omega (arith, length-set ps k q, is.few);
      lawful = each_set (IsLawful olds news) ps k q is.lawful undone.lawful;
      within = each_set (AreWithin (length opening)) ps k q is.within undone.within;
      draws = λ f. omega (arith, change (total_in (task_by f)), undone.draws f, is.draws f);
      drawn = omega (arith, change (total_in one), change ends_of, undone.drawn, is.drawn);
      long = undone.long ∙ is.long;
      each = λ w lt. omega (arith, change (total_in (released_on w)), change (total_in (held_on w)), undone.each w lt, is.each w lt);
    }

-- ---- one step back
abbrev pub size_of : Claim → ℕ
size_of c = 1 + (length c.released + length c.held)

abbrev pub size : Part → ℕ
size p = ends_of p + sum_by size_of p.claims

pub record Back (olds news : List (List ℕ)) (opening : List ℕ) (number : ℕ) (counts : List ℕ) (ps : List Part) : Type 0 where
  pub earlier : ℕ
  pub before : List ℕ
  pub parts : List Part
  pub config : IsConfig olds news opening earlier before parts
  pub fewer : sum_by size parts + 1 ≡ sum_by size ps
  pub again : IsShown olds news opening (core_of earlier before (map (worker_of olds news) parts)) → IsShown olds news opening (core_of number counts (map (worker_of olds news) ps))

finished_left : (olds news : List (List ℕ)) (cs : List Claim) → IsNewestFinished olds news cs → left_of olds cs ≡ []
finished_left olds news [] done = refl
finished_left olds news (c ∷ cs) done = drop_front c.released [] (wires_of olds c.task) (append-nil c.released ∙ done.released)

finished_rest : (olds news : List (List ℕ)) (cs : List Claim) → IsNewestFinished olds news cs → rest_of news cs ≡ []
finished_rest olds news [] done = refl
finished_rest olds news (c ∷ cs) done = drop_front c.held [] (wires_of news c.task) (append-nil c.held ∙ done.held)

-- None is taken back
pub back_end : (olds news : List (List ℕ)) (opening : List ℕ) (number : ℕ) (counts : List ℕ) (ps : List Part) (k : ℕ) (p : Part) → IsConfig olds news opening number counts ps → get_elem? ps k ≡ some p → p.ended ≡ true → Back olds news opening number counts ps
back_end olds news opening number counts ps k p is at over =
    let q : Part = record { claims = p.claims; ended = false } in
    let n : ℕ = length olds in
    let lawful = each_at (IsLawful olds news) ps k p is.lawful at in
    let one_end : ends_of p ≡ 1 = rw over refl in
    let past : n < number = omega (arith, one_end, sum_at ends_of ps k p at, is.drawn, is.draws (λ x. 1), below_ones (min number n)) in
    let undone : Undone olds news opening number counts (number - 1) counts p q = record {
      lawful = record { claims = lawful.claims; ended = λ e. absurd (true≢false (sym e)) };
      within = each_at (AreWithin (length opening)) ps k p is.within at;
      draws = λ f. (let e : min number n ≡ n = omega arith in let o : min (number - 1) n ≡ n = omega arith in rw (e, o) refl);
      drawn = omega (arith, one_end);
      long = refl;
      each = λ w lt. omega arith;
    } in
    let same : number - 1 + 1 ≡ number = omega arith in
    let step : bare (claiming olds news (number - 1) (worker_of olds news q)) ≡ worker_of olds news p =
    (let late : nat_lt (number - 1) n ≡ false = le-ltb (number - 1) n (omega arith) in
    subst (λ b. bare (if b then record { claimed = (number - 1) ∷ map (λ (c : Claim). c.task) p.claims; left = wires_of olds (number - 1); rest = wires_of news (number - 1); ended = false; up = 0; down = 0 } else record { claimed = map (λ (c : Claim). c.task) p.claims; left = left_of olds p.claims; rest = rest_of news p.claims; ended = true; up = 0; down = 0 }) ≡ worker_of olds news p) (sym late)
    (ap (λ b. record { claimed = map (λ (c : Claim). c.task) p.claims; left = left_of olds p.claims; rest = rest_of news p.claims; ended = b; up = 0; down = 0 }) (sym over))) in
    record {
      earlier = number - 1;
      before = counts;
      parts = set ps k q;
      config = config_set olds news opening number counts (number - 1) counts ps k p q is at undone;
      fewer = omega (arith, sum_set size ps k p q at, one_end);
      again = λ r. reach_more olds news opening (core_of (number - 1) counts (workers_of olds news (set ps k q))) (core_of number counts (workers_of olds news ps)) (Claims k) r
          (worker_of olds news q, worker_at olds news ps k p q at, (finished_left olds news p.claims (lawful.ended over), finished_rest olds news p.claims (lawful.ended over), refl))
          (core_same _ _ _ _ _ _ same refl (workers_step olds news (claiming olds news (number - 1)) ps k p q at step));
    }

-- a part whose hand goes on
abbrev pub going : ℕ → List ℕ → List ℕ → List Claim → Part
going t rs hs cs = record { claims = record { task = t; released = rs; held = hs } ∷ cs; ended = false }

going_total : (g : Claim → ℕ) (t : ℕ) (rs hs : List ℕ) (cs : List Claim) → total_in g (going t rs hs cs) ≡ g (record { task = t; released = rs; held = hs }) + sum_by g cs
going_total g t rs hs cs = sum_by-cons g (record { task = t; released = rs; held = hs }) cs

push_not_nil : (xs : List ℕ) (w : ℕ) → xs ++ w ∷ [] ≡ [] → ⊥
push_not_nil xs w e = (let l : length (xs ++ w ∷ []) ≡ 0 = ap length e in omega (arith, l, length-append xs (w ∷ [])))

each_front : (P : ℕ → Type 0) (xs ys : List ℕ) → AllByRecursion P (xs ++ ys) → AllByRecursion P xs × AllByRecursion P ys
each_front P [] ys each = (tt, each)
each_front P (x ∷ xs) ys each = (let t = each_front P xs ys each.1 in ((each.0, t.0), t.1))

-- on lawful parts no more is released than the tasks have
released_before : (olds news : List (List ℕ)) (w n : ℕ) (cs : List Claim) → AreFinished olds news n cs → sum_by (released_on w) cs ≤ sum_by (task_by (λ t. times w (wires_of olds t))) cs
released_before olds news w n [] are = omega arith
released_before olds news w n (c ∷ cs) are =
    let T : Claim → ℕ = task_by (λ t. times w (wires_of olds t)) in
    omega (arith, sum_by-cons (released_on w) c cs, sum_by-cons T c cs, ap (times w) are.1.released, released_before olds news w c.task cs are.2)

released_newest : (olds news : List (List ℕ)) (w : ℕ) (cs : List Claim) → IsNewestUnderWay olds news cs → sum_by (released_on w) cs ≤ sum_by (task_by (λ t. times w (wires_of olds t))) cs
released_newest olds news w [] way = omega arith
released_newest olds news w (c ∷ cs) way =
    let T : Claim → ℕ = task_by (λ t. times w (wires_of olds t)) in
    omega (arith, sum_by-cons (released_on w) c cs, sum_by-cons T c cs, times_append w c.released way.0.left, ap (times w) way.0.released, released_before olds news w c.task cs way.1)

abbrev pub Counted : List (List ℕ) → List ℕ → Type 0
Counted olds opening = (w : ℕ) → w < length opening → sum_below (length olds) (λ t. times w (wires_of olds t)) ≤ slice_index opening w

few_released : (olds news : List (List ℕ)) (opening : List ℕ) (number : ℕ) (counts : List ℕ) (ps : List Part) (w : ℕ) → IsConfig olds news opening number counts ps → Counted olds opening → w < length opening → sum_of (released_on w) ps ≤ slice_index opening w
few_released olds news opening number counts ps w is counted lt =
    let T : ℕ → ℕ = λ t. times w (wires_of olds t) in
    let all = sum_at_most (IsLawful olds news) (total_in (released_on w)) (total_in (task_by T)) 1 (λ p lawful. omega (arith, released_newest olds news w p.claims lawful.claims)) ps is.lawful in
    omega (arith, all, is.draws T, below_upto (min number (length olds)) (length olds) T (omega arith), counted w lt)

-- a hold is taken back
pub back_hold : (olds news : List (List ℕ)) (opening : List ℕ) (number : ℕ) (counts : List ℕ) (ps : List Part) (k t : ℕ) (rs hs : List ℕ) (w : ℕ) (cs : List Claim) → IsConfig olds news opening number counts ps → Counted olds opening → get_elem? ps k ≡ some (going t rs (hs ++ w ∷ []) cs) → Back olds news opening number counts ps
back_hold olds news opening number counts ps k t rs hs w cs is counted at =
    let p : Part = going t rs (hs ++ w ∷ []) cs in
    let q : Part = going t rs hs cs in
    let lawful = each_at (IsLawful olds news) ps k p is.lawful at in
    let way = lawful.claims.0 in
    let within = each_at (AreWithin (length opening)) ps k p is.within at in
    let fronts = each_front (λ x. x < length opening) hs (w ∷ []) within.0 in
    let lt : w < length opening = fronts.1.0 in
    let none : way.left ≡ [] = elim way.first [
      | inl none ↦ none
      | inr none ↦ absurd (push_not_nil hs w none)
    ] in
    let released : rs ++ [] ≡ wires_of olds t = subst (λ l. rs ++ l ≡ wires_of olds t) none way.released in
    let held : hs ++ w ∷ way.rest ≡ wires_of news t = sym (append_assoc hs (w ∷ []) way.rest) ∙ way.held in
    let p_total = λ (g : Claim → ℕ). going_total g t rs (hs ++ w ∷ []) cs in
    let q_total = λ (g : Claim → ℕ). going_total g t rs hs cs in
    let some_of : 1 ≤ slice_index counts w = omega (arith, is.each w lt, few_released olds news opening number counts ps w is counted lt, sum_at (total_in (held_on w)) ps k p at, p_total (held_on w), times_push w hs w, at_itself w) in
    let before : List ℕ = slice_set counts w (slice_index counts w - 1) in
    let here : slice_index before w + total_in (released_on w) q + total_in (held_on w) p ≡ slice_index counts w + total_in (released_on w) p + total_in (held_on w) q =
    (let lt : w < length counts = omega (arith, lt, is.long) in omega (arith, get_or-set_same counts w (slice_index counts w - 1) 0 lt, some_of, p_total (released_on w), q_total (released_on w), p_total (held_on w), q_total (held_on w), times_push w hs w, at_itself w)) in
    let undone : Undone olds news opening number counts number before p q = record {
      lawful = record { claims = (record { left = []; released = released; rest = w ∷ way.rest; held = held; first = inl refl }, lawful.claims.1); ended = λ e. absurd (true≢false (sym e)) };
      within = (fronts.0, within.1);
      draws = λ f. omega (arith, p_total (task_by f), q_total (task_by f));
      drawn = omega (arith, p_total one, q_total one);
      long = length-set counts w (slice_index counts w - 1);
      each = λ x le. elim (cases_eq x w) [
        | inl same ↦ subst (λ y. slice_index before y + total_in (released_on y) q + total_in (held_on y) p ≡ slice_index counts y + total_in (released_on y) p + total_in (held_on y) q) (sym same) here
        | inr other ↦ (omega (arith, get_or-set_other counts w x (slice_index counts w - 1) 0 other, p_total (released_on x), q_total (released_on x), p_total (held_on x), q_total (held_on x), times_push x hs w, at_other w x (λ e. other (sym e))))
      ];
    } in
    let rest : rest_of news q.claims ≡ w ∷ way.rest = drop_front hs (w ∷ way.rest) (wires_of news t) held in
    let rest_after : rest_of news p.claims ≡ way.rest = drop_front (hs ++ w ∷ []) way.rest (wires_of news t) way.held in
    let step : bare (holding (slice_index before w) (worker_of olds news q)) ≡ worker_of olds news p = ap (λ r. record { claimed = t ∷ map (λ (c : Claim). c.task) cs; left = drop (length rs) (wires_of olds t); rest = r; ended = false; up = 0; down = 0 }) (ap (drop 1) rest ∙ sym rest_after) in
    record {
      earlier = number;
      before = before;
      parts = set ps k q;
      config = config_set olds news opening number counts number before ps k p q is at undone;
      fewer = omega (arith, sum_set size ps k p q at, p_total size_of, q_total size_of, length-append hs (w ∷ []));
      again = λ r. reach_more olds news opening (core_of number before (workers_of olds news (set ps k q))) (core_of number counts (workers_of olds news ps)) (Holds k (record { 0 = w })) r
          (worker_of olds news q, worker_at olds news ps k p q at, (drop_front rs [] (wires_of olds t) released, (way.rest, rest)))
          (core_same _ _ _ _ _ _ refl (set_down_up counts w some_of) (workers_step olds news (holding (slice_index before w)) ps k p q at step));
    }

-- a release is taken back
pub back_release : (olds news : List (List ℕ)) (opening : List ℕ) (number : ℕ) (counts : List ℕ) (ps : List Part) (k t : ℕ) (rs : List ℕ) (w : ℕ) (cs : List Claim) → IsConfig olds news opening number counts ps → get_elem? ps k ≡ some (going t (rs ++ w ∷ []) [] cs) → Back olds news opening number counts ps
back_release olds news opening number counts ps k t rs w cs is at =
    let p : Part = going t (rs ++ w ∷ []) [] cs in
    let q : Part = going t rs [] cs in
    let lawful = each_at (IsLawful olds news) ps k p is.lawful at in
    let way = lawful.claims.0 in
    let within = each_at (AreWithin (length opening)) ps k p is.within at in
    let released : rs ++ w ∷ way.left ≡ wires_of olds t = sym (append_assoc rs (w ∷ []) way.left) ∙ way.released in
    let p_total = λ (g : Claim → ℕ). going_total g t (rs ++ w ∷ []) [] cs in
    let q_total = λ (g : Claim → ℕ). going_total g t rs [] cs in
    let before : List ℕ = slice_set counts w (slice_index counts w + 1) in
    let here = λ (lt : w < length counts). (let e : slice_index before w + total_in (released_on w) q + total_in (held_on w) p ≡ slice_index counts w + total_in (released_on w) p + total_in (held_on w) q = omega (arith, get_or-set_same counts w (slice_index counts w + 1) 0 lt, p_total (released_on w), q_total (released_on w), p_total (held_on w), q_total (held_on w), times_push w rs w, at_itself w) in e) in
    let undone : Undone olds news opening number counts number before p q = record {
      lawful = record { claims = (record { left = w ∷ way.left; released = released; rest = way.rest; held = way.held; first = inr refl }, lawful.claims.1); ended = λ e. absurd (true≢false (sym e)) };
      within = (tt, within.1);
      draws = λ f. omega (arith, p_total (task_by f), q_total (task_by f));
      drawn = omega (arith, p_total one, q_total one);
      long = length-set counts w (slice_index counts w + 1);
      each = λ x le. elim (cases_eq x w) [
        | inl same ↦ subst (λ y. slice_index before y + total_in (released_on y) q + total_in (held_on y) p ≡ slice_index counts y + total_in (released_on y) p + total_in (held_on y) q) (sym same) (here (omega (arith, le, same, is.long)))
        | inr other ↦ (omega (arith, get_or-set_other counts w x (slice_index counts w + 1) 0 other, p_total (released_on x), q_total (released_on x), p_total (held_on x), q_total (held_on x), times_push x rs w, at_other w x (λ e. other (sym e))))
      ];
    } in
    let left : left_of olds q.claims ≡ w ∷ way.left = drop_front rs (w ∷ way.left) (wires_of olds t) released in
    let left_after : left_of olds p.claims ≡ way.left = drop_front (rs ++ w ∷ []) way.left (wires_of olds t) way.released in
    let step : bare (releasing (slice_index before w) (worker_of olds news q)) ≡ worker_of olds news p = ap (λ l. record { claimed = t ∷ map (λ (c : Claim). c.task) cs; left = l; rest = wires_of news t; ended = false; up = 0; down = 0 }) (ap (drop 1) left ∙ sym left_after) in
    record {
      earlier = number;
      before = before;
      parts = set ps k q;
      config = config_set olds news opening number counts number before ps k p q is at undone;
      fewer = omega (arith, sum_set size ps k p q at, p_total size_of, q_total size_of, length-append rs (w ∷ []));
      again = λ r. reach_more olds news opening (core_of number before (workers_of olds news (set ps k q))) (core_of number counts (workers_of olds news ps)) (Releases k (record { 0 = w })) r
          (worker_of olds news q, worker_at olds news ps k p q at, (way.left, left))
          (core_same _ _ _ _ _ _ refl (set_up_down counts w) (workers_step olds news (releasing (slice_index before w)) ps k p q at step));
    }

-- the claim of the highest number is taken back
pub back_claim : (olds news : List (List ℕ)) (opening : List ℕ) (number : ℕ) (counts : List ℕ) (ps : List Part) (k t : ℕ) (cs : List Claim) → IsConfig olds news opening number counts ps → get_elem? ps k ≡ some (going t [] [] cs) → number ≡ t + 1 → number ≤ length olds → Back olds news opening number counts ps
back_claim olds news opening number counts ps k t cs is at last few =
    let p : Part = going t [] [] cs in
    let q : Part = record { claims = cs; ended = false } in
    let n : ℕ = length olds in
    let lawful = each_at (IsLawful olds news) ps k p is.lawful at in
    let within = each_at (AreWithin (length opening)) ps k p is.within at in
    let p_total = λ (g : Claim → ℕ). going_total g t [] [] cs in
    let undone : Undone olds news opening number counts t counts p q = record {
      lawful = record { claims = before_claim olds news t cs lawful.claims.1; ended = λ e. absurd (true≢false (sym e)) };
      within = within.1;
      draws = λ f. (let e : min number n ≡ suc t = omega arith in let o : min t n ≡ t = omega arith in rw (e, o) (omega (arith, p_total (task_by f))));
      drawn = omega (arith, p_total one, last);
      long = refl;
      each = λ w lt. omega (arith, p_total (released_on w), p_total (held_on w));
    } in
    let step : bare (claiming olds news t (worker_of olds news q)) ≡ worker_of olds news p =
    (let early : nat_lt t n ≡ true = lt-ltb t n (omega arith) in
    subst (λ b. bare (if b then record { claimed = t ∷ map (λ (c : Claim). c.task) cs; left = wires_of olds t; rest = wires_of news t; ended = false; up = 0; down = 0 } else record { claimed = map (λ (c : Claim). c.task) cs; left = left_of olds cs; rest = rest_of news cs; ended = true; up = 0; down = 0 }) ≡ worker_of olds news p) (sym early) refl) in
    record {
      earlier = t;
      before = counts;
      parts = set ps k q;
      config = config_set olds news opening number counts t counts ps k p q is at undone;
      fewer = omega (arith, sum_set size ps k p q at, p_total size_of);
      again = λ r. reach_more olds news opening (core_of t counts (workers_of olds news (set ps k q))) (core_of number counts (workers_of olds news ps)) (Claims k) r
          (worker_of olds news q, worker_at olds news ps k p q at, (all_left t cs lawful.claims.1, all_rest t cs lawful.claims.1, refl))
          (core_same _ _ _ _ _ _ (sym last) refl (workers_step olds news (claiming olds news t) ps k p q at step));
    }
  where
    all_left : (m : ℕ) (cs : List Claim) → AreFinished olds news m cs → left_of olds cs ≡ []
    all_left m [] are = refl
    all_left m (c ∷ cs) are = finished_left olds news (c ∷ cs) are.1

    all_rest : (m : ℕ) (cs : List Claim) → AreFinished olds news m cs → rest_of news cs ≡ []
    all_rest m [] are = refl
    all_rest m (c ∷ cs) are = finished_rest olds news (c ∷ cs) are.1
