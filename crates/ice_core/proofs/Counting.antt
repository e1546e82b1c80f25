-- The core's counts are what the routes hold, at each moment.
use Rattle.std.proofs.Common.{◌≡◌, ℕ, zero, suc, ◌+◌, ◌-◌, ◌≤◌, ◌<◌, List, [], ◌∷◌, ◌++◌, length, map, min, take, drop, Bool, true, false, true≢false, nat_lt, if◌then◌else◌, cond, lt-ltb, le-ltb, inl, inr, get_or-set_same, get_or-set_other, length-set, length-append, append_assoc, append-nil, slice_index, slice_set, slice_get, Some, refl, sym, ap, subst, arith, ◌∙◌}
use Rattle.std.proofs.lemmas.Bool.{cases_eq, cases_lt}
use Rattle.std.proofs.lemmas.Option.{slice_get_within, get_or_from_slice_get}
use Rattle.std.proofs.lemmas.List.Sums.{sum_by-cons}
use Rattle.std.specs.List.{sum_by, AllByRecursion}
use Rattle.ice_base.specs.declared.number.WireNo.{WireNo}
use Rattle.ice_core.specs.declared.event.Event.{Event}
use Rattle.ice_core.specs.declared.event.Event.TheVariants.{Claim, Release, Hold, Post}
use Rattle.ice_core.specs.Routes.{times, sum_below, wires_of, overuse, IsOpening}
use Rattle.ice_core.specs.Machine.{Worker, CoreState, idle, MayClaim, MayRelease, MayHold, Allowed, with_task, ending, releasing, holding, posting, changed_at, worker_at, next, Leads, IsStart, IsReached}
use Rattle.ice_core.specs.Moments.{held_of, routes_by, routes_of, holds, CoreCounts}
use Rattle.ice_core.proofs.Sums.{is_at, at_itself, at_other, below_lists, times_cons, times_append, times_push}

-- ---- one worker changes
pub some_same : {A : Type 0} (xs : List A) (i : ℕ) (a b : A) → slice_get xs i ≡ Some a → slice_get xs i ≡ Some b → a ≡ b
some_same xs i a b at there = sym (get_or_from_slice_get xs i a a at) ∙ get_or_from_slice_get xs i b a there

sum_changed : (h : Worker → ℕ) (us : List Worker) (k : ℕ) (u : Worker) (f : Worker → Worker) → slice_get us k ≡ Some u → sum_by h (changed_at k f us) + h u ≡ sum_by h us + h (f u)
sum_changed h [] k u f at = absurd (let none : List Worker = [] in let lt : k < 0 = slice_get_within none k u at in omega arith)
sum_changed h (x ∷ us) zero u f at =
    let same : x ≡ u = some_same (x ∷ us) 0 x u refl at in
    omega (arith, sum_by-cons h (f x) us, sum_by-cons h x us, ap h same, ap (λ v. h (f v)) same)
sum_changed h (x ∷ us) (suc k) u f at = omega (arith, sum_by-cons h x (changed_at k f us), sum_by-cons h x us, sum_changed h us k u f at)

each_changed : (P : Worker → Type 0) (us : List Worker) (k : ℕ) (u : Worker) (f : Worker → Worker) → AllByRecursion P us → slice_get us k ≡ Some u → (P u → P (f u)) → AllByRecursion P (changed_at k f us)
each_changed P [] k u f each at step = tt
each_changed P (x ∷ us) zero u f each at step = (let same : x ≡ u = some_same (x ∷ us) 0 x u refl at in (subst (λ v. P (f v)) (sym same) (step (subst P same each.0)), each.1))
each_changed P (x ∷ us) (suc k) u f each at step = (each.0, each_changed P us k u f each.1 at step)

each_read : (P : Worker → Type 0) (us : List Worker) (k : ℕ) (u : Worker) → AllByRecursion P us → slice_get us k ≡ Some u → P u
each_read P [] k u each at = absurd (let none : List Worker = [] in let lt : k < 0 = slice_get_within none k u at in omega arith)
each_read P (x ∷ us) zero u each at = subst P (some_same (x ∷ us) 0 x u refl at) each.0
each_read P (x ∷ us) (suc k) u each at = each_read P us k u each.1 at

as_many : (k : ℕ) (f : Worker → Worker) (us : List Worker) → length (changed_at k f us) ≡ length us
as_many k f [] = refl
as_many zero f (u ∷ us) = refl
as_many (suc k) f (u ∷ us) = ap suc (as_many k f us)

-- ---- a worker's routes
take_own : (xs ys : List ℕ) → take (length xs) (xs ++ ys) ≡ xs
take_own [] ys = refl
take_own (x ∷ xs) ys = ap (λ zs. x ∷ zs) (take_own xs ys)

-- what is held already is the front that goes before the rest
front_is : (front rest new : List ℕ) → front ++ rest ≡ new → held_of new rest ≡ front
front_is front rest new is =
    let long : length new - length rest ≡ length front = (let e : length (front ++ rest) ≡ length new = ap length is in omega (arith, e, length-append front rest)) in
    ap (λ n. take n new) long ∙ (ap (take (length front)) (sym is) ∙ take_own front rest)

-- what a worker still has to do fits its newest task, and nothing is left where it has ended
abbrev pub HasRest : List (List ℕ) → List ℕ → List ℕ → List ℕ → Type 0
HasRest news left rest [] = (left ≡ []) × (rest ≡ [])
HasRest news left rest (t ∷ tasks) = (front : List ℕ) × (front ++ rest ≡ wires_of news t)

pub record IsSteady (olds news : List (List ℕ)) (number : ℕ) (u : Worker) : Type 0 where
  pub rest : HasRest news u.left u.rest u.claimed
  pub ended : u.ended ≡ true → (u.left ≡ []) × (u.rest ≡ []) × (length olds ≤ number)

abbrev pub load : List (List ℕ) → ℕ → Worker → ℕ
load news w u = sum_by (times w) (routes_of news u)

abbrev pub claimed_by : (ℕ → ℕ) → Worker → ℕ
claimed_by f u = sum_by f u.claimed

-- a worker that has nothing left holds the new trees of all its tasks
news_load : (news : List (List ℕ)) (w : ℕ) (tasks : List ℕ) → sum_by (times w) (map (wires_of news) tasks) ≡ sum_by (λ t. times w (wires_of news t)) tasks
news_load news w [] = refl
news_load news w (t ∷ tasks) = omega (arith, sum_by-cons (times w) (wires_of news t) (map (wires_of news) tasks), sum_by-cons (λ t. times w (wires_of news t)) t tasks, news_load news w tasks)

-- the newest route is the new one where nothing is left
done_route : (news : List (List ℕ)) (t : ℕ) (tasks left rest : List ℕ) → HasRest news left rest (t ∷ tasks) → left ≡ [] → rest ≡ [] → left ++ held_of (wires_of news t) rest ≡ wires_of news t
done_route news t tasks left rest has none over =
    let whole : has.0 ≡ wires_of news t = sym (append-nil has.0) ∙ (ap (λ xs. has.0 ++ xs) (sym over) ∙ has.1) in
    ap (λ xs. xs ++ held_of (wires_of news t) rest) none ∙ (front_is has.0 rest (wires_of news t) has.1 ∙ whole)

done_load : (news : List (List ℕ)) (w : ℕ) (tasks left rest : List ℕ) → HasRest news left rest tasks → left ≡ [] → rest ≡ [] → sum_by (times w) (routes_by news left rest tasks) ≡ sum_by (λ t. times w (wires_of news t)) tasks
done_load news w [] left rest has none over = refl
done_load news w (t ∷ tasks) left rest has none over =
    let route = done_route news t tasks left rest has none over in
    omega (arith, sum_by-cons (times w) (left ++ held_of (wires_of news t) rest) (map (wires_of news) tasks), sum_by-cons (λ t. times w (wires_of news t)) t tasks, ap (times w) route, news_load news w tasks)

-- a claim adds the old wires of the task
claim_load : (olds news : List (List ℕ)) (w n : ℕ) (tasks left rest : List ℕ) → HasRest news left rest tasks → left ≡ [] → rest ≡ [] → sum_by (times w) (routes_by news (wires_of olds n) (wires_of news n) (n ∷ tasks)) ≡ times w (wires_of olds n) + sum_by (times w) (routes_by news left rest tasks)
claim_load olds news w n tasks left rest has none over =
    let nothing : held_of (wires_of news n) (wires_of news n) ≡ [] = front_is [] (wires_of news n) (wires_of news n) refl in
    let route : wires_of olds n ++ held_of (wires_of news n) (wires_of news n) ≡ wires_of olds n = ap (λ xs. wires_of olds n ++ xs) nothing ∙ append-nil (wires_of olds n) in
    omega (arith, sum_by-cons (times w) (wires_of olds n ++ held_of (wires_of news n) (wires_of news n)) (map (wires_of news) tasks), ap (times w) route, news_load news w tasks, done_load news w tasks left rest has none over)

-- a release takes the wire off
release_load : (news : List (List ℕ)) (w x : ℕ) (tasks left rest wires : List ℕ) → HasRest news left rest tasks → left ≡ x ∷ wires → sum_by (times w) (routes_by news left rest tasks) ≡ sum_by (times w) (routes_by news (drop 1 left) rest tasks) + is_at x w
release_load news w x [] left rest wires has is = absurd (cons_nil x wires (sym is ∙ has.0))
  where
    cons_nil : (x : ℕ) (xs : List ℕ) → x ∷ xs ≡ [] → ⊥
    cons_nil x xs e = (let l : suc (length xs) ≡ 0 = ap length e in omega arith)
release_load news w x (t ∷ tasks) left rest wires has is =
    let h = held_of (wires_of news t) rest in
    let olds = map (wires_of news) tasks in
    let after : drop 1 left ≡ wires = ap (drop 1) is in
    omega (arith, sum_by-cons (times w) (left ++ h) olds, sum_by-cons (times w) (drop 1 left ++ h) olds, times_append w left h, times_append w (drop 1 left) h, ap (times w) is, ap (times w) after, times_cons w x wires)

-- a hold puts the wire on
hold_load : (news : List (List ℕ)) (w x : ℕ) (tasks left rest wires : List ℕ) → HasRest news left rest tasks → rest ≡ x ∷ wires → sum_by (times w) (routes_by news left (drop 1 rest) tasks) ≡ sum_by (times w) (routes_by news left rest tasks) + is_at x w
hold_load news w x [] left rest wires has is = absurd (cons_nil x wires (sym is ∙ has.1))
  where
    cons_nil : (x : ℕ) (xs : List ℕ) → x ∷ xs ≡ [] → ⊥
    cons_nil x xs e = (let l : suc (length xs) ≡ 0 = ap length e in omega arith)
hold_load news w x (t ∷ tasks) left rest wires has is =
    let new = wires_of news t in
    let olds = map (wires_of news) tasks in
    let before : held_of new rest ≡ has.0 = front_is has.0 rest new has.1 in
    let whole : (has.0 ++ x ∷ []) ++ wires ≡ new = append_assoc has.0 (x ∷ []) wires ∙ (ap (λ xs. has.0 ++ xs) (sym is) ∙ has.1) in
    let after : held_of new (drop 1 rest) ≡ has.0 ++ x ∷ [] = ap (held_of new) (ap (drop 1) is) ∙ front_is (has.0 ++ x ∷ []) wires new whole in
    omega (arith, sum_by-cons (times w) (left ++ held_of new (drop 1 rest)) olds, sum_by-cons (times w) (left ++ held_of new rest) olds, times_append w left (held_of new (drop 1 rest)), times_append w left (held_of new rest), ap (times w) before, ap (times w) after, times_push w has.0 x)

hold_rest : (news : List (List ℕ)) (x : ℕ) (tasks left rest wires : List ℕ) → HasRest news left rest tasks → rest ≡ x ∷ wires → HasRest news left (drop 1 rest) tasks
hold_rest news x [] left rest wires has is = (has.0, ap (drop 1) has.1)
hold_rest news x (t ∷ tasks) left rest wires has is = (has.0 ++ x ∷ [], ap (λ xs. (has.0 ++ x ∷ []) ++ xs) (ap (drop 1) is) ∙ (append_assoc has.0 (x ∷ []) wires ∙ (ap (λ xs. has.0 ++ xs) (sym is) ∙ has.1)))

release_rest : (news : List (List ℕ)) (tasks left rest : List ℕ) → HasRest news left rest tasks → HasRest news (drop 1 left) rest tasks
release_rest news [] left rest has = (ap (drop 1) has.0, has.1)
release_rest news (t ∷ tasks) left rest has = has

-- ---- the invariant
-- what is counted is linear: the tasks that nobody has claimed are those from the claim number on
abbrev pub ends : Worker → ℕ
ends u = cond u.ended 1 0

abbrev pub ups : Worker → ℕ
ups u = u.up

abbrev pub downs : Worker → ℕ
downs u = u.down

abbrev pub lefts : Worker → ℕ
lefts u = length u.left

abbrev pub rests : Worker → ℕ
rests u = length u.rest

-- how many wires the task has
abbrev pub wide : List (List ℕ) → ℕ → ℕ
wide lists t = length (wires_of lists t)

pub record IsCounted (olds news : List (List ℕ)) (opening : List ℕ) (s : CoreState) : Type 0 where
  pub workers : AllByRecursion (IsSteady olds news s.number) s.workers
  pub few : length s.workers ≤ 8
  pub long : length s.counts ≡ length opening
  pub each : (w : ℕ) → w < length opening → slice_index s.counts w ≡ holds olds news opening s w
  pub draws : (f : ℕ → ℕ) → sum_by (claimed_by f) s.workers ≡ sum_below (min s.number (length olds)) f
  pub drawn : s.number ≡ sum_by (claimed_by (λ t. 1)) s.workers + sum_by ends s.workers
  pub balance : overuse opening + s.up + sum_by ups s.workers ≡ overuse s.counts + s.down + sum_by downs s.workers
  -- what came, and what still can come, is at most what the claimed tasks hold; what went and what can go, what they release
  pub most_up : s.up + sum_by ups s.workers + sum_by rests s.workers ≤ sum_by (claimed_by (wide news)) s.workers
  pub most_down : s.down + sum_by downs s.workers + sum_by lefts s.workers ≤ sum_by (claimed_by (wide olds)) s.workers

drop_sum : (g : List ℕ → ℕ) (lists : List (List ℕ)) (n : ℕ) → n < length lists → sum_by g (drop n lists) ≡ g (wires_of lists n) + sum_by g (drop (n + 1) lists)
drop_sum g [] n lt = absurd (omega arith)
drop_sum g (x ∷ lists) zero lt = sum_by-cons g x lists
drop_sum g (x ∷ lists) (suc n) lt = (let e : suc n + 1 ≡ suc (n + 1) = omega arith in rw e (drop_sum g lists n (omega arith)))

drop_none : (g : List ℕ → ℕ) (lists : List (List ℕ)) (n : ℕ) → length lists ≤ n → sum_by g (drop n lists) ≡ 0
drop_none g [] zero le = refl
drop_none g [] (suc n) le = refl
drop_none g (x ∷ lists) zero le = absurd (omega arith)
drop_none g (x ∷ lists) (suc n) le = drop_none g lists n (omega arith)

later : (olds news : List (List ℕ)) (n m : ℕ) → n ≤ m → (us : List Worker) → AllByRecursion (IsSteady olds news n) us → AllByRecursion (IsSteady olds news m) us
later olds news n m le [] each = tt
later olds news n m le (u ∷ us) each = (record { rest = each.0.rest; ended = λ over. (let t = each.0.ended over in (t.0, t.1, omega arith)) }, later olds news n m le us each.1)

-- one count changes; past the counts nothing does
over_changed : (xs : List ℕ) (w m : ℕ) → m ≤ slice_index xs w + 1 → overuse (slice_set xs w m) + (slice_index xs w - 1) ≡ overuse xs + (m - 1)
over_changed [] w m le = omega (arith, le)
over_changed (x ∷ xs) zero m le = omega (arith, sum_by-cons (λ c. c - 1) m xs, sum_by-cons (λ c. c - 1) x xs)
over_changed (x ∷ xs) (suc w) m le = omega (arith, sum_by-cons (λ c. c - 1) x (slice_set xs w m), sum_by-cons (λ c. c - 1) x xs, over_changed xs w m le)

-- a claim of a task
claim_task : (olds news : List (List ℕ)) (opening : List ℕ) (s : CoreState) (k : ℕ) (u : Worker) → IsCounted olds news opening s → slice_get s.workers k ≡ Some u → MayClaim u → s.number < length olds
    → IsCounted olds news opening (record { number = s.number + 1; counts = s.counts; up = s.up; down = s.down; workers = changed_at k (with_task olds news s.number) s.workers })
claim_task olds news opening s k u is at may lt =
    let n : ℕ = s.number in
    let f : Worker → Worker = with_task olds news n in
    let steady = each_read (IsSteady olds news n) s.workers k u is.workers at in
    let change = λ (h : Worker → ℕ). sum_changed h s.workers k u f at in
    let going : ends u ≡ 0 = ap (λ b. cond b 1 0) may.2 in
    record {
      few = omega (arith, as_many k f s.workers, is.few);
      workers = each_changed (IsSteady olds news (n + 1)) s.workers k u f (later olds news n (n + 1) (omega arith) s.workers is.workers) at (λ old. record { rest = ([], refl); ended = λ over. absurd (true≢false (sym over)) });
      long = is.long;
      each = λ w le. omega (arith, is.each w le, change (load news w), claim_load olds news w n u.claimed u.left u.rest steady.rest may.0 may.1, drop_sum (times w) olds n lt);
      draws = λ g. (let e : min (n + 1) (length olds) ≡ suc n = omega arith in let o : min n (length olds) ≡ n = omega arith in
          omega (arith, ap (λ m. sum_below m g) e, ap (λ m. sum_below m g) o, is.draws g, change (claimed_by g), sum_by-cons g n u.claimed));
      drawn = omega (arith, is.drawn, change (claimed_by (λ t. 1)), change ends, going, sum_by-cons (λ (t : ℕ). 1) n u.claimed);
      balance = omega (arith, is.balance, change ups, change downs);
      most_up = omega (arith, is.most_up, change ups, change rests, change (claimed_by (wide news)), sum_by-cons (wide news) n u.claimed);
      most_down = omega (arith, is.most_down, change downs, change lefts, change (claimed_by (wide olds)), sum_by-cons (wide olds) n u.claimed);
    }

-- None
claim_none : (olds news : List (List ℕ)) (opening : List ℕ) (s : CoreState) (k : ℕ) (u : Worker) → IsCounted olds news opening s → slice_get s.workers k ≡ Some u → MayClaim u → length olds ≤ s.number
    → IsCounted olds news opening (record { number = s.number + 1; counts = s.counts; up = s.up; down = s.down; workers = changed_at k ending s.workers })
claim_none olds news opening s k u is at may ge =
    let n : ℕ = s.number in
    let change = λ (h : Worker → ℕ). sum_changed h s.workers k u ending at in
    let going : ends u ≡ 0 = ap (λ b. cond b 1 0) may.2 in
    record {
      few = omega (arith, as_many k ending s.workers, is.few);
      workers = each_changed (IsSteady olds news (n + 1)) s.workers k u ending (later olds news n (n + 1) (omega arith) s.workers is.workers) at (λ old. record { rest = old.rest; ended = λ over. (may.0, may.1, omega arith) });
      long = is.long;
      each = λ w le. omega (arith, is.each w le, change (load news w), drop_none (times w) olds n ge, drop_none (times w) olds (n + 1) (omega arith));
      draws = λ g. (let e : min (n + 1) (length olds) ≡ length olds = omega arith in let o : min n (length olds) ≡ length olds = omega arith in
          omega (arith, ap (λ m. sum_below m g) e, ap (λ m. sum_below m g) o, is.draws g, change (claimed_by g)));
      drawn = omega (arith, is.drawn, change (claimed_by (λ t. 1)), change ends, going);
      balance = omega (arith, is.balance, change ups, change downs);
      most_up = omega (arith, is.most_up, change ups, change rests, change (claimed_by (wide news)));
      most_down = omega (arith, is.most_down, change downs, change lefts, change (claimed_by (wide olds)));
    }

nil_cons : (x : ℕ) (xs ys : List ℕ) → ys ≡ x ∷ xs → ys ≡ [] → ⊥
nil_cons x xs ys is none = (let l : suc (length xs) ≡ 0 = ap length (sym is ∙ none) in omega arith)

shorter : (x : ℕ) (xs ys : List ℕ) → ys ≡ x ∷ xs → length ys ≡ length (drop 1 ys) + 1
shorter x xs ys is = omega (arith, ap length is, ap (λ zs. length (drop 1 zs)) is)

release_counted : (olds news : List (List ℕ)) (opening : List ℕ) (s : CoreState) (k : ℕ) (v : WireNo) (u : Worker) → IsCounted olds news opening s → slice_get s.workers k ≡ Some u → MayRelease v.0 u → IsCounted olds news opening (next olds news s (Release k v))
release_counted olds news opening s k v u is at may =
    let x : ℕ = v.0 in
    let n : ℕ = slice_index s.counts x in
    let steady = each_read (IsSteady olds news s.number) s.workers k u is.workers at in
    let counts : List ℕ = slice_set s.counts x (n - 1) in
    let change = λ (h : Worker → ℕ). sum_changed h s.workers k u (releasing n) at in
    let step = λ (w : ℕ). release_load news w x u.claimed u.left u.rest may.0 steady.rest may.1 in
    let here = λ (le : x < length opening). (let lt : x < length s.counts = omega (arith, le, is.long) in
    let e : slice_index counts x ≡ holds olds news opening (next olds news s (Release k v)) x = omega (arith, get_or-set_same s.counts x (n - 1) 0 lt, is.each x le, change (load news x), step x, at_itself x) in e) in
    record {
      few = omega (arith, as_many k (releasing n) s.workers, is.few);
      workers = each_changed (IsSteady olds news s.number) s.workers k u (releasing n) is.workers at (λ old. record { rest = release_rest news u.claimed u.left u.rest old.rest; ended = λ over. absurd (nil_cons x may.0 u.left may.1 (old.ended over).0) });
      long = length-set s.counts x (n - 1) ∙ is.long;
      each = λ w le. elim (cases_eq w x) [
        | inl same ↦ subst (λ y. slice_index counts y ≡ holds olds news opening (next olds news s (Release k v)) y) (sym same) (here (omega (arith, le, same)))
        | inr other ↦ omega (arith, get_or-set_other s.counts x w (n - 1) 0 other, is.each w le, change (load news w), step w, at_other x w (λ e. other (sym e)))
      ];
      draws = λ g. omega (arith, is.draws g, change (claimed_by g));
      drawn = omega (arith, is.drawn, change (claimed_by (λ t. 1)), change ends);
      balance = omega (arith, is.balance, change ups, change downs, over_changed s.counts x (n - 1) (omega arith));
      most_up = omega (arith, is.most_up, change ups, change rests, change (claimed_by (wide news)));
      most_down = omega (arith, is.most_down, change downs, change lefts, change (claimed_by (wide olds)), shorter x may.0 u.left may.1);
    }

hold_counted : (olds news : List (List ℕ)) (opening : List ℕ) (s : CoreState) (k : ℕ) (v : WireNo) (u : Worker) → IsCounted olds news opening s → slice_get s.workers k ≡ Some u → MayHold v.0 u → IsCounted olds news opening (next olds news s (Hold k v))
hold_counted olds news opening s k v u is at may =
    let x : ℕ = v.0 in
    let n : ℕ = slice_index s.counts x in
    let steady = each_read (IsSteady olds news s.number) s.workers k u is.workers at in
    let counts : List ℕ = slice_set s.counts x (n + 1) in
    let change = λ (h : Worker → ℕ). sum_changed h s.workers k u (holding n) at in
    let step = λ (w : ℕ). hold_load news w x u.claimed u.left u.rest may.1.0 steady.rest may.1.1 in
    let here = λ (le : x < length opening). (let lt : x < length s.counts = omega (arith, le, is.long) in
    let e : slice_index counts x ≡ holds olds news opening (next olds news s (Hold k v)) x = omega (arith, get_or-set_same s.counts x (n + 1) 0 lt, is.each x le, change (load news x), step x, at_itself x) in e) in
    record {
      few = omega (arith, as_many k (holding n) s.workers, is.few);
      workers = each_changed (IsSteady olds news s.number) s.workers k u (holding n) is.workers at (λ old. record { rest = hold_rest news x u.claimed u.left u.rest may.1.0 old.rest may.1.1; ended = λ over. absurd (nil_cons x may.1.0 u.rest may.1.1 (old.ended over).1) });
      long = length-set s.counts x (n + 1) ∙ is.long;
      each = λ w le. elim (cases_eq w x) [
        | inl same ↦ subst (λ y. slice_index counts y ≡ holds olds news opening (next olds news s (Hold k v)) y) (sym same) (here (omega (arith, le, same)))
        | inr other ↦ omega (arith, get_or-set_other s.counts x w (n + 1) 0 other, is.each w le, change (load news w), step w, at_other x w (λ e. other (sym e)))
      ];
      draws = λ g. omega (arith, is.draws g, change (claimed_by g));
      drawn = omega (arith, is.drawn, change (claimed_by (λ t. 1)), change ends);
      balance = omega (arith, is.balance, change ups, change downs, over_changed s.counts x (n + 1) (omega arith));
      most_up = omega (arith, is.most_up, change ups, change rests, change (claimed_by (wide news)), shorter x may.1.0 u.rest may.1.1);
      most_down = omega (arith, is.most_down, change downs, change lefts, change (claimed_by (wide olds)));
    }

post_counted : (olds news : List (List ℕ)) (opening : List ℕ) (s : CoreState) (k : ℕ) (up : Bool) (u : Worker) → IsCounted olds news opening s → slice_get s.workers k ≡ Some u → IsCounted olds news opening (next olds news s (Post k up))
post_counted olds news opening s k true u is at =
    let own : (worker_at s k).up ≡ u.up = ap (λ (w : Worker). w.up) (get_or_from_slice_get s.workers k u idle at) in
    let change = λ (h : Worker → ℕ). sum_changed h s.workers k u (posting true) at in
    record {
      few = omega (arith, as_many k (posting true) s.workers, is.few);
      workers = each_changed (IsSteady olds news s.number) s.workers k u (posting true) is.workers at (λ old. record { rest = old.rest; ended = old.ended });
      long = is.long;
      each = λ w le. omega (arith, is.each w le, change (load news w));
      draws = λ g. omega (arith, is.draws g, change (claimed_by g));
      drawn = omega (arith, is.drawn, change (claimed_by (λ t. 1)), change ends);
      balance = omega (arith, is.balance, change ups, change downs, own);
      most_up = omega (arith, is.most_up, change ups, change rests, change (claimed_by (wide news)), own);
      most_down = omega (arith, is.most_down, change downs, change lefts, change (claimed_by (wide olds)));
    }
post_counted olds news opening s k false u is at =
    let own : (worker_at s k).down ≡ u.down = ap (λ (w : Worker). w.down) (get_or_from_slice_get s.workers k u idle at) in
    let change = λ (h : Worker → ℕ). sum_changed h s.workers k u (posting false) at in
    record {
      few = omega (arith, as_many k (posting false) s.workers, is.few);
      workers = each_changed (IsSteady olds news s.number) s.workers k u (posting false) is.workers at (λ old. record { rest = old.rest; ended = old.ended });
      long = is.long;
      each = λ w le. omega (arith, is.each w le, change (load news w));
      draws = λ g. omega (arith, is.draws g, change (claimed_by g));
      drawn = omega (arith, is.drawn, change (claimed_by (λ t. 1)), change ends);
      balance = omega (arith, is.balance, change ups, change downs, own);
      most_up = omega (arith, is.most_up, change ups, change rests, change (claimed_by (wide news)));
      most_down = omega (arith, is.most_down, change downs, change lefts, change (claimed_by (wide olds)), own);
    }

claim_counted : (olds news : List (List ℕ)) (opening : List ℕ) (s : CoreState) (k : ℕ) (u : Worker) → IsCounted olds news opening s → slice_get s.workers k ≡ Some u → MayClaim u → IsCounted olds news opening (next olds news s (Claim k))
claim_counted olds news opening s k u is at may = by_test (nat_lt s.number (length olds)) refl
  where
    lower : nat_lt s.number (length olds) ≡ true → s.number < length olds
    lower is = elim (cases_lt s.number (length olds)) [
      | inl lt ↦ lt
      | inr ge ↦ absurd (true≢false (sym is ∙ le-ltb s.number (length olds) ge))
    ]

    higher : nat_lt s.number (length olds) ≡ false → length olds ≤ s.number
    higher is = elim (cases_lt s.number (length olds)) [
      | inl lt ↦ absurd (true≢false (sym (lt-ltb s.number (length olds) lt) ∙ is))
      | inr ge ↦ ge
    ]

    after : Bool → CoreState
    after b = record { number = s.number + 1; counts = s.counts; up = s.up; down = s.down; workers = changed_at k (λ v. if b then with_task olds news s.number v else ending v) s.workers }

    by_test : (b : Bool) → nat_lt s.number (length olds) ≡ b → IsCounted olds news opening (next olds news s (Claim k))
    by_test true e = subst (λ b. IsCounted olds news opening (after b)) (sym e) (claim_task olds news opening s k u is at may (lower e))
    by_test false e = subst (λ b. IsCounted olds news opening (after b)) (sym e) (claim_none olds news opening s k u is at may (higher e))

step_counted : (olds news : List (List ℕ)) (opening : List ℕ) (s : CoreState) (e : Event) → IsCounted olds news opening s → Allowed s e → IsCounted olds news opening (next olds news s e)
step_counted olds news opening s (Claim k) is may = claim_counted olds news opening s k may.0 is may.1 may.2
step_counted olds news opening s (Release k w) is may = release_counted olds news opening s k w may.0 is may.1 may.2
step_counted olds news opening s (Hold k w) is may = hold_counted olds news opening s k w may.0 is may.1 may.2
step_counted olds news opening s (Post k up) is may = post_counted olds news opening s k up may.0 is may.1

all_counted : (olds news : List (List ℕ)) (opening : List ℕ) (s t : CoreState) (events : List Event) → IsCounted olds news opening s → Leads olds news s events t → IsCounted olds news opening t
all_counted olds news opening s t [] is leads = subst (IsCounted olds news opening) leads is
all_counted olds news opening s t (e ∷ events) is leads = all_counted olds news opening (next olds news s e) t events (step_counted olds news opening s e is leads.0) leads.1

-- one event more
pub leads_push : (olds news : List (List ℕ)) (s : CoreState) (events : List Event) (t : CoreState) (e : Event) → Leads olds news s events t → Allowed t e → Leads olds news s (events ++ e ∷ []) (next olds news t e)
leads_push olds news s [] t e is may = (subst (λ u. Allowed u e) (sym is) may, ap (λ u. next olds news u e) is)
leads_push olds news s (d ∷ events) t e leads may = (leads.0, leads_push olds news (next olds news s d) events t e leads.1 may)

pub reached_more : (olds news : List (List ℕ)) (opening : List ℕ) (t : CoreState) (e : Event) → IsReached olds news opening t → Allowed t e → IsReached olds news opening (next olds news t e)
reached_more olds news opening t e r may = record {
  start = r.start;
  begins = r.begins;
  events = r.events ++ e ∷ [];
  leads = leads_push olds news r.start r.events t e r.leads may;
}

-- ---- the start and the end
abbrev IsIdle : Worker → Type 0
IsIdle u = u ≡ record { claimed = []; left = []; rest = []; ended = false; up = 0; down = 0 }

idle_sum : (h : Worker → ℕ) (us : List Worker) → h idle ≡ 0 → AllByRecursion IsIdle us → sum_by h us ≡ 0
idle_sum h [] none each = refl
idle_sum h (u ∷ us) none each = omega (arith, sum_by-cons h u us, ap h each.0, none, idle_sum h us none each.1)

idle_steady : (olds news : List (List ℕ)) (us : List Worker) → AllByRecursion IsIdle us → AllByRecursion (IsSteady olds news 0) us
idle_steady olds news [] each = tt
idle_steady olds news (u ∷ us) each = (subst (IsSteady olds news 0) (sym each.0) (record { rest = (refl, refl); ended = λ over. absurd (true≢false (sym over)) }), idle_steady olds news us each.1)

starts_counted : (olds news : List (List ℕ)) (opening : List ℕ) (s : CoreState) → IsOpening olds opening → IsStart opening s → IsCounted olds news opening s
starts_counted olds news opening s fits is =
    let none = λ (h : Worker → ℕ) (zero : h idle ≡ 0). idle_sum h s.workers zero is.idle in
    record {
      few = is.few;
      workers = subst (λ n. AllByRecursion (IsSteady olds news n) s.workers) (sym is.number) (idle_steady olds news s.workers is.idle);
      long = ap length is.counts;
      each = λ w le.
          let all : sum_by (times w) (drop s.number olds) ≡ sum_by (times w) olds = ap (λ n. sum_by (times w) (drop n olds)) is.number in
          omega (arith, ap (λ xs. slice_index xs w) is.counts, all, fits.counted w le, below_lists (times w) olds, none (load news w) refl);
      draws = λ f. (let m : min s.number (length olds) ≡ 0 = omega (arith, is.number) in none (claimed_by f) refl ∙ sym (ap (λ k. sum_below k f) m));
      drawn = omega (arith, is.number, none (claimed_by (λ t. 1)) refl, none ends refl);
      balance = omega (arith, ap overuse is.counts, is.up, is.down, none ups refl, none downs refl);
      most_up = omega (arith, is.up, none ups refl, none rests refl);
      most_down = omega (arith, is.down, none downs refl, none lefts refl);
    }

ended_load : (olds news : List (List ℕ)) (number w : ℕ) (us : List Worker) → AllByRecursion (IsSteady olds news number) us → AllByRecursion (λ u. u.ended ≡ true) us → sum_by (load news w) us ≡ sum_by (claimed_by (λ t. times w (wires_of news t))) us
ended_load olds news number w [] each over = refl
ended_load olds news number w (u ∷ us) each over =
    let t = each.0.ended over.0 in
    omega (arith, sum_by-cons (load news w) u us, sum_by-cons (claimed_by (λ t. times w (wires_of news t))) u us, done_load news w u.claimed u.left u.rest each.0.rest t.0 t.1, ended_load olds news number w us each.1 over.1)

ended_number : (olds news : List (List ℕ)) (number : ℕ) (us : List Worker) → AllByRecursion (IsSteady olds news number) us → AllByRecursion (λ u. u.ended ≡ true) us → 1 ≤ length us → length olds ≤ number
ended_number olds news number [] each over some_of = absurd (omega arith)
ended_number olds news number (u ∷ us) each over some_of = (each.0.ended over.0).2

done_routes : (news : List (List ℕ)) (tasks left rest : List ℕ) → HasRest news left rest tasks → left ≡ [] → rest ≡ [] → routes_by news left rest tasks ≡ map (wires_of news) tasks
done_routes news [] left rest has none over = refl
done_routes news (t ∷ tasks) left rest has none over = ap (λ route. route ∷ map (wires_of news) tasks) (done_route news t tasks left rest has none over)

ended_routes : (olds news : List (List ℕ)) (number : ℕ) (us : List Worker) → AllByRecursion (IsSteady olds news number) us → AllByRecursion (λ u. u.ended ≡ true) us → AllByRecursion (λ u. routes_of news u ≡ map (wires_of news) u.claimed) us
ended_routes olds news number [] each over = tt
ended_routes olds news number (u ∷ us) each over = (let t = each.0.ended over.0 in (done_routes news u.claimed u.left u.rest each.0.rest t.0 t.1, ended_routes olds news number us each.1 over.1))

pub reached_counted : (olds news : List (List ℕ)) (opening : List ℕ) (t : CoreState) → IsOpening olds opening → IsReached olds news opening t → IsCounted olds news opening t
reached_counted olds news opening t fits is = all_counted olds news opening is.start t is.events (starts_counted olds news opening is.start fits is.begins) is.leads

pub core_counts : CoreCounts
core_counts olds news opening s t events fits long begins leads =
    let is = all_counted olds news opening s t events (starts_counted olds news opening s fits begins) leads in
    record {
      each = is.each;
      balance = is.balance;
      ended = λ some_of over.
          let past = ended_number olds news t.number t.workers is.workers over some_of in
          let m : min t.number (length olds) ≡ length olds = omega (arith, past) in
          let drawn = λ (f : ℕ → ℕ). is.draws f ∙ ap (λ k. sum_below k f) m in
          record {
            claimed = drawn;
            routes = ended_routes olds news t.number t.workers is.workers over;
            counts = λ w le.
                let new : sum_below (length olds) (λ k. times w (wires_of news k)) ≡ sum_by (times w) news = ap (λ n. sum_below n (λ k. times w (wires_of news k))) (sym long) ∙ below_lists (times w) news in
                omega (arith, is.each w le, drop_none (times w) olds t.number past, ended_load olds news t.number w t.workers is.workers over, drawn (λ k. times w (wires_of news k)), new);
          };
    }
