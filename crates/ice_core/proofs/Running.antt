-- The core as a program: how the progress of a worker changes, and that no number of a state that is reached is large.
use Rattle.std.proofs.Common.{◌≡◌, ◌↔◌, ℕ, zero, suc, ◌+◌, ◌-◌, ◌*◌, ◌^◌, ◌≤◌, ◌<◌, List, [], ◌∷◌, ◌++◌, length, map, min, set, drop, reverse, Bool, true, false, nat_lt, if◌then◌else◌, cond, lt-ltb, le-ltb, Some, slice_get, slice_index, refl, sym, ap, subst, arith, ◌∙◌}
use Rattle.std.proofs.lemmas.List.{reverse-append, length-map}
use Rattle.std.proofs.lemmas.List.Sums.{sum_by-cons}
use Rattle.std.proofs.lemmas.Option.{slice_get_within}
use Rattle.std.specs.Global.{Vec}
use Rattle.std.specs.List.{sum_by, AllByRecursion}
use Rattle.ice_base.specs.declared.number.WireNo.{WireNo}
use Rattle.ice_core.specs.declared.event.Event.{Event}
use Rattle.ice_core.specs.declared.progress.Progress.{Progress}
use Rattle.ice_core.specs.Routes.{numbers, lists_of, times, wires_of, sum_below, overuse, IsOpening, AreNews}
use Rattle.ice_core.specs.Machine.{Worker, CoreState, with_task, ending, claiming, releasing, holding, changed_at, Allowed, next, IsReached}
use Rattle.ice_core.specs.Program.{Moment, HasRoom, IsFresh, IsRunning}
use Rattle.ice_core.proofs.Sums.{each_append, below_ones, below_at_most, once_short}
use Rattle.ice_core.proofs.Counting.{some_same, ends, ups, downs, wide, reached_counted, reached_more}

-- ---- the wire behind the first so many
behind_get : (wires : List WireNo) (d : ℕ) (w : WireNo) → slice_get wires d ≡ Some w → drop d (numbers wires) ≡ w.0 ∷ drop (suc d) (numbers wires)
behind_get [] d w at = absurd (let none : List WireNo = [] in let lt : d < 0 = slice_get_within none d w at in omega arith)
behind_get (v ∷ wires) zero w at = ap (λ (x : WireNo). x.0 ∷ numbers wires) (some_same (v ∷ wires) 0 v w refl at)
behind_get (v ∷ wires) (suc d) w at = behind_get wires d w at

behind_none : (wires : List WireNo) (d : ℕ) → length wires ≤ d → drop d (numbers wires) ≡ []
behind_none [] zero le = refl
behind_none [] (suc d) le = refl
behind_none (v ∷ wires) zero le = absurd (omega arith)
behind_none (v ∷ wires) (suc d) le = behind_none wires d (omega arith)

pub list_at : (lists : List (Vec WireNo)) (t : ℕ) (v : Vec WireNo) → slice_get lists t ≡ Some v → wires_of (lists_of lists) t ≡ numbers v.items
list_at [] t v at = absurd (let none : List (Vec WireNo) = [] in let lt : t < 0 = slice_get_within none t v at in omega arith)
list_at (x ∷ lists) zero v at = ap (λ (y : Vec WireNo). numbers y.items) (some_same (x ∷ lists) 0 x v refl at)
list_at (x ∷ lists) (suc t) v at = list_at lists t v at

list_past : (lists : List (Vec WireNo)) (t : ℕ) → length lists ≤ t → wires_of (lists_of lists) t ≡ []
list_past [] zero le = refl
list_past [] (suc t) le = refl
list_past (x ∷ lists) zero le = absurd (omega arith)
list_past (x ∷ lists) (suc t) le = list_past lists t (omega arith)

drop_empty : (d : ℕ) (xs : List ℕ) → xs ≡ [] → drop d xs ≡ []
drop_empty zero xs none = none
drop_empty (suc d) [] none = refl
drop_empty (suc d) (x ∷ xs) none = absurd (let e : suc (length xs) ≡ 0 = ap length none in omega arith)

pub behind_some : (lists : List (Vec WireNo)) (t d : ℕ) (v : Vec WireNo) (w : WireNo) → slice_get lists t ≡ Some v → slice_get v.items d ≡ Some w → (rest : List ℕ) × (drop d (wires_of (lists_of lists) t) ≡ w.0 ∷ rest)
behind_some lists t d v w at there = (drop (suc d) (numbers v.items), ap (drop d) (list_at lists t v at) ∙ behind_get v.items d w there)

pub behind_end : (lists : List (Vec WireNo)) (t d : ℕ) (v : Vec WireNo) → slice_get lists t ≡ Some v → length v.items ≤ d → drop d (wires_of (lists_of lists) t) ≡ []
behind_end lists t d v at le = ap (drop d) (list_at lists t v at) ∙ behind_none v.items d le

pub behind_past : (lists : List (Vec WireNo)) (t d : ℕ) → length lists ≤ t → drop d (wires_of (lists_of lists) t) ≡ []
behind_past lists t d le = drop_empty d (wires_of (lists_of lists) t) (list_past lists t le)

-- ---- one event of a worker
abbrev pub fields : List (List ℕ) → List (List ℕ) → List ℕ → ℕ → ℕ → ℕ → Bool → ℕ → ℕ → Worker
fields olds news claimed task d h ended up down = record { claimed = reverse claimed; left = drop d (wires_of olds task); rest = drop h (wires_of news task); ended = ended; up = up; down = down }

drop_next : (d : ℕ) (xs : List ℕ) → drop (d + 1) xs ≡ drop 1 (drop d xs)
drop_next d xs = let e : d + 1 ≡ suc d = omega arith in ap (λ n. drop n xs) e ∙ later d xs
  where
    later : (d : ℕ) (xs : List ℕ) → drop (suc d) xs ≡ drop 1 (drop d xs)
    later zero xs = refl
    later (suc d) [] = refl
    later (suc d) (x ∷ xs) = later d xs

pub claims_task : (olds news : List (List ℕ)) (claimed : List ℕ) (task d h n : ℕ) (up down : ℕ) → n < length olds
    → fields olds news (claimed ++ n ∷ []) n 0 0 false up down ≡ claiming olds news n (fields olds news claimed task d h false up down)
claims_task olds news claimed task d h n up down lt =
    let old : Worker = fields olds news claimed task d h false up down in
    let test : nat_lt n (length olds) ≡ true = lt-ltb n (length olds) lt in
    ap (λ cs. record { claimed = cs; left = wires_of olds n; rest = wires_of news n; ended = false; up = up; down = down }) (reverse-append claimed (n ∷ []))
    ∙ ap (λ b. if b then with_task olds news n old else ending old) (sym test)

pub claims_none : (olds news : List (List ℕ)) (claimed : List ℕ) (task d h n : ℕ) (up down : ℕ) → length olds ≤ n
    → fields olds news claimed task d h true up down ≡ claiming olds news n (fields olds news claimed task d h false up down)
claims_none olds news claimed task d h n up down le =
    let old : Worker = fields olds news claimed task d h false up down in
    ap (λ b. if b then with_task olds news n old else ending old) (sym (le-ltb n (length olds) le))

pub releases_high : (olds news : List (List ℕ)) (claimed : List ℕ) (task d h : ℕ) (ended : Bool) (up down n : ℕ) → 2 ≤ n
    → fields olds news claimed task (d + 1) h ended up (down + 1) ≡ releasing n (fields olds news claimed task d h ended up down)
releases_high olds news claimed task d h ended up down n le =
    let left = drop_next d (wires_of olds task) in
    let more : down + 1 ≡ down + min 1 (n - 1) = omega arith in
    λ i. record { claimed = reverse claimed; left = left i; rest = drop h (wires_of news task); ended = ended; up = up; down = more i }

pub releases_low : (olds news : List (List ℕ)) (claimed : List ℕ) (task d h : ℕ) (ended : Bool) (up down n : ℕ) → n < 2
    → fields olds news claimed task (d + 1) h ended up down ≡ releasing n (fields olds news claimed task d h ended up down)
releases_low olds news claimed task d h ended up down n lt =
    let left = drop_next d (wires_of olds task) in
    let same : down ≡ down + min 1 (n - 1) = omega arith in
    λ i. record { claimed = reverse claimed; left = left i; rest = drop h (wires_of news task); ended = ended; up = up; down = same i }

pub holds_high : (olds news : List (List ℕ)) (claimed : List ℕ) (task d h : ℕ) (ended : Bool) (up down n : ℕ) → 1 ≤ n
    → fields olds news claimed task d (h + 1) ended (up + 1) down ≡ holding n (fields olds news claimed task d h ended up down)
holds_high olds news claimed task d h ended up down n le =
    let rest = drop_next h (wires_of news task) in
    let more : up + 1 ≡ up + min 1 n = omega arith in
    λ i. record { claimed = reverse claimed; left = drop d (wires_of olds task); rest = rest i; ended = ended; up = more i; down = down }

pub holds_low : (olds news : List (List ℕ)) (claimed : List ℕ) (task d h : ℕ) (ended : Bool) (up down n : ℕ) → n < 1
    → fields olds news claimed task d (h + 1) ended up down ≡ holding n (fields olds news claimed task d h ended up down)
holds_low olds news claimed task d h ended up down n lt =
    let rest = drop_next h (wires_of news task) in
    let same : up ≡ up + min 1 n = omega arith in
    λ i. record { claimed = reverse claimed; left = drop d (wires_of olds task); rest = rest i; ended = ended; up = same i; down = down }

-- ---- no number is large
pub record IsSmall (s : CoreState) : Type 0 where
  pub number : s.number ≤ 65544
  pub counts : (w : ℕ) → slice_index s.counts w ≤ 2 ^ 50
  pub ups : s.up + sum_by ups s.workers ≤ 2 ^ 48
  pub downs : s.down + sum_by downs s.workers ≤ 2 ^ 48

below_each : (n c : ℕ) → sum_below n (λ x. c) ≡ c * n
below_each n c = below_const n
  where
    below_const : (n : ℕ) → sum_below n (λ x. c) ≡ c * n
    below_const zero = omega arith
    below_const (suc n) = omega (arith, below_const n)

-- all tasks together have few wires
few_wires : (lists : List (List ℕ)) (wires n : ℕ) → wires < 2 ^ 32 → n ≤ 65536 → ((t : ℕ) → AllByRecursion (λ w. w < wires) (wires_of lists t)) → ((t w : ℕ) → times w (wires_of lists t) ≤ 1) → sum_below n (wide lists) ≤ 2 ^ 48
few_wires lists wires n low few within once =
    let each : (t : ℕ) → wide lists t ≤ 2 ^ 32 = λ t. omega (arith, low, once_short wires (wires_of lists t) (within t) (once t)) in
    omega (arith, few, below_at_most n (wide lists) (λ x. 2 ^ 32) each, below_each n (2 ^ 32))

count_over : (xs : List ℕ) (w : ℕ) → slice_index xs w ≤ overuse xs + 1
count_over [] w = omega arith
count_over (x ∷ xs) zero = omega (arith, sum_by-cons (λ c. c - 1) x xs)
count_over (x ∷ xs) (suc w) = omega (arith, sum_by-cons (λ c. c - 1) x xs, count_over xs w)

few_over : (xs : List ℕ) → ((w : ℕ) → w < length xs → slice_index xs w ≤ 65536) → overuse xs ≤ 65536 * length xs
few_over [] low = omega arith
few_over (x ∷ xs) low = omega (arith, sum_by-cons (λ c. c - 1) x xs, low 0 (omega arith), few_over xs (λ w lt. low (suc w) (omega arith)))

ends_few : (us : List Worker) → sum_by ends us ≤ length us
ends_few [] = omega arith
ends_few (u ∷ us) = omega (arith, sum_by-cons ends u us, bit u.ended, ends_few us)
  where
    bit : (b : Bool) → cond b 1 0 ≤ 1
    bit true = omega arith
    bit false = omega arith

pub reached_small : (olds news : List (List ℕ)) (opening : List ℕ) (s : CoreState) → IsOpening olds opening → AreNews olds news (length opening) → IsReached olds news opening s → IsSmall s
reached_small olds news opening s fits new reached =
    let is = reached_counted olds news opening s fits reached in
    let n : ℕ = min s.number (length olds) in
    let few : n ≤ 65536 = omega (arith, fits.tasks) in
    let up : s.up + sum_by ups s.workers ≤ 2 ^ 48 = omega (arith, is.most_up, is.draws (wide news), few_wires news (length opening) n fits.wires few new.within new.once) in
    let down : s.down + sum_by downs s.workers ≤ 2 ^ 48 = omega (arith, is.most_down, is.draws (wide olds), few_wires olds (length opening) n fits.wires few fits.within fits.once) in
    let over : overuse s.counts ≤ 2 ^ 49 = omega (arith, is.balance, up, few_over opening fits.few, fits.wires) in
    record {
      number = omega (arith, is.drawn, is.draws (λ t. 1), below_ones n, few, ends_few s.workers, is.few);
      counts = λ w. omega (arith, count_over s.counts w, over);
      ups = up;
      downs = down;
    }

-- ---- the workers of the program and those of the core
pub map_at : {A : Type 0} (f : A → Worker) (xs : List A) (k : ℕ) (u : Worker) → slice_get (map f xs) k ≡ Some u → (x : A) × (slice_get xs k ≡ Some x) × (f x ≡ u)
map_at f [] k u at = absurd (let none : List Worker = [] in let lt : k < 0 = slice_get_within none k u at in omega arith)
map_at f (x ∷ xs) zero u at = (x, refl, some_same (f x ∷ map f xs) 0 (f x) u refl at)
map_at f (x ∷ xs) (suc k) u at = map_at f xs k u at

pub at_map : {A : Type 0} (f : A → Worker) (xs : List A) (k : ℕ) (x : A) → slice_get xs k ≡ Some x → slice_get (map f xs) k ≡ Some (f x)
at_map f [] k x at = absurd (let lt : k < 0 = slice_get_within [] k x at in omega arith)
at_map f (y ∷ xs) zero x at = ap (λ z. Some (f z)) (some_same (y ∷ xs) 0 y x refl at)
at_map f (y ∷ xs) (suc k) x at = at_map f xs k x at

pub changed_map : {A : Type 0} (f : A → Worker) (g : Worker → Worker) (xs : List A) (k : ℕ) (p q : A) → slice_get xs k ≡ Some p → f q ≡ g (f p) → changed_at k g (map f xs) ≡ map f (set xs k q)
changed_map f g [] k p q at is = refl
changed_map f g (x ∷ xs) zero p q at is =
    let same : x ≡ p = some_same (x ∷ xs) 0 x p refl at in
    ap (λ u. u ∷ map f xs) (ap (λ y. g (f y)) same ∙ sym is)
changed_map f g (x ∷ xs) (suc k) p q at is = ap (λ us. f x ∷ us) (changed_map f g xs k p q at is)

pub allowed_at : {A : Type 0} (P : Worker → Type 0) (f : A → Worker) (xs : List A) (k : ℕ) (x : A) → slice_get xs k ≡ Some x → (P (f x) ↔ ((u : Worker) × (slice_get (map f xs) k ≡ Some u) × P u))
allowed_at P f xs k x at = (
  (λ may. (f x, at_map f xs k x at, may)),
  (λ t. subst P (some_same (map f xs) k t.0 (f x) t.1 (at_map f xs k x at)) t.2),
)

pub never_at : {A : Type 0} (P : Worker → Type 0) (f : A → Worker) (xs : List A) (k : ℕ) → length xs ≤ k → ((u : Worker) × (slice_get (map f xs) k ≡ Some u) × P u) → ⊥
never_at P f xs k le t = (let lt : k < length (map f xs) = slice_get_within (map f xs) k t.0 t.1 in omega (arith, lt, le, length-map xs f))

-- ---- what is so where the event may happen
drop_within : (P : ℕ → Type 0) (d : ℕ) (xs : List ℕ) → AllByRecursion P xs → AllByRecursion P (drop d xs)
drop_within P zero xs each = each
drop_within P (suc d) [] each = tt
drop_within P (suc d) (x ∷ xs) each = drop_within P d xs each.1

pub next_within : (n d x : ℕ) (xs rest : List ℕ) → AllByRecursion (λ w. w < n) xs → drop d xs ≡ x ∷ rest → x < n
next_within n d x xs rest each is = (subst (AllByRecursion (λ w. w < n)) is (drop_within (λ w. w < n) d xs each)).0

pub next_early : (d x : ℕ) (xs rest : List ℕ) → drop d xs ≡ x ∷ rest → d < length xs
next_early d x [] rest is = absurd (let none : List ℕ = [] in let e : suc (length rest) ≡ 0 = ap length (sym is ∙ drop_empty d none refl) in omega arith)
next_early zero x (y ∷ xs) rest is = omega arith
next_early (suc d) x (y ∷ xs) rest is = omega (arith, next_early d x xs rest is)

pub one_of : (h : Worker → ℕ) (us : List Worker) (k : ℕ) (u : Worker) → slice_get us k ≡ Some u → h u ≤ sum_by h us
one_of h [] k u at = absurd (let none : List Worker = [] in let lt : k < 0 = slice_get_within none k u at in omega arith)
one_of h (x ∷ us) zero u at = omega (arith, sum_by-cons h x us, ap h (some_same (x ∷ us) 0 x u refl at))
one_of h (x ∷ us) (suc k) u at = omega (arith, sum_by-cons h x us, one_of h us k u at)

abbrev pub run_of : List (List ℕ) → List (List ℕ) → CoreState → Moment
run_of olds news s = record { olds = olds; news = news; state = s }

pub runs_small : (olds news : List (List ℕ)) (s : CoreState) (ws : List Progress) → IsRunning (run_of olds news s) ws → IsSmall s
runs_small olds news s ws is = reached_small olds news is.opening s is.fits is.news is.reached

pub runs_long : (olds news : List (List ℕ)) (s : CoreState) (ws : List Progress) (is : IsRunning (run_of olds news s) ws) → length s.counts ≡ length is.opening
runs_long olds news s ws is = (reached_counted olds news is.opening s is.fits is.reached).long

pub runs_on : (olds news : List (List ℕ)) (s t : CoreState) (ws vs : List Progress) (e : Event) → IsRunning (run_of olds news s) ws → Allowed s e → next olds news s e ≡ t → AllByRecursion (HasRoom (length olds - t.number)) vs → IsRunning (run_of olds news t) vs
runs_on olds news s t ws vs e is may leads room = record {
  opening = is.opening;
  fits = is.fits;
  news = is.news;
  reached = subst (IsReached olds news is.opening) leads (reached_more olds news is.opening s e is.reached may);
  room = room;
}

-- ---- the start
pub fresh_push : (tasks : ℕ) (xs : List Progress) (x : Progress) → AllByRecursion (IsFresh tasks) xs → IsFresh tasks x → AllByRecursion (IsFresh tasks) (xs ++ x ∷ [])
fresh_push tasks xs x each new = each_append (IsFresh tasks) xs (x ∷ []) each (new, tt)
