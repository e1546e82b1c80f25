-- The steps of the core as a program: each does what its event does, and keeps what is known of the program.
use Rattle.std.proofs.Common.{◌≡◌, true≢false, ◌↔◌, ℕ, zero, suc, ◌+◌, ◌-◌, ◌^◌, ◌≤◌, ◌<◌, List, [], ◌∷◌, length, map, set, drop, reverse, true, false, Some, slice_get, slice_index, slice_index_or, slice_set, refl, sym, ap, subst, arith, ◌∙◌}
use Rattle.std.proofs.lemmas.List.{length-map}
use Rattle.std.proofs.lemmas.Option.{slice_get_within, get_or_from_slice_get}
use Rattle.std.specs.List.{sum_by, AllByRecursion}
use Rattle.ice_base.specs.declared.number.WireNo.{WireNo}
use Rattle.ice_core.specs.declared.event.Event.TheVariants.{Claim, Release, Hold, Post}
use Rattle.ice_core.specs.declared.progress.Progress.{Progress}
use Rattle.ice_core.specs.Routes.{wires_of, IsOpening, AreNews}
use Rattle.ice_core.specs.Machine.{Worker, CoreState, idle, claiming, releasing, holding, posting, changed_at, worker_at, Allowed, next, IsStart}
use Rattle.ice_core.specs.Program.{moment_of, worker_by, HasRoom, IsRunning, IsFresh}
use Rattle.ice_core.proofs.Sums.{each_set, once_short}
use Rattle.ice_core.proofs.Counting.{some_same, ups, downs}
use Rattle.ice_core.proofs.Running.{map_at, at_map, changed_map, never_at, next_within, next_early, one_of, runs_small, runs_long, runs_on}

abbrev pub state_by : List (List ℕ) → List (List ℕ) → ℕ → List ℕ → ℕ → ℕ → List Progress → CoreState
state_by olds news number counts up down ws = record { number = number; counts = counts; up = up; down = down; workers = map (worker_by olds news) ws }

-- ---- what is read
each_get : (P : Progress → Type 0) (ws : List Progress) (k : ℕ) (p : Progress) → AllByRecursion P ws → slice_get ws k ≡ Some p → P p
each_get P [] k p each at = absurd (let none : List Progress = [] in let lt : k < 0 = slice_get_within none k p at in omega arith)
each_get P (x ∷ ws) zero p each at = subst P (some_same (x ∷ ws) 0 x p refl at) each.0
each_get P (x ∷ ws) (suc k) p each at = each_get P ws k p each.1 at

each_weaker : (P Q : Progress → Type 0) → ((p : Progress) → P p → Q p) → (ws : List Progress) → AllByRecursion P ws → AllByRecursion Q ws
each_weaker P Q weaker [] each = tt
each_weaker P Q weaker (x ∷ ws) each = (weaker x each.0, each_weaker P Q weaker ws each.1)

pub count_read : (xs : List ℕ) (w n : ℕ) → w < length xs → n ≡ slice_index_or xs w n → n ≡ slice_index xs w
count_read [] w n lt is = absurd (omega arith)
count_read (x ∷ xs) zero n lt is = is
count_read (x ∷ xs) (suc w) n lt is = count_read xs w n (omega arith) is

-- the progress at a worker's place
pub at_of : (f : Progress → Worker) (ws : List Progress) (k : ℕ) (u : Worker) (p : Progress) → slice_get (map f ws) k ≡ Some u → p ≡ slice_index_or ws k p → (slice_get ws k ≡ Some p) × (f p ≡ u)
at_of f ws k u p at is =
    let t = map_at f ws k u at in
    let same : t.0 ≡ p = sym (is ∙ get_or_from_slice_get ws k t.0 p t.1) in
    (t.1 ∙ ap Some same, sym (ap f same) ∙ t.2)

pub place_of : (f : Progress → Worker) (ws : List Progress) (k : ℕ) (u : Worker) → slice_get (map f ws) k ≡ Some u → k < length ws
place_of f ws k u at = (let t = map_at f ws k u at in slice_get_within ws k t.0 t.1)

-- ---- a wire is released
pub release_wire : (olds news : List (List ℕ)) (number : ℕ) (counts : List ℕ) (up down : ℕ) (ws : List Progress) (k : ℕ) (v : WireNo) → IsRunning (moment_of olds news number counts up down ws) ws → Allowed (state_by olds news number counts up down ws) (Release k v) → v.0 < length counts
release_wire olds news number counts up down ws k v is may =
    let t = map_at (worker_by olds news) ws k may.0 may.1 in
    let left : drop t.0.released (wires_of olds t.0.task) ≡ v.0 ∷ may.2.0 = ap (λ (u : Worker). u.left) t.2 ∙ may.2.1 in
    omega (arith, next_within (length is.opening) t.0.released v.0 (wires_of olds t.0.task) may.2.0 (is.fits.within t.0.task) left, runs_long olds news (state_by olds news number counts up down ws) ws is)

pub release_ready : (olds news : List (List ℕ)) (number : ℕ) (counts : List ℕ) (up down : ℕ) (ws : List Progress) (k : ℕ) (v : WireNo) (p : Progress) → IsRunning (moment_of olds news number counts up down ws) ws → Allowed (state_by olds news number counts up down ws) (Release k v)
    → p ≡ slice_index_or ws k p → (p.released < 2 ^ 63) × (p.down < 2 ^ 63)
release_ready olds news number counts up down ws k v p is may read =
    let t = at_of (worker_by olds news) ws k may.0 p may.1 read in
    let small = runs_small olds news (state_by olds news number counts up down ws) ws is in
    let left : drop p.released (wires_of olds p.task) ≡ v.0 ∷ may.2.0 = ap (λ (u : Worker). u.left) t.1 ∙ may.2.1 in
    let own : p.down ≤ sum_by downs (map (worker_by olds news) ws) = one_of downs (map (worker_by olds news) ws) k (worker_by olds news p) (at_map (worker_by olds news) ws k p t.0) in
    let short : length (wires_of olds p.task) ≤ length is.opening = once_short (length is.opening) (wires_of olds p.task) (is.fits.within p.task) (is.fits.once p.task) in
    (omega (arith, next_early p.released v.0 (wires_of olds p.task) may.2.0 left, short, is.fits.wires), omega (arith, own, small.downs))

pub release_leads : (olds news : List (List ℕ)) (number : ℕ) (counts : List ℕ) (up down : ℕ) (ws : List Progress) (k : ℕ) (v : WireNo) (p q : Progress) (n m : ℕ) → slice_get ws k ≡ Some p → n ≡ slice_index counts v.0 → m ≡ n - 1
    → worker_by olds news q ≡ releasing n (worker_by olds news p) → next olds news (state_by olds news number counts up down ws) (Release k v) ≡ state_by olds news number (slice_set counts v.0 m) up down (slice_set ws k q)
release_leads olds news number counts up down ws k v p q n m at read less is =
    let count : slice_index counts v.0 - 1 ≡ m = omega (arith, read, less) in
    let step : worker_by olds news q ≡ releasing (slice_index counts v.0) (worker_by olds news p) = is ∙ ap (λ j. releasing j (worker_by olds news p)) read in
    let workers : changed_at k (releasing (slice_index counts v.0)) (map (worker_by olds news) ws) ≡ map (worker_by olds news) (set ws k q) = changed_map (worker_by olds news) (releasing (slice_index counts v.0)) ws k p q at step in
    λ i. record { number = number; counts = slice_set counts v.0 (count i); up = up; down = down; workers = workers i }

pub release_runs : (olds news : List (List ℕ)) (number : ℕ) (counts : List ℕ) (up down : ℕ) (ws : List Progress) (k : ℕ) (v : WireNo) (p q : Progress) (n m : ℕ) → IsRunning (moment_of olds news number counts up down ws) ws → Allowed (state_by olds news number counts up down ws) (Release k v)
    → slice_get ws k ≡ Some p → n ≡ slice_index counts v.0 → m ≡ n - 1 → worker_by olds news q ≡ releasing n (worker_by olds news p) → ((j : ℕ) → HasRoom j p → HasRoom j q)
    → IsRunning (moment_of olds news number (slice_set counts v.0 m) up down (slice_set ws k q)) (slice_set ws k q)
release_runs olds news number counts up down ws k v p q n m is may at read less step room =
    runs_on olds news (state_by olds news number counts up down ws) (state_by olds news number (slice_set counts v.0 m) up down (slice_set ws k q)) ws (slice_set ws k q) (Release k v) is may (release_leads olds news number counts up down ws k v p q n m at read less step)
    (each_set (HasRoom (length olds - number)) ws k q is.room (room (length olds - number) (each_get (HasRoom (length olds - number)) ws k p is.room at)))

-- ---- a wire is held
pub hold_wire : (olds news : List (List ℕ)) (number : ℕ) (counts : List ℕ) (up down : ℕ) (ws : List Progress) (k : ℕ) (v : WireNo) → IsRunning (moment_of olds news number counts up down ws) ws → Allowed (state_by olds news number counts up down ws) (Hold k v) → v.0 < length counts
hold_wire olds news number counts up down ws k v is may =
    let t = map_at (worker_by olds news) ws k may.0 may.1 in
    let rest : drop t.0.held (wires_of news t.0.task) ≡ v.0 ∷ may.2.1.0 = ap (λ (u : Worker). u.rest) t.2 ∙ may.2.1.1 in
    omega (arith, next_within (length is.opening) t.0.held v.0 (wires_of news t.0.task) may.2.1.0 (is.news.within t.0.task) rest, runs_long olds news (state_by olds news number counts up down ws) ws is)

pub hold_ready : (olds news : List (List ℕ)) (number : ℕ) (counts : List ℕ) (up down : ℕ) (ws : List Progress) (k : ℕ) (v : WireNo) (p : Progress) → IsRunning (moment_of olds news number counts up down ws) ws → Allowed (state_by olds news number counts up down ws) (Hold k v)
    → p ≡ slice_index_or ws k p → (p.held < 2 ^ 63) × (p.up < 2 ^ 63)
hold_ready olds news number counts up down ws k v p is may read =
    let t = at_of (worker_by olds news) ws k may.0 p may.1 read in
    let small = runs_small olds news (state_by olds news number counts up down ws) ws is in
    let rest : drop p.held (wires_of news p.task) ≡ v.0 ∷ may.2.1.0 = ap (λ (u : Worker). u.rest) t.1 ∙ may.2.1.1 in
    let own : p.up ≤ sum_by ups (map (worker_by olds news) ws) = one_of ups (map (worker_by olds news) ws) k (worker_by olds news p) (at_map (worker_by olds news) ws k p t.0) in
    let short : length (wires_of news p.task) ≤ length is.opening = once_short (length is.opening) (wires_of news p.task) (is.news.within p.task) (is.news.once p.task) in
    (omega (arith, next_early p.held v.0 (wires_of news p.task) may.2.1.0 rest, short, is.fits.wires), omega (arith, own, small.ups))

pub count_small : (olds news : List (List ℕ)) (number : ℕ) (counts : List ℕ) (up down : ℕ) (ws : List Progress) (w n : ℕ) → IsRunning (moment_of olds news number counts up down ws) ws → n ≡ slice_index counts w → n ≤ 2 ^ 50
count_small olds news number counts up down ws w n is read = omega (arith, read, (runs_small olds news (state_by olds news number counts up down ws) ws is).counts w)

pub hold_leads : (olds news : List (List ℕ)) (number : ℕ) (counts : List ℕ) (up down : ℕ) (ws : List Progress) (k : ℕ) (v : WireNo) (p q : Progress) (n : ℕ) → slice_get ws k ≡ Some p → n ≡ slice_index counts v.0
    → worker_by olds news q ≡ holding n (worker_by olds news p) → next olds news (state_by olds news number counts up down ws) (Hold k v) ≡ state_by olds news number (slice_set counts v.0 (n + 1)) up down (slice_set ws k q)
hold_leads olds news number counts up down ws k v p q n at read is =
    let count : slice_index counts v.0 + 1 ≡ n + 1 = omega (arith, read) in
    let step : worker_by olds news q ≡ holding (slice_index counts v.0) (worker_by olds news p) = is ∙ ap (λ j. holding j (worker_by olds news p)) read in
    let workers : changed_at k (holding (slice_index counts v.0)) (map (worker_by olds news) ws) ≡ map (worker_by olds news) (set ws k q) = changed_map (worker_by olds news) (holding (slice_index counts v.0)) ws k p q at step in
    λ i. record { number = number; counts = slice_set counts v.0 (count i); up = up; down = down; workers = workers i }

pub hold_runs : (olds news : List (List ℕ)) (number : ℕ) (counts : List ℕ) (up down : ℕ) (ws : List Progress) (k : ℕ) (v : WireNo) (p q : Progress) (n : ℕ) → IsRunning (moment_of olds news number counts up down ws) ws → Allowed (state_by olds news number counts up down ws) (Hold k v)
    → slice_get ws k ≡ Some p → n ≡ slice_index counts v.0 → worker_by olds news q ≡ holding n (worker_by olds news p) → ((j : ℕ) → HasRoom j p → HasRoom j q)
    → IsRunning (moment_of olds news number (slice_set counts v.0 (n + 1)) up down (slice_set ws k q)) (slice_set ws k q)
hold_runs olds news number counts up down ws k v p q n is may at read step room =
    runs_on olds news (state_by olds news number counts up down ws) (state_by olds news number (slice_set counts v.0 (n + 1)) up down (slice_set ws k q)) ws (slice_set ws k q) (Hold k v) is may (hold_leads olds news number counts up down ws k v p q n at read step)
    (each_set (HasRoom (length olds - number)) ws k q is.room (room (length olds - number) (each_get (HasRoom (length olds - number)) ws k p is.room at)))

-- ---- a number is drawn
pub claim_ready : (olds news : List (List ℕ)) (number : ℕ) (counts : List ℕ) (up down : ℕ) (ws : List Progress) (k : ℕ) (p : Progress) → IsRunning (moment_of olds news number counts up down ws) ws → slice_get ws k ≡ Some p → HasRoom (length olds - number) p
claim_ready olds news number counts up down ws k p is at = each_get (HasRoom (length olds - number)) ws k p is.room at

pub claim_leads : (olds news : List (List ℕ)) (number : ℕ) (counts : List ℕ) (up down : ℕ) (ws : List Progress) (k : ℕ) (p q : Progress) → slice_get ws k ≡ Some p → worker_by olds news q ≡ claiming olds news number (worker_by olds news p)
    → next olds news (state_by olds news number counts up down ws) (Claim k) ≡ state_by olds news (number + 1) counts up down (slice_set ws k q)
claim_leads olds news number counts up down ws k p q at is =
    let workers : changed_at k (claiming olds news number) (map (worker_by olds news) ws) ≡ map (worker_by olds news) (set ws k q) = changed_map (worker_by olds news) (claiming olds news number) ws k p q at is in
    λ i. record { number = number + 1; counts = counts; up = up; down = down; workers = workers i }

pub claim_runs : (olds news : List (List ℕ)) (number : ℕ) (counts : List ℕ) (up down : ℕ) (ws : List Progress) (k : ℕ) (p q : Progress) → IsRunning (moment_of olds news number counts up down ws) ws → Allowed (state_by olds news number counts up down ws) (Claim k)
    → slice_get ws k ≡ Some p → worker_by olds news q ≡ claiming olds news number (worker_by olds news p) → HasRoom (length olds - (number + 1)) q → IsRunning (moment_of olds news (number + 1) counts up down (slice_set ws k q)) (slice_set ws k q)
claim_runs olds news number counts up down ws k p q is may at step room =
    runs_on olds news (state_by olds news number counts up down ws) (state_by olds news (number + 1) counts up down (slice_set ws k q)) ws (slice_set ws k q) (Claim k) is may (claim_leads olds news number counts up down ws k p q at step)
    (each_set (HasRoom (length olds - (number + 1))) ws k q (each_weaker (HasRoom (length olds - number)) (HasRoom (length olds - (number + 1))) (λ r has. omega (arith, has)) ws is.room) room)

pub number_small : (olds news : List (List ℕ)) (number : ℕ) (counts : List ℕ) (up down : ℕ) (ws : List Progress) → IsRunning (moment_of olds news number counts up down ws) ws → number ≤ 65544
number_small olds news number counts up down ws is = (runs_small olds news (state_by olds news number counts up down ws) ws is).number

-- ---- a number is posted
pub up_leads : (olds news : List (List ℕ)) (number : ℕ) (counts : List ℕ) (up down : ℕ) (ws : List Progress) (k : ℕ) (p q : Progress) (n : ℕ) → slice_get ws k ≡ Some p → n ≡ p.up → worker_by olds news q ≡ posting true (worker_by olds news p)
    → next olds news (state_by olds news number counts up down ws) (Post k true) ≡ state_by olds news number counts (up + n) down (slice_set ws k q)
up_leads olds news number counts up down ws k p q n at read is =
    let s : CoreState = state_by olds news number counts up down ws in
    let own : (worker_at s k).up ≡ p.up = ap (λ (w : Worker). w.up) (get_or_from_slice_get s.workers k (worker_by olds news p) idle (at_map (worker_by olds news) ws k p at)) in
    let more : up + (worker_at s k).up ≡ up + n = ap (λ j. up + j) (own ∙ sym read) in
    let workers : changed_at k (posting true) (map (worker_by olds news) ws) ≡ map (worker_by olds news) (set ws k q) = changed_map (worker_by olds news) (posting true) ws k p q at is in
    λ i. record { number = number; counts = counts; up = more i; down = down; workers = workers i }

pub up_runs : (olds news : List (List ℕ)) (number : ℕ) (counts : List ℕ) (up down : ℕ) (ws : List Progress) (k : ℕ) (p q : Progress) (n : ℕ) → IsRunning (moment_of olds news number counts up down ws) ws → Allowed (state_by olds news number counts up down ws) (Post k true)
    → slice_get ws k ≡ Some p → n ≡ p.up → worker_by olds news q ≡ posting true (worker_by olds news p) → ((j : ℕ) → HasRoom j p → HasRoom j q) → IsRunning (moment_of olds news number counts (up + n) down (slice_set ws k q)) (slice_set ws k q)
up_runs olds news number counts up down ws k p q n is may at read step room =
    runs_on olds news (state_by olds news number counts up down ws) (state_by olds news number counts (up + n) down (slice_set ws k q)) ws (slice_set ws k q) (Post k true) is may (up_leads olds news number counts up down ws k p q n at read step)
    (each_set (HasRoom (length olds - number)) ws k q is.room (room (length olds - number) (each_get (HasRoom (length olds - number)) ws k p is.room at)))

pub up_small : (olds news : List (List ℕ)) (number : ℕ) (counts : List ℕ) (up down : ℕ) (ws : List Progress) (k : ℕ) (p : Progress) → IsRunning (moment_of olds news number counts up down ws) ws → slice_get ws k ≡ Some p → up + p.up ≤ 2 ^ 48
up_small olds news number counts up down ws k p is at =
    let own : p.up ≤ sum_by ups (map (worker_by olds news) ws) = one_of ups (map (worker_by olds news) ws) k (worker_by olds news p) (at_map (worker_by olds news) ws k p at) in
    omega (arith, own, (runs_small olds news (state_by olds news number counts up down ws) ws is).ups)

pub down_leads : (olds news : List (List ℕ)) (number : ℕ) (counts : List ℕ) (up down : ℕ) (ws : List Progress) (k : ℕ) (p q : Progress) (n : ℕ) → slice_get ws k ≡ Some p → n ≡ p.down → worker_by olds news q ≡ posting false (worker_by olds news p)
    → next olds news (state_by olds news number counts up down ws) (Post k false) ≡ state_by olds news number counts up (down + n) (slice_set ws k q)
down_leads olds news number counts up down ws k p q n at read is =
    let s : CoreState = state_by olds news number counts up down ws in
    let own : (worker_at s k).down ≡ p.down = ap (λ (w : Worker). w.down) (get_or_from_slice_get s.workers k (worker_by olds news p) idle (at_map (worker_by olds news) ws k p at)) in
    let more : down + (worker_at s k).down ≡ down + n = ap (λ j. down + j) (own ∙ sym read) in
    let workers : changed_at k (posting false) (map (worker_by olds news) ws) ≡ map (worker_by olds news) (set ws k q) = changed_map (worker_by olds news) (posting false) ws k p q at is in
    λ i. record { number = number; counts = counts; up = up; down = more i; workers = workers i }

pub down_runs : (olds news : List (List ℕ)) (number : ℕ) (counts : List ℕ) (up down : ℕ) (ws : List Progress) (k : ℕ) (p q : Progress) (n : ℕ) → IsRunning (moment_of olds news number counts up down ws) ws → Allowed (state_by olds news number counts up down ws) (Post k false)
    → slice_get ws k ≡ Some p → n ≡ p.down → worker_by olds news q ≡ posting false (worker_by olds news p) → ((j : ℕ) → HasRoom j p → HasRoom j q) → IsRunning (moment_of olds news number counts up (down + n) (slice_set ws k q)) (slice_set ws k q)
down_runs olds news number counts up down ws k p q n is may at read step room =
    runs_on olds news (state_by olds news number counts up down ws) (state_by olds news number counts up (down + n) (slice_set ws k q)) ws (slice_set ws k q) (Post k false) is may (down_leads olds news number counts up down ws k p q n at read step)
    (each_set (HasRoom (length olds - number)) ws k q is.room (room (length olds - number) (each_get (HasRoom (length olds - number)) ws k p is.room at)))

pub down_small : (olds news : List (List ℕ)) (number : ℕ) (counts : List ℕ) (up down : ℕ) (ws : List Progress) (k : ℕ) (p : Progress) → IsRunning (moment_of olds news number counts up down ws) ws → slice_get ws k ≡ Some p → down + p.down ≤ 2 ^ 48
down_small olds news number counts up down ws k p is at =
    let own : p.down ≤ sum_by downs (map (worker_by olds news) ws) = one_of downs (map (worker_by olds news) ws) k (worker_by olds news p) (at_map (worker_by olds news) ws k p at) in
    omega (arith, own, (runs_small olds news (state_by olds news number counts up down ws) ws is).downs)

-- ---- the start
fresh_idle : (olds news : List (List ℕ)) (tasks : ℕ) (p : Progress) → length olds ≤ tasks → length news ≤ tasks → IsFresh tasks p → worker_by olds news p ≡ idle
fresh_idle olds news tasks p few news_few is =
    let left : drop p.released (wires_of olds p.task) ≡ [] = ap (λ d. drop d (wires_of olds p.task)) is.released ∙ (ap (wires_of olds) is.task ∙ past olds tasks few) in
    let rest : drop p.held (wires_of news p.task) ≡ [] = ap (λ d. drop d (wires_of news p.task)) is.held ∙ (ap (wires_of news) is.task ∙ past news tasks news_few) in
    let claimed : reverse p.claimed.items ≡ [] = ap reverse is.claimed in
    let ended = is.ended in
    let up = is.up in
    let down = is.down in
    λ i. record { claimed = claimed i; left = left i; rest = rest i; ended = ended i; up = up i; down = down i }
  where
    past : (lists : List (List ℕ)) (t : ℕ) → length lists ≤ t → wires_of lists t ≡ []
    past [] zero le = refl
    past [] (suc t) le = refl
    past (x ∷ lists) zero le = absurd (omega arith)
    past (x ∷ lists) (suc t) le = past lists t (omega arith)

fresh_workers : (olds news : List (List ℕ)) (tasks : ℕ) (ws : List Progress) → length olds ≤ tasks → length news ≤ tasks → AllByRecursion (IsFresh tasks) ws
    → AllByRecursion (λ u. u ≡ record { claimed = []; left = []; rest = []; ended = false; up = 0; down = 0 }) (map (worker_by olds news) ws)
fresh_workers olds news tasks [] few news_few each = tt
fresh_workers olds news tasks (p ∷ ws) few news_few each = (fresh_idle olds news tasks p few news_few each.0, fresh_workers olds news tasks ws few news_few each.1)

fresh_room : (tasks n : ℕ) (ws : List Progress) → n ≤ tasks → AllByRecursion (IsFresh tasks) ws → AllByRecursion (HasRoom n) ws
fresh_room tasks n [] le each = tt
fresh_room tasks n (p ∷ ws) le each = ((let none : length p.claimed.items ≡ 0 = ap length each.0.claimed in omega (arith, none, each.0.room, le)), fresh_room tasks n ws le each.1)

pub start_is : (olds news : List (List ℕ)) (counts : List ℕ) (tasks : ℕ) (ws : List Progress) → length olds ≡ tasks → AreNews olds news (length counts) → length ws ≤ 8 → AllByRecursion (IsFresh tasks) ws → IsStart counts (state_by olds news 0 counts 0 0 ws)
start_is olds news counts tasks ws long new few each = record {
  number = refl;
  counts = refl;
  up = refl;
  down = refl;
  idle = fresh_workers olds news tasks ws (omega (arith, long)) (omega (arith, long, new.tasks)) each;
  few = omega (arith, length-map ws (worker_by olds news), few);
}

pub start_runs : (olds news : List (List ℕ)) (counts : List ℕ) (tasks : ℕ) (ws : List Progress) → length olds ≡ tasks → IsOpening olds counts → AreNews olds news (length counts) → length ws ≤ 8 → AllByRecursion (IsFresh tasks) ws → IsRunning (moment_of olds news 0 counts 0 0 ws) ws
start_runs olds news counts tasks ws long fits new few each = record {
  opening = counts;
  fits = fits;
  news = new;
  reached = record { start = state_by olds news 0 counts 0 0 ws; begins = start_is olds news counts tasks ws long new few each; events = []; leads = refl };
  room = fresh_room tasks (length olds - 0) ws (omega (arith, long)) each;
}

-- ---- what a worker may do
pub through : {A B C : Type 0} → (A ↔ B) → (B ↔ C) → (A ↔ C)
through one two = ((λ a. two.0 (one.0 a)), (λ c. one.1 (two.1 c)))

pub none_may : (P : Worker → Type 0) (f : Progress → Worker) (ws : List Progress) (k : ℕ) → length ws ≤ k → (false ≡ true) ↔ ((u : Worker) × (slice_get (map f ws) k ≡ Some u) × P u)
none_may P f ws k le = ((λ yes. absurd (true≢false (sym yes))), (λ t. absurd (never_at P f ws k le t)))

pub none_posts : (f : Progress → Worker) (ws : List Progress) (k : ℕ) → length ws ≤ k → (false ≡ true) ↔ ((u : Worker) × (slice_get (map f ws) k ≡ Some u))
none_posts f ws k le = ((λ yes. absurd (true≢false (sym yes))), (λ t. absurd (never_at (λ (u : Worker). Unit {0}) f ws k le (t.0, t.1, tt))))

pub some_posts : (f : Progress → Worker) (ws : List Progress) (k : ℕ) (p : Progress) → slice_get ws k ≡ Some p → (true ≡ true) ↔ ((u : Worker) × (slice_get (map f ws) k ≡ Some u))
some_posts f ws k p at = ((λ yes. (f p, at_map f ws k p at)), (λ t. refl))

-- ---- the core at its start
pub start_program : (olds news old_lists new_lists : List (List ℕ)) (counts copies : List ℕ) (tasks workers : ℕ) (ws : List Progress) → old_lists ≡ olds → new_lists ≡ news → copies ≡ counts → length olds ≡ tasks → IsOpening olds counts → AreNews olds news (length counts)
    → length ws ≡ workers → workers ≤ 8 → AllByRecursion (IsFresh tasks) ws → IsRunning (moment_of old_lists new_lists 0 copies 0 0 ws) ws × IsStart counts (state_by old_lists new_lists 0 copies 0 0 ws)
start_program olds news old_lists new_lists counts copies tasks workers ws same_olds same_news same_counts long fits new many few each =
    let eight : length ws ≤ 8 = omega (arith, many, few) in
    subst (λ o. IsRunning (moment_of o new_lists 0 copies 0 0 ws) ws × IsStart counts (state_by o new_lists 0 copies 0 0 ws)) (sym same_olds)
    (subst (λ n. IsRunning (moment_of olds n 0 copies 0 0 ws) ws × IsStart counts (state_by olds n 0 copies 0 0 ws)) (sym same_news)
    (subst (λ cs. IsRunning (moment_of olds news 0 cs 0 0 ws) ws × IsStart counts (state_by olds news 0 cs 0 0 ws)) (sym same_counts)
    (start_runs olds news counts tasks ws long fits new eight each, start_is olds news counts tasks ws long new eight each)))
