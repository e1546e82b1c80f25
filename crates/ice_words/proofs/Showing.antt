-- Words show a state of the core.
use Rattle.std.proofs.Common.{◌≡◌, ℕ, zero, suc, ◌+◌, ◌≤◌, ◌<◌, ◌⊎◌, List, [], ◌∷◌, ◌++◌, length, map, filter, min, cond, eqb, drop, Bool, true, false, true≢false, ◌||◌, not, inl, inr, length-drop, slice_index, refl, sym, ap, subst, arith, ◌∙◌}
use mathlib.Core.Option.{some}
use lib.ListN.{get_elem?}
use Rattle.std.proofs.lemmas.Bool.{cases_eq}
use Rattle.std.proofs.lemmas.List.{get_or-drop, length-map}
use Rattle.std.proofs.lemmas.List.Sums.{sum_by-append, sum_by-cons}
use Rattle.std.specs.List.{sum_by, AllByRecursion}
use Rattle.ice_words.specs.declared.view.Claim.{Claim}
use Rattle.ice_words.specs.declared.view.Part.{Part}
use Rattle.ice_words.specs.declared.view.View.{View}
use Rattle.ice_core.specs.Routes.{sum_below}
use Rattle.ice_words.specs.Views.{total_in, one, task_by, released_on, held_on, ends_of, no_part}
use Rattle.ice_words.specs.Rule.{IsClaim, IsPart, IsView}
use Rattle.ice_words.specs.Lawful.{AreFinished, IsNewestUnderWay, IsLawful}
use Rattle.ice_core.specs.Machine.{Worker}
use Rattle.ice_words.specs.Showing.{IsShown, worker_of, is_nil, has_drawn, all_parts, drawn_parts, core_of, WordsShowCore}
use Rattle.ice_core.proofs.Sums.{sum_at, each_at, each_append, below_ones, below_of, below_once, is_at, at_itself, at_other}
use Rattle.ice_words.proofs.Undoing.{IsConfig, Back, Counted, AreWithin, sum_of, size_of, size, going, same_list, last_of, back_end, back_hold, back_release, back_claim, bare_workers}

-- ---- a part that has something to undo but a claim
abbrev busy_claims : List Claim → Bool
busy_claims [] = false
busy_claims (c ∷ cs) = not (is_nil c.held) || not (is_nil c.released)

abbrev busy : Part → Bool
busy p = p.ended || busy_claims p.claims

abbrev newest_is : ℕ → List Claim → Bool
newest_is t [] = false
newest_is t (c ∷ cs) = eqb c.task t

find_part : (test : Part → Bool) (ps : List Part) → ((k : ℕ) × (p : Part) × (get_elem? ps k ≡ some p) × (test p ≡ true)) ⊎ AllByRecursion (λ p. test p ≡ false) ps
find_part test [] = inr tt
find_part test (p ∷ ps) = by_test (test p) refl (find_part test ps)
  where
    by_test : (b : Bool) → test p ≡ b → ((k : ℕ) × (q : Part) × (get_elem? ps k ≡ some q) × (test q ≡ true)) ⊎ AllByRecursion (λ q. test q ≡ false) ps
        → ((k : ℕ) × (q : Part) × (get_elem? (p ∷ ps) k ≡ some q) × (test q ≡ true)) ⊎ AllByRecursion (λ q. test q ≡ false) (p ∷ ps)
    by_test true is rest = inl (0, p, refl, is)
    by_test false is (inl t) = inl (suc t.0, t.1, t.2, t.3)
    by_test false is (inr each) = inr (is, each)

or_false : (a b : Bool) → (a || b) ≡ false → (a ≡ false) × (b ≡ false)
or_false true b is = absurd (true≢false is)
or_false false b is = (refl, is)

nil_of : {A : Type 0} (xs : List A) → not (is_nil xs) ≡ false → xs ≡ []
nil_of [] is = refl
nil_of (x ∷ xs) is = absurd (true≢false is)

part_is : (p : Part) (t : ℕ) (rs hs : List ℕ) (c : Claim) (cs : List Claim) → p.ended ≡ false → p.claims ≡ c ∷ cs → c.task ≡ t → c.released ≡ rs → c.held ≡ hs → p ≡ going t rs hs cs
part_is p t rs hs c cs over claims task released held =
    let newest : c ∷ cs ≡ record { task = t; released = rs; held = hs } ∷ cs = λ k. record { task = task k; released = released k; held = held k } ∷ cs in
    let whole = claims ∙ newest in
    λ k. record { claims = whole k; ended = over k }

back_busy : (olds news : List (List ℕ)) (opening : List ℕ) (number : ℕ) (counts : List ℕ) (ps : List Part) (k : ℕ) (p : Part) → IsConfig olds news opening number counts ps → Counted olds opening → get_elem? ps k ≡ some p → busy p ≡ true → Back olds news opening number counts ps
back_busy olds news opening number counts ps k p is counted at work = by_end p.ended refl
  where
    by_released : (c : Claim) (cs : List Claim) → p.ended ≡ false → p.claims ≡ c ∷ cs → c.held ≡ [] → busy_claims (c ∷ cs) ≡ true → ((c.released ≡ []) ⊎ ((ys : List ℕ) × (w : ℕ) × (c.released ≡ ys ++ w ∷ []))) → Back olds news opening number counts ps
    by_released c cs going_on claims held some_of (inl none) = absurd (true≢false (sym some_of ∙ (ap (λ hs. not (is_nil hs) || not (is_nil c.released)) held ∙ ap (λ rs. not (is_nil rs)) none)))
    by_released c cs going_on claims held some_of (inr t) = back_release olds news opening number counts ps k c.task t.0 t.1 cs is (at ∙ ap some (part_is p c.task (t.0 ++ t.1 ∷ []) [] c cs going_on claims refl t.2 held))

    by_held : (c : Claim) (cs : List Claim) → p.ended ≡ false → p.claims ≡ c ∷ cs → busy_claims (c ∷ cs) ≡ true → ((c.held ≡ []) ⊎ ((ys : List ℕ) × (w : ℕ) × (c.held ≡ ys ++ w ∷ []))) → Back olds news opening number counts ps
    by_held c cs going_on claims some_of (inl none) = by_released c cs going_on claims none some_of (last_of c.released)
    by_held c cs going_on claims some_of (inr t) = back_hold olds news opening number counts ps k c.task c.released t.0 t.1 cs is counted (at ∙ ap some (part_is p c.task c.released (t.0 ++ t.1 ∷ []) c cs going_on claims refl refl t.2))

    by_claims : (cs : List Claim) → p.ended ≡ false → p.claims ≡ cs → busy_claims cs ≡ true → Back olds news opening number counts ps
    by_claims [] going_on claims some_of = absurd (true≢false (sym some_of))
    by_claims (c ∷ cs) going_on claims some_of = by_held c cs going_on claims some_of (last_of c.held)

    by_end : (b : Bool) → p.ended ≡ b → Back olds news opening number counts ps
    by_end true over = back_end olds news opening number counts ps k p is at over
    by_end false over = by_claims p.claims over refl (subst (λ b. (b || busy_claims p.claims) ≡ true) over work)

-- ---- nothing is left
no_claims : (cs : List Claim) → sum_by one cs ≡ 0 → cs ≡ []
no_claims [] none = refl
no_claims (c ∷ cs) none = absurd (omega (arith, none, sum_by-cons one c cs))

abbrev bit : Bool → ℕ
bit b = cond b 1 0

no_end : (b : Bool) → bit b ≡ 0 → b ≡ false
no_end true none = absurd (omega (arith, none))
no_end false none = refl

empty_parts : (ps : List Part) → sum_of one ps ≡ 0 → sum_by ends_of ps ≡ 0 → AllByRecursion (λ p. p ≡ no_part) ps
empty_parts [] none over = tt
empty_parts (p ∷ ps) none over =
    let e = sum_by-cons (total_in one) p ps in
    let o = sum_by-cons ends_of p ps in
    let claims : p.claims ≡ [] = no_claims p.claims (omega (arith, e, none)) in
    let ended : p.ended ≡ false = no_end p.ended (omega (arith, o, over)) in
    ((λ k. record { claims = claims k; ended = ended k }), empty_parts ps (omega (arith, e, none)) (omega (arith, o, over)))

empty_sum : (g : Claim → ℕ) (ps : List Part) → AllByRecursion (λ p. p ≡ no_part) ps → sum_of g ps ≡ 0
empty_sum g [] each = refl
empty_sum g (p ∷ ps) each = omega (arith, sum_by-cons (total_in g) p ps, ap (total_in g) each.0, empty_sum g ps each.1)

idle_workers : (olds news : List (List ℕ)) (ps : List Part) → AllByRecursion (λ p. p ≡ no_part) ps → AllByRecursion (λ u. u ≡ record { claimed = []; left = []; rest = []; ended = false; up = 0; down = 0 }) (map (worker_of olds news) ps)
idle_workers olds news [] each = tt
idle_workers olds news (p ∷ ps) each = (ap (worker_of olds news) each.0, idle_workers olds news ps each.1)

at_start : (olds news : List (List ℕ)) (opening : List ℕ) (number : ℕ) (counts : List ℕ) (ps : List Part) → IsConfig olds news opening number counts ps → number ≡ 0 → IsShown olds news opening (core_of number counts (map (worker_of olds news) ps))
at_start olds news opening number counts ps is none =
    let empty = empty_parts ps (omega (arith, is.drawn, none)) (omega (arith, is.drawn, none)) in
    let workers : List Worker = map (worker_of olds news) ps in
    record {
      state = core_of number counts workers;
      reached = record {
        start = core_of number counts workers;
        begins = record {
          number = none;
          counts = same_list counts opening is.long (λ w lt. omega (arith, is.each w lt, empty_sum (released_on w) ps empty, empty_sum (held_on w) ps empty));
          up = refl;
          down = refl;
          idle = idle_workers olds news ps empty;
          few = omega (arith, length-map ps (worker_of olds news), is.few);
        };
        events = [];
        leads = refl;
      };
      same = ap (λ us. core_of number counts us) (bare_workers olds news ps);
    }

-- ---- the claim of the highest number is the newest of its part
each_of : (P : Part → Type 0) (ps : List Part) → ((k : ℕ) (p : Part) → get_elem? ps k ≡ some p → P p) → AllByRecursion P ps
each_of P [] all = tt
each_of P (p ∷ ps) all = (all 0 p refl, each_of P ps (λ k q at. all (suc k) q at))

abbrev IsBelow : ℕ → List Claim → Type 0
IsBelow n [] = Unit {0}
IsBelow n (c ∷ cs) = c.task < n

newest_below : (olds news : List (List ℕ)) (opening : List ℕ) (number : ℕ) (counts : List ℕ) (ps : List Part) → IsConfig olds news opening number counts ps → (k : ℕ) (p : Part) → get_elem? ps k ≡ some p → IsBelow number p.claims
newest_below olds news opening number counts ps is k p at = by_claims p.claims refl
  where
    by_claims : (cs : List Claim) → p.claims ≡ cs → IsBelow number cs
    by_claims [] claims = tt
    by_claims (c ∷ cs) claims =
        let g : Claim → ℕ = task_by (is_at c.task) in
        let first : total_in g p ≡ g c + sum_by g cs = ap (λ ds. sum_by g ds) claims ∙ sum_by-cons g c cs in
        let there : 1 ≤ sum_below (min number (length olds)) (is_at c.task) = omega (arith, first, at_itself c.task, sum_at (total_in g) ps k p at, is.draws (is_at c.task)) in
        let lt : c.task < min number (length olds) = below_of _ c.task there in
        omega arith

before_zero : (olds news : List (List ℕ)) (t m : ℕ) (cs : List Claim) → AreFinished olds news m cs → m ≤ t → sum_by (task_by (is_at t)) cs ≡ 0
before_zero olds news t m [] are le = refl
before_zero olds news t m (c ∷ cs) are le = omega (arith, sum_by-cons (task_by (is_at t)) c cs, at_other t c.task (λ e. (let lt = are.0 in omega arith)), before_zero olds news t c.task cs are.2 (let lt = are.0 in omega arith))

other_zero : (olds news : List (List ℕ)) (t : ℕ) (cs : List Claim) → IsNewestUnderWay olds news cs → IsBelow (suc t) cs → newest_is t cs ≡ false → sum_by (task_by (is_at t)) cs ≡ 0
other_zero olds news t [] way low other = refl
other_zero olds news t (c ∷ cs) way low other = elim (cases_eq c.task t) [
  | inl same ↦ absurd (let e : is_at c.task t ≡ 0 = ap (λ b. cond b 1 0) other in let o : is_at c.task t ≡ 1 = ap (λ k. is_at k t) same ∙ at_itself t in omega arith)
  | inr ne ↦ omega (arith, sum_by-cons (task_by (is_at t)) c cs, at_other t c.task (λ e. ne (sym e)), before_zero olds news t c.task cs way.1 (omega arith))
]

all_zero : (olds news : List (List ℕ)) (t : ℕ) (ps : List Part) → AllByRecursion (IsLawful olds news) ps → AllByRecursion (λ p. IsBelow (suc t) p.claims) ps → AllByRecursion (λ p. newest_is t p.claims ≡ false) ps → sum_of (task_by (is_at t)) ps ≡ 0
all_zero olds news t [] lawful low other = refl
all_zero olds news t (p ∷ ps) lawful low other = omega (arith, sum_by-cons (total_in (task_by (is_at t))) p ps, other_zero olds news t p.claims lawful.0.claims low.0 other.0, all_zero olds news t ps lawful.1 low.1 other.1)

idle_ends : (ps : List Part) → AllByRecursion (λ p. busy p ≡ false) ps → sum_by ends_of ps ≡ 0
idle_ends [] each = refl
idle_ends (p ∷ ps) each = (let e : ends_of p ≡ 0 = ap (λ b. cond b 1 0) (or_false p.ended (busy_claims p.claims) each.0).0 in omega (arith, sum_by-cons ends_of p ps, e, idle_ends ps each.1))

-- where no part is busy, the claim of the highest number can be taken back
back_idle : (olds news : List (List ℕ)) (opening : List ℕ) (t : ℕ) (counts : List ℕ) (ps : List Part) → IsConfig olds news opening (suc t) counts ps → AllByRecursion (λ p. busy p ≡ false) ps → Back olds news opening (suc t) counts ps
back_idle olds news opening t counts ps is idle = by_newest (find_part (λ p. newest_is t p.claims) ps)
  where
    few : suc t ≤ length olds
    few = omega (arith, is.drawn, idle_ends ps idle, is.draws (λ x. 1), below_ones (min (suc t) (length olds)))

    by_claims : (k : ℕ) (p : Part) (cs : List Claim) → get_elem? ps k ≡ some p → p.claims ≡ cs → newest_is t cs ≡ true → busy p ≡ false → Back olds news opening (suc t) counts ps
    by_claims k p [] at claims new free = absurd (true≢false (sym new))
    by_claims k p (c ∷ cs) at claims new free =
        let parts = or_false p.ended (busy_claims p.claims) free in
        let steps = or_false (not (is_nil c.held)) (not (is_nil c.released)) (subst (λ ds. busy_claims ds ≡ false) claims parts.1) in
        let task : c.task ≡ t = elim (cases_eq c.task t) [
          | inl same ↦ same
          | inr ne ↦ absurd (let e : is_at c.task t ≡ 1 = ap (λ b. cond b 1 0) new in omega (arith, e, at_other c.task t ne))
        ] in
        back_claim olds news opening (suc t) counts ps k t cs is (at ∙ ap some (part_is p t [] [] c cs parts.0 claims task (nil_of c.released steps.1) (nil_of c.held steps.0))) (omega arith) few

    by_newest : ((k : ℕ) × (p : Part) × (get_elem? ps k ≡ some p) × (newest_is t p.claims ≡ true)) ⊎ AllByRecursion (λ p. newest_is t p.claims ≡ false) ps → Back olds news opening (suc t) counts ps
    by_newest (inl u) = by_claims u.0 u.1 u.1.claims u.2 refl u.3 (each_at (λ p. busy p ≡ false) ps u.0 u.1 idle u.2)
    by_newest (inr other) =
        let low = each_of (λ p. IsBelow (suc t) p.claims) ps (newest_below olds news opening (suc t) counts ps is) in
        let m : min (suc t) (length olds) ≡ suc t = omega (arith, few) in
        let once : sum_below (min (suc t) (length olds)) (is_at t) ≡ 1 = ap (λ k. sum_below k (is_at t)) m ∙ below_once (suc t) t (omega arith) in
        absurd (omega (arith, is.draws (is_at t), once, all_zero olds news t ps is.lawful low other))

-- ---- all steps back
size_claims : (ps : List Part) → sum_of one ps + sum_by ends_of ps ≤ sum_by size ps
size_claims [] = omega arith
size_claims (p ∷ ps) = omega (arith, sum_by-cons (total_in one) p ps, sum_by-cons ends_of p ps, sum_by-cons size p ps, claims_size p.claims, size_claims ps)
  where
    claims_size : (cs : List Claim) → sum_by one cs ≤ sum_by size_of cs
    claims_size [] = omega arith
    claims_size (c ∷ cs) = omega (arith, sum_by-cons one c cs, sum_by-cons size_of c cs, claims_size cs)

reach : (olds news : List (List ℕ)) (opening : List ℕ) → Counted olds opening → (m number : ℕ) (counts : List ℕ) (ps : List Part) → IsConfig olds news opening number counts ps → sum_by size ps ≤ m → IsShown olds news opening (core_of number counts (map (worker_of olds news) ps))
reach olds news opening counted m zero counts ps is le = at_start olds news opening zero counts ps is refl
reach olds news opening counted zero (suc t) counts ps is le = absurd (omega (arith, le, size_claims ps, is.drawn))
reach olds news opening counted (suc m) (suc t) counts ps is le = elim (find_part busy ps) [
  | inl u ↦ (let b = back_busy olds news opening (suc t) counts ps u.0 u.1 is counted u.2 u.3 in b.again (reach olds news opening counted m b.earlier b.before b.parts b.config (omega (arith, b.fewer, le))))
  | inr idle ↦ (let b = back_idle olds news opening t counts ps is idle in b.again (reach olds news opening counted m b.earlier b.before b.parts b.config (omega (arith, b.fewer, le))))
]

-- ---- the parts of all views
each_part : (P : Part → Type 0) (views : List View) → AllByRecursion (λ v. AllByRecursion P v.parts) views → AllByRecursion P (all_parts views)
each_part P [] each = tt
each_part P (v ∷ views) each = each_append P v.parts (all_parts views) each.0 (each_part P views each.1)

each_filter : (P : Part → Type 0) (test : Part → Bool) (ps : List Part) → AllByRecursion P ps → AllByRecursion P (filter test ps)
each_filter P test [] each = tt
each_filter P test (p ∷ ps) each = by_test (test p) (each_filter P test ps each.1)
  where
    by_test : (b : Bool) → AllByRecursion P (filter test ps) → AllByRecursion P (cond b (p ∷ filter test ps) (filter test ps))
    by_test true rest = (each.0, rest)
    by_test false rest = rest

all_sum : (h : Part → ℕ) (views : List View) → sum_by h (all_parts views) ≡ sum_by (λ v. sum_by h v.parts) views
all_sum h [] = refl
all_sum h (v ∷ views) = omega (arith, sum_by-append h v.parts (all_parts views), sum_by-cons (λ (v : View). sum_by h v.parts) v views, all_sum h views)

filter_sum : (h : Part → ℕ) (test : Part → Bool) → ((p : Part) → test p ≡ false → h p ≡ 0) → (ps : List Part) → sum_by h (filter test ps) ≡ sum_by h ps
filter_sum h test none [] = refl
filter_sum h test none (p ∷ ps) = by_test (test p) refl (filter_sum h test none ps)
  where
    by_test : (b : Bool) → test p ≡ b → sum_by h (filter test ps) ≡ sum_by h ps → sum_by h (cond b (p ∷ filter test ps) (filter test ps)) ≡ sum_by h (p ∷ ps)
    by_test true is rest = omega (arith, sum_by-cons h p (filter test ps), sum_by-cons h p ps, rest)
    by_test false is rest = omega (arith, none p is, sum_by-cons h p ps, rest)

undrawn_total : (g : Claim → ℕ) (p : Part) → has_drawn p ≡ false → total_in g p ≡ 0
undrawn_total g p none = ap (λ cs. sum_by g cs) (nil_of p.claims (or_false p.ended (not (is_nil p.claims)) none).1)

undrawn_end : (p : Part) → has_drawn p ≡ false → ends_of p ≡ 0
undrawn_end p none = ap (λ b. cond b 1 0) (or_false p.ended (not (is_nil p.claims)) none).0

within_part : (olds : List (List ℕ)) (n : ℕ) (cs : List Claim) → AllByRecursion (IsClaim olds n) cs → AllByRecursion (λ (c : Claim). AllByRecursion (λ w. w < n) c.held) cs
within_part olds n [] each = tt
within_part olds n (c ∷ cs) each = (each.0.within, within_part olds n cs each.1)

within_parts : (olds : List (List ℕ)) (n : ℕ) (ps : List Part) → AllByRecursion (IsPart olds n) ps → AllByRecursion (AreWithin n) ps
within_parts olds n [] each = tt
within_parts olds n (p ∷ ps) each = (within_part olds n p.claims each.0.claims, within_parts olds n ps each.1)

within_views : (olds : List (List ℕ)) (counts : List ℕ) (views : List View) → AllByRecursion (IsView olds counts) views → AllByRecursion (λ v. AllByRecursion (AreWithin (length counts)) v.parts) views
within_views olds counts [] each = tt
within_views olds counts (v ∷ views) each = (within_parts olds (length counts) v.parts each.0.parts, within_views olds counts views each.1)

pub words_show_core : WordsShowCore
words_show_core olds news counts s h lawful few =
    let ps : List Part = drawn_parts s.views in
    let words : List ℕ = drop 3 s.words in
    let sums = λ (g : Claim → ℕ). filter_sum (total_in g) has_drawn (undrawn_total g) (all_parts s.views) ∙ all_sum (total_in g) s.views in
    let ended = filter_sum ends_of has_drawn undrawn_end (all_parts s.views) ∙ all_sum ends_of s.views in
    let word = λ (w : ℕ). get_or-drop 3 s.words w 0 ∙ ap (λ k. slice_index s.words k) (three w) in
    let config : IsConfig olds news counts (slice_index s.words 0) words ps = record {
      few = few;
      lawful = each_filter (IsLawful olds news) has_drawn (all_parts s.views) (each_part (IsLawful olds news) s.views lawful);
      within = each_filter (AreWithin (length counts)) has_drawn (all_parts s.views) (each_part (AreWithin (length counts)) s.views (within_views olds counts s.views h.views));
      draws = λ f. sums (task_by f) ∙ h.draws f;
      drawn = omega (arith, h.drawn, sums one, ended);
      long = omega (arith, length-drop 3 s.words, h.words);
      each = λ w lt. omega (arith, word w, h.wires w lt, sums (released_on w), sums (held_on w));
    } in
    reach olds news counts h.opening.counted (sum_by size ps) (slice_index s.words 0) words ps config (omega arith)
  where
    three : (w : ℕ) → 3 + w ≡ w + 3
    three w = omega arith
