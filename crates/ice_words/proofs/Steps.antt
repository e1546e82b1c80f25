-- The rule is kept by each step.
use Rattle.std.proofs.Common.{◌≡◌, ◌≢◌, ℕ, suc, ◌+◌, ◌-◌, ◌*◌, ◌%◌, ◌^◌, ◌≤◌, ◌<◌, List, [], ◌∷◌, ◌++◌, length, set, true, false, true≢false, inl, inr, get_or-set_same, get_or-set_other, length-set, length-append, length-drop, append_assoc, append-nil, slice_index, slice_set, slice_get, Some, drop, min, refl, sym, ap, ◌∙◌, subst, arith}
use mathlib.Core.Option.{some}
use lib.ListN.{get_elem?}
use Rattle.std.proofs.lemmas.Bool.{cases_eq, cases_lt}
use Rattle.std.proofs.lemmas.List.{get_or-drop}
use Rattle.std.proofs.lemmas.Option.{slice_get_within, get_or_from_slice_get}
use Rattle.atomic_table.proofs.Lists.{set_else, set_again}
use Rattle.std.proofs.Math.Nat.{mod-eq_of_lt, add-mod_left}
use Rattle.std.proofs.lemmas.List.Sums.{sum_by-append, sum_by_push, sum_by-cons}
use Rattle.std.specs.List.{sum_by, AllByRecursion}
use Rattle.atomic_table.specs.Table.{State, Seen}
use Rattle.ice_words_hands.specs.Standing.{joined_standing}
use Rattle.ice_words_hands.proofs.Lists.{set_at, set_same}
use Rattle.ice_words_hands.proofs.Parts.{own_and_rest, own_at_most, own_length, own_sum, own_total}
use Rattle.ice_words_hands.proofs.Draws.{draws_next, draws_none, draws_past, drawn_below, next_number, one_end}
use Rattle.ice_words_hands.proofs.Seated.{alone_in, few_in, seated_first, seated_join, seated_split, seated_step}
use Rattle.ice_words.specs.declared.view.Claim.{Claim}
use Rattle.ice_words.specs.declared.view.Part.{Part}
use Rattle.ice_words.specs.declared.view.View.{View}
use Rattle.ice_core.specs.Routes.{times, overuse, sum_below, wires_of, IsOpening}
use Rattle.ice_words.specs.Views.{with_numbers, released_at, held_at, posted_up, posted_down, total_in, total, total_of, one, task_by, released_on, held_on, releases_of, holds_of, ends_of, ends, claim_of, no_part, newest_changed, with_released, with_held, claiming, ending, releasing, holding, own_changed, with_own, own, first_view, worker_view, with_worker, with_parts, spent_view, standing_of}
use Rattle.ice_words.specs.Rule.{IsReleased, IsClaim, AreBefore, AreInOrder, IsNewestReleased, IsAfter, IsPart, IsView, Holds, Draws, AreFew, Looks, IsClosing, IsPosted, MayRelease, MayHold}
use Rattle.ice_core.proofs.Sums.{sum_set, sum_index_set, sum_at, each_set, each_at, each_append, sum_at_most, below_ones, below_upto, is_at, at_itself, at_other, times_push, times_append, once_short}

-- ---- one hand's own part changes
same_standing : (f : Part → Part) (up down : ℕ) (v : View) → standing_of (with_numbers up down (with_own f v)) ≡ standing_of v
same_standing f up down v = ap (λ n. record { main = v.main; worker = v.worker; out = v.out; splits = v.splits; parts = n }) (own_length f v.parts)

own_all : (k : Part → ℕ) (f : Part → Part) (up down : ℕ) (views : List View) (id : ℕ) (v : View) → get_elem? views id ≡ some v → 1 ≤ length v.parts
    → sum_by (λ (u : View). sum_by k u.parts) (set views id (with_numbers up down (with_own f v))) + k (own v) ≡ sum_by (λ (u : View). sum_by k u.parts) views + k (f (own v))
own_all k f up down views id v at some_part = own_total (λ (u : View). u.parts) k no_part f views id v (with_numbers up down (with_own f v)) at some_part refl

own_part : (olds : List (List ℕ)) (wires : ℕ) (v : View) → 1 ≤ length v.parts → AllByRecursion (IsPart olds wires) v.parts → IsPart olds wires (own v) × AllByRecursion (IsPart olds wires) (drop 1 v.parts)
own_part olds wires v some_part each = subst (AllByRecursion (IsPart olds wires)) (own_and_rest no_part v.parts some_part) each

own_view : (olds : List (List ℕ)) (counts : List ℕ) (f : Part → Part) (up down : ℕ) (v : View) → 1 ≤ length v.parts → IsView olds counts v → IsPart olds (length counts) (f (own v)) → up ≤ total holds_of (with_own f v) → down ≤ total releases_of (with_own f v)
    → IsView olds counts (with_numbers up down (with_own f v))
own_view olds counts f up down v some_part view new ups downs = record {
  same = view.same;
  ups = ups;
  downs = downs;
  parts = subst (λ (ps : List Part). AllByRecursion (IsPart olds (length counts)) (own_changed f ps)) (sym (own_and_rest no_part v.parts some_part)) (new, (own_part olds (length counts) v some_part view.parts).1);
}

-- the words, the own part p with the numbers up and down before a step, and the part q with its numbers after it fit together
pub record Fits (olds : List (List ℕ)) (counts words old : List ℕ) (p q : Part) (up down up' down' : ℕ) : Type 0 where
  pub long : length words ≡ length old
  pub part : IsPart olds (length counts) p → IsPart olds (length counts) q
  pub draws : (f : ℕ → ℕ) → total_in (task_by f) q + sum_below (min (slice_index old 0) (length olds)) f ≡ total_in (task_by f) p + sum_below (min (slice_index words 0) (length olds)) f
  pub drawn : slice_index words 0 + (total_in one p + ends_of p) ≡ slice_index old 0 + (total_in one q + ends_of q)
  pub wires : (w : ℕ) → w < length counts → slice_index words (w + 3) + total_in (released_on w) q + total_in (held_on w) p ≡ slice_index old (w + 3) + total_in (released_on w) p + total_in (held_on w) q
  pub posts : slice_index words 1 + up' + overuse (drop 3 old) + slice_index old 2 + down ≡ slice_index old 1 + up + overuse (drop 3 words) + slice_index words 2 + down'
  -- in the view, and with what is posted
  pub ups : (up' + total_in holds_of p ≤ up + total_in holds_of q) × (slice_index words 1 + up' + total_in holds_of p ≤ slice_index old 1 + up + total_in holds_of q)
  pub downs : (down' + total_in releases_of p ≤ down + total_in releases_of q) × (slice_index words 2 + down' + total_in releases_of p ≤ slice_index old 2 + down + total_in releases_of q)

pub own_step : (olds : List (List ℕ)) (counts words : List ℕ) (s : State ℕ View) (id : ℕ) (f : Part → Part) (up down : ℕ) (v : View)
    → Holds olds counts s → get_elem? s.views id ≡ some v → 1 ≤ length v.parts → Fits olds counts words s.words (own v) (f (own v)) v.up v.down up down
    → Holds olds counts (record { words = words; homes = s.homes; views = slice_set s.views id (with_numbers up down (with_own f v)) })
own_step olds counts words s id f up down v h at some_part fits =
    let change = λ (k : Part → ℕ). own_all k f up down s.views id v at some_part in
    let here = λ (k : Part → ℕ). own_sum k no_part f v.parts some_part in
    let same = λ (k : View → ℕ). sum_set k s.views id v (with_numbers up down (with_own f v)) at in
    let old = each_at (IsView olds counts) s.views id v h.views at in
    let ups : up ≤ total holds_of (with_own f v) = omega (arith, old.ups, fits.ups.0, here (total_in holds_of)) in
    let downs : down ≤ total releases_of (with_own f v) = omega (arith, old.downs, fits.downs.0, here (total_in releases_of)) in
    record {
      opening = h.opening;
      words = fits.long ∙ h.words;
      seated = seated_step standing_of spent_view refl s.views id v (with_numbers up down (with_own f v)) h.seated at (same_standing f up down v);
      views = each_set (IsView olds counts) s.views id _ h.views (own_view olds counts f up down v some_part old (fits.part (own_part olds (length counts) v some_part old.parts).0) ups downs);
      draws = λ g. omega (arith, change (total_in (task_by g)), fits.draws g, h.draws g);
      drawn = omega (arith, change (total_in one), change ends_of, fits.drawn, h.drawn);
      wires = λ w lt. omega (arith, change (total_in (released_on w)), change (total_in (held_on w)), fits.wires w lt, h.wires w lt);
      posts = omega (arith, same (λ u. u.up), same (λ u. u.down), fits.posts, h.posts);
      ups = omega (arith, same (λ u. u.up), change (total_in holds_of), fits.ups.1, h.ups);
      downs = omega (arith, same (λ u. u.down), change (total_in releases_of), fits.downs.1, h.downs);
    }

-- ---- how much is counted at most
in_all : (g : Claim → ℕ) (views : List View) (id : ℕ) (v : View) → get_elem? views id ≡ some v → total g v ≤ total_of g views
in_all g views id v at = sum_at (total g) views id v at

-- a number of each claim that is at most c times another
pub total_at_most : (olds : List (List ℕ)) (wires : ℕ) (g k : Claim → ℕ) (c : ℕ) → ((a : Claim) → IsClaim olds wires a → g a ≤ c * k a) → (v : View) → AllByRecursion (IsPart olds wires) v.parts → total g v ≤ c * total k v
total_at_most olds wires g k c bound v each = sum_at_most (IsPart olds wires) (total_in g) (total_in k) c (λ p is. sum_at_most (IsClaim olds wires) g k c bound p.claims is.claims) v.parts each

pub all_at_most : (olds : List (List ℕ)) (counts : List ℕ) (g k : Claim → ℕ) (c : ℕ) → ((a : Claim) → IsClaim olds (length counts) a → g a ≤ c * k a) → (views : List View) → AllByRecursion (IsView olds counts) views → total_of g views ≤ c * total_of k views
all_at_most olds counts g k c bound views each = sum_at_most (IsView olds counts) (total g) (total k) c (λ v is. total_at_most olds (length counts) g k c bound v is.parts) views each

-- no more is claimed than there are tasks
pub few_claims : (olds : List (List ℕ)) (counts : List ℕ) (s : State ℕ View) → Holds olds counts s → total_of one s.views ≤ length olds
few_claims olds counts s h = omega (arith, h.draws (λ x. 1), below_ones (min (slice_index s.words 0) (length olds)))

-- word 0 is far from its end
pub few_draws : (olds : List (List ℕ)) (counts : List ℕ) (s : State ℕ View) → Holds olds counts s → slice_index s.words 0 ≤ 131072
few_draws olds counts s h = omega (arith, h.drawn, few_claims olds counts s h, h.opening.tasks, few_in standing_of spent_view refl (λ (u : View). u.parts) (λ u. refl) ends_of (λ p. one_end p.ended) s.views h.seated)

-- the main hand knows all that was done where no other is out
pub lone_total : (olds : List (List ℕ)) (counts : List ℕ) (s : State ℕ View) (id : ℕ) (v : View) (k : Part → ℕ) → Holds olds counts s → get_elem? s.views id ≡ some v → v.main ≡ 1 → v.out ≡ 0 → sum_by (λ (u : View). sum_by k u.parts) s.views ≡ sum_by k v.parts
lone_total olds counts s id v k h at main none = alone_in standing_of spent_view refl (λ (u : View). u.parts) (λ u. refl) k s.views id v h.seated at main none

-- each wire's releases are at most the tasks that have it as an old one
claim_releases : (olds : List (List ℕ)) (wires w : ℕ) (c : Claim) → IsClaim olds wires c → released_on w c ≤ 1 * task_by (λ t. times w (wires_of olds t)) c
claim_releases olds wires w c is = omega (arith, times_append w c.released is.left, ap (times w) is.released)

pub few_releases : (olds : List (List ℕ)) (counts : List ℕ) (s : State ℕ View) (views : List View) (w : ℕ) → IsOpening olds counts → AllByRecursion (IsView olds counts) views
    → total_of (task_by (λ t. times w (wires_of olds t))) views ≤ sum_below (length olds) (λ t. times w (wires_of olds t)) → w < length counts → total_of (released_on w) views ≤ slice_index counts w
few_releases olds counts s views w opening each tasks lt = omega (arith, all_at_most olds counts (released_on w) (task_by (λ t. times w (wires_of olds t))) 1 (claim_releases olds (length counts) w) views each, opening.counted w lt, tasks)

-- each wire is held at most once for each task
claim_holds : (olds : List (List ℕ)) (wires w : ℕ) (c : Claim) → IsClaim olds wires c → held_on w c ≤ 1 * one c
claim_holds olds wires w c is = omega (arith, is.once w)

pub few_held : (olds : List (List ℕ)) (counts : List ℕ) (s : State ℕ View) (w : ℕ) → Holds olds counts s → w < length counts → slice_index s.words (w + 3) ≤ 131072
few_held olds counts s w h lt = omega (arith, h.wires w lt, h.opening.few w lt, h.opening.tasks, few_claims olds counts s h, all_at_most olds counts (held_on w) one 1 (claim_holds olds (length counts) w) s.views h.views)

-- a claim has at most as many releases, and holds, as there are wires
long_releases : (olds : List (List ℕ)) (counts : List ℕ) → IsOpening olds counts → (c : Claim) → IsClaim olds (length counts) c → releases_of c ≤ 2 ^ 32 * one c
long_releases olds counts opening c is = omega (arith, opening.wires, length-append c.released is.left, ap length is.released, once_short (length counts) (wires_of olds c.task) (opening.within c.task) (opening.once c.task))

long_holds : (olds : List (List ℕ)) (counts : List ℕ) → IsOpening olds counts → (c : Claim) → IsClaim olds (length counts) c → holds_of c ≤ 2 ^ 32 * one c
long_holds olds counts opening c is = omega (arith, opening.wires, once_short (length counts) c.held is.within is.once)

-- the numbers of a hand are small
pub few_numbers : (olds : List (List ℕ)) (counts : List ℕ) (s : State ℕ View) (id : ℕ) (v : View) → Holds olds counts s → get_elem? s.views id ≡ some v
    → AreFew v
few_numbers olds counts s id v h at =
    let is = each_at (IsView olds counts) s.views id v h.views at in
    let claims : total one v ≤ 65536 = omega (arith, in_all one s.views id v at, few_claims olds counts s h, h.opening.tasks) in
    let releases : total releases_of v ≤ 2 ^ 48 = omega (arith, claims, total_at_most olds (length counts) releases_of one (2 ^ 32) (long_releases olds counts h.opening) v is.parts) in
    let holds : total holds_of v ≤ 2 ^ 48 = omega (arith, claims, total_at_most olds (length counts) holds_of one (2 ^ 32) (long_holds olds counts h.opening) v is.parts) in
    record {
      claims = claims;
      releases = releases;
      holds = holds;
      up = omega (arith, holds, is.ups);
      down = omega (arith, releases, is.downs);
    }

-- words 1 and 2 are far from their ends
pub few_posted : (olds : List (List ℕ)) (counts : List ℕ) (s : State ℕ View) → Holds olds counts s → (slice_index s.words 1 + sum_by (λ v. v.up) s.views ≤ 2 ^ 48) × (slice_index s.words 2 + sum_by (λ v. v.down) s.views ≤ 2 ^ 48)
few_posted olds counts s h =
    let claims : total_of one s.views ≤ 65536 = omega (arith, few_claims olds counts s h, h.opening.tasks) in (
      omega (arith, claims, h.ups, all_at_most olds counts holds_of one (2 ^ 32) (long_holds olds counts h.opening) s.views h.views),
      omega (arith, claims, h.downs, all_at_most olds counts releases_of one (2 ^ 32) (long_releases olds counts h.opening) s.views h.views),
    )

-- ---- a number is drawn
-- a number that was claimed is below word 0
is_after : (olds : List (List ℕ)) (counts : List ℕ) (s : State ℕ View) (id : ℕ) (v : View) (claims : List Claim) → Holds olds counts s → get_elem? s.views id ≡ some v → 1 ≤ length v.parts → (own v).claims ≡ claims → IsAfter (slice_index s.words 0) claims
is_after olds counts s id v [] h at some_part same = tt
is_after olds counts s id v (c ∷ cs) h at some_part same =
    let g : Claim → ℕ = task_by (is_at c.task) in
    let first : total_in g (own v) ≡ g c + sum_by g cs = ap (sum_by g) same ∙ sum_by-cons g c cs in
    let there : 1 ≤ sum_below (min (slice_index s.words 0) (length olds)) (is_at c.task) = omega (arith, first, at_itself c.task, own_at_most (total_in g) no_part v.parts some_part, in_all g s.views id v at, h.draws (is_at c.task)) in
    (drawn_below (slice_index s.words 0) (length olds) c.task there).0

before_new : (olds : List (List ℕ)) (n : ℕ) (claims : List Claim) → IsAfter n claims → IsNewestReleased olds claims → AreInOrder olds claims → AreBefore olds n claims
before_new olds n [] after whole order = tt
before_new olds n (c ∷ cs) after whole order = (after, whole, order)

-- the occupancy words, where one word changes
low_0 : (xs : List ℕ) (m : ℕ) → drop 3 (set xs 0 m) ≡ drop 3 xs
low_0 [] m = refl
low_0 (a ∷ xs) m = refl

low_1 : (xs : List ℕ) (m : ℕ) → drop 3 (set xs 1 m) ≡ drop 3 xs
low_1 [] m = refl
low_1 (a ∷ []) m = refl
low_1 (a ∷ b ∷ xs) m = refl

low_2 : (xs : List ℕ) (m : ℕ) → drop 3 (set xs 2 m) ≡ drop 3 xs
low_2 [] m = refl
low_2 (a ∷ []) m = refl
low_2 (a ∷ b ∷ []) m = refl
low_2 (a ∷ b ∷ c ∷ xs) m = refl

three : (w : ℕ) → 3 + w ≡ w + 3
three w = omega arith

wire_set : (xs : List ℕ) (w m : ℕ) → drop 3 (set xs (w + 3) m) ≡ set (drop 3 xs) w m
wire_set xs w m = let e : w + 3 ≡ suc (suc (suc w)) = omega arith in ap (λ k. drop 3 (set xs k m)) e ∙ late xs
  where
    late : (xs : List ℕ) → drop 3 (set xs (suc (suc (suc w))) m) ≡ set (drop 3 xs) w m
    late [] = refl
    late (a ∷ []) = refl
    late (a ∷ b ∷ []) = refl
    late (a ∷ b ∷ c ∷ xs) = refl

-- one count changes
over_set : (xs : List ℕ) (w m : ℕ) → w + 3 < length xs → overuse (drop 3 (set xs (w + 3) m)) + (slice_index xs (w + 3) - 1) ≡ overuse (drop 3 xs) + (m - 1)
over_set xs w m lt =
    let there : slice_index (drop 3 xs) w ≡ slice_index xs (w + 3) = get_or-drop 3 xs w 0 ∙ ap (λ k. slice_index xs k) (three w) in
    let short : w < length (drop 3 xs) = omega (arith, length-drop 3 xs) in
    omega (arith, ap overuse (wire_set xs w m), ap (λ n. n - 1) there, sum_index_set (λ c. c - 1) (drop 3 xs) w m short)

claim_fits : (olds : List (List ℕ)) (counts words : List ℕ) (p : Part) (up down : ℕ) → 0 < length words → slice_index words 0 < length olds → p.ended ≡ false → IsNewestReleased olds p.claims → IsAfter (slice_index words 0) p.claims
    → Fits olds counts (slice_set words 0 (slice_index words 0 + 1)) words p (claiming (slice_index words 0) p) up down up down
claim_fits olds counts words p up down long lt going whole after =
    let n : ℕ = slice_index words 0 in
    let first : slice_index (slice_set words 0 (n + 1)) 0 ≡ n + 1 = get_or-set_same words 0 (n + 1) 0 long in
    let other = λ (i : ℕ) (far : i ≢ 0). get_or-set_other words 0 i (n + 1) 0 far in
    record {
      long = length-set words 0 (n + 1);
      part = λ is. record {
        claims = (record { task = lt; left = wires_of olds n; released = refl; first = inr refl; once = λ w. omega arith; within = tt }, is.claims);
        order = before_new olds n p.claims after whole is.order;
        ended = λ over. absurd (true≢false (sym over ∙ going));
      };
      draws = λ f. rw first (omega (arith, draws_next n (length olds) f lt, sum_by-cons (task_by f) (claim_of n) p.claims));
      drawn = rw first (omega (arith, sum_by-cons one (claim_of n) p.claims));
      wires = λ w lt. rw (other (w + 3) (omega arith)) (omega (arith, sum_by-cons (released_on w) (claim_of n) p.claims, sum_by-cons (held_on w) (claim_of n) p.claims));
      posts = omega (arith, other 1 (omega arith), other 2 (omega arith), ap overuse (low_0 words (n + 1)));
      ups = (omega (arith, sum_by-cons holds_of (claim_of n) p.claims), omega (arith, other 1 (omega arith), sum_by-cons holds_of (claim_of n) p.claims));
      downs = (omega (arith, sum_by-cons releases_of (claim_of n) p.claims), omega (arith, other 2 (omega arith), sum_by-cons releases_of (claim_of n) p.claims));
    }

end_fits : (olds : List (List ℕ)) (counts words : List ℕ) (p : Part) (up down : ℕ) → 0 < length words → length olds ≤ slice_index words 0 → p.ended ≡ false → IsNewestReleased olds p.claims
    → Fits olds counts (slice_set words 0 (slice_index words 0 + 1)) words p (ending p) up down up down
end_fits olds counts words p up down long le going whole =
    let n : ℕ = slice_index words 0 in
    let first : slice_index (slice_set words 0 (n + 1)) 0 ≡ n + 1 = get_or-set_same words 0 (n + 1) 0 long in
    let other = λ (i : ℕ) (far : i ≢ 0). get_or-set_other words 0 i (n + 1) 0 far in
    record {
      long = length-set words 0 (n + 1);
      part = λ is. record { claims = is.claims; order = is.order; ended = λ over. whole };
      draws = λ f. rw first (omega (arith, draws_past n (length olds) f le));
      drawn = rw first (let none : ends_of p ≡ 0 = rw going refl in omega (arith, none));
      wires = λ w lt. rw (other (w + 3) (omega arith)) (omega arith);
      posts = omega (arith, other 1 (omega arith), other 2 (omega arith), ap overuse (low_0 words (n + 1)));
      ups = (omega arith, omega (arith, other 1 (omega arith)));
      downs = (omega arith, omega (arith, other 2 (omega arith)));
    }

-- the own part stays, and its hand's numbers go to the words 1 and 2
post_up_fits : (olds : List (List ℕ)) (counts words : List ℕ) (p : Part) (up down : ℕ) → 1 < length words → Fits olds counts (slice_set words 1 (slice_index words 1 + up)) words p p up down 0 down
post_up_fits olds counts words p up down long =
    let n : ℕ = slice_index words 1 in
    let first : slice_index (slice_set words 1 (n + up)) 1 ≡ n + up = get_or-set_same words 1 (n + up) 0 long in
    let other = λ (i : ℕ) (far : i ≢ 1). get_or-set_other words 1 i (n + up) 0 far in
    record {
      long = length-set words 1 (n + up);
      part = λ is. is;
      draws = λ f. rw (other 0 (omega arith)) refl;
      drawn = omega (arith, other 0 (omega arith));
      wires = λ w lt. omega (arith, other (w + 3) (omega arith));
      posts = omega (arith, first, other 2 (omega arith), ap overuse (low_1 words (n + up)));
      ups = (omega arith, omega (arith, first));
      downs = (omega arith, omega (arith, other 2 (omega arith)));
    }

post_down_fits : (olds : List (List ℕ)) (counts words : List ℕ) (p : Part) (up down : ℕ) → 2 < length words → Fits olds counts (slice_set words 2 (slice_index words 2 + down)) words p p up down up 0
post_down_fits olds counts words p up down long =
    let n : ℕ = slice_index words 2 in
    let first : slice_index (slice_set words 2 (n + down)) 2 ≡ n + down = get_or-set_same words 2 (n + down) 0 long in
    let other = λ (i : ℕ) (far : i ≢ 2). get_or-set_other words 2 i (n + down) 0 far in
    record {
      long = length-set words 2 (n + down);
      part = λ is. is;
      draws = λ f. rw (other 0 (omega arith)) refl;
      drawn = omega (arith, other 0 (omega arith));
      wires = λ w lt. omega (arith, other (w + 3) (omega arith));
      posts = omega (arith, first, other 1 (omega arith), ap overuse (low_2 words (n + down)));
      ups = (omega arith, omega (arith, other 1 (omega arith)));
      downs = (omega arith, omega (arith, first));
    }

-- ---- the newest claim changes
newest_total : (g : Claim → ℕ) (f : Claim → Claim) (claims : List Claim) (c : Claim) (cs : List Claim) → claims ≡ c ∷ cs → sum_by g (newest_changed f claims) + g c ≡ sum_by g claims + g (f c)
newest_total g f claims c cs is = rw is (rw (sum_by-cons g (f c) cs, sum_by-cons g c cs) (omega arith))

newest_part : (olds : List (List ℕ)) (wires : ℕ) (f : Claim → Claim) (p : Part) (c : Claim) (cs : List Claim) → p.claims ≡ c ∷ cs → p.ended ≡ false → (f c).task ≡ c.task → (IsClaim olds wires c → IsClaim olds wires (f c))
    → IsPart olds wires p → IsPart olds wires (record { claims = newest_changed f p.claims; ended = p.ended })
newest_part olds wires f p c cs is going same step part =
    let each : AllByRecursion (IsClaim olds wires) (c ∷ cs) = subst (AllByRecursion (IsClaim olds wires)) is part.claims in
    let order : AreBefore olds c.task cs = subst (AreInOrder olds) is part.order in
    record {
      claims = rw is (step each.0, each.1);
      order = rw is (subst (λ t. AreBefore olds t cs) (sym same) order);
      ended = λ over. absurd (true≢false (sym over ∙ going));
    }

pub cons_not_nil : (w : ℕ) (rest : List ℕ) → w ∷ rest ≡ [] → ⊥
cons_not_nil w rest e = (let l : suc (length rest) ≡ 0 = ap length e in omega arith)

pub next_left : (xs left ys : List ℕ) (w : ℕ) → xs ++ left ≡ ys → slice_get ys (length xs) ≡ Some w → (rest : List ℕ) × (left ≡ w ∷ rest)
next_left xs left ys w is next = first_of_left xs left w (subst (λ zs. slice_get zs (length xs) ≡ Some w) (sym is) next)
  where
    first_of_left : (xs left : List ℕ) (w : ℕ) → slice_get (xs ++ left) (length xs) ≡ Some w → (rest : List ℕ) × (left ≡ w ∷ rest)
    first_of_left [] [] w next = absurd (let lt = slice_get_within [] 0 w next in omega arith)
    first_of_left [] (x ∷ left) w next = (left, ap (λ y. y ∷ left) (get_or_from_slice_get (x ∷ left) 0 w x next))
    first_of_left (x ∷ xs) left w next = first_of_left xs left w next

release_claim : (olds : List (List ℕ)) (wires w : ℕ) (c : Claim) → slice_get (wires_of olds c.task) (length c.released) ≡ Some w → IsClaim olds wires c → IsClaim olds wires (with_released w c)
release_claim olds wires w c next is =
    let t = next_left c.released is.left (wires_of olds c.task) w is.released next in
    record {
      task = is.task;
      left = t.0;
      released = append_assoc c.released (w ∷ []) t.0 ∙ (ap (λ xs. c.released ++ xs) (sym t.1) ∙ is.released);
      first = elim is.first [
        | inl none ↦ absurd (cons_not_nil w t.0 (sym t.1 ∙ none))
        | inr none ↦ inr none
      ];
      once = is.once;
      within = is.within;
    }

hold_claim : (olds : List (List ℕ)) (wires w : ℕ) (c : Claim) → IsReleased olds c → times w c.held ≡ 0 → w < wires → IsClaim olds wires c → IsClaim olds wires (with_held w c)
hold_claim olds wires w c whole new lt is = record {
  task = is.task;
  left = [];
  released = append-nil c.released ∙ whole;
  first = inl refl;
  once = λ x. elim (cases_eq x w) [
    | inl same ↦ rw same (omega (arith, times_push w c.held w, at_itself w, new))
    | inr other ↦ omega (arith, times_push x c.held w, at_other w x (λ e. other (sym e)), is.once x)
  ];
  within = each_append (λ x. x < wires) c.held (w ∷ []) is.within (lt, tt);
}

-- a step on a wire's word that changes the newest claim
wire_fits : (olds : List (List ℕ)) (counts words : List ℕ) (w m up down up' down' : ℕ) (f : Claim → Claim) (p : Part) (c : Claim) (cs : List Claim) → p.claims ≡ c ∷ cs → p.ended ≡ false → (f c).task ≡ c.task → (IsClaim olds (length counts) c → IsClaim olds (length counts) (f c)) → w + 3 < length words
    → ((x : ℕ) → x ≢ w → (released_on x (f c) ≡ released_on x c) × (held_on x (f c) ≡ held_on x c))
    → m + released_on w (f c) + held_on w c ≡ slice_index words (w + 3) + released_on w c + held_on w (f c)
    → up' + down + (slice_index words (w + 3) - 1) ≡ up + down' + (m - 1) → up' + holds_of c ≤ up + holds_of (f c) → down' + releases_of c ≤ down + releases_of (f c)
    → Fits olds counts (slice_set words (w + 3) m) words p (record { claims = newest_changed f p.claims; ended = p.ended }) up down up' down'
wire_fits olds counts words w m up down up' down' f p c cs is going same step lt others change posts ups downs =
    let other = λ (i : ℕ) (far : i ≢ w + 3). get_or-set_other words (w + 3) i m 0 far in
    let here : slice_index (slice_set words (w + 3) m) (w + 3) ≡ m = get_or-set_same words (w + 3) m 0 lt in
    let newest = λ (g : Claim → ℕ). newest_total g f p.claims c cs is in
    record {
      long = length-set words (w + 3) m;
      part = newest_part olds (length counts) f p c cs is going same step;
      draws = λ g. rw (other 0 (omega arith)) (omega (arith, newest (task_by g), ap g same));
      drawn = rw (other 0 (omega arith)) (omega (arith, newest one));
      wires = λ x le. elim (cases_eq x w) [
        | inl e ↦ rw (e, here) (omega (arith, newest (released_on w), newest (held_on w), change))
        | inr ne ↦
            let far : x + 3 ≢ w + 3 = (λ e. ne (omega arith)) in
            rw (other (x + 3) far) (omega (arith, newest (released_on x), newest (held_on x), (others x ne).0, (others x ne).1))
      ];
      posts = omega (arith, other 1 (omega arith), other 2 (omega arith), over_set words w m lt, posts);
      ups = (omega (arith, newest holds_of, ups), omega (arith, other 1 (omega arith), newest holds_of, ups));
      downs = (omega (arith, newest releases_of, downs), omega (arith, other 2 (omega arith), newest releases_of, downs));
    }

-- ---- the steps on words
more_number : (n k : ℕ) → n + k ≤ 2 ^ 48 → (n + k) % 2 ^ 64 ≡ n + k
more_number n k le = let lt : n + k < 2 ^ 64 = omega arith in mod-eq_of_lt lt

last_number : (n : ℕ) → 1 ≤ n → n ≤ 131072 → (n + (2 ^ 64 - 1)) % 2 ^ 64 ≡ n - 1
last_number n more le =
    let e : n + (2 ^ 64 - 1) ≡ 2 ^ 64 + (n - 1) = omega arith in
    let lt : n - 1 < 2 ^ 64 = omega arith in
    ap (λ k. k % 2 ^ 64) e ∙ add-mod_left (2 ^ 64) (n - 1) ∙ mod-eq_of_lt lt

-- the state after a hand's step on a word
abbrev pub stepped_to : State ℕ View → ℕ → ℕ → ℕ → View → State ℕ View
stepped_to s i m id w = record { words = slice_set s.words i m; homes = s.homes; views = slice_set s.views id w }

pub claim_keeps : (olds : List (List ℕ)) (counts : List ℕ) (s : State ℕ View) (id : ℕ) (v : View) → Holds olds counts s → get_elem? s.views id ≡ some v → 1 ≤ length v.parts → v.olds ≡ olds → (own v).ended ≡ false → IsNewestReleased olds (own v).claims
    → (w : View) × Holds olds counts (stepped_to s 0 ((slice_index s.words 0 + 1) % 2 ^ 64) id w) × Draws v (slice_index s.words 0) w
claim_keeps olds counts s id v h at some_part same going whole =
    let n : ℕ = slice_index s.words 0 in
    let after = is_after olds counts s id v (own v).claims h at some_part refl in
    let long : 0 < length s.words = omega (arith, h.words) in
    let here = λ (k : ℕ) (f : Part → Part). set_at s.views id v (with_own f v) at in
    rw (next_number n (few_draws olds counts s h)) (elim (cases_lt n (length olds)) [
      | inl lt ↦
          let new = own_step olds counts (slice_set s.words 0 (n + 1)) s id (claiming n) v.up v.down v h at some_part (claim_fits olds counts s.words (own v) v.up v.down long lt going whole after) in
          (with_own (claiming n) v, new, record { number = λ le. (refl, after); none = λ le. absurd (omega (arith, ap length same)); few = (few_numbers olds counts _ id (with_own (claiming n) v) new (here n (claiming n))).claims })
      | inr ge ↦
          let new = own_step olds counts (slice_set s.words 0 (n + 1)) s id ending v.up v.down v h at some_part (end_fits olds counts s.words (own v) v.up v.down long ge going whole) in
          (with_own ending v, new, record { number = λ lt. absurd (omega (arith, ap length same)); none = λ le. refl; few = (few_numbers olds counts _ id (with_own ending v) new (here n ending)).claims })
    ])

first_release : (olds : List (List ℕ)) (claims : List Claim) (task wire : ℕ) → MayRelease olds claims task wire → (c : Claim) × (cs : List Claim) × (claims ≡ c ∷ cs) × (slice_get (wires_of olds c.task) (length c.released) ≡ Some wire)
first_release olds [] task wire may = absurd may
first_release olds (c ∷ cs) task wire may = (c, cs, refl, subst (λ t. slice_get (wires_of olds t) (length c.released) ≡ Some wire) (sym may.0) may.1)

first_hold : (olds : List (List ℕ)) (claims : List Claim) (task wire : ℕ) → MayHold olds claims task wire → (c : Claim) × (cs : List Claim) × (claims ≡ c ∷ cs) × IsReleased olds c × (times wire c.held ≡ 0)
first_hold olds [] task wire may = absurd may
first_hold olds (c ∷ cs) task wire may = (c, cs, refl, may.1, may.2)

-- there is something to release
some_left : (olds : List (List ℕ)) (counts : List ℕ) (s : State ℕ View) (id w : ℕ) (v : View) (c : Claim) (cs : List Claim) → Holds olds counts s → get_elem? s.views id ≡ some v → 1 ≤ length v.parts → (own v).claims ≡ c ∷ cs → (own v).ended ≡ false
    → slice_get (wires_of olds c.task) (length c.released) ≡ Some w → w < length counts → 1 ≤ slice_index s.words (w + 3)
some_left olds counts s id w v c cs h at some_part claims going next lt =
    let p : Part = own v in
    let views : List View = set s.views id (with_numbers 0 0 (with_own (releasing w) v)) in
    let old = each_at (IsView olds counts) s.views id v h.views at in
    let part = newest_part olds (length counts) (with_released w) p c cs claims going refl (release_claim olds (length counts) w c next) (own_part olds (length counts) v some_part old.parts).0 in
    let each = each_set (IsView olds counts) s.views id _ h.views (own_view olds counts (releasing w) 0 0 v some_part old part (omega arith) (omega arith)) in
    let weigh : ℕ → ℕ = λ t. times w (wires_of olds t) in
    let change = λ (g : Claim → ℕ). own_all (total_in g) (releasing w) 0 0 s.views id v at some_part in
    let newest = λ (g : Claim → ℕ). newest_total g (with_released w) p.claims c cs claims in
    let low = below_upto (min (slice_index s.words 0) (length olds)) (length olds) weigh (omega arith) in
    let tasks : total_of (task_by weigh) views ≤ sum_below (length olds) weigh = omega (arith, low, change (task_by weigh), newest (task_by weigh), h.draws weigh) in
    omega (arith, few_releases olds counts s views w h.opening each tasks lt, change (released_on w), newest (released_on w), times_push w c.released w, at_itself w, h.wires w lt)

told_few : (olds : List (List ℕ)) (counts : List ℕ) (s : State ℕ View) (id i m : ℕ) (v w : View) → get_elem? s.views id ≡ some v → Holds olds counts (stepped_to s i m id w) → AreFew w
told_few olds counts s id i m v w at h = few_numbers olds counts _ id w h (set_at s.views id v w at)

pub release_keeps : (olds : List (List ℕ)) (counts : List ℕ) (s : State ℕ View) (id task w : ℕ) (v : View) → Holds olds counts s → get_elem? s.views id ≡ some v → 1 ≤ length v.parts → (own v).ended ≡ false → MayRelease olds (own v).claims task w → w < length counts
    → Holds olds counts (stepped_to s (w + 3) ((slice_index s.words (w + 3) + (2 ^ 64 - 1)) % 2 ^ 64) id (released_at (slice_index s.words (w + 3)) w v)) × AreFew (released_at (slice_index s.words (w + 3)) w v)
release_keeps olds counts s id task w v h at some_part going may lt =
    let n : ℕ = slice_index s.words (w + 3) in
    let t = first_release olds (own v).claims task w may in
    let c = t.0 in
    let more = some_left olds counts s id w v c t.1 h at some_part t.2 going t.3 lt in
    let posts : v.up + v.down + (n - 1) ≡ v.up + (v.down + min 1 (n - 1)) + ((n - 1) - 1) = omega arith in
    let downs : v.down + min 1 (n - 1) + length c.released ≤ v.down + length (c.released ++ w ∷ []) = omega (arith, length-append c.released (w ∷ [])) in
    let fits = wire_fits olds counts s.words w (n - 1) v.up v.down v.up (v.down + min 1 (n - 1)) (with_released w) (own v) c t.1 t.2 going refl (release_claim olds (length counts) w c t.3) (omega (arith, h.words)) (λ x ne. (omega (arith, times_push x c.released w, at_other w x (λ e. ne (sym e))), refl)) (omega (arith, times_push w c.released w, at_itself w, more)) posts (omega arith) downs in
    let new = own_step olds counts (slice_set s.words (w + 3) (n - 1)) s id (releasing w) v.up (v.down + min 1 (n - 1)) v h at some_part fits in
    rw (last_number n more (few_held olds counts s w h lt)) (new, told_few olds counts s id (w + 3) (n - 1) v (released_at n w v) at new)

pub hold_keeps : (olds : List (List ℕ)) (counts : List ℕ) (s : State ℕ View) (id task w : ℕ) (v : View) → Holds olds counts s → get_elem? s.views id ≡ some v → 1 ≤ length v.parts → (own v).ended ≡ false → MayHold olds (own v).claims task w → w < length counts
    → Holds olds counts (stepped_to s (w + 3) ((slice_index s.words (w + 3) + 1) % 2 ^ 64) id (held_at (slice_index s.words (w + 3)) w v)) × AreFew (held_at (slice_index s.words (w + 3)) w v)
hold_keeps olds counts s id task w v h at some_part going may lt =
    let n : ℕ = slice_index s.words (w + 3) in
    let t = first_hold olds (own v).claims task w may in
    let c = t.0 in
    let posts : v.up + min 1 n + v.down + (n - 1) ≡ v.up + v.down + ((n + 1) - 1) = omega arith in
    let ups : v.up + min 1 n + length c.held ≤ v.up + length (c.held ++ w ∷ []) = omega (arith, length-append c.held (w ∷ [])) in
    let fits = wire_fits olds counts s.words w (n + 1) v.up v.down (v.up + min 1 n) v.down (with_held w) (own v) c t.1 t.2 going refl (hold_claim olds (length counts) w c t.3 t.4 lt) (omega (arith, h.words)) (λ x ne. (refl, omega (arith, times_push x c.held w, at_other w x (λ e. ne (sym e))))) (omega (arith, times_push w c.held w, at_itself w)) posts ups (omega arith) in
    let new = own_step olds counts (slice_set s.words (w + 3) (n + 1)) s id (holding w) (v.up + min 1 n) v.down v h at some_part fits in
    rw (next_number n (few_held olds counts s w h lt)) (new, told_few olds counts s id (w + 3) (n + 1) v (held_at n w v) at new)

-- ---- a hand's numbers are posted
own_same : (ps : List Part) → own_changed (λ (p : Part). p) ps ≡ ps
own_same [] = refl
own_same (p ∷ ps) = refl

numbers_same : (up down : ℕ) (v : View) → with_numbers up down (with_own (λ (p : Part). p) v) ≡ with_numbers up down v
numbers_same up down v = ap (λ (ps : List Part). record { olds = v.olds; counts = v.counts; main = v.main; worker = v.worker; out = v.out; splits = v.splits; up = up; down = down; parts = ps }) (own_same v.parts)

pub post_up_keeps : (olds : List (List ℕ)) (counts : List ℕ) (s : State ℕ View) (id : ℕ) (v : View) → Holds olds counts s → get_elem? s.views id ≡ some v → 1 ≤ length v.parts
    → Holds olds counts (stepped_to s 1 ((slice_index s.words 1 + v.up) % 2 ^ 64) id (posted_up v))
post_up_keeps olds counts s id v h at some_part =
    let n : ℕ = slice_index s.words 1 in
    let fits = post_up_fits olds counts s.words (own v) v.up v.down (omega (arith, h.words)) in
    let new = own_step olds counts (slice_set s.words 1 (n + v.up)) s id (λ (p : Part). p) 0 v.down v h at some_part fits in
    let low : n + v.up ≤ 2 ^ 48 = omega (arith, sum_at (λ (u : View). u.up) s.views id v at, (few_posted olds counts s h).0) in
    rw (more_number n v.up low) (subst (λ (w : View). Holds olds counts (stepped_to s 1 (n + v.up) id w)) (numbers_same 0 v.down v) new)

pub post_down_keeps : (olds : List (List ℕ)) (counts : List ℕ) (s : State ℕ View) (id : ℕ) (v : View) → Holds olds counts s → get_elem? s.views id ≡ some v → 1 ≤ length v.parts
    → Holds olds counts (stepped_to s 2 ((slice_index s.words 2 + v.down) % 2 ^ 64) id (posted_down v))
post_down_keeps olds counts s id v h at some_part =
    let n : ℕ = slice_index s.words 2 in
    let fits = post_down_fits olds counts s.words (own v) v.up v.down (omega (arith, h.words)) in
    let new = own_step olds counts (slice_set s.words 2 (n + v.down)) s id (λ (p : Part). p) v.up 0 v h at some_part fits in
    let low : n + v.down ≤ 2 ^ 48 = omega (arith, sum_at (λ (u : View). u.down) s.views id v at, (few_posted olds counts s h).1) in
    rw (more_number n v.down low) (subst (λ (w : View). Holds olds counts (stepped_to s 2 (n + v.down) id w)) (numbers_same v.up 0 v) new)

-- ---- a step that changes nothing
pub load_keeps : (olds : List (List ℕ)) (counts : List ℕ) (s : State ℕ View) (id i : ℕ) (v : View) → Holds olds counts s → get_elem? s.views id ≡ some v → Holds olds counts (stepped_to s i (slice_index s.words i) id v)
load_keeps olds counts s id i v h at = rw (set_same s.words i, set_again s.views id v at) h

spent_is : (olds : List (List ℕ)) (counts : List ℕ) → IsView olds counts spent_view
spent_is olds counts = record { same = λ more. absurd (omega arith); ups = omega arith; downs = omega arith; parts = tt }

-- the views of the others
abbrev others : List View → ℕ → List View
others views id = set views id spent_view

spare_others : (olds : List (List ℕ)) (counts : List ℕ) (s : State ℕ View) (id : ℕ) → Holds olds counts s → AllByRecursion (IsView olds counts) (others s.views id)
spare_others olds counts s id h = each_set (IsView olds counts) s.views id spent_view h.views (spent_is olds counts)

pub look_keeps : (olds : List (List ℕ)) (counts : List ℕ) (s : State ℕ View) (id w : ℕ) (v : View) → Holds olds counts s → get_elem? s.views id ≡ some v → v.olds ≡ olds → v.counts ≡ counts → w < length counts → Looks v w (slice_index s.words (w + 3))
look_keeps olds counts s id w v h at same same_counts lt =
    let weigh : ℕ → ℕ = λ t. times w (wires_of olds t) in
    let each = spare_others olds counts s id h in
    let part = λ (g : Claim → ℕ). sum_set (total g) s.views id v spent_view at in
    let low = below_upto (min (slice_index s.words 0) (length olds)) (length olds) weigh (omega arith) in
    let releases = all_at_most olds counts (released_on w) (task_by weigh) 1 (claim_releases olds (length counts) w) (others s.views id) each in
    let holds = all_at_most olds counts (held_on w) one 1 (claim_holds olds (length counts) w) (others s.views id) each in
    rw (same, same_counts) (record {
      least = omega (arith, low, releases, part (released_on w), part (held_on w), part (task_by weigh), h.draws weigh, h.wires w lt);
      most = omega (arith, holds, part (released_on w), part (held_on w), part one, few_claims olds counts s h, h.wires w lt);
      lone = λ main none. omega (arith, h.wires w lt, lone_total olds counts s id v (total_in (released_on w)) h at main none, lone_total olds counts s id v (total_in (held_on w)) h at main none);
    })

-- ---- hands that are cut, joined and closed
fresh_part : (olds : List (List ℕ)) (wires : ℕ) → IsPart olds wires no_part
fresh_part olds wires = record { claims = tt; order = tt; ended = λ over. tt }

-- the main view is cut in two
pub split_keeps : (olds : List (List ℕ)) (counts : List ℕ) (s : State ℕ View) (id : ℕ) (v : View) → Holds olds counts s → get_elem? s.views id ≡ some v → v.main ≡ 1 → v.splits < 65535
    → Holds olds counts (record { words = s.words; homes = s.homes; views = slice_set s.views id (with_worker v) ++ worker_view v ∷ [] })
split_keeps olds counts s id v h at main few =
    let left : List View = set s.views id (with_worker v) in
    let is = each_at (IsView olds counts) s.views id v h.views at in
    let same = is.same (omega (arith, main)) in
    let change = λ (k : View → ℕ). sum_set k s.views id v (with_worker v) at in
    let pushed = λ (k : View → ℕ). sum_by_push k left (worker_view v) in
    record {
      opening = h.opening;
      words = h.words;
      seated = seated_split standing_of spent_view refl s.views id v (with_worker v) (worker_view v) h.seated at main few refl refl;
      views = each_append (IsView olds counts) left (worker_view v ∷ []) (each_set (IsView olds counts) s.views id (with_worker v) h.views (record { same = is.same; ups = is.ups; downs = is.downs; parts = is.parts }))
          (record { same = λ some_of. same; ups = omega arith; downs = omega arith; parts = (fresh_part olds (length counts), tt) }, tt);
      draws = λ f. omega (arith, change (total (task_by f)), pushed (total (task_by f)), h.draws f);
      drawn = omega (arith, change (total one), pushed (total one), change ends, pushed ends, h.drawn);
      wires = λ w lt. omega (arith, change (total (released_on w)), pushed (total (released_on w)), change (total (held_on w)), pushed (total (held_on w)), h.wires w lt);
      posts = omega (arith, change (λ u. u.up), pushed (λ u. u.up), change (λ u. u.down), pushed (λ u. u.down), h.posts);
      ups = omega (arith, change (λ u. u.up), pushed (λ u. u.up), change (total holds_of), pushed (total holds_of), h.ups);
      downs = omega (arith, change (λ u. u.down), pushed (λ u. u.down), change (total releases_of), pushed (total releases_of), h.downs);
    }

joined_is : (v u : View) → standing_of (with_parts v u) ≡ joined_standing (standing_of v) (standing_of u)
joined_is v u = ap (λ n. record { main = v.main; worker = v.worker; out = v.out - 1; splits = v.splits; parts = n }) (length-append v.parts u.parts)

-- the main view takes in another
pub join_keeps : (olds : List (List ℕ)) (counts : List ℕ) (s : State ℕ View) (id other : ℕ) (v u : View) → Holds olds counts s → get_elem? s.views id ≡ some v → ¬ (other ≡ id) → get_elem? (slice_set s.views id (with_parts v u)) other ≡ some u → v.main ≡ 1 → u.worker ≡ 1 → u.up ≡ 0 → u.down ≡ 0
    → Holds olds counts (record { words = s.words; homes = s.homes; views = slice_set (slice_set s.views id (with_parts v u)) other spent_view })
join_keeps olds counts s id other v u h at apart there main worker no_up no_down =
    let both : List View = set s.views id (with_parts v u) in
    let at_other : get_elem? s.views other ≡ some u = sym (set_else s.views id other (with_parts v u) apart) ∙ there in
    let is = each_at (IsView olds counts) s.views id v h.views at in
    let uis = each_at (IsView olds counts) s.views other u h.views at_other in
    let change = λ (k : View → ℕ). sum_set k s.views id v (with_parts v u) at in
    let spent = λ (k : View → ℕ). sum_set k both other u spent_view there in
    let joined = λ (k : Part → ℕ). sum_by-append k v.parts u.parts in
    record {
      opening = h.opening;
      words = h.words;
      seated = seated_join standing_of spent_view refl s.views id other v u (with_parts v u) h.seated at apart there main worker (joined_is v u);
      views = each_set (IsView olds counts) both other spent_view (each_set (IsView olds counts) s.views id (with_parts v u) h.views (record {
        same = is.same;
        ups = omega (arith, is.ups, joined (total_in holds_of));
        downs = omega (arith, is.downs, joined (total_in releases_of));
        parts = each_append (IsPart olds (length counts)) v.parts u.parts is.parts uis.parts;
      })) (spent_is olds counts);
      draws = λ f. omega (arith, change (total (task_by f)), spent (total (task_by f)), joined (total_in (task_by f)), h.draws f);
      drawn = omega (arith, change (total one), spent (total one), joined (total_in one), change ends, spent ends, joined ends_of, h.drawn);
      wires = λ w lt. omega (arith, change (total (released_on w)), spent (total (released_on w)), joined (total_in (released_on w)), change (total (held_on w)), spent (total (held_on w)), joined (total_in (held_on w)), h.wires w lt);
      posts = omega (arith, change (λ w. w.up), spent (λ w. w.up), change (λ w. w.down), spent (λ w. w.down), no_up, no_down, h.posts);
      ups = omega (arith, change (λ w. w.up), spent (λ w. w.up), no_up, change (total holds_of), spent (total holds_of), joined (total_in holds_of), h.ups);
      downs = omega (arith, change (λ w. w.down), spent (λ w. w.down), no_down, change (total releases_of), spent (total releases_of), joined (total_in releases_of), h.downs);
    }

pub closes : (olds : List (List ℕ)) (counts : List ℕ) (s : State ℕ View) (id : ℕ) (v : View) → Holds olds counts s → get_elem? s.views id ≡ some v → v.main ≡ 1 → v.out ≡ 0 → IsClosing v (drop 3 s.words)
closes olds counts s id v h at main none =
    let is = each_at (IsView olds counts) s.views id v h.views at in
    let same = is.same (omega (arith, main)) in
    let all = λ (k : Part → ℕ). lone_total olds counts s id v k h at main none in
    let first : slice_index s.words 0 ≡ total one v + ends v = omega (arith, h.drawn, all (total_in one), all ends_of) in
    let word = λ (w : ℕ). get_or-drop 3 s.words w 0 ∙ ap (λ k. slice_index s.words k) (three w) in
    record {
      long = rw same.1 (omega (arith, length-drop 3 s.words, h.words));
      counts = rw same.1 (λ w lt. omega (arith, word w, h.wires w lt, all (total_in (released_on w)), all (total_in (held_on w))));
      draws = rw (same.0, ← first) (λ f. omega (arith, h.draws f, all (total_in (task_by f))));
    }

-- the others' numbers are none, and those of the main view are all posted
pub posts_all : (olds : List (List ℕ)) (counts : List ℕ) (s : State ℕ View) (id : ℕ) (v : View) → Holds olds counts s → get_elem? s.views id ≡ some v → v.main ≡ 1 → v.out ≡ 0 → v.up ≡ 0 → v.down ≡ 0 → IsPosted v (drop 3 s.words) (slice_index s.words 1) (slice_index s.words 2)
posts_all olds counts s id v h at main none no_up no_down =
    let rest : List View = others s.views id in
    let each = spare_others olds counts s id h in
    let all = λ (k : Part → ℕ). lone_total olds counts s id v k h at main none in
    let here = λ (k : View → ℕ). sum_set k s.views id v spent_view at in
    let ups : sum_by (λ (u : View). u.up) rest ≤ 1 * sum_by (total holds_of) rest = sum_at_most (IsView olds counts) (λ u. u.up) (total holds_of) 1 (λ u is. (let e = is.ups in omega arith)) rest each in
    let downs : sum_by (λ (u : View). u.down) rest ≤ 1 * sum_by (total releases_of) rest = sum_at_most (IsView olds counts) (λ u. u.down) (total releases_of) 1 (λ u is. (let e = is.downs in omega arith)) rest each in
    let no_ups : sum_by (λ (u : View). u.up) s.views ≡ 0 = omega (arith, ups, here (λ u. u.up), here (total holds_of), all (total_in holds_of), no_up) in
    let no_downs : sum_by (λ (u : View). u.down) s.views ≡ 0 = omega (arith, downs, here (λ u. u.down), here (total releases_of), all (total_in releases_of), no_down) in
    let same = (each_at (IsView olds counts) s.views id v h.views at).same (omega (arith, main)) in
    record {
      change = rw same.1 (omega (arith, h.posts, no_ups, no_downs));
      ups = omega (arith, h.ups, no_ups, all (total_in holds_of));
      downs = omega (arith, h.downs, no_downs, all (total_in releases_of));
    }

-- what is read at the close
pub closed_view : (olds : List (List ℕ)) (counts : List ℕ) (id : ℕ) (v : View) (words : List ℕ) → (s : State ℕ View) × Seen (Holds olds counts) id v s × (s.words ≡ words) → v.main ≡ 1 → v.out ≡ 0 → v.up ≡ 0 → v.down ≡ 0
    → IsClosing v (drop 3 words) × AreFew v × ((w : ℕ) → w < length counts → slice_index words (w + 3) ≤ 131072) × IsPosted v (drop 3 words) (slice_index words 1) (slice_index words 2)
closed_view olds counts id v words t main none no_up no_down =
    let h = t.1.0 in
    rw (← t.2) (closes olds counts t.0 id v h t.1.1 main none, few_numbers olds counts t.0 id v h t.1.1, λ w lt. few_held olds counts t.0 w h lt, posts_all olds counts t.0 id v h t.1.1 main none no_up no_down)

-- ---- the start
push_index : (counts : List ℕ) (w : ℕ) → slice_index (0 ∷ 0 ∷ 0 ∷ counts) (w + 3) ≡ slice_index counts w
push_index counts w = let e : w + 3 ≡ suc (suc (suc w)) = omega arith in ap (λ k. slice_index (0 ∷ 0 ∷ 0 ∷ counts) k) e

pub start_holds : (olds : List (List ℕ)) (counts words : List ℕ) → words ≡ 0 ∷ 0 ∷ 0 ∷ counts → IsOpening olds counts → Holds olds counts (record { words = words; homes = []; views = first_view olds counts ∷ [] })
start_holds olds counts words same opening = rw same (record {
  opening = opening;
  words = omega arith;
  seated = seated_first standing_of spent_view refl (first_view olds counts) refl;
  views = (record { same = λ some_of. (refl, refl); ups = omega arith; downs = omega arith; parts = (fresh_part olds (length counts), tt) }, tt);
  draws = λ f. (let none = draws_none (length olds) f in omega (arith, none));
  drawn = refl;
  wires = λ w lt. omega (arith, push_index counts w);
  posts = omega arith;
  ups = omega arith;
  downs = omega arith;
})
