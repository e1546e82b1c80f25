-- The rule of the histories is kept by each step.
use Rattle.std.proofs.Common.{◌≡◌, ◌≢◌, ℕ, ◌+◌, ◌-◌, ◌*◌, ◌/◌, ◌%◌, ◌^◌, ◌≤◌, ◌<◌, List, [], ◌∷◌, ◌++◌, length, set, cond, eqb, false, inl, inr, get_or-set_same, get_or-set_other, length-set, length-append, length-drop, slice_index, slice_set, drop, min, refl, sym, ap, ◌∙◌, subst, arith}
use mathlib.Core.Option.{some}
use lib.ListN.{get_elem?}
use Rattle.std.proofs.lemmas.Bool.{cases_eq, cases_lt}
use Rattle.std.proofs.lemmas.Bool.Decides.{nat_tests}
use Rattle.std.proofs.lemmas.List.{get_or-drop}
use Rattle.atomic_table.proofs.Lists.{set_else, set_again}
use Rattle.std.proofs.Math.Nat.{mod-eq_of_lt}
use Rattle.std.proofs.lemmas.List.Sums.{sum_by-append, sum_by_push, sum_by-cons}
use Rattle.std.specs.List.{sum_by, AllByRecursion}
use Rattle.atomic_table.specs.Table.{State, Seen}
use Rattle.ice_core.specs.Routes.{sum_below}
use Rattle.ice_core.proofs.Sums.{sum_set, sum_at, each_set, each_at, each_append, sum_at_most, below_ones, is_at, at_itself, at_other}
use Rattle.ice_words_hands.specs.Standing.{joined_standing}
use Rattle.ice_words_hands.proofs.Lists.{behind_first, set_same}
use Rattle.ice_words_hands.proofs.Parts.{own_and_rest, own_at_most, own_length, own_total}
use Rattle.ice_words_hands.proofs.Draws.{draws_next, draws_none, draws_past, drawn_below, drawn_once, one_end, clash}
use Rattle.ice_words_hands.proofs.Seated.{alone_in, few_in, seated_first, seated_join, seated_split, seated_step}
use Rattle.ice_words_histories.specs.declared.view.Bump.{Bump}
use Rattle.ice_words_histories.specs.declared.view.HistoryPart.{HistoryPart}
use Rattle.ice_words_histories.specs.declared.view.HistoryView.{HistoryView}
use Rattle.ice_words_histories.specs.Blocks.{blocks_of, block_of, total, total_of, blocks_by, claims_on, claims, bumps_on, raises_on, ends_of, no_part, claiming, ending, bump_of, bumping, own_changed, with_own, own, first_view, worker_view, with_worker, with_parts, spent_view, standing_of}
use Rattle.ice_words_histories.specs.Rule.{AreHistories, IsPart, IsView, Holds, IsAfter, Draws, Looks, IsClosing}

-- ---- one hand's own part changes
same_standing : (f : HistoryPart → HistoryPart) (v : HistoryView) → standing_of (with_own f v) ≡ standing_of v
same_standing f v = ap (λ n. record { main = v.main; worker = v.worker; out = v.out; splits = v.splits; parts = n }) (own_length f v.parts)

own_all : (k : HistoryPart → ℕ) (f : HistoryPart → HistoryPart) (views : List HistoryView) (id : ℕ) (v : HistoryView) → get_elem? views id ≡ some v → 1 ≤ length v.parts
    → total_of k (set views id (with_own f v)) + k (own v) ≡ total_of k views + k (f (own v))
own_all k f views id v at some_part = own_total (λ (u : HistoryView). u.parts) k no_part f views id v (with_own f v) at some_part refl

own_view : (histories : List ℕ) (f : HistoryPart → HistoryPart) (v : HistoryView) → 1 ≤ length v.parts → IsView histories v → (IsPart (own v) → IsPart (f (own v))) → IsView histories (with_own f v)
own_view histories f v some_part view step =
    let is = own_and_rest no_part v.parts some_part in
    let parts : AllByRecursion IsPart (own v ∷ drop 1 v.parts) = subst (AllByRecursion IsPart) is view.parts in
    record {
      same = view.same;
      parts = subst (λ (ps : List HistoryPart). AllByRecursion IsPart (own_changed f ps)) (sym is) (step parts.0, parts.1);
    }

-- the words, the old part p and the new part q of one step fit together
record Fits (histories words old : List ℕ) (p q : HistoryPart) : Type 0 where
  long : length words ≡ length old
  part : IsPart p → IsPart q
  draws : (f : ℕ → ℕ) → blocks_by f q + sum_below (min (slice_index old 0) (blocks_of (length histories))) f ≡ blocks_by f p + sum_below (min (slice_index words 0) (blocks_of (length histories))) f
  drawn : slice_index words 0 + (claims p + ends_of p) ≡ slice_index old 0 + (claims q + ends_of q)
  raised : (w : ℕ) → w < length histories → slice_index words (w + 1) + raises_on w p ≡ slice_index old (w + 1) + raises_on w q

own_step : (histories words : List ℕ) (s : State ℕ HistoryView) (id : ℕ) (f : HistoryPart → HistoryPart) (v : HistoryView)
    → Holds histories s → get_elem? s.views id ≡ some v → 1 ≤ length v.parts → Fits histories words s.words (own v) (f (own v))
    → Holds histories (record { words = words; homes = s.homes; views = slice_set s.views id (with_own f v) })
own_step histories words s id f v h at some_part fits =
    let change = λ (k : HistoryPart → ℕ). own_all k f s.views id v at some_part in
    record {
      opening = h.opening;
      words = fits.long ∙ h.words;
      seated = seated_step standing_of spent_view refl s.views id v (with_own f v) h.seated at (same_standing f v);
      views = each_set (IsView histories) s.views id _ h.views (own_view histories f v some_part (each_at (IsView histories) s.views id v h.views at) fits.part);
      draws = λ g. omega (arith, change (blocks_by g), fits.draws g, h.draws g);
      drawn = omega (arith, change claims, change ends_of, fits.drawn, h.drawn);
      raised = λ w lt. omega (arith, change (raises_on w), fits.raised w lt, h.raised w lt);
    }

-- ---- how much is counted at most
few_blocks : (histories : List ℕ) (s : State ℕ HistoryView) → Holds histories s → total_of claims s.views ≤ 2 ^ 32
few_blocks histories s h =
    let n : ℕ = length histories in
    let low : blocks_of n ≤ 2 ^ 32 = few n h.opening.wires in
    omega (arith, low, h.draws (λ x. 1), below_ones (min (slice_index s.words 0) (blocks_of n)))
  where
    few : (n : ℕ) → n < 2 ^ 32 → (n + 1023) / 1024 ≤ 2 ^ 32
    few n lt = omega arith

few_draws : (histories : List ℕ) (s : State ℕ HistoryView) → Holds histories s → slice_index s.words 0 ≤ 2 ^ 33
few_draws histories s h = omega (arith, h.drawn, few_blocks histories s h, few_in standing_of spent_view refl (λ (u : HistoryView). u.parts) (λ u. refl) ends_of (λ p. one_end p.ended) s.views h.seated)

-- the main hand knows all that was done where no other is out
lone_total : (histories : List ℕ) (s : State ℕ HistoryView) (id : ℕ) (v : HistoryView) (k : HistoryPart → ℕ) → Holds histories s → get_elem? s.views id ≡ some v → v.main ≡ 1 → v.out ≡ 0 → total_of k s.views ≡ total k v
lone_total histories s id v k h at main none = alone_in standing_of spent_view refl (λ (u : HistoryView). u.parts) (λ u. refl) k s.views id v h.seated at main none

-- what is bumped, and by how much, is bounded by the claims of the wire's block
part_bumps : (w : ℕ) (p : HistoryPart) → IsPart p → raises_on w p ≤ 2 ^ 32 * claims_on (block_of w) p
part_bumps w p is = omega (arith, is.once w, is.low w)

view_bumps : (w : ℕ) (v : HistoryView) → AllByRecursion IsPart v.parts → total (raises_on w) v ≤ 2 ^ 32 * total (claims_on (block_of w)) v
view_bumps w v each = sum_at_most IsPart (raises_on w) (claims_on (block_of w)) (2 ^ 32) (part_bumps w) v.parts each

all_bumps : (histories : List ℕ) (w : ℕ) (views : List HistoryView) → AllByRecursion (IsView histories) views → total_of (raises_on w) views ≤ 2 ^ 32 * total_of (claims_on (block_of w)) views
all_bumps histories w views each = sum_at_most (IsView histories) (total (raises_on w)) (total (claims_on (block_of w))) (2 ^ 32) (λ v is. view_bumps w v is.parts) views each

-- a block is claimed at most once
claimed_once : (histories : List ℕ) (s : State ℕ HistoryView) (b : ℕ) → Holds histories s → total_of (claims_on b) s.views ≤ 1
claimed_once histories s b h = omega (arith, h.draws (is_at b), drawn_once (min (slice_index s.words 0) (blocks_of (length histories))) b)

-- no history is past 2^33
pub low_histories : (histories : List ℕ) (s : State ℕ HistoryView) (w : ℕ) → Holds histories s → w < length histories → slice_index s.words (w + 1) ≤ 2 ^ 33
low_histories histories s w h lt = omega (arith, h.raised w lt, h.opening.low w lt, all_bumps histories w s.views h.views, claimed_once histories s (block_of w) h)

-- ---- a number is drawn
is_after : (histories : List ℕ) (s : State ℕ HistoryView) (id : ℕ) (v : HistoryView) (blocks : List ℕ) → Holds histories s → get_elem? s.views id ≡ some v → 1 ≤ length v.parts → (own v).blocks ≡ blocks → IsAfter (slice_index s.words 0) blocks
is_after histories s id v [] h at some_part is = tt
is_after histories s id v (b ∷ blocks) h at some_part is =
    let first : claims_on b (own v) ≡ is_at b b + sum_by (is_at b) blocks = ap (sum_by (is_at b)) is ∙ sum_by-cons (is_at b) b blocks in
    let there : 1 ≤ sum_below (min (slice_index s.words 0) (blocks_of (length histories))) (is_at b) = omega (arith, first, at_itself b, own_at_most (claims_on b) no_part v.parts some_part, sum_at (total (claims_on b)) s.views id v at, h.draws (is_at b)) in
    (drawn_below (slice_index s.words 0) (blocks_of (length histories)) b there).0

claim_fits : (histories words : List ℕ) (p : HistoryPart) → 0 < length words → slice_index words 0 < blocks_of (length histories) → Fits histories (slice_set words 0 (slice_index words 0 + 1)) words p (claiming (slice_index words 0) p)
claim_fits histories words p long lt =
    let n : ℕ = slice_index words 0 in
    let m : ℕ = blocks_of (length histories) in
    let first : slice_index (slice_set words 0 (n + 1)) 0 ≡ n + 1 = get_or-set_same words 0 (n + 1) 0 long in
    let other = λ (i : ℕ) (far : i ≢ 0). get_or-set_other words 0 i (n + 1) 0 far in
    record {
      long = length-set words 0 (n + 1);
      part = λ is. record { once = λ w. omega (arith, is.once w, sum_by-cons (is_at (block_of w)) n p.blocks); low = is.low };
      draws = λ f. rw first (omega (arith, draws_next n m f lt, sum_by-cons f n p.blocks));
      drawn = rw first (omega (arith, sum_by-cons (λ x. 1) n p.blocks));
      raised = λ w lt. omega (arith, other (w + 1) (omega arith));
    }

end_fits : (histories words : List ℕ) (p : HistoryPart) → 0 < length words → blocks_of (length histories) ≤ slice_index words 0 → p.ended ≡ false → Fits histories (slice_set words 0 (slice_index words 0 + 1)) words p (ending p)
end_fits histories words p long le going =
    let n : ℕ = slice_index words 0 in
    let m : ℕ = blocks_of (length histories) in
    let first : slice_index (slice_set words 0 (n + 1)) 0 ≡ n + 1 = get_or-set_same words 0 (n + 1) 0 long in
    let other = λ (i : ℕ) (far : i ≢ 0). get_or-set_other words 0 i (n + 1) 0 far in
    record {
      long = length-set words 0 (n + 1);
      part = λ is. record { once = is.once; low = is.low };
      draws = λ f. rw first (omega (arith, draws_past n m f le));
      drawn = rw first (let none : ends_of p ≡ 0 = rw going refl in omega (arith, none));
      raised = λ w lt. omega (arith, other (w + 1) (omega arith));
    }

bump_fits : (histories words : List ℕ) (w n : ℕ) (p : HistoryPart) → w + 1 < length words → n < 2 ^ 32 → 1 ≤ claims_on (block_of w) p → bumps_on w p ≡ 0 → Fits histories (slice_set words (w + 1) (slice_index words (w + 1) + n)) words p (bumping w n p)
bump_fits histories words w n p long low claimed new =
    let m : ℕ = slice_index words (w + 1) + n in
    let here : slice_index (slice_set words (w + 1) m) (w + 1) ≡ m = get_or-set_same words (w + 1) m 0 long in
    let other = λ (i : ℕ) (far : i ≢ w + 1). get_or-set_other words (w + 1) i m 0 far in
    let times = λ (x : ℕ). sum_by-cons (λ (b : Bump). cond (eqb b.wire x) 1 0) (bump_of w n) p.bumps in
    let sums = λ (x : ℕ). sum_by-cons (λ (b : Bump). cond (eqb b.wire x) b.by 0) (bump_of w n) p.bumps in
    record {
      long = length-set words (w + 1) m;
      part = λ is. record {
        once = λ x. elim (cases_eq x w) [
          | inl same ↦ rw same (omega (arith, times w, at_itself w, new, claimed))
          | inr ne ↦ omega (arith, times x, at_other w x (λ e. ne (sym e)), is.once x)
        ];
        low = λ x. elim (cases_eq x w) [
          | inl same ↦ rw same (omega (arith, sums w, times w, at_itself w, self w n, is.low w, low))
          | inr ne ↦ omega (arith, sums x, times x, at_other w x (λ e. ne (sym e)), off w x n (λ e. ne (sym e)), is.low x)
        ];
      };
      draws = λ f. rw (other 0 (omega arith)) refl;
      drawn = omega (arith, other 0 (omega arith));
      raised = λ x le. elim (cases_eq x w) [
        | inl same ↦ rw (same, here) (omega (arith, sums w, self w n))
        | inr ne ↦
            let far : x + 1 ≢ w + 1 = (λ e. ne (omega arith)) in
            omega (arith, other (x + 1) far, sums x, off w x n (λ e. ne (sym e)))
      ];
    }
  where
    self : (w n : ℕ) → cond (eqb w w) n 0 ≡ n
    self w n = grind (arith, nat_tests)

    off : (w x n : ℕ) → w ≢ x → cond (eqb w x) n 0 ≡ 0
    off w x n ne = grind (arith, nat_tests, ne)

next_number : (n k : ℕ) → n ≤ 2 ^ 33 → k < 2 ^ 33 → (n + k) % 2 ^ 64 ≡ n + k
next_number n k le lt = let lt : n + k < 2 ^ 64 = omega arith in mod-eq_of_lt lt

-- the state after a hand's step on a word
abbrev pub stepped_to : State ℕ HistoryView → ℕ → ℕ → ℕ → HistoryView → State ℕ HistoryView
stepped_to s i m id w = record { words = slice_set s.words i m; homes = s.homes; views = slice_set s.views id w }

pub claim_keeps : (histories : List ℕ) (s : State ℕ HistoryView) (id : ℕ) (v : HistoryView) → Holds histories s → get_elem? s.views id ≡ some v → 1 ≤ length v.parts → v.histories ≡ histories → (own v).ended ≡ false
    → (w : HistoryView) × Holds histories (stepped_to s 0 ((slice_index s.words 0 + 1) % 2 ^ 64) id w) × Draws v (slice_index s.words 0) w
claim_keeps histories s id v h at some_part same going =
    let n : ℕ = slice_index s.words 0 in
    let after = is_after histories s id v (own v).blocks h at some_part refl in
    let long : 0 < length s.words = omega (arith, h.words) in
    let many : blocks_of (length v.histories) ≡ blocks_of (length histories) = ap (λ hs. blocks_of (length hs)) same in
    rw (next_number n 1 (few_draws histories s h) (omega arith)) (elim (cases_lt n (blocks_of (length histories))) [
      | inl lt ↦ (with_own (claiming n) v, own_step histories (slice_set s.words 0 (n + 1)) s id (claiming n) v h at some_part (claim_fits histories s.words (own v) long lt), record { number = λ le. (refl, after); none = λ le. absurd (clash n _ _ many lt le) })
      | inr ge ↦ (with_own ending v, own_step histories (slice_set s.words 0 (n + 1)) s id ending v h at some_part (end_fits histories s.words (own v) long ge going), record { number = λ lt. absurd (clash n _ _ (sym many) lt ge); none = λ le. refl })
    ])

pub bump_keeps : (histories : List ℕ) (s : State ℕ HistoryView) (id w n : ℕ) (v : HistoryView) → Holds histories s → get_elem? s.views id ≡ some v → 1 ≤ length v.parts → w < length histories → n < 2 ^ 32 → 1 ≤ claims_on (block_of w) (own v) → bumps_on w (own v) ≡ 0
    → Holds histories (stepped_to s (w + 1) ((slice_index s.words (w + 1) + n) % 2 ^ 64) id (with_own (bumping w n) v))
bump_keeps histories s id w n v h at some_part lt low claimed new =
    let m : ℕ = slice_index s.words (w + 1) in
    rw (next_number m n (low_histories histories s w h lt) (omega (arith, low))) (own_step histories (slice_set s.words (w + 1) (m + n)) s id (bumping w n) v h at some_part (bump_fits histories s.words w n (own v) (omega (arith, h.words, lt)) low claimed new))

-- ---- a step that changes nothing
pub load_keeps : (histories : List ℕ) (s : State ℕ HistoryView) (id i : ℕ) (v : HistoryView) → Holds histories s → get_elem? s.views id ≡ some v → Holds histories (stepped_to s i (slice_index s.words i) id v)
load_keeps histories s id i v h at = rw (set_same s.words i, set_again s.views id v at) h

spent_is : (histories : List ℕ) → IsView histories spent_view
spent_is histories = record { same = λ more. absurd (omega arith); parts = tt }

-- the views of the others
abbrev others : List HistoryView → ℕ → List HistoryView
others views id = set views id spent_view

spare_others : (histories : List ℕ) (s : State ℕ HistoryView) (id : ℕ) → Holds histories s → AllByRecursion (IsView histories) (others s.views id)
spare_others histories s id h = each_set (IsView histories) s.views id spent_view h.views (spent_is histories)

pub look_keeps : (histories : List ℕ) (s : State ℕ HistoryView) (id w : ℕ) (v : HistoryView) → Holds histories s → get_elem? s.views id ≡ some v → v.histories ≡ histories → w < length histories → Looks v w (slice_index s.words (w + 1))
look_keeps histories s id w v h at same lt =
    let part = λ (k : HistoryPart → ℕ). sum_set (total k) s.views id v spent_view at in
    let raises = all_bumps histories w (others s.views id) (spare_others histories s id h) in
    rw same (record {
      least = omega (arith, part (raises_on w), h.raised w lt);
      exact = λ mine. omega (arith, mine, raises, part (raises_on w), part (claims_on (block_of w)), claimed_once histories s (block_of w) h, h.raised w lt);
      lone = λ main none. omega (arith, h.raised w lt, lone_total histories s id v (raises_on w) h at main none);
    })

-- ---- hands that are cut, joined and closed
fresh_part : IsPart no_part
fresh_part = record { once = λ w. omega arith; low = λ w. omega arith }

pub split_keeps : (histories : List ℕ) (s : State ℕ HistoryView) (id : ℕ) (v : HistoryView) → Holds histories s → get_elem? s.views id ≡ some v → v.main ≡ 1 → v.splits < 65535
    → Holds histories (record { words = s.words; homes = s.homes; views = slice_set s.views id (with_worker v) ++ worker_view v ∷ [] })
split_keeps histories s id v h at main few =
    let left : List HistoryView = set s.views id (with_worker v) in
    let is = each_at (IsView histories) s.views id v h.views at in
    let same = is.same (omega (arith, main)) in
    let change = λ (k : HistoryPart → ℕ). sum_set (total k) s.views id v (with_worker v) at in
    let pushed = λ (k : HistoryPart → ℕ). sum_by_push (total k) left (worker_view v) in
    record {
      opening = h.opening;
      words = h.words;
      seated = seated_split standing_of spent_view refl s.views id v (with_worker v) (worker_view v) h.seated at main few refl refl;
      views = each_append (IsView histories) left (worker_view v ∷ []) (each_set (IsView histories) s.views id (with_worker v) h.views (record { same = is.same; parts = is.parts })) (record { same = λ some_of. same; parts = (fresh_part, tt) }, tt);
      draws = λ f. omega (arith, change (blocks_by f), pushed (blocks_by f), h.draws f);
      drawn = omega (arith, change claims, pushed claims, change ends_of, pushed ends_of, h.drawn);
      raised = λ w lt. omega (arith, change (raises_on w), pushed (raises_on w), h.raised w lt);
    }

joined_is : (v u : HistoryView) → standing_of (with_parts v u) ≡ joined_standing (standing_of v) (standing_of u)
joined_is v u = ap (λ n. record { main = v.main; worker = v.worker; out = v.out - 1; splits = v.splits; parts = n }) (length-append v.parts u.parts)

pub join_keeps : (histories : List ℕ) (s : State ℕ HistoryView) (id other : ℕ) (v u : HistoryView) → Holds histories s → get_elem? s.views id ≡ some v → ¬ (other ≡ id) → get_elem? (slice_set s.views id (with_parts v u)) other ≡ some u → v.main ≡ 1 → u.worker ≡ 1
    → Holds histories (record { words = s.words; homes = s.homes; views = slice_set (slice_set s.views id (with_parts v u)) other spent_view })
join_keeps histories s id other v u h at apart there main worker =
    let both : List HistoryView = set s.views id (with_parts v u) in
    let at_other : get_elem? s.views other ≡ some u = sym (set_else s.views id other (with_parts v u) apart) ∙ there in
    let is = each_at (IsView histories) s.views id v h.views at in
    let uis = each_at (IsView histories) s.views other u h.views at_other in
    let change = λ (k : HistoryPart → ℕ). sum_set (total k) s.views id v (with_parts v u) at in
    let gone = λ (k : HistoryPart → ℕ). sum_set (total k) both other u spent_view there in
    let joined = λ (k : HistoryPart → ℕ). sum_by-append k v.parts u.parts in
    record {
      opening = h.opening;
      words = h.words;
      seated = seated_join standing_of spent_view refl s.views id other v u (with_parts v u) h.seated at apart there main worker (joined_is v u);
      views = each_set (IsView histories) both other spent_view (each_set (IsView histories) s.views id (with_parts v u) h.views (record { same = is.same; parts = each_append IsPart v.parts u.parts is.parts uis.parts })) (spent_is histories);
      draws = λ f. omega (arith, change (blocks_by f), gone (blocks_by f), joined (blocks_by f), h.draws f);
      drawn = omega (arith, change claims, gone claims, joined claims, change ends_of, gone ends_of, joined ends_of, h.drawn);
      raised = λ w lt. omega (arith, change (raises_on w), gone (raises_on w), joined (raises_on w), h.raised w lt);
    }

closes : (histories : List ℕ) (s : State ℕ HistoryView) (id : ℕ) (v : HistoryView) → Holds histories s → get_elem? s.views id ≡ some v → v.main ≡ 1 → v.out ≡ 0 → IsClosing v (drop 1 s.words)
closes histories s id v h at main none =
    let is = each_at (IsView histories) s.views id v h.views at in
    let same = is.same (omega (arith, main)) in
    let all = λ (k : HistoryPart → ℕ). lone_total histories s id v k h at main none in
    let first : slice_index s.words 0 ≡ total claims v + total ends_of v = omega (arith, h.drawn, all claims, all ends_of) in
    let word = λ (w : ℕ). get_or-drop 1 s.words w 0 ∙ ap (λ k. slice_index s.words k) (one_more w) in
    record {
      long = rw same (omega (arith, length-drop 1 s.words, h.words));
      raised = rw same (λ w lt. omega (arith, word w, h.raised w lt, all (raises_on w)));
      draws = rw (same, ← first) (λ f. omega (arith, h.draws f, all (blocks_by f)));
    }
  where
    one_more : (w : ℕ) → 1 + w ≡ w + 1
    one_more w = omega arith

-- what is read at the close
pub closed_view : (histories : List ℕ) (id : ℕ) (v : HistoryView) (words : List ℕ) → (s : State ℕ HistoryView) × Seen (Holds histories) id v s × (s.words ≡ words) → v.main ≡ 1 → v.out ≡ 0 → IsClosing v (drop 1 words)
closed_view histories id v words t main none = rw (← t.2) (closes histories t.0 id v t.1.0 t.1.1 main none)

-- ---- the start
pub start_holds : (histories words : List ℕ) → words ≡ 0 ∷ histories → AreHistories histories → Holds histories (record { words = words; homes = []; views = first_view histories ∷ [] })
start_holds histories words same opening = rw same (record {
  opening = opening;
  words = omega arith;
  seated = seated_first standing_of spent_view refl (first_view histories) refl;
  views = (record { same = λ some_of. refl; parts = (fresh_part, tt) }, tt);
  draws = λ f. (let none = draws_none (blocks_of (length histories)) f in omega (arith, none));
  drawn = refl;
  raised = λ w lt. omega (arith, behind_first 0 histories w);
})
