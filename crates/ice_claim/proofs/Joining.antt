-- The rule is kept where passes are made, split off and joined, and what the table tells at its close.
use Rattle.std.proofs.Common.{◌≡◌, ℕ, ◌+◌, ◌-◌, ◌≤◌, ◌<◌, ◌⊎◌, List, [], ◌∷◌, ◌++◌, length, set, replicate, length-append, length-drop, slice_index, slice_set, drop, inl, inr, refl, sym, ap, ◌∙◌, arith}
use mathlib.Core.Option.{some}
use lib.ListN.{get_elem?}
use Rattle.std.proofs.lemmas.Bool.{cases_lt}
use Rattle.std.proofs.lemmas.List.{get_or-drop, length-replicate}
use Rattle.atomic_table.proofs.Lists.{set_else}
use Rattle.std.proofs.lemmas.List.Sums.{sum_by-append, sum_by_push}
use Rattle.atomic_table.specs.Table.{State, Seen}
use Rattle.ice_core.proofs.Sums.{sum_set, each_set, each_at, each_append}
use Rattle.ice_words_hands.specs.Standing.{joined_standing}
use Rattle.ice_words_hands.proofs.Draws.{draws_none}
use Rattle.ice_words_hands.proofs.Lists.{zeros_index}
use Rattle.ice_words_hands.proofs.Seated.{seated_first, seated_split, seated_join}
use Rattle.ice_claim.specs.declared.view.ClaimPart.{ClaimPart}
use Rattle.ice_claim.specs.declared.view.ClaimView.{ClaimView}
use Rattle.ice_claim.specs.Claims.{total, nets_by, claims_on, claims, ends_of, takes_on, takes_pair, losses_pair, first_view, worker_view, with_worker, with_parts, spent_view, standing_of}
use Rattle.ice_claim.specs.Rule.{AreLists, IsView, Holds, IsLone, IsClosing}
use Rattle.ice_claim.proofs.Steps.{spent_is, lone_total}

-- ---- a pass is split off
split_view : (lists : List (List ℕ)) (v : ClaimView) → IsView lists v → IsView lists (with_worker v)
split_view lists v is = record { same = is.same; claimed = is.claimed; listed = is.listed; lost = λ n w some_of. (let old = is.lost n w some_of in record { claimed = old.claimed; listed = old.listed; shared = old.shared }) }

fresh_view : (lists : List (List ℕ)) (v : ClaimView) → v.lists ≡ lists → IsView lists (worker_view v)
fresh_view lists v same = record { same = λ more. same; claimed = λ n w. omega arith; listed = λ n w some_of. absurd (omega arith); lost = λ n w some_of. absurd (omega arith) }

pub split_keeps : (wires : ℕ) (lists : List (List ℕ)) (s : State ℕ ClaimView) (id : ℕ) (v : ClaimView) → Holds wires lists s → get_elem? s.views id ≡ some v → v.main ≡ 1 → v.splits < 65535
    → Holds wires lists (record { words = s.words; homes = s.homes; views = slice_set s.views id (with_worker v) ++ worker_view v ∷ [] })
split_keeps wires lists s id v h at main few =
    let left : List ClaimView = set s.views id (with_worker v) in
    let is = each_at (IsView lists) s.views id v h.views at in
    let same = is.same (omega (arith, main)) in
    let change = λ (k : ClaimPart → ℕ). sum_set (total k) s.views id v (with_worker v) at in
    let pushed = λ (k : ClaimPart → ℕ). sum_by_push (total k) left (worker_view v) in
    record {
      start = h.start;
      words = h.words;
      seated = seated_split standing_of spent_view refl s.views id v (with_worker v) (worker_view v) h.seated at main few refl refl;
      views = each_append (IsView lists) left (worker_view v ∷ []) (each_set (IsView lists) s.views id (with_worker v) h.views (split_view lists v is)) (fresh_view lists v same, tt);
      draws = λ f. omega (arith, change (nets_by f), pushed (nets_by f), h.draws f);
      drawn = omega (arith, change claims, pushed claims, change ends_of, pushed ends_of, h.drawn);
      taken = λ w lt. omega (arith, change (takes_on w), pushed (takes_on w), h.taken w lt);
      once = h.once;
    }

-- ---- a pass is joined
some_of_two : (a b c : ℕ) → c ≡ a + b → 1 ≤ c → (1 ≤ a) ⊎ (1 ≤ b)
some_of_two a b c sum some_of = elim (cases_lt 0 a) [
  | inl lt ↦ inl (omega (arith, lt))
  | inr none ↦ inr (omega (arith, none, sum, some_of))
]

both_view : (lists : List (List ℕ)) (v u : ClaimView) → IsView lists v → IsView lists u → IsView lists (with_parts v u)
both_view lists v u is uis =
    let joined = λ (k : ClaimPart → ℕ). sum_by-append k v.parts u.parts in
    record {
      same = is.same;
      claimed = λ n w. omega (arith, joined (takes_pair n w), joined (claims_on n), is.claimed n w, uis.claimed n w);
      listed = λ n w some_of. elim (some_of_two _ _ _ (joined (takes_pair n w)) some_of) [
        | inl here ↦ is.listed n w here
        | inr there ↦ uis.listed n w there
      ];
      lost = λ n w some_of. elim (some_of_two _ _ _ (joined (losses_pair n w)) some_of) [
        | inl here ↦ (let old = is.lost n w here in record { claimed = omega (arith, joined (claims_on n), old.claimed); listed = old.listed; shared = old.shared })
        | inr there ↦ (let old = uis.lost n w there in record { claimed = omega (arith, joined (claims_on n), old.claimed); listed = old.listed; shared = old.shared })
      ];
    }

joined_is : (v u : ClaimView) → standing_of (with_parts v u) ≡ joined_standing (standing_of v) (standing_of u)
joined_is v u = ap (λ n. record { main = v.main; worker = v.worker; out = v.out - 1; splits = v.splits; parts = n }) (length-append v.parts u.parts)

pub join_keeps : (wires : ℕ) (lists : List (List ℕ)) (s : State ℕ ClaimView) (id other : ℕ) (v u : ClaimView) → Holds wires lists s → get_elem? s.views id ≡ some v → ¬ (other ≡ id) → get_elem? (slice_set s.views id (with_parts v u)) other ≡ some u → v.main ≡ 1 → u.worker ≡ 1
    → Holds wires lists (record { words = s.words; homes = s.homes; views = slice_set (slice_set s.views id (with_parts v u)) other spent_view })
join_keeps wires lists s id other v u h at apart there main worker =
    let both : List ClaimView = set s.views id (with_parts v u) in
    let at_other : get_elem? s.views other ≡ some u = sym (set_else s.views id other (with_parts v u) apart) ∙ there in
    let is = each_at (IsView lists) s.views id v h.views at in
    let uis = each_at (IsView lists) s.views other u h.views at_other in
    let change = λ (k : ClaimPart → ℕ). sum_set (total k) s.views id v (with_parts v u) at in
    let gone = λ (k : ClaimPart → ℕ). sum_set (total k) both other u spent_view there in
    let joined = λ (k : ClaimPart → ℕ). sum_by-append k v.parts u.parts in
    record {
      start = h.start;
      words = h.words;
      seated = seated_join standing_of spent_view refl s.views id other v u (with_parts v u) h.seated at apart there main worker (joined_is v u);
      views = each_set (IsView lists) both other spent_view (each_set (IsView lists) s.views id (with_parts v u) h.views (both_view lists v u is uis)) (spent_is lists);
      draws = λ f. omega (arith, change (nets_by f), gone (nets_by f), joined (nets_by f), h.draws f);
      drawn = omega (arith, change claims, gone claims, joined claims, change ends_of, gone ends_of, joined ends_of, h.drawn);
      taken = λ w lt. omega (arith, change (takes_on w), gone (takes_on w), joined (takes_on w), h.taken w lt);
      once = h.once;
    }

-- ---- the close
closes : (wires : ℕ) (lists : List (List ℕ)) (s : State ℕ ClaimView) (id : ℕ) (v : ClaimView) → Holds wires lists s → get_elem? s.views id ≡ some v → IsLone v → IsClosing wires v (drop 1 s.words)
closes wires lists s id v h at lone =
    let same : v.lists ≡ lists = (each_at (IsView lists) s.views id v h.views at).same (omega (arith, lone.main)) in
    let all = λ (k : ClaimPart → ℕ). lone_total wires lists s id v k h at lone in
    let first : slice_index s.words 0 ≡ total claims v + total ends_of v = omega (arith, h.drawn, all claims, all ends_of) in
    let word = λ (w : ℕ). get_or-drop 1 s.words w 0 ∙ ap (λ k. slice_index s.words k) (one_more w) in
    record {
      long = omega (arith, length-drop 1 s.words, h.words);
      taken = λ w lt. omega (arith, word w, h.taken w lt, all (takes_on w));
      once = λ w lt. omega (arith, word w, h.once w lt);
      draws = rw (same, ← first) (λ f. omega (arith, h.draws f, all (nets_by f)));
    }
  where
    one_more : (w : ℕ) → 1 + w ≡ w + 1
    one_more w = omega arith

-- what is read at the close
pub closed_view : (wires : ℕ) (lists : List (List ℕ)) (id : ℕ) (v : ClaimView) (words : List ℕ) → (s : State ℕ ClaimView) × Seen (Holds wires lists) id v s × (s.words ≡ words) → IsLone v → IsClosing wires v (drop 1 words)
closed_view wires lists id v words t lone = rw (← t.2) (closes wires lists t.0 id v t.1.0 t.1.1 lone)

-- ---- the start
pub start_holds : (wires : ℕ) (lists : List (List ℕ)) (words : List ℕ) → words ≡ replicate (wires + 1) 0 → AreLists wires lists → Holds wires lists (record { words = words; homes = []; views = first_view lists ∷ [] })
start_holds wires lists words same is = rw same (record {
  start = is;
  words = length-replicate (wires + 1) 0;
  seated = seated_first standing_of spent_view refl (first_view lists) refl;
  views = (record { same = λ more. refl; claimed = λ n w. omega arith; listed = λ n w some_of. absurd (omega arith); lost = λ n w some_of. absurd (omega arith) }, tt);
  draws = λ f. rw (zeros_index (wires + 1) 0) (let none = draws_none (length lists) f in omega (arith, none));
  drawn = zeros_index (wires + 1) 0;
  taken = λ w lt. zeros_index (wires + 1) (w + 1);
  once = λ w lt. omega (arith, zeros_index (wires + 1) (w + 1));
})
