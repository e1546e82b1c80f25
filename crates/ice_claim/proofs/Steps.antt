-- The rule is kept by each step on a word.
use Rattle.std.proofs.Common.{◌≡◌, ◌≢◌, ℕ, ◌+◌, ◌-◌, ◌%◌, ◌^◌, ◌≤◌, ◌<◌, List, [], ◌∷◌, length, set, cond, eqb, eq-eqb, ne_eqb, false, inl, inr, get_or-set_same, get_or-set_other, length-set, slice_index, slice_set, min, refl, sym, ap, subst, ◌∙◌, arith}
use mathlib.Core.Option.{some}
use lib.ListN.{get_elem?}
use prog.Atomic.{either}
use Rattle.std.proofs.lemmas.Bool.{cases_eq, cases_lt}
use Rattle.atomic_table.proofs.Lists.{set_again}
use Rattle.std.proofs.lemmas.List.Sums.{sum_by-cons}
use Rattle.std.specs.List.{sum_by, AllByRecursion}
use Rattle.atomic_table.specs.Table.{State}
use Rattle.ice_core.specs.Routes.{times, sum_below, wires_of}
use Rattle.ice_core.proofs.Sums.{sum_set, sum_at, each_set, each_at, sum_at_most, below_ones, is_at, at_itself, at_other, times_cons}
use Rattle.ice_words_hands.proofs.Lists.{set_same, one_of}
use Rattle.ice_words_hands.proofs.Parts.{own_sum, own_at_most, own_length, own_total}
use Rattle.ice_words_hands.proofs.Draws.{draws_next, draws_past, drawn_below, drawn_once, next_number, one_end, clash}
use Rattle.ice_words_hands.proofs.Seated.{seated_step, alone_in, few_in}
use Rattle.ice_claim.specs.declared.view.ClaimPart.{ClaimPart}
use Rattle.ice_claim.specs.declared.view.ClaimView.{ClaimView}
use Rattle.ice_claim.specs.Claims.{total, total_of, nets_by, claims_on, claims, ends_of, pair_of, takes_on, takes_pair, losses_pair, no_part, claiming, ending, taking, losing, giving, own, with_own, spent_view, standing_of}
use Rattle.ice_claim.specs.Rule.{AreLists, IsShared, IsLost, IsView, Holds, IsAfter, IsLone, Draws, Finds, Tries}
use Rattle.ice_claim.proofs.Counting.{bit_of, on_of, bit_cases, on_itself, on_other, on_pair, pairs_on, without_sum}

-- ---- one pass's own part changes
same_standing : (f : ClaimPart → ClaimPart) (v : ClaimView) → standing_of (with_own f v) ≡ standing_of v
same_standing f v = ap (λ n. record { main = v.main; worker = v.worker; out = v.out; splits = v.splits; parts = n }) (own_length f v.parts)

own_all : (k : ClaimPart → ℕ) (f : ClaimPart → ClaimPart) (views : List ClaimView) (id : ℕ) (v : ClaimView) → get_elem? views id ≡ some v → 1 ≤ length v.parts
    → total_of k (set views id (with_own f v)) + k (own v) ≡ total_of k views + k (f (own v))
own_all k f views id v at some_part = own_total (λ (u : ClaimView). u.parts) k no_part f views id v (with_own f v) at some_part refl

own_one : (k : ClaimPart → ℕ) (f : ClaimPart → ClaimPart) (v : ClaimView) → 1 ≤ length v.parts → total k (with_own f v) + k (own v) ≡ total k v + k (f (own v))
own_one k f v some_part = own_sum k no_part f v.parts some_part

-- the words, and the own part p before and q after a step, fit together
record Fits (wires : ℕ) (lists : List (List ℕ)) (words old : List ℕ) (p q : ClaimPart) : Type 0 where
  long : length words ≡ length old
  draws : (f : ℕ → ℕ) → nets_by f q + sum_below (min (slice_index old 0) (length lists)) f ≡ nets_by f p + sum_below (min (slice_index words 0) (length lists)) f
  drawn : slice_index words 0 + (claims p + ends_of p) ≡ slice_index old 0 + (claims q + ends_of q)
  taken : (w : ℕ) → w < wires → slice_index words (w + 1) + takes_on w p ≡ slice_index old (w + 1) + takes_on w q
  once : (w : ℕ) → w < wires → slice_index words (w + 1) ≤ 1

own_step : (wires : ℕ) (lists : List (List ℕ)) (words : List ℕ) (s : State ℕ ClaimView) (id : ℕ) (f : ClaimPart → ClaimPart) (v : ClaimView)
    → Holds wires lists s → get_elem? s.views id ≡ some v → 1 ≤ length v.parts → Fits wires lists words s.words (own v) (f (own v)) → IsView lists (with_own f v)
    → Holds wires lists (record { words = words; homes = s.homes; views = slice_set s.views id (with_own f v) })
own_step wires lists words s id f v h at some_part fits view =
    let change = λ (k : ClaimPart → ℕ). own_all k f s.views id v at some_part in
    record {
      start = h.start;
      words = fits.long ∙ h.words;
      seated = seated_step standing_of spent_view refl s.views id v (with_own f v) h.seated at (same_standing f v);
      views = each_set (IsView lists) s.views id (with_own f v) h.views view;
      draws = λ g. omega (arith, change (nets_by g), fits.draws g, h.draws g);
      drawn = omega (arith, change claims, change ends_of, fits.drawn, h.drawn);
      taken = λ w lt. omega (arith, change (takes_on w), fits.taken w lt, h.taken w lt);
      once = fits.once;
    }

-- a view whose own part gets no pair and loses no claim
view_stays : (lists : List (List ℕ)) (f : ClaimPart → ClaimPart) (v : ClaimView) → 1 ≤ length v.parts → IsView lists v
    → ((n w : ℕ) → takes_pair n w (f (own v)) ≤ takes_pair n w (own v)) → ((n w : ℕ) → losses_pair n w (f (own v)) ≤ losses_pair n w (own v)) → ((n : ℕ) → claims_on n (own v) ≤ claims_on n (f (own v)))
    → IsView lists (with_own f v)
view_stays lists f v some_part is takes losses nets =
    let change = λ (k : ClaimPart → ℕ). own_one k f v some_part in
    record {
      same = is.same;
      claimed = λ n w. omega (arith, change (takes_pair n w), change (claims_on n), takes n w, nets n, is.claimed n w);
      listed = λ n w some_of. is.listed n w (omega (arith, change (takes_pair n w), takes n w, some_of));
      lost = λ n w some_of.
          let old = is.lost n w (omega (arith, change (losses_pair n w), losses n w, some_of)) in
          record { claimed = omega (arith, change (claims_on n), nets n, old.claimed); listed = old.listed; shared = old.shared };
    }

view_at : (wires : ℕ) (lists : List (List ℕ)) (s : State ℕ ClaimView) (id : ℕ) (v : ClaimView) → Holds wires lists s → get_elem? s.views id ≡ some v → IsView lists v
view_at wires lists s id v h at = each_at (IsView lists) s.views id v h.views at

-- the state after a pass's step on a word
abbrev pub stepped_to : State ℕ ClaimView → ℕ → ℕ → ℕ → ClaimView → State ℕ ClaimView
stepped_to s i m id w = record { words = slice_set s.words i m; homes = s.homes; views = slice_set s.views id w }

-- ---- a net is drawn
few_draws : (wires : ℕ) (lists : List (List ℕ)) (s : State ℕ ClaimView) → Holds wires lists s → slice_index s.words 0 ≤ 131072
few_draws wires lists s h = omega (
  arith,
  h.drawn,
  h.draws (λ x. 1),
  below_ones (min (slice_index s.words 0) (length lists)),
  h.start.few,
  few_in standing_of spent_view refl (λ (u : ClaimView). u.parts) (λ u. refl) ends_of (λ p. one_end p.ended) s.views h.seated,
)

-- what the main pass knows where no other is out
pub lone_total : (wires : ℕ) (lists : List (List ℕ)) (s : State ℕ ClaimView) (id : ℕ) (v : ClaimView) (k : ClaimPart → ℕ) → Holds wires lists s → get_elem? s.views id ≡ some v → IsLone v → total_of k s.views ≡ total k v
lone_total wires lists s id v k h at is = alone_in standing_of spent_view refl (λ (u : ClaimView). u.parts) (λ u. refl) k s.views id v h.seated at is.main is.out

-- a net is claimed at most once
claimed_once : (wires : ℕ) (lists : List (List ℕ)) (s : State ℕ ClaimView) (n : ℕ) → Holds wires lists s → total_of (claims_on n) s.views ≤ 1
claimed_once wires lists s n h = omega (arith, h.draws (is_at n), drawn_once (min (slice_index s.words 0) (length lists)) n)

is_after : (wires : ℕ) (lists : List (List ℕ)) (s : State ℕ ClaimView) (id : ℕ) (v : ClaimView) (nets : List ℕ) → Holds wires lists s → get_elem? s.views id ≡ some v → 1 ≤ length v.parts → (own v).nets ≡ nets → IsAfter (slice_index s.words 0) nets
is_after wires lists s id v [] h at some_part is = tt
is_after wires lists s id v (n ∷ nets) h at some_part is =
    let first : claims_on n (own v) ≡ is_at n n + sum_by (is_at n) nets = ap (sum_by (is_at n)) is ∙ sum_by-cons (is_at n) n nets in
    let there : 1 ≤ sum_below (min (slice_index s.words 0) (length lists)) (is_at n) = omega (arith, first, at_itself n, own_at_most (claims_on n) no_part v.parts some_part, sum_at (total (claims_on n)) s.views id v at, h.draws (is_at n)) in
    (drawn_below (slice_index s.words 0) (length lists) n there).0

-- word 0 is one more
first_more : (words : List ℕ) → 0 < length words → slice_index (slice_set words 0 (slice_index words 0 + 1)) 0 ≡ slice_index words 0 + 1
first_more words long = get_or-set_same words 0 (slice_index words 0 + 1) 0 long

first_alone : (words : List ℕ) (w : ℕ) → slice_index (slice_set words 0 (slice_index words 0 + 1)) (w + 1) ≡ slice_index words (w + 1)
first_alone words w = get_or-set_other words 0 (w + 1) (slice_index words 0 + 1) 0 (λ e. absurd (omega arith))

claim_fits : (wires : ℕ) (lists : List (List ℕ)) (words : List ℕ) (p : ClaimPart) → 0 < length words → ((w : ℕ) → w < wires → slice_index words (w + 1) ≤ 1) → slice_index words 0 < length lists
    → Fits wires lists (slice_set words 0 (slice_index words 0 + 1)) words p (claiming (slice_index words 0) p)
claim_fits wires lists words p long once lt =
    let n : ℕ = slice_index words 0 in
    record {
      long = length-set words 0 (n + 1);
      draws = λ f. rw (first_more words long) (omega (arith, sum_by-cons f n p.nets, draws_next n (length lists) f lt));
      drawn = omega (arith, first_more words long, sum_by-cons (λ x. 1) n p.nets);
      taken = λ w le. omega (arith, first_alone words w);
      once = λ w le. omega (arith, first_alone words w, once w le);
    }

end_fits : (wires : ℕ) (lists : List (List ℕ)) (words : List ℕ) (p : ClaimPart) → 0 < length words → ((w : ℕ) → w < wires → slice_index words (w + 1) ≤ 1) → length lists ≤ slice_index words 0 → p.ended ≡ false
    → Fits wires lists (slice_set words 0 (slice_index words 0 + 1)) words p (ending p)
end_fits wires lists words p long once le going =
    let n : ℕ = slice_index words 0 in
    record {
      long = length-set words 0 (n + 1);
      draws = λ f. rw (first_more words long) (omega (arith, draws_past n (length lists) f le));
      drawn = (let none : ends_of p ≡ 0 = rw going refl in omega (arith, first_more words long, none));
      taken = λ w lt. omega (arith, first_alone words w);
      once = λ w lt. omega (arith, first_alone words w, once w lt);
    }

pub claim_keeps : (wires : ℕ) (lists : List (List ℕ)) (s : State ℕ ClaimView) (id : ℕ) (v : ClaimView) → Holds wires lists s → get_elem? s.views id ≡ some v → 1 ≤ length v.parts → v.lists ≡ lists → (own v).ended ≡ false
    → (w : ClaimView) × Holds wires lists (stepped_to s 0 ((slice_index s.words 0 + 1) % 2 ^ 64) id w) × Draws v (slice_index s.words 0) w
claim_keeps wires lists s id v h at some_part same going =
    let n : ℕ = slice_index s.words 0 in
    let is = view_at wires lists s id v h at in
    let after = is_after wires lists s id v (own v).nets h at some_part refl in
    let long : 0 < length s.words = omega (arith, h.words) in
    let many : length v.lists ≡ length lists = ap length same in
    let lone : IsLone v → n ≡ total claims v + total ends_of v = λ alone. omega (arith, h.drawn, lone_total wires lists s id v claims h at alone, lone_total wires lists s id v ends_of h at alone) in
    rw (next_number n (few_draws wires lists s h)) (elim (cases_lt n (length lists)) [
      | inl lt ↦
          let view = view_stays lists (claiming n) v some_part is (λ m w. omega arith) (λ m w. omega arith) (λ m. omega (arith, sum_by-cons (is_at m) n (own v).nets)) in
          (with_own (claiming n) v, own_step wires lists (slice_set s.words 0 (n + 1)) s id (claiming n) v h at some_part (claim_fits wires lists s.words (own v) long h.once lt) view, record { number = λ le. (refl, after); none = λ le. absurd (clash n _ _ many lt le); lone = lone })
      | inr ge ↦
          let view = view_stays lists ending v some_part is (λ m w. omega arith) (λ m w. omega arith) (λ m. omega arith) in
          (with_own ending v, own_step wires lists (slice_set s.words 0 (n + 1)) s id ending v h at some_part (end_fits wires lists s.words (own v) long h.once ge going) view, record { number = λ lt. absurd (clash n _ _ (sym many) lt ge); none = λ le. refl; lone = lone })
    ])

-- ---- a wire's word is found
finds : (wires : ℕ) (lists : List (List ℕ)) (s : State ℕ ClaimView) (id w : ℕ) (v : ClaimView) → Holds wires lists s → get_elem? s.views id ≡ some v → w < wires → Finds v w (slice_index s.words (w + 1))
finds wires lists s id w v h at lt = record {
  own = λ some_of none. absurd (omega (arith, some_of, none, h.taken w lt, sum_at (total (takes_on w)) s.views id v at));
  lone = λ alone. h.taken w lt ∙ lone_total wires lists s id v (takes_on w) h at alone;
}

pub look_keeps : (wires : ℕ) (lists : List (List ℕ)) (s : State ℕ ClaimView) (id w : ℕ) (v : ClaimView) → Holds wires lists s → get_elem? s.views id ≡ some v → w < wires
    → Holds wires lists (stepped_to s (w + 1) (slice_index s.words (w + 1)) id v) × Finds v w (slice_index s.words (w + 1))
look_keeps wires lists s id w v h at lt = rw (set_same s.words (w + 1), set_again s.views id v at) (h, finds wires lists s id w v h at lt)

-- ---- a wire is taken or lost
pub spent_is : (lists : List (List ℕ)) → IsView lists spent_view
spent_is lists = record { same = λ more. absurd (omega arith); claimed = λ n w. omega arith; listed = λ n w some_of. absurd (omega arith); lost = λ n w some_of. absurd (omega arith) }

-- no view has taken it for the net
nobody : (wires : ℕ) (lists : List (List ℕ)) (s : State ℕ ClaimView) (id net w : ℕ) (v : ClaimView) → Holds wires lists s → get_elem? s.views id ≡ some v → 1 ≤ total (claims_on net) v → total (takes_pair net w) v ≡ 0
    → total_of (takes_pair net w) s.views ≡ 0
nobody wires lists s id net w v h at claimed new =
    let rest : List ClaimView = set s.views id spent_view in
    let each = each_set (IsView lists) s.views id spent_view h.views (spent_is lists) in
    omega (
      arith,
      new,
      claimed,
      claimed_once wires lists s net h,
      sum_set (total (claims_on net)) s.views id v spent_view at,
      sum_set (total (takes_pair net w)) s.views id v spent_view at,
      sum_at_most (IsView lists) (total (takes_pair net w)) (total (claims_on net)) 1 (λ u is. (let e = is.claimed net w in omega arith)) rest each,
    )

-- where a wire's word isn't 0, a net has the wire, and it is another one than this
shared : (wires : ℕ) (lists : List (List ℕ)) (s : State ℕ ClaimView) (id net w : ℕ) (v : ClaimView) → Holds wires lists s → get_elem? s.views id ≡ some v → w < wires → 1 ≤ total (claims_on net) v → total (takes_pair net w) v ≡ 0 → slice_index s.words (w + 1) ≢ 0
    → IsShared lists net w
shared wires lists s id net w v h at lt claimed new found =
    let none = nobody wires lists s id net w v h at claimed new in
    let some_of : 1 ≤ total_of (takes_on w) s.views = omega (arith, h.taken w lt, found) in
    let view = one_of (total (takes_on w)) s.views some_of in
    let part = one_of (takes_on w) view.1.parts view.3 in
    let pair = one_of (on_of w) part.1.taken part.3 in
    let u : ClaimView = view.1 in
    let m : ℕ = pair.1.net in
    let has : 1 ≤ total (takes_pair m w) u = omega (arith, on_pair w pair.1 pair.3, sum_at (bit_of m w) part.1.taken pair.0 pair.1 pair.2, sum_at (takes_pair m w) u.parts part.0 part.1 part.2) in
    let all : 1 ≤ total_of (takes_pair m w) s.views = omega (arith, has, sum_at (total (takes_pair m w)) s.views view.0 u view.2) in
    (m, (λ same. absurd (let e = ap (λ k. total_of (takes_pair k w) s.views) same in omega (arith, e, all, none))), (each_at (IsView lists) s.views view.0 u h.views view.2).listed m w has)

-- a wire's word changes
wire_fits : (wires : ℕ) (lists : List (List ℕ)) (words : List ℕ) (w m : ℕ) (p q : ClaimPart) → w + 1 < length words → ((x : ℕ) → x < wires → slice_index words (x + 1) ≤ 1) → m ≤ 1 → q.nets ≡ p.nets → q.ended ≡ p.ended
    → ((x : ℕ) → x ≢ w → takes_on x q ≡ takes_on x p) → m + takes_on w p ≡ slice_index words (w + 1) + takes_on w q
    → Fits wires lists (slice_set words (w + 1) m) words p q
wire_fits wires lists words w m p q long once low nets ended others change =
    let other = λ (i : ℕ) (far : i ≢ w + 1). get_or-set_other words (w + 1) i m 0 far in
    let here : slice_index (slice_set words (w + 1) m) (w + 1) ≡ m = get_or-set_same words (w + 1) m 0 long in
    let first = other 0 (λ e. absurd (omega arith)) in
    let far = λ (x : ℕ) (ne : x ≢ w). other (x + 1) (λ e. ne (omega arith)) in
    record {
      long = length-set words (w + 1) m;
      draws = λ f. rw first (omega (arith, ap (sum_by f) nets));
      drawn = omega (arith, first, ap (sum_by (λ x. 1)) nets, ap {B = ℕ} (λ b. cond b 1 0) ended);
      taken = λ x lt. elim (cases_eq x w) [
        | inl same ↦ rw (same, here) change
        | inr ne ↦ omega (arith, far x ne, others x ne)
      ];
      once = λ x lt. elim (cases_eq x w) [
        | inl same ↦ rw (same, here) low
        | inr ne ↦ omega (arith, far x ne, once x lt)
      ];
    }

-- a net in whose list a wire stands has it in range
pub listed_below : (wires : ℕ) (lists : List (List ℕ)) (n w : ℕ) → AreLists wires lists → 1 ≤ times w (wires_of lists n) → w < wires
listed_below wires lists n w is some_of = among (wires_of lists n) (is.within n) some_of
  where
    among : (xs : List ℕ) → AllByRecursion (λ x. x < wires) xs → 1 ≤ times w xs → w < wires
    among [] each some_here = absurd (omega arith)
    among (x ∷ xs) each some_here = elim (cases_eq x w) [
      | inl same ↦ subst (λ k. k < wires) same each.0
      | inr ne ↦ among xs each.1 (omega (arith, some_here, at_other x w ne, times_cons w x xs))
    ]

-- ---- a wire is taken
taken_view : (lists : List (List ℕ)) (net w : ℕ) (v : ClaimView) → 1 ≤ length v.parts → IsView lists v → 1 ≤ total (claims_on net) v → 1 ≤ times w (wires_of lists net) → total (takes_pair net w) v ≡ 0 → IsView lists (with_own (taking net w) v)
taken_view lists net w v some_part is claimed listed new =
    let change = λ (k : ClaimPart → ℕ). own_one k (taking net w) v some_part in
    let more = λ (n x : ℕ). sum_by-cons (bit_of n x) (pair_of net w) (own v).taken in
    record {
      same = is.same;
      claimed = λ n x. elim (bit_cases n x (pair_of net w)) [
        | inl here ↦
            let on_net : total (takes_pair n x) v ≡ 0 = subst (λ k. total (takes_pair k x) v ≡ 0) here.0 (subst (λ k. total (takes_pair net k) v ≡ 0) here.1 new) in
            let of_net : 1 ≤ total (claims_on n) v = subst (λ k. 1 ≤ total (claims_on k) v) here.0 claimed in
            omega (arith, change (takes_pair n x), change (claims_on n), more n x, here.2, on_net, of_net)
        | inr none ↦ omega (arith, change (takes_pair n x), change (claims_on n), more n x, none, is.claimed n x)
      ];
      listed = λ n x some_of. elim (bit_cases n x (pair_of net w)) [
        | inl here ↦ subst (λ k. 1 ≤ times x (wires_of lists k)) here.0 (subst (λ k. 1 ≤ times k (wires_of lists net)) here.1 listed)
        | inr none ↦ is.listed n x (omega (arith, change (takes_pair n x), more n x, none, some_of))
      ];
      lost = λ n x some_of.
          let old = is.lost n x (omega (arith, change (losses_pair n x), some_of)) in
          record { claimed = omega (arith, change (claims_on n), old.claimed); listed = old.listed; shared = old.shared };
    }

lost_view : (lists : List (List ℕ)) (net w : ℕ) (v : ClaimView) → 1 ≤ length v.parts → IsView lists v → 1 ≤ total (claims_on net) v → 1 ≤ times w (wires_of lists net) → IsShared lists net w → IsView lists (with_own (losing net w) v)
lost_view lists net w v some_part is claimed listed elsewhere =
    let change = λ (k : ClaimPart → ℕ). own_one k (losing net w) v some_part in
    let more = λ (n x : ℕ). sum_by-cons (bit_of n x) (pair_of net w) (own v).lost in
    let stays = λ (n : ℕ). change (claims_on n) in
    record {
      same = is.same;
      claimed = λ n x. omega (arith, change (takes_pair n x), change (claims_on n), is.claimed n x);
      listed = λ n x some_of. is.listed n x (omega (arith, change (takes_pair n x), some_of));
      lost = λ n x some_of. elim (bit_cases n x (pair_of net w)) [
        | inl here ↦
            let this : IsLost lists (with_own (losing net w) v) net w = record { claimed = omega (arith, change (claims_on net), claimed); listed = listed; shared = elsewhere } in
            subst (λ k. IsLost lists (with_own (losing net w) v) n k) here.1 (subst (λ k. IsLost lists (with_own (losing net w) v) k w) here.0 this)
        | inr none ↦ (let old = is.lost n x (omega (arith, change (losses_pair n x), more n x, none, some_of)) in record { claimed = omega (arith, change (claims_on n), old.claimed); listed = old.listed; shared = old.shared })
      ];
    }

-- the word behind an exchange
hit : (n old new : ℕ) → n ≡ old → either (eqb n old) new n ≡ new
hit n old new same = rw (eq-eqb n old same) refl

miss : (n old new : ℕ) → n ≢ old → either (eqb n old) new n ≡ n
miss n old new other = rw (ne_eqb n old other) refl

pub take_keeps : (wires : ℕ) (lists : List (List ℕ)) (s : State ℕ ClaimView) (id net w : ℕ) (v : ClaimView) → Holds wires lists s → get_elem? s.views id ≡ some v → 1 ≤ length v.parts → v.lists ≡ lists → 1 ≤ total (claims_on net) v → 1 ≤ times w (wires_of lists net) → total (takes_pair net w) v ≡ 0
    → (after : ClaimView) × Holds wires lists (stepped_to s (w + 1) (either (eqb (slice_index s.words (w + 1)) 0) 1 (slice_index s.words (w + 1))) id after) × Tries v net w (slice_index s.words (w + 1)) after
take_keeps wires lists s id net w v h at some_part same claimed listed new =
    let n : ℕ = slice_index s.words (w + 1) in
    let lt = listed_below wires lists net w h.start listed in
    let is = view_at wires lists s id v h at in
    let found = finds wires lists s id w v h at lt in
    let long : w + 1 < length s.words = omega (arith, h.words, lt) in
    elim (cases_eq n 0) [
      | inl free ↦
          let more = λ (x : ℕ). sum_by-cons (on_of x) (pair_of net w) (own v).taken in
          let fits = wire_fits wires lists s.words w 1 (own v) (taking net w (own v)) long h.once (omega arith) refl refl (λ x ne. omega (arith, more x, on_other net w x ne)) (omega (arith, more w, on_itself net w, free)) in
          let holds = own_step wires lists (slice_set s.words (w + 1) 1) s id (taking net w) v h at some_part fits (taken_view lists net w v some_part is claimed listed new) in
          rw (hit n 0 1 free) (with_own (taking net w) v, holds, record { finds = found; taken = λ none. refl; lost = λ some_of. absurd (some_of free) })
      | inr held ↦
          let elsewhere = shared wires lists s id net w v h at lt claimed new held in
          let fits = wire_fits wires lists s.words w n (own v) (losing net w (own v)) long h.once (h.once w lt) refl refl (λ x ne. refl) refl in
          let holds = own_step wires lists (slice_set s.words (w + 1) n) s id (losing net w) v h at some_part fits (lost_view lists net w v some_part is claimed listed elsewhere) in
          rw (miss n 0 1 held) (with_own (losing net w) v, holds, record { finds = found; taken = λ none. absurd (held none); lost = λ some_of. (refl, subst (λ ls. IsShared ls net w) (sym same) elsewhere) })
    ]

-- ---- a wire is given back
-- the pass has no more pairs than it had
pub fewer : (net w n x : ℕ) (p : ClaimPart) → 1 ≤ takes_pair net w p → takes_pair n x (giving net w p) ≤ takes_pair n x p
fewer net w n x p held = omega (arith, without_sum (bit_of n x) net w p.taken held)

pub give_keeps : (wires : ℕ) (lists : List (List ℕ)) (s : State ℕ ClaimView) (id net w : ℕ) (v : ClaimView) → Holds wires lists s → get_elem? s.views id ≡ some v → 1 ≤ length v.parts → w < wires → 1 ≤ takes_pair net w (own v)
    → Holds wires lists (stepped_to s (w + 1) (either (eqb (slice_index s.words (w + 1)) 1) 0 (slice_index s.words (w + 1))) id (with_own (giving net w) v))
give_keeps wires lists s id net w v h at some_part lt held =
    let n : ℕ = slice_index s.words (w + 1) in
    let p : ClaimPart = own v in
    let long : w + 1 < length s.words = omega (arith, h.words, lt) in
    let one : n ≡ 1 = omega (arith, h.once w lt, h.taken w lt, held, pairs_on net w p.taken, own_at_most (takes_on w) no_part v.parts some_part, sum_at (total (takes_on w)) s.views id v at) in
    let less = λ (x : ℕ). without_sum (on_of x) net w p.taken held in
    let fits = wire_fits wires lists s.words w 0 p (giving net w p) long h.once (omega arith) refl refl (λ x ne. omega (arith, less x, on_other net w x ne)) (omega (arith, less w, on_itself net w, one)) in
    let view = view_stays lists (giving net w) v some_part (view_at wires lists s id v h at) (λ m x. fewer net w m x p held) (λ m x. omega arith) (λ m. omega arith) in
    rw (hit n 1 0 one) (own_step wires lists (slice_set s.words (w + 1) 0) s id (giving net w) v h at some_part fits view)
