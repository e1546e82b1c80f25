-- A net's wires are taken one by one, and given back.
use Rattle.std.proofs.Common.{◌≡◌, ℕ, zero, suc, ◌+◌, ◌-◌, ◌≤◌, ◌<◌, List, [], ◌∷◌, ◌++◌, Bool, true, false, length, take, drop, cond, eqb, eq-eqb, ne_eqb, slice_index, slice_index_or, refl, sym, ap, subst, arith, inl, inr, ◌∙◌}
use Rattle.std.proofs.lemmas.Bool.{cases_eq}
use Rattle.std.proofs.lemmas.List.{take_more, take-append-drop, drop_more, length-map}
use Rattle.std.proofs.lemmas.List.Sums.{sum_by-cons}
use Rattle.std.specs.List.{sum_by}
use Rattle.ice_base.specs.declared.number.WireNo.{WireNo}
use Rattle.ice_core.specs.Routes.{numbers, times}
use Rattle.ice_core.proofs.Sums.{is_at, at_itself, times_cons, times_append}
use Rattle.ice_words_hands.specs.Parts.{own_changed}
use Rattle.ice_words_hands.proofs.Parts.{own_is, own_sum}
use Rattle.ice_claim.specs.declared.view.Pair.{Pair}
use Rattle.ice_claim.specs.declared.view.ClaimPart.{ClaimPart}
use Rattle.ice_claim.specs.declared.view.ClaimView.{ClaimView}
use Rattle.ice_claim.specs.Claims.{total, claims_on, pair_of, takes_on, takes_pair, no_part, taking, losing, giving, without, own, with_own}
use Rattle.ice_claim.specs.Rule.{IsLone}
use Rattle.ice_claim.proofs.Counting.{bit_of, on_of}
use Rattle.ice_negotiate_defs.proofs.Wires.{numbered}
use Rattle.ice_claim_opening.specs.Workers.{took, took_until}
use Rattle.ice_claim_opening.proofs.Wires.{number_by_place}

-- ---- what is counted of the part
pub took_nets : (net : ℕ) (wires : List ℕ) (p : ClaimPart) → (took net wires p).nets ≡ p.nets
took_nets net [] p = refl
took_nets net (w ∷ wires) p = took_nets net wires (taking net w p)

pub took_ended : (net : ℕ) (wires : List ℕ) (p : ClaimPart) → (took net wires p).ended ≡ p.ended
took_ended net [] p = refl
took_ended net (w ∷ wires) p = took_ended net wires (taking net w p)

pub took_push : (net : ℕ) (wires : List ℕ) (w : ℕ) (p : ClaimPart) → took net (wires ++ w ∷ []) p ≡ taking net w (took net wires p)
took_push net [] w p = refl
took_push net (x ∷ wires) w p = took_push net wires w (taking net x p)

-- as often as the wires have it, for the net; nothing for another
abbrev pub taken_for : (net : ℕ) (wires : List ℕ) (n w : ℕ) → ℕ
taken_for net wires n w = cond (eqb n net) (times w wires) 0

one_for : (net x n w : ℕ) → bit_of n w (pair_of net x) ≡ cond (eqb n net) (is_at x w) 0
one_for net x n w = elim (cases_eq n net) [
  | inl same ↦ rw (eq-eqb n net same, eq-eqb net n (sym same)) refl
  | inr other ↦ rw (ne_eqb n net other, ne_eqb net n (λ e. other (sym e))) refl
]

split_for : (net x : ℕ) (wires : List ℕ) (n w : ℕ) → taken_for net (x ∷ wires) n w ≡ cond (eqb n net) (is_at x w) 0 + taken_for net wires n w
split_for net x wires n w = by_test (eqb n net)
  where
    by_test : (b : Bool) → cond b (times w (x ∷ wires)) 0 ≡ cond b (is_at x w) 0 + cond b (times w wires) 0
    by_test true = times_cons w x wires
    by_test false = refl

pub took_pairs : (net : ℕ) (wires : List ℕ) (p : ClaimPart) (n w : ℕ) → takes_pair n w (took net wires p) ≡ takes_pair n w p + taken_for net wires n w
took_pairs net [] p n w = none (eqb n net)
  where
    none : (b : Bool) → takes_pair n w p ≡ takes_pair n w p + cond b (times w []) 0
    none true = omega arith
    none false = omega arith
took_pairs net (x ∷ wires) p n w = omega (arith, took_pairs net wires (taking net x p) n w, sum_by-cons (bit_of n w) (pair_of net x) p.taken, one_for net x n w, split_for net x wires n w)

pub took_on : (net : ℕ) (wires : List ℕ) (p : ClaimPart) (w : ℕ) → takes_on w (took net wires p) ≡ takes_on w p + times w wires
took_on net [] p w = omega arith
took_on net (x ∷ wires) p w = omega (arith, took_on net wires (taking net x p) w, sum_by-cons (on_of w) (pair_of net x) p.taken, times_cons w x wires)

-- ---- the view
with_both : (g f : ClaimPart → ClaimPart) (v : ClaimView) → with_own g (with_own f v) ≡ with_own (λ p. g (f p)) v
with_both g f v = ap (λ (ps : List ClaimPart). record { lists = v.lists; main = v.main; worker = v.worker; out = v.out; splits = v.splits; parts = ps }) (both v.parts)
  where
    both : (ps : List ClaimPart) → own_changed g (own_changed f ps) ≡ own_changed (λ p. g (f p)) ps
    both [] = refl
    both (p ∷ ps) = refl

changed_same : (f g : ClaimPart → ClaimPart) (v : ClaimView) → ((p : ClaimPart) → f p ≡ g p) → with_own f v ≡ with_own g v
changed_same f g v same = ap (λ (ps : List ClaimPart). record { lists = v.lists; main = v.main; worker = v.worker; out = v.out; splits = v.splits; parts = ps }) (both v.parts)
  where
    both : (ps : List ClaimPart) → own_changed f ps ≡ own_changed g ps
    both [] = refl
    both (p ∷ ps) = ap (λ (q : ClaimPart). q ∷ ps) (same p)

pub own_with : (f : ClaimPart → ClaimPart) (v : ClaimView) → 1 ≤ length v.parts → own (with_own f v) ≡ f (own v)
own_with f v some_part = own_is no_part f v.parts some_part

-- nothing is taken yet
pub took_none : (net : ℕ) (wires : List ℕ) (v : ClaimView) → v ≡ with_own (took net (take 0 wires)) v
took_none net wires v = ap (λ (ps : List ClaimPart). record { lists = v.lists; main = v.main; worker = v.worker; out = v.out; splits = v.splits; parts = ps }) (unchanged v.parts)
  where
    unchanged : (ps : List ClaimPart) → ps ≡ own_changed (took net (take 0 wires)) ps
    unchanged [] = refl
    unchanged (p ∷ ps) = refl

-- one wire more is taken
pub took_more : (net : ℕ) (wires : List ℕ) (k : ℕ) (v now after : ClaimView) → k < length wires → now ≡ with_own (took net (take k wires)) v → after ≡ with_own (taking net (slice_index wires k)) now → after ≡ with_own (took net (take (k + 1) wires)) v
took_more net wires k v now after lt now_is after_is =
    let more = λ (p : ClaimPart). sym (ap (λ ws. took net ws p) (take_more wires k 0 lt) ∙ took_push net (take k wires) (slice_index wires k) p) in
    after_is ∙ (ap (with_own (taking net (slice_index wires k))) now_is ∙ (with_both (taking net (slice_index wires k)) (took net (take k wires)) v ∙ changed_same _ _ v more))

-- one is found taken
pub took_lost : (net : ℕ) (wires : List ℕ) (k w : ℕ) (v now after : ClaimView) → now ≡ with_own (took net (take k wires)) v → after ≡ with_own (losing net w) now → after ≡ with_own (took_until net (take k wires) w) v
took_lost net wires k w v now after now_is after_is = after_is ∙ (ap (with_own (losing net w)) now_is ∙ with_both (losing net w) (took net (take k wires)) v)

-- what is taken before a place has not the wire at it
pub new_there : (wires : List ℕ) (k : ℕ) → k < length wires → times (slice_index wires k) wires ≤ 1 → times (slice_index wires k) (take k wires) ≡ 0
new_there wires k lt once =
    let w : ℕ = slice_index wires k in
    let whole : times w (take k wires) + times w (drop k wires) ≡ times w wires = sym (times_append w (take k wires) (drop k wires)) ∙ ap (times w) (take-append-drop k wires) in
    let rest : times w (drop k wires) ≡ is_at w w + times w (drop (k + 1) wires) = ap (times w) (drop_at wires k lt) ∙ times_cons w w (drop (k + 1) wires) in
    omega (arith, whole, rest, at_itself w, once)
  where
    drop_at : (xs : List ℕ) (i : ℕ) → i < length xs → drop i xs ≡ slice_index xs i ∷ drop (i + 1) xs
    drop_at xs i le = drop_more xs i 0 le

pub there : (wires : List ℕ) (k : ℕ) → k < length wires → 1 ≤ times (slice_index wires k) wires
there wires k lt =
    let w : ℕ = slice_index wires k in
    let whole : times w (take k wires) + times w (drop k wires) ≡ times w wires = sym (times_append w (take k wires) (drop k wires)) ∙ ap (times w) (take-append-drop k wires) in
    let rest : times w (drop k wires) ≡ is_at w w + times w (drop (k + 1) wires) = ap (times w) (drop_more wires k 0 lt) ∙ times_cons w w (drop (k + 1) wires) in
    omega (arith, whole, rest, at_itself w)

-- totals of a view with a part
pub total_with : (k : ClaimPart → ℕ) (f : ClaimPart → ClaimPart) (v now : ClaimView) → 1 ≤ length v.parts → now ≡ with_own f v → total k now + k (own v) ≡ total k v + k (f (own v))
total_with k f v now some_part is = omega (arith, ap (total k) is, own_sum k no_part f v.parts some_part)

-- the pass doesn't have the next wire for the net, and where it has it at all it had it before
pub next_new : (net : ℕ) (wires : List ℕ) (k : ℕ) (v now : ClaimView) → 1 ≤ length v.parts → now ≡ with_own (took net (take k wires)) v → k < length wires → ((w : ℕ) → times w wires ≤ 1) → ((w : ℕ) → total (takes_pair net w) v ≡ 0)
    → total (takes_pair net (slice_index wires k)) now ≡ 0
next_new net wires k v now some_part is lt once none =
    let w : ℕ = slice_index wires k in
    let same : taken_for net (take k wires) net w ≡ times w (take k wires) = rw (eq-eqb net net refl) refl in
    omega (arith, total_with (takes_pair net w) (took net (take k wires)) v now some_part is, took_pairs net (take k wires) (own v) net w, same, new_there wires k lt (once w), none w)

pub next_on : (net : ℕ) (wires : List ℕ) (k : ℕ) (v now : ClaimView) → 1 ≤ length v.parts → now ≡ with_own (took net (take k wires)) v → k < length wires → ((w : ℕ) → times w wires ≤ 1) → total (takes_on (slice_index wires k)) now ≡ total (takes_on (slice_index wires k)) v
next_on net wires k v now some_part is lt once =
    let w : ℕ = slice_index wires k in
    omega (arith, total_with (takes_on w) (took net (take k wires)) v now some_part is, took_on net (take k wires) (own v) w, new_there wires k lt (once w))

pub next_claimed : (net n : ℕ) (wires : List ℕ) (k : ℕ) (v now : ClaimView) → 1 ≤ length v.parts → now ≡ with_own (took net (take k wires)) v → total (claims_on n) now ≡ total (claims_on n) v
next_claimed net n wires k v now some_part is = omega (arith, total_with (claims_on n) (took net (take k wires)) v now some_part is, ap (sum_by (is_at n)) (took_nets net (take k wires) (own v)))

-- ---- giving back
given_last : (net x w : ℕ) (p : ClaimPart) → giving net x (losing net w (taking net x p)) ≡ losing net w p
given_last net x w p = ap (λ (qs : List Pair). record { nets = p.nets; taken = qs; lost = pair_of net w ∷ p.lost; ended = p.ended }) newest
  where
    newest : without net x (pair_of net x ∷ p.taken) ≡ p.taken
    newest = rw (eq-eqb net net refl, eq-eqb x x refl) refl

-- one wire less is had
pub gave_one : (net : ℕ) (wires : List ℕ) (k w : ℕ) (v now after : ClaimView) → k < length wires → now ≡ with_own (took_until net (take (k + 1) wires) w) v → after ≡ with_own (giving net (slice_index wires k)) now → after ≡ with_own (took_until net (take k wires) w) v
gave_one net wires k w v now after lt now_is after_is =
    let x : ℕ = slice_index wires k in
    let less = λ (p : ClaimPart). ap (λ (q : ClaimPart). giving net x (losing net w q)) (ap (λ ws. took net ws p) (take_more wires k 0 lt) ∙ took_push net (take k wires) x p) ∙ given_last net x w (took net (take k wires) p) in
    after_is ∙ (ap (with_own (giving net x)) now_is ∙ (with_both (giving net x) (took_until net (take (k + 1) wires) w) v ∙ changed_same _ _ v less))

-- the pass has the wire that it gives back
pub has_one : (net : ℕ) (wires : List ℕ) (k w : ℕ) (v now : ClaimView) → 1 ≤ length v.parts → k < length wires → now ≡ with_own (took_until net (take (k + 1) wires) w) v → 1 ≤ takes_pair net (slice_index wires k) (own now)
has_one net wires k w v now some_part lt is =
    let x : ℕ = slice_index wires k in
    let mine : own now ≡ took_until net (take (k + 1) wires) w (own v) = ap own is ∙ own_with (took_until net (take (k + 1) wires) w) v some_part in
    let last : times x (take (k + 1) wires) ≡ times x (take k wires) + times x (x ∷ []) = ap (times x) (take_more wires k 0 lt) ∙ times_append x (take k wires) (x ∷ []) in
    let same : taken_for net (take (k + 1) wires) net x ≡ times x (take (k + 1) wires) = rw (eq-eqb net net refl) refl in
    omega (arith, ap (takes_pair net x) mine, took_pairs net (take (k + 1) wires) (own v) net x, same, last, times_cons x x [], at_itself x)

-- all is given back
pub gave_all : (net : ℕ) (wires : List ℕ) (w : ℕ) (v now : ClaimView) → now ≡ with_own (took_until net (take 0 wires) w) v → now ≡ with_own (losing net w) v
gave_all net wires w v now is = is ∙ changed_same _ _ v (λ p. refl)

-- ---- the same by the wires of a list
pub many_of : (list : List WireNo) → length (numbers list) ≡ length list
many_of list = length-map list (λ (w : WireNo). w.0)

pub lone_as : (f : ClaimPart → ClaimPart) (v after : ClaimView) → after ≡ with_own f v → IsLone v → IsLone after
lone_as f v after is lone = record { main = ap (λ (u : ClaimView). u.main) is ∙ lone.main; out = ap (λ (u : ClaimView). u.out) is ∙ lone.out }

no_way : false ≡ true → ⊥
no_way e = absurd (cc)

-- where a step fails that succeeds where nothing is had, something is
some_had : (b : Bool) (n : ℕ) → b ≡ false → (n ≡ 0 → b ≡ true) → 1 ≤ n
some_had b zero is one = absurd (no_way (sym is ∙ one refl))
some_had b (suc n) is one = omega arith

module _ (net : ℕ) (list : List WireNo) (k : ℕ) (v now : ClaimView) (parts : 1 ≤ length v.parts) (lt : k < length list) where
  abbrev pub its : ℕ
  its = (slice_index_or list k (numbered 0)).0

  short : k < length (numbers list)
  short = omega (arith, lt, many_of list)

  is_it : its ≡ slice_index (numbers list) k
  is_it = number_by_place list k lt

  pub wire_there : (ws : List ℕ) → ws ≡ numbers list → 1 ≤ times its ws
  wire_there ws same = subst (λ x. 1 ≤ times x ws) (sym is_it) (subst (λ us. 1 ≤ times (slice_index (numbers list) k) us) (sym same) (there (numbers list) k short))

  module _ (is : now ≡ with_own (took net (take k (numbers list))) v) where
    pub wire_new : ((w : ℕ) → times w (numbers list) ≤ 1) → ((w : ℕ) → total (takes_pair net w) v ≡ 0) → total (takes_pair net its) now ≡ 0
    wire_new once none = subst (λ x. total (takes_pair net x) now ≡ 0) (sym is_it) (next_new net (numbers list) k v now parts is short once none)

    pub wire_took : (after : ClaimView) → after ≡ with_own (taking net its) now → after ≡ with_own (took net (take (k + 1) (numbers list))) v
    wire_took after after_is = took_more net (numbers list) k v now after short is (subst (λ x. after ≡ with_own (taking net x) now) is_it after_is)

    pub wire_lost : (after : ClaimView) → after ≡ with_own (losing net its) now → after ≡ with_own (took_until net (take k (numbers list)) (slice_index (numbers list) k)) v
    wire_lost after after_is = took_lost net (numbers list) k (slice_index (numbers list) k) v now after is (subst (λ x. after ≡ with_own (losing net x) now) is_it after_is)

    pub wire_had : (b : Bool) → ((w : ℕ) → times w (numbers list) ≤ 1) → b ≡ false → (IsLone now → total (takes_on its) now ≡ 0 → b ≡ true) → IsLone v → 1 ≤ total (takes_on (slice_index (numbers list) k)) v
    wire_had b once lost lone alone =
        let had : 1 ≤ total (takes_on its) now = some_had b (total (takes_on its) now) lost (lone (lone_as (took net (take k (numbers list))) v now is alone)) in
        let here : 1 ≤ total (takes_on (slice_index (numbers list) k)) now = subst (λ x. 1 ≤ total (takes_on x) now) is_it had in
        omega (arith, here, next_on net (numbers list) k v now parts is short once)

module _ (net : ℕ) (list : List WireNo) (left w : ℕ) (v now : ClaimView) (parts : 1 ≤ length v.parts) (some_left : 0 < left) (lt : left ≤ length list) (is : now ≡ with_own (took_until net (take left (numbers list)) w) v) where
  abbrev pub last : ℕ
  last = (slice_index_or list (left - 1) (numbered 0)).0

  less : left - 1 < length list
  less = omega (arith, some_left, lt)

  less_of : left - 1 < length (numbers list)
  less_of = omega (arith, less, many_of list)

  back : left ≡ left - 1 + 1
  back = omega (arith, some_left)

  now_is : now ≡ with_own (took_until net (take (left - 1 + 1) (numbers list)) w) v
  now_is = subst (λ n. now ≡ with_own (took_until net (take n (numbers list)) w) v) back is

  last_is : last ≡ slice_index (numbers list) (left - 1)
  last_is = number_by_place list (left - 1) less

  pub last_had : 1 ≤ takes_pair net last (own now)
  last_had = subst (λ x. 1 ≤ takes_pair net x (own now)) (sym last_is) (has_one net (numbers list) (left - 1) w v now parts less_of now_is)

  pub last_gone : (after : ClaimView) → after ≡ with_own (giving net last) now → after ≡ with_own (took_until net (take (left - 1) (numbers list)) w) v
  last_gone after after_is = gave_one net (numbers list) (left - 1) w v now after less_of now_is (subst (λ x. after ≡ with_own (giving net x) now) last_is after_is)
