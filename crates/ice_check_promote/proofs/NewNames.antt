-- The names of the buffers' signals differ from all others, and from each other.
use Rattle.std.proofs.Common.{◌≡◌, ℕ, zero, suc, ◌+◌, ◌-◌, ◌<◌, ◌≤◌, Bool, true, false, List, [], ◌∷◌, ◌++◌, length, take, filter, get_or, All, ap, ◌∙◌, arith, if◌then◌else◌, bytes_eq, codes}
use Rattle.std.specs.Prelude.{min}
use Rattle.std.specs.List.{IsDistinct, AllByRecursion, range_with_len}
use Rattle.std.proofs.lemmas.List.{append_cancel_right, get_or-map, length-map}
use Rattle.std.proofs.lemmas.List.Elements.{All-head, All-tail}
use Rattle.std.proofs.lemmas.Map.Keys.{IsDistinct-head, IsDistinct-tail, IsDistinct-cons, IsDistinct-from_apart, apart_from_distinct}
use Rattle.std.proofs.lemmas.Option.{slice_get-get_or}
use Rattle.ice_base.specs.declared.number.SignalNo.{SignalNo}
use Rattle.ice_base.proofs.TextLines.{all_append}
use Rattle.ice_net.specs.NetlistData.{NetlistData}
use Rattle.ice_net.specs.Formed.{IsFormed, IsSingle}
use Rattle.ice_net.specs.Limits.{most_signals}
use Rattle.ice_net_additions.proofs.AddedNames.{differ, differing}
use Rattle.ice_check_promote.specs.Promoted.{buffered_name, is_promotable, promoted_clocks}
use Rattle.ice_check_promote.specs.Promotable.{IsPlainName, CanBePromoted}
use Rattle.ice_check_promote.specs.Filling.{buffer_names, CanTakeBuffers}
use Rattle.ice_check_promote.proofs.Clocks.{clock_below, few_clocks}
use Rattle.ice_check_promote.proofs.NewFormed.{promoted_formed}

-- ---- the clocks rise
-- the numbers rise, from k on
abbrev IsRising : ℕ → List ℕ → Type 0
IsRising k [] = Unit {0}
IsRising k (x ∷ xs) = (k ≤ x) × IsRising (x + 1) xs

lower : (k m : ℕ) (xs : List ℕ) → k ≤ m → IsRising m xs → IsRising k xs
lower k m [] le rising = tt
lower k m (x ∷ xs) le rising = let above = rising.0 in (omega (arith, le, above), rising.1)

kept_rising : (test : ℕ → Bool) (k more : ℕ) → IsRising k (filter test (range_with_len k more))
kept_rising test k zero = tt
kept_rising test k (suc more) = by (test k) (kept_rising test (k + 1) more)
  where
    by : (b : Bool) → IsRising (k + 1) (filter test (range_with_len (k + 1) more)) → IsRising k (if b then k ∷ filter test (range_with_len (k + 1) more) else filter test (range_with_len (k + 1) more))
    by true rising = (omega arith, rising)
    by false rising = lower k (k + 1) (filter test (range_with_len (k + 1) more)) (omega arith) rising

taken_rising : (k m : ℕ) (xs : List ℕ) → IsRising k xs → IsRising k (take m xs)
taken_rising k zero xs rising = tt
taken_rising k (suc m) [] rising = tt
taken_rising k (suc m) (x ∷ xs) rising = (rising.0, taken_rising (x + 1) m xs rising.1)

above : (k : ℕ) (xs : List ℕ) (j d : ℕ) → IsRising k xs → j < length xs → k ≤ get_or xs j d
above k [] j d rising lt = absurd (omega (arith, lt))
above k (x ∷ xs) zero d rising lt = rising.0
above k (x ∷ xs) (suc j) d rising lt =
    let first = rising.0 in
    let rest : x + 1 ≤ get_or xs j d = above (x + 1) xs j d rising.1 (omega (arith, lt)) in
    omega (arith, first, rest)

rises : (k : ℕ) (xs : List ℕ) (i j d : ℕ) → IsRising k xs → i < j → j < length xs → get_or xs i d < get_or xs j d
rises k [] i j d rising less lt = absurd (omega (arith, lt))
rises k (x ∷ xs) i zero d rising less lt = absurd (omega (arith, less))
rises k (x ∷ xs) zero (suc j) d rising less lt = let rest : x + 1 ≤ get_or xs j d = above (x + 1) xs j d rising.1 (omega (arith, lt)) in omega (arith, rest)
rises k (x ∷ xs) (suc i) (suc j) d rising less lt = rises (x + 1) xs i j d rising.1 (omega (arith, less)) (omega (arith, lt))

clocks_rise : (n : NetlistData) (free i j : ℕ) → i < j → j < length (promoted_clocks n free) → get_or (promoted_clocks n free) i 0 < get_or (promoted_clocks n free) j 0
clocks_rise n free i j less lt =
    rises 0 (promoted_clocks n free) i j 0
    (taken_rising 0 (min free (most_signals - length n.names)) (filter (is_promotable n) (range_with_len 0 (length n.names))) (kept_rising (is_promotable n) 0 (length n.names))) less lt

pub clocks_below : (n : NetlistData) (free : ℕ) → All (λ clock. clock < length n.names) (promoted_clocks n free)
clocks_below n free k d lt = clock_below n free k (get_or (promoted_clocks n free) k d) (slice_get-get_or (promoted_clocks n free) k d lt)

-- ---- names that differ

-- names that differ do so with the same end
ends_differ : (xs ys : List ℕ) → bytes_eq xs ys ≡ false → bytes_eq (buffered_name xs) (buffered_name ys) ≡ false
ends_differ xs ys f = differ (buffered_name xs) (buffered_name ys) (λ e. differing xs ys f (append_cancel_right xs ys (codes " gb") e))

news_apart : (n : NetlistData) (free : ℕ) → IsDistinct bytes_eq n.names → (i j : ℕ) (d : List ℕ) → i < j → j < length (buffer_names n (promoted_clocks n free))
    → bytes_eq (get_or (buffer_names n (promoted_clocks n free)) i d) (get_or (buffer_names n (promoted_clocks n free)) j d) ≡ false
news_apart n free once i j d less below =
    let clocks = promoted_clocks n free in
    let long = length-map clocks (λ clock. buffered_name (get_or n.names clock [])) in
    let lt : j < length clocks = omega (arith, below, long) in
    let lt' : i < length clocks = omega (arith, lt, less) in
    ap (λ x. bytes_eq x (get_or (buffer_names n clocks) j d)) (get_or-map (λ clock. buffered_name (get_or n.names clock [])) clocks i 0 d lt')
    ∙ ap (bytes_eq (buffered_name (get_or n.names (get_or clocks i 0) []))) (get_or-map (λ clock. buffered_name (get_or n.names clock [])) clocks j 0 d lt)
    ∙ ends_differ (get_or n.names (get_or clocks i 0) []) (get_or n.names (get_or clocks j 0) [])
    (apart_from_distinct bytes_eq n.names (get_or clocks i 0) (get_or clocks j 0) [] once (clocks_rise n free i j less lt) (clocks_below n free j 0 lt))

-- ---- lists without doubles, one behind the other

distinct_both : {X : Type 0} (e : X → X → Bool) (Q : X → Type 0) (xs ys : List X) → IsDistinct e xs → All Q xs → IsDistinct e ys → ((x : X) → Q x → AllByRecursion (λ y. e x y ≡ false) ys) → IsDistinct e (xs ++ ys)
distinct_both e Q [] ys left all right apart = right
distinct_both e Q (x ∷ xs) ys left all right apart =
    IsDistinct-cons e x (xs ++ ys) (all_append (λ y. e x y ≡ false) xs ys (IsDistinct-head e x xs left) (apart x (All-head Q x xs all)))
    (distinct_both e Q xs ys (IsDistinct-tail e x xs left) (All-tail Q x xs all) right apart)

plain_apart : (n : NetlistData) (name : List ℕ) → IsPlainName name → (clocks : List ℕ) → AllByRecursion (λ y. bytes_eq name y ≡ false) (buffer_names n clocks)
plain_apart n name plain [] = tt
plain_apart n name plain (clock ∷ clocks) = (differ name (buffered_name (get_or n.names clock [])) (plain (get_or n.names clock [])), plain_apart n name plain clocks)

-- ---- the premises of the whole
pub can_take : (n : NetlistData) (outer : List SignalNo) (free : ℕ) → IsFormed n → IsSingle n → CanBePromoted n → CanTakeBuffers n outer (promoted_clocks n free)
can_take n outer free formed single can = record {
  formed = formed;
  single = single;
  below = clocks_below n free;
  names = record {
    few =
        (let few = few_clocks n free in
        let names = formed.few in
        let long = length-map (promoted_clocks n free) (λ clock. buffered_name (get_or n.names clock [])) in
        omega (arith, few, names, long));
    once = distinct_both bytes_eq IsPlainName n.names (buffer_names n (promoted_clocks n free)) single.names can.plain
        (IsDistinct-from_apart bytes_eq (buffer_names n (promoted_clocks n free)) (news_apart n free single.names))
        (λ name plain. plain_apart n name plain (promoted_clocks n free));
  };
  made = promoted_formed n outer free formed can.room;
}
