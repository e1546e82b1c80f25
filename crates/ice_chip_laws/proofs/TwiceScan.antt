-- A scan of names that keeps the first row of each key stops at the first two rows that clash.
use Rattle.std.proofs.Common.{◌≡◌, ℕ, Bool, true, false, cond, Option, None, Some, List, [], ◌∷◌, ◌++◌, find, option_map, refl, sym, ap, subst, ◌∙◌, true≢false, append_assoc, append-nil, arith}
use Rattle.std.specs.Prelude.{◌&&◌, Result, Ok, Err, All, AllPairs, if◌then◌else◌}
use Rattle.std.specs.Map.{lookup}
use Rattle.std.specs.Option.{option_or}
use Rattle.std.proofs.lemmas.Bool.{and_parts}
use Rattle.std.proofs.lemmas.List.Elements.{All-nil, All-cons, All-head, All-tail, All-append, All-weaker, All-push}
use Rattle.std.proofs.lemmas.List.Folds.{find-append}
use Rattle.std.proofs.lemmas.List.Kept.{AllPairs-cons}
use Rattle.std.proofs.lemmas.Option.{none-some, same_Some}
use Rattle.ice_chip.specs.Database.{WireName}
use Rattle.ice_chip.specs.WholeFaults.{unless_clash}
use Rattle.ice_chip_laws.specs.FirstTwo.{AreFirstTwo, AreLinesOfFirst}

-- ---- what is found
record Found {X : Type 0} (test : X → Bool) (xs : List X) (x : X) : Type 0 where
  front : List X
  rest : List X
  stand : xs ≡ front ++ x ∷ rest
  passes : test x ≡ true
  none : All (λ y. test y ≡ false) front

found : {X : Type 0} (test : X → Bool) (xs : List X) (x : X) → find test xs ≡ Some x → Found test xs x
found test [] x e = absurd (none-some x e)
found test (y ∷ xs) x e = by (test y) refl e (found test xs x)
  where
    here : y ≡ x → test y ≡ true → Found test (y ∷ xs) x
    here same is = record { front = []; rest = xs; stand = ap (λ z. z ∷ xs) same; passes = ap test (sym same) ∙ is; none = All-nil (λ z. test z ≡ false) }

    there : test y ≡ false → Found test xs x → Found test (y ∷ xs) x
    there is f = record { front = y ∷ f.front; rest = f.rest; stand = ap (λ zs. y ∷ zs) f.stand; passes = f.passes; none = All-cons (λ z. test z ≡ false) y f.front is f.none }

    by : (b : Bool) → test y ≡ b → cond b (Some y) (find test xs) ≡ Some x → (find test xs ≡ Some x → Found test xs x) → Found test (y ∷ xs) x
    by true is e more = here (same_Some y x e) is
    by false is e more = there is (more e)

none_found : {X : Type 0} (test : X → Bool) (xs : List X) → find test xs ≡ None → All (λ y. test y ≡ false) xs
none_found test [] e = All-nil (λ y. test y ≡ false)
none_found test (y ∷ xs) e = by (test y) refl e (none_found test xs)
  where
    by : (b : Bool) → test y ≡ b → cond b (Some y) (find test xs) ≡ None → (find test xs ≡ None → All (λ y. test y ≡ false) xs) → All (λ y. test y ≡ false) (y ∷ xs)
    by true is e more = absurd (none-some y (sym e))
    by false is e more = All-cons (λ y. test y ≡ false) y xs is (more e)

lookup_behind : {K V : Type 0} (test : K → Bool) (rows : List (K × V)) (row : K × V) → lookup test (rows ++ row ∷ []) ≡ option_or (lookup test rows) (cond (test row.0) (Some row.1) None)
lookup_behind test [] row = refl
lookup_behind test (r ∷ rows) row = by (test r.0) (lookup_behind test rows row)
  where
    by : (b : Bool) → lookup test (rows ++ row ∷ []) ≡ option_or (lookup test rows) (cond (test row.0) (Some row.1) None)
        → cond b (Some r.1) (lookup test (rows ++ row ∷ [])) ≡ option_or (cond b (Some r.1) (lookup test rows)) (cond (test row.0) (Some row.1) None)
    by true e = refl
    by false e = e

all_of : {X : Type 0} (P : X → Type 0) → ((x : X) → P x) → (xs : List X) → All P xs
all_of P each [] = All-nil P
all_of P each (x ∷ xs) = All-cons P x xs (each x) (all_of P each xs)

-- ---- rows of which no two are related
abbrev Pairs : {X : Type 0} → (X → X → Type 0) → List X → Type 0
Pairs R [] = Unit {0}
Pairs R (x ∷ xs) = All (R x) xs × Pairs R xs

all_pairs : {X : Type 0} (R : X → X → Type 0) (xs : List X) → Pairs R xs → AllPairs R xs
all_pairs R [] pairs = λ i j d less within. absurd (omega arith)
all_pairs R (x ∷ xs) pairs = AllPairs-cons R x xs pairs.0 (all_pairs R xs pairs.1)

pairs_more : {X : Type 0} (R : X → X → Type 0) (xs : List X) (y : X) → Pairs R xs → All (λ x. R x y) xs → Pairs R (xs ++ y ∷ [])
pairs_more R [] y pairs all = (All-nil (R y), pairs)
pairs_more R (x ∷ xs) y pairs all = (All-push (R x) xs y pairs.0 (All-head (λ x. R x y) x xs all), pairs_more R xs y pairs.1 (All-tail (λ x. R x y) x xs all))

pairs_from : {X : Type 0} (R : X → X → Type 0) (front : List X) (x : X) (rest : List X) → Pairs R (front ++ x ∷ rest) → All (R x) rest
pairs_from R [] x rest pairs = pairs.0
pairs_from R (y ∷ front) x rest pairs = pairs_from R front x rest pairs.1

-- ---- the scan
module _ {K V : Type 0} (same : K → K → Bool) (counts : WireName → Bool) (key : WireName → K) (value : WireName → V) (fits : V → WireName → Bool) (line : V → ℕ) where
  -- a row of a key that has one already fits that one, or clashes with it
  abbrev pub noted : List (K × V) → WireName → Option V → Result (List (K × V)) (ℕ × ℕ)
  noted seen n None = Ok (seen ++ (key n, value n) ∷ [])
  noted seen n (Some old) = if fits old n then Ok seen else Err (n.line, line old)

  -- other rows than those that count have no effect
  abbrev pub step : List (K × V) → WireName → Result (List (K × V)) (ℕ × ℕ)
  step seen n = if counts n then noted seen n (lookup (same (key n)) seen) else Ok seen

  abbrev pub scan : List (K × V) → List WireName → Option (ℕ × ℕ)
  scan seen [] = None
  scan seen (n ∷ ns) = unless_clash (step seen n) (λ more. scan more ns)

module _ {K V : Type 0} (same : K → K → Bool) (counts : WireName → Bool) (key : WireName → K) (value : WireName → V) (fits : V → WireName → Bool) (line : V → ℕ)
    (same_is : (a b : K) → same a b ≡ true → a ≡ b) (same_self : (a : K) → same a a ≡ true)
    (line_is : (n : WireName) → line (value n) ≡ n.line)
    (fits_on : (a b c : WireName) → fits (value a) b ≡ true → fits (value a) c ≡ true → fits (value b) c ≡ true)
    (Clash : WireName → WireName → Type 0)
    (clash_is : (a b : WireName) → counts a ≡ true → counts b ≡ true → key a ≡ key b → fits (value a) b ≡ false → Clash a b)
    (clash_has : (a b : WireName) → Clash a b → (counts a ≡ true) × (counts b ≡ true) × (key a ≡ key b) × (fits (value a) b ≡ false)) where
  abbrev notes : List (K × V) → WireName → Option V → Result (List (K × V)) (ℕ × ℕ)
  notes = noted same counts key value fits line

  abbrev scans : List (K × V) → List WireName → Option (ℕ × ℕ)
  scans = scan same counts key value fits line

  abbrev Apart : WireName → WireName → Type 0
  Apart a b = Clash a b → ⊥

  -- ---- what is known of the rows so far: the first row of each key
  abbrev of_key : K → WireName → Bool
  of_key k n = counts n && same k (key n)

  abbrev Knows : List (K × V) → List WireName → Type 0
  Knows seen before = (k : K) → lookup (same k) seen ≡ option_map value (find (of_key k) before)

  -- the first row of a key among one row more
  abbrev first_with : K → List WireName → WireName → Bool → Option V
  first_with k before n b = option_map value (option_or (find (of_key k) before) (cond b (Some n) None))

  one_more : (k : K) (before : List WireName) (n : WireName) → option_map value (find (of_key k) (before ++ n ∷ [])) ≡ first_with k before n (counts n && same k (key n))
  one_more k before n = ap (option_map value) (find-append (of_key k) before (n ∷ []))

  none_more : (k : K) (before : List WireName) (n : WireName) → option_map value (find (of_key k) before) ≡ first_with k before n false
  none_more k before n = by (find (of_key k) before)
    where
      by : (o : Option WireName) → option_map value o ≡ option_map value (option_or o None)
      by None = refl
      by (Some x) = refl

  knows_past : (seen : List (K × V)) (before : List WireName) (n : WireName) → counts n ≡ false → Knows seen before → Knows seen (before ++ n ∷ [])
  knows_past seen before n not known k =
      known k ∙ none_more k before n ∙ ap (λ c. first_with k before n (c && same k (key n))) (sym not) ∙ sym (one_more k before n)

  knows_new : (seen : List (K × V)) (before : List WireName) (n : WireName) → counts n ≡ true → Knows seen before → Knows (seen ++ (key n, value n) ∷ []) (before ++ n ∷ [])
  knows_new seen before n is known k =
      lookup_behind (same k) seen (key n, value n)
      ∙ ap (λ o. option_or o (cond (same k (key n)) (Some (value n)) None)) (known k)
      ∙ by (find (of_key k) before) (same k (key n))
      ∙ ap (λ c. first_with k before n (c && same k (key n))) (sym is)
      ∙ sym (one_more k before n)
    where
      by : (o : Option WireName) (b : Bool) → option_or (option_map value o) (cond b (Some (value n)) None) ≡ option_map value (option_or o (cond b (Some n) None))
      by None true = refl
      by None false = refl
      by (Some x) b = refl

  knows_fit : (seen : List (K × V)) (before : List WireName) (n : WireName) (old : V) → counts n ≡ true → lookup (same (key n)) seen ≡ Some old → Knows seen before → Knows seen (before ++ n ∷ [])
  knows_fit seen before n old is there known k =
      known k ∙ by (same k (key n)) refl ∙ ap (λ c. first_with k before n (c && same k (key n))) (sym is) ∙ sym (one_more k before n)
    where
      kept : (o : Option WireName) → option_map value o ≡ Some old → option_map value o ≡ option_map value (option_or o (Some n))
      kept None e = absurd (none-some old e)
      kept (Some x) e = refl

      by : (b : Bool) → same k (key n) ≡ b → option_map value (find (of_key k) before) ≡ first_with k before n b
      by true at = kept (find (of_key k) before) (sym (known k) ∙ ap (λ q. lookup (same q) seen) (same_is k (key n) at) ∙ there)
      by false at = none_more k before n

  -- ---- no two of the rows so far clash, with one row more
  clash_passes : (a b : WireName) → Clash a b → of_key (key b) a ≡ true
  clash_passes a b clash =
      let has = clash_has a b clash in
      ap (λ c. c && same (key b) (key a)) has.0 ∙ ap (same (key b)) has.2 ∙ same_self (key b)

  fails_apart : (n : WireName) (rows : List WireName) → All (λ x. of_key (key n) x ≡ false) rows → All (λ x. Apart x n) rows
  fails_apart n rows fail = All-weaker (λ x. of_key (key n) x ≡ false) (λ x. Apart x n) (λ x fails clash. true≢false (sym (clash_passes x n clash) ∙ fails)) rows fail

  pairs_past : (before : List WireName) (n : WireName) → counts n ≡ false → Pairs Apart before → Pairs Apart (before ++ n ∷ [])
  pairs_past before n not pairs = pairs_more Apart before n pairs (all_of (λ x. Apart x n) (λ x clash. true≢false (sym (clash_has x n clash).1 ∙ not)) before)

  pairs_new : (before : List WireName) (n : WireName) → find (of_key (key n)) before ≡ None → Pairs Apart before → Pairs Apart (before ++ n ∷ [])
  pairs_new before n none pairs = pairs_more Apart before n pairs (fails_apart n before (none_found (of_key (key n)) before none))

  -- the first row of the key, which counts
  first_counts : (n first : WireName) → of_key (key n) first ≡ true → (counts first ≡ true) × (key first ≡ key n)
  first_counts n first passes =
      let parts = and_parts (counts first) (same (key n) (key first)) passes in
      (parts.0, sym (same_is (key n) (key first) parts.1))

  fit_apart : (n first x : WireName) → of_key (key n) first ≡ true → fits (value first) n ≡ true → Apart first x → Apart x n
  fit_apart n first x passes fit apart clash = by (fits (value first) x) refl
    where
      by : (b : Bool) → fits (value first) x ≡ b → ⊥
      by true is = true≢false (sym (fits_on first x n is fit) ∙ (clash_has x n clash).3)
      by false is =
          let one = first_counts n first passes in
          let has = clash_has x n clash in
          apart (clash_is first x one.0 has.0 (one.1 ∙ sym has.2) is)

  pairs_fit : (before : List WireName) (n first : WireName) → Found (of_key (key n)) before first → fits (value first) n ≡ true → Pairs Apart before → Pairs Apart (before ++ n ∷ [])
  pairs_fit before n first f fit pairs =
      let behind : All (Apart first) f.rest = pairs_from Apart f.front first f.rest (subst (Pairs Apart) f.stand pairs) in
      let later : All (λ x. Apart x n) f.rest = All-weaker (Apart first) (λ x. Apart x n) (λ x. fit_apart n first x f.passes fit) f.rest behind in
      let itself : Apart first n = λ clash. true≢false (sym fit ∙ (clash_has first n clash).3) in
      let all : All (λ x. Apart x n) (f.front ++ first ∷ f.rest) =
      All-append (λ x. Apart x n) f.front (first ∷ f.rest) (fails_apart n f.front f.none) (All-cons (λ x. Apart x n) first f.rest itself later) in
      pairs_more Apart before n pairs (subst (All (λ x. Apart x n)) (sym f.stand) all)

  -- ---- the first two rows that clash
  clash_first : (before : List WireName) (n first : WireName) (ns : List WireName) → Found (of_key (key n)) before first → counts n ≡ true → fits (value first) n ≡ false → Pairs Apart before
      → AreFirstTwo Clash (before ++ n ∷ ns) (n.line, line (value first))
  clash_first before n first ns f is unfit pairs =
      let one = first_counts n first f.passes in
      record {
        front = f.front;
        one = first;
        middle = f.rest;
        other = n;
        rest = ns;
        stand = ap (λ rows. rows ++ n ∷ ns) f.stand ∙ append_assoc f.front (first ∷ f.rest) (n ∷ ns);
        clashing = clash_is first n one.0 is one.1 unfit;
        on_lines = ap (λ l. (n.line, l)) (line_is first);
        none_before = subst (AllPairs Apart) f.stand (all_pairs Apart before pairs);
        none_earlier = fails_apart n f.front f.none;
      }

  -- what is said of the rows with one more, where the scan goes on or stops
  abbrev Further : List WireName → WireName → List WireName → Type 0
  Further before n ns = (more : List (K × V)) → Knows more (before ++ n ∷ []) → Pairs Apart (before ++ n ∷ []) → AreLinesOfFirst Clash ((before ++ n ∷ []) ++ ns) (scans more ns)

  abbrev Said : List WireName → WireName → List WireName → Result (List (K × V)) (ℕ × ℕ) → Type 0
  Said before n ns r = AreLinesOfFirst Clash (before ++ n ∷ ns) (unless_clash r (λ more. scans more ns))

  goes_on : (before : List WireName) (n : WireName) (ns : List WireName) (more : List (K × V)) → Further before n ns → Knows more (before ++ n ∷ []) → Pairs Apart (before ++ n ∷ []) → Said before n ns (Ok more)
  goes_on before n ns more further now later = subst (λ names. AreLinesOfFirst Clash names (scans more ns)) (append_assoc before (n ∷ []) ns) (further more now later)

  scan_from : (ns : List WireName) (seen : List (K × V)) (before : List WireName) → Knows seen before → Pairs Apart before → AreLinesOfFirst Clash (before ++ ns) (scans seen ns)
  scan_from [] seen before known pairs = subst (AllPairs Apart) (sym (append-nil before)) (all_pairs Apart before pairs)
  scan_from (n ∷ ns) seen before known pairs = by_counts (counts n) refl (λ more now later. scan_from ns more (before ++ n ∷ []) now later)
    where
      by_fits : (b : Bool) (first : WireName) → Found (of_key (key n)) before first → counts n ≡ true → lookup (same (key n)) seen ≡ Some (value first) → fits (value first) n ≡ b → Further before n ns
          → Said before n ns (if b then Ok seen else Err (n.line, line (value first)))
      by_fits true first f is there fit further = goes_on before n ns seen further (knows_fit seen before n (value first) is there known) (pairs_fit before n first f fit pairs)
      by_fits false first f is there unfit further = clash_first before n first ns f is unfit pairs

      by_first : (o : Option WireName) → find (of_key (key n)) before ≡ o → counts n ≡ true → lookup (same (key n)) seen ≡ option_map value o → Further before n ns → Said before n ns (notes seen n (option_map value o))
      by_first None none is there further = goes_on before n ns (seen ++ (key n, value n) ∷ []) further (knows_new seen before n is known) (pairs_new before n none pairs)
      by_first (Some first) at is there further = by_fits (fits (value first) n) first (found (of_key (key n)) before first at) is there refl further

      by_counts : (b : Bool) → counts n ≡ b → Further before n ns → Said before n ns (if b then notes seen n (lookup (same (key n)) seen) else Ok seen)
      by_counts true is further = subst (λ o. Said before n ns (notes seen n o)) (sym (known (key n))) (by_first (find (of_key (key n)) before) refl is (known (key n)) further)
      by_counts false not further = goes_on before n ns seen further (knows_past seen before n not known) (pairs_past before n not pairs)

  pub scan_is_first : (names : List WireName) → AreLinesOfFirst Clash names (scans [] names)
  scan_is_first names = scan_from names [] [] (λ k. refl) tt
