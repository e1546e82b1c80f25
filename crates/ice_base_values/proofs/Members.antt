-- Items of lists by their places, and of lists that are made of others.
use Rattle.std.proofs.Common.{◌≡◌, ℕ, zero, suc, ◌+◌, ◌<◌, Bool, true, false, cond, Some, List, [], ◌∷◌, ◌++◌, map, filter, find, length, get_or, inl, inr, refl, sym, ap, ◌∙◌, subst, true≢false, arith}
use Rattle.std.specs.Prelude.{◌⊎◌, All}
use Rattle.std.specs.List.{list_any, list_all}
use Rattle.std.specs.Map.{lookup}
use Rattle.std.proofs.lemmas.Bool.{and_parts, or_cases, or_left, or_right, false_from_ne_true}
use Rattle.std.proofs.lemmas.List.Elements.{All-head, All-tail}
use Rattle.std.proofs.lemmas.Option.{none-some, same_Some, slice_get-get_or}
use Rattle.ice_base_values.specs.Order.{At, Has}
use Rattle.ice_base_values.proofs.Together.{Has_head, Has_tail}

-- ---- one item more
pub Has_none : {X : Type 0} (x : X) → Has [] x → ⊥
Has_none x (i, at) = none-some x at

pub Has_cases : {X : Type 0} (x y : X) (xs : List X) → Has (x ∷ xs) y → (x ≡ y) ⊎ Has xs y
Has_cases x y xs (zero, at) = inl (same_Some x y at)
Has_cases x y xs (suc i, at) = inr (i, at)

-- what holds of each item
pub Has_all : {X : Type 0} (P : X → Type 0) (xs : List X) (x : X) → All P xs → Has xs x → P x
Has_all P [] x all has = absurd (Has_none x has)
Has_all P (y ∷ xs) x all has = by (Has_cases y x xs has) (Has_all P xs x (All-tail P y xs all))
  where
    by : (y ≡ x) ⊎ Has xs x → (Has xs x → P x) → P x
    by (inl here) more = subst P here (All-head P y xs all)
    by (inr there) more = more there

-- ---- two lists
pub At_left : {X : Type 0} (xs ys : List X) (i : ℕ) (x : X) → At xs i x → At (xs ++ ys) i x
At_left [] ys i x at = absurd (none-some x at)
At_left (y ∷ xs) ys zero x at = at
At_left (y ∷ xs) ys (suc i) x at = At_left xs ys i x at

none_before : (i : ℕ) → i ≡ 0 + i
none_before i = omega arith

one_before : (n i : ℕ) → suc (n + i) ≡ suc n + i
one_before n i = omega arith

pub At_right : {X : Type 0} (xs ys : List X) (i : ℕ) (x : X) → At ys i x → At (xs ++ ys) (length xs + i) x
At_right [] ys i x at = subst (λ n. At ys n x) (none_before i) at
At_right (y ∷ xs) ys i x at = subst (λ n. At (y ∷ xs ++ ys) n x) (one_before (length xs) i) (At_right xs ys i x at)

pub At_parts : {X : Type 0} (xs ys : List X) (i : ℕ) (x : X) → At (xs ++ ys) i x → At xs i x ⊎ ((j : ℕ) × (i ≡ length xs + j) × At ys j x)
At_parts [] ys i x at = inr (i, none_before i, at)
At_parts (y ∷ xs) ys zero x at = inl at
At_parts (y ∷ xs) ys (suc i) x at = deeper (At_parts xs ys i x at)
  where
    deeper : At xs i x ⊎ ((j : ℕ) × (i ≡ length xs + j) × At ys j x) → At xs i x ⊎ ((j : ℕ) × (suc i ≡ length (y ∷ xs) + j) × At ys j x)
    deeper (inl here) = inl here
    deeper (inr (j, e, there)) = inr (j, ap suc e ∙ one_before (length xs) j, there)

pub At_within : {X : Type 0} (xs : List X) (i : ℕ) (x : X) → At xs i x → i < length xs
At_within [] i x at = absurd (none-some x at)
At_within (y ∷ xs) zero x at = omega arith
At_within (y ∷ xs) (suc i) x at = let more : i < length xs = At_within xs i x at in omega arith

-- ---- maps and filters
pub At_map : {X Y : Type 0} (f : X → Y) (xs : List X) (i : ℕ) (x : X) → At xs i x → At (map f xs) i (f x)
At_map f [] i x at = absurd (none-some x at)
At_map f (y ∷ xs) zero x at = ap (λ z. Some (f z)) (same_Some y x at)
At_map f (y ∷ xs) (suc i) x at = At_map f xs i x at

pub map_At : {X Y : Type 0} (f : X → Y) (xs : List X) (i : ℕ) (y : Y) → At (map f xs) i y → (x : X) × At xs i x × (f x ≡ y)
map_At f [] i y at = absurd (none-some y at)
map_At f (x ∷ xs) zero y at = (x, refl, same_Some (f x) y at)
map_At f (x ∷ xs) (suc i) y at = map_At f xs i y at

pub Has_map : {X Y : Type 0} (f : X → Y) (xs : List X) (x : X) → Has xs x → Has (map f xs) (f x)
Has_map f xs x (i, at) = (i, At_map f xs i x at)

pub map_Has : {X Y : Type 0} (f : X → Y) (xs : List X) (y : Y) → Has (map f xs) y → (x : X) × Has xs x × (f x ≡ y)
map_Has f xs y (i, at) = let found = map_At f xs i y at in (found.0, (i, found.1), found.2)

pub Has_filter : {X : Type 0} (test : X → Bool) (xs : List X) (x : X) → Has xs x → test x ≡ true → Has (filter test xs) x
Has_filter test [] x has passes = absurd (Has_none x has)
Has_filter test (y ∷ xs) x has passes = by (Has_cases y x xs has) (λ more. Has_filter test xs x more passes)
  where
    kept : (b : Bool) → Has (filter test xs) x → Has (cond b (y ∷ filter test xs) (filter test xs)) x
    kept true more = Has_tail y x (filter test xs) more
    kept false more = more

    by : (y ≡ x) ⊎ Has xs x → (Has xs x → Has (filter test xs) x) → Has (filter test (y ∷ xs)) x
    by (inl e) more = rw (ap test e ∙ passes) (0, ap Some e)
    by (inr there) more = kept (test y) (more there)

pub filter_Has : {X : Type 0} (test : X → Bool) (xs : List X) (x : X) → Has (filter test xs) x → Has xs x × (test x ≡ true)
filter_Has test [] x has = absurd (Has_none x has)
filter_Has test (y ∷ xs) x has = by (test y) refl has (λ more. filter_Has test xs x more)
  where
    further : Has xs x × (test x ≡ true) → Has (y ∷ xs) x × (test x ≡ true)
    further both = (Has_tail y x xs both.0, both.1)

    here : (y ≡ x) ⊎ Has (filter test xs) x → test y ≡ true → (Has (filter test xs) x → Has xs x × (test x ≡ true)) → Has (y ∷ xs) x × (test x ≡ true)
    here (inl e) passes more = ((0, ap Some e), ap test (sym e) ∙ passes)
    here (inr there) passes more = further (more there)

    by : (b : Bool) → test y ≡ b → Has (cond b (y ∷ filter test xs) (filter test xs)) x → (Has (filter test xs) x → Has xs x × (test x ≡ true)) → Has (y ∷ xs) x × (test x ≡ true)
    by true passes kept more = here (Has_cases y x (filter test xs) kept) passes more
    by false fails kept more = further (more kept)

-- ---- what is found
pub find_Has : {X : Type 0} (test : X → Bool) (xs : List X) (x : X) → find test xs ≡ Some x → Has xs x × (test x ≡ true)
find_Has test [] x e = absurd (none-some x e)
find_Has test (y ∷ xs) x e = by (test y) refl e (find_Has test xs x)
  where
    by : (b : Bool) → test y ≡ b → cond b (Some y) (find test xs) ≡ Some x → (find test xs ≡ Some x → Has xs x × (test x ≡ true)) → Has (y ∷ xs) x × (test x ≡ true)
    by true passes is more = ((0, is), ap test (sym (same_Some y x is)) ∙ passes)
    by false fails is more = let found = more is in (Has_tail y x xs found.0, found.1)

pub Has_find : {X : Type 0} (test : X → Bool) (xs : List X) (x : X) → Has xs x → test x ≡ true → (y : X) × (find test xs ≡ Some y)
Has_find test [] x has passes = absurd (Has_none x has)
Has_find test (y ∷ xs) x has passes = by (test y) refl (Has_cases y x xs has) (λ there. Has_find test xs x there passes)
  where
    by : (b : Bool) → test y ≡ b → (y ≡ x) ⊎ Has xs x → (Has xs x → (z : _) × (find test xs ≡ Some z)) → (z : _) × (cond b (Some y) (find test xs) ≡ Some z)
    by true is either more = (y, refl)
    by false is (inl here) more = absurd (true≢false (sym passes ∙ ap test (sym here) ∙ is))
    by false is (inr there) more = more there

pub lookup_Has : {K V : Type 0} (test : K → Bool) (rows : List (K × V)) (v : V) → lookup test rows ≡ Some v → (k : K) × Has rows (k, v) × (test k ≡ true)
lookup_Has test [] v e = absurd (none-some v e)
lookup_Has test (row ∷ rows) v e = by (test row.0) refl e (lookup_Has test rows v)
  where
    by : (b : Bool) → test row.0 ≡ b → cond b (Some row.1) (lookup test rows) ≡ Some v → (lookup test rows ≡ Some v → (k : _) × Has rows (k, v) × (test k ≡ true))
        → (k : _) × Has (row ∷ rows) (k, v) × (test k ≡ true)
    by true passes is more = (row.0, (0, ap (λ w. Some (row.0, w)) (same_Some row.1 v is)), passes)
    by false fails is more = let found = more is in (found.0, Has_tail row (found.0, v) rows found.1, found.2)

pub Has_lookup : {K V : Type 0} (test : K → Bool) (rows : List (K × V)) (row : K × V) → Has rows row → test row.0 ≡ true → (v : V) × (lookup test rows ≡ Some v)
Has_lookup test [] row has passes = absurd (Has_none row has)
Has_lookup test (first ∷ rows) row has passes = by (test first.0) refl (Has_cases first row rows has) (λ more. Has_lookup test rows row more passes)
  where
    by : (b : Bool) → test first.0 ≡ b → (first ≡ row) ⊎ Has rows row → (Has rows row → (v : _) × (lookup test rows ≡ Some v)) → (v : _) × (cond b (Some first.1) (lookup test rows) ≡ Some v)
    by true is either more = (first.1, refl)
    by false is (inl e) more = absurd (true≢false (sym passes ∙ ap (λ r. test r.0) (sym e) ∙ is))
    by false is (inr there) more = more there

-- ---- items that pass tests
pub all_Has : {X : Type 0} (test : X → Bool) (xs : List X) (x : X) → list_all test xs ≡ true → Has xs x → test x ≡ true
all_Has test [] x all has = absurd (Has_none x has)
all_Has test (y ∷ xs) x all has = by (and_parts (test y) (list_all test xs) all) (Has_cases y x xs has) (all_Has test xs x)
  where
    by : (test y ≡ true) × (list_all test xs ≡ true) → (y ≡ x) ⊎ Has xs x → (list_all test xs ≡ true → Has xs x → test x ≡ true) → test x ≡ true
    by (first, rest) (inl here) more = ap test (sym here) ∙ first
    by (first, rest) (inr there) more = more rest there

pub any_Has : {X : Type 0} (test : X → Bool) (xs : List X) → list_any test xs ≡ true → (x : X) × Has xs x × (test x ≡ true)
any_Has test [] e = cc e
any_Has test (x ∷ xs) e = elim (or_cases (test x) (list_any test xs) e) [
  | inl here ↦ (x, Has_head x xs, here)
  | inr there ↦ let got = any_Has test xs there in (got.0, Has_tail x got.0 xs got.1, got.2)
]

pub Has_any : {X : Type 0} (test : X → Bool) (xs : List X) (x : X) (i : ℕ) → At xs i x → test x ≡ true → list_any test xs ≡ true
Has_any test [] x i at e = cc at
Has_any test (y ∷ xs) x zero at e = let s : y ≡ x = cc at in let f : test y ≡ true = cc in or_left (test y) (list_any test xs) f
Has_any test (y ∷ xs) x (suc i) at e = or_right (test y) (list_any test xs) (Has_any test xs x i at e)

pub any_none : {X : Type 0} (test : X → Bool) (xs : List X) → ((x : X) → Has xs x → test x ≡ true → ⊥) → list_any test xs ≡ false
any_none test xs never = false_from_ne_true (list_any test xs) (λ e. let got = any_Has test xs e in never got.0 got.1 got.2)

pub filter_none : {X : Type 0} (test : X → Bool) (xs : List X) → ((i : ℕ) (x : X) → At xs i x → test x ≡ true → ⊥) → filter test xs ≡ []
filter_none test [] never = refl
filter_none test (x ∷ xs) never =
    rw (false_from_ne_true (test x) (never 0 x refl)) (filter_none test xs (λ i y at. never (suc i) y at))

pub filter_one : {X : Type 0} (test : X → Bool) (xs : List X) (i : ℕ) (x : X) → At xs i x → test x ≡ true
    → ((j : ℕ) (y : X) → At xs j y → test y ≡ true → j ≡ i) → filter test xs ≡ x ∷ []
filter_one test [] i x at e only = cc at
filter_one test (y ∷ xs) zero x at e only =
    let s : y ≡ x = cc at in let f : test y ≡ true = cc in
    rw (f, filter_none test xs (λ j z at' e'. let n : suc j ≡ 0 = only (suc j) z at' e' in omega arith)) (ap (λ z. z ∷ []) s)
filter_one test (y ∷ xs) (suc i) x at e only =
    rw (false_from_ne_true (test y) (λ f. let n : 0 ≡ suc i = only 0 y refl f in omega arith))
    (filter_one test xs i x at e (λ j z at' e'. let n : suc j ≡ suc i = only (suc j) z at' e' in omega arith))

-- an item that is read by its place is there, whatever would be read behind the end
pub Has_read : {X : Type 0} (xs : List X) (k : ℕ) (d : X) → k < length xs → Has xs (get_or xs k d)
Has_read xs k d lt = (k, slice_get-get_or xs k d lt)
