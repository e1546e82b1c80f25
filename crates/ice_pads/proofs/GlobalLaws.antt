-- The globals that global buffers take: different ones, each of which can be taken.
use Rattle.std.proofs.Common.{◌≡◌, ℕ, ◌+◌, ◌<◌, ◌≤◌, ◌==◌, nat_eq, nat_lt, Bool, true, false, not, ◌&&◌, ◌||◌, Option, None, Some, List, [], ◌∷◌, ◌++◌, length, length-append, filter, if◌then◌else◌, refl, sym, ap, subst, ◌∙◌, arith, true≢false, rules, tests, Ok, Err}
use Rattle.std.specs.List.{find, list_any, list_all}
use Rattle.std.proofs.lemmas.List.Folds.{list_any-append, list_all-append}
use Rattle.std.proofs.lemmas.Bool.{and_parts}
use Rattle.ice_base.proofs.Keys.{nat_same, nat_self}
use Rattle.ice_chip.specs.Database.{Parts}
use Rattle.ice_pads.specs.declared.want.Pins.{Pins}
use Rattle.ice_pads.specs.declared.fault.PinFault.TheVariants.{TooManyGlobals}
use Rattle.ice_pads.specs.Globals.{numbers, is_global, globals, serves, Choices, or_first, picked, with_taken, is_control, choice, first_choices, other_choices, chosen_from, taken_by, taken_with}

-- ---- lists without doubles
abbrev pub Apart : List ℕ → Type 0
Apart [] = Unit {0}
Apart (x ∷ xs) = (list_any (nat_eq x) xs ≡ false) × Apart xs

abbrev pub AreDisjoint : List ℕ → List ℕ → Type 0
AreDisjoint xs ys = (m : ℕ) → list_any (nat_eq m) xs ≡ true → list_any (nat_eq m) ys ≡ false

pub turned : (m n : ℕ) → nat_eq m n ≡ false → nat_eq n m ≡ false
turned m n e = by (nat_eq n m) refl
  where
    by : (b : Bool) → nat_eq n m ≡ b → b ≡ false
    by true is = absurd (true≢false (sym (nat_self m) ∙ ap (nat_eq m) (sym (nat_same n m is)) ∙ e))
    by false is = refl

-- a number that is in neither of two parts
pub neither : (a b : Bool) → a ≡ false → b ≡ false → (a || b) ≡ false
neither false b e f = f
neither true b e f = absurd (true≢false e)

pub left_fails : (a b : Bool) → (a || b) ≡ false → a ≡ false
left_fails false b e = refl
left_fails true b e = absurd (true≢false e)

pub right_fails : (a b : Bool) → (a || b) ≡ false → b ≡ false
right_fails false b e = e
right_fails true b e = absurd (true≢false e)

pub right_holds : (a b : Bool) → b ≡ true → (a || b) ≡ true
right_holds true b e = refl
right_holds false b e = e

pub left_holds : (a b : Bool) → a ≡ true → (a || b) ≡ true
left_holds true b e = refl
left_holds false b e = absurd (true≢false (sym e))

pub filter_less : (p q : ℕ → Bool) (xs : List ℕ) → list_any p xs ≡ false → list_any p (filter q xs) ≡ false
filter_less p q [] none = refl
filter_less p q (x ∷ xs) none = by (q x) (filter_less p q xs (right_fails (p x) (list_any p xs) none))
  where
    by : (b : Bool) → list_any p (filter q xs) ≡ false → list_any p (if b then x ∷ filter q xs else filter q xs) ≡ false
    by true rest = neither (p x) (list_any p (filter q xs)) (left_fails (p x) (list_any p xs) none) rest
    by false rest = rest

pub filter_apart : (q : ℕ → Bool) (xs : List ℕ) → Apart xs → Apart (filter q xs)
filter_apart q [] apart = tt
filter_apart q (x ∷ xs) apart = by (q x) (filter_less (nat_eq x) q xs apart.0) (filter_apart q xs apart.1)
  where
    by : (b : Bool) → list_any (nat_eq x) (filter q xs) ≡ false → Apart (filter q xs) → Apart (if b then x ∷ filter q xs else filter q xs)
    by true none rest = (none, rest)
    by false none rest = rest

pub filter_all : (p q : ℕ → Bool) (xs : List ℕ) → list_all p xs ≡ true → list_all p (filter q xs) ≡ true
filter_all p q [] all = refl
filter_all p q (x ∷ xs) all = by (q x) (and_parts (p x) (list_all p xs) all).0 (filter_all p q xs (and_parts (p x) (list_all p xs) all).1)
  where
    by : (b : Bool) → p x ≡ true → list_all p (filter q xs) ≡ true → list_all p (if b then x ∷ filter q xs else filter q xs) ≡ true
    by true here rest = ap (λ c. c && list_all p (filter q xs)) here ∙ rest
    by false here rest = rest

-- what stays passes the test
pub filter_both : (p q : ℕ → Bool) (xs : List ℕ) → list_all p xs ≡ true → list_all (λ n. q n && p n) (filter q xs) ≡ true
filter_both p q [] all = refl
filter_both p q (x ∷ xs) all = by (q x) refl (and_parts (p x) (list_all p xs) all).0 (filter_both p q xs (and_parts (p x) (list_all p xs) all).1)
  where
    by : (b : Bool) → q x ≡ b → p x ≡ true → list_all (λ n. q n && p n) (filter q xs) ≡ true → list_all (λ n. q n && p n) (if b then x ∷ filter q xs else filter q xs) ≡ true
    by true is here rest = ap (λ c. (c && p x) && list_all (λ n. q n && p n) (filter q xs)) is ∙ ap (λ c. c && list_all (λ n. q n && p n) (filter q xs)) here ∙ rest
    by false is here rest = rest

-- ---- one number taken out
pub out : (n : ℕ) (xs : List ℕ) → list_any (nat_eq n) (filter (λ m. not (m == n)) xs) ≡ false
out n [] = refl
out n (x ∷ xs) = by (x == n) refl (out n xs)
  where
    by : (b : Bool) → (x == n) ≡ b → list_any (nat_eq n) (filter (λ m. not (m == n)) xs) ≡ false → list_any (nat_eq n) (if not b then x ∷ filter (λ m. not (m == n)) xs else filter (λ m. not (m == n)) xs) ≡ false
    by true is rest = rest
    by false is rest = neither (nat_eq n x) (list_any (nat_eq n) (filter (λ m. not (m == n)) xs)) (turned x n is) rest

stays : (n : ℕ) (xs : List ℕ) → list_any (nat_eq n) xs ≡ false → length xs ≤ length (filter (λ m. not (m == n)) xs)
stays n [] none = omega arith
stays n (x ∷ xs) none = by (x == n) refl (stays n xs (right_fails (nat_eq n x) (list_any (nat_eq n) xs) none))
  where
    by : (b : Bool) → (x == n) ≡ b → length xs ≤ length (filter (λ m. not (m == n)) xs) → length (x ∷ xs) ≤ length (if not b then x ∷ filter (λ m. not (m == n)) xs else filter (λ m. not (m == n)) xs)
    by true is rest = absurd (true≢false (sym (nat_self n) ∙ ap (nat_eq n) (sym (nat_same x n is)) ∙ left_fails (nat_eq n x) (list_any (nat_eq n) xs) none))
    by false is rest = omega arith

pub one_less : (n : ℕ) (xs : List ℕ) → Apart xs → length xs ≤ length (filter (λ m. not (m == n)) xs) + 1
one_less n [] apart = omega arith
one_less n (x ∷ xs) apart = by (x == n) refl (one_less n xs apart.1)
  where
    by : (b : Bool) → (x == n) ≡ b → length xs ≤ length (filter (λ m. not (m == n)) xs) + 1 → length (x ∷ xs) ≤ length (if not b then x ∷ filter (λ m. not (m == n)) xs else filter (λ m. not (m == n)) xs) + 1
    by true is rest =
        let all : length xs ≤ length (filter (λ m. not (m == n)) xs) = stays n xs (ap (λ m. list_any (nat_eq m) xs) (sym (nat_same x n is)) ∙ apart.0) in
        omega arith
    by false is rest = omega arith

-- ---- one number put last
push_apart : (xs : List ℕ) (n : ℕ) → Apart xs → list_any (nat_eq n) xs ≡ false → Apart (xs ++ n ∷ [])
push_apart [] n apart none = (refl, tt)
push_apart (x ∷ xs) n apart none = (
  list_any-append (nat_eq x) xs (n ∷ []) ∙ neither (list_any (nat_eq x) xs) (nat_eq x n || false) apart.0 (neither (nat_eq x n) false (turned n x (left_fails (nat_eq n x) (list_any (nat_eq n) xs) none)) refl),
  push_apart xs n apart.1 (right_fails (nat_eq n x) (list_any (nat_eq n) xs) none),
)

-- ---- what is taken so far
abbrev pub somes : List (Option ℕ) → List ℕ
somes [] = []
somes (None ∷ taken) = somes taken
somes (Some n ∷ taken) = n ∷ somes taken

abbrev pub nones : List (Option ℕ) → ℕ
nones [] = 0
nones (None ∷ taken) = 1 + nones taken
nones (Some n ∷ taken) = nones taken

somes_none : (taken : List (Option ℕ)) → somes (taken ++ None ∷ []) ≡ somes taken
somes_none [] = refl
somes_none (None ∷ taken) = somes_none taken
somes_none (Some n ∷ taken) = ap (λ xs. n ∷ xs) (somes_none taken)

somes_some : (taken : List (Option ℕ)) (n : ℕ) → somes (taken ++ Some n ∷ []) ≡ somes taken ++ n ∷ []
somes_some [] n = refl
somes_some (None ∷ taken) n = somes_some taken n
somes_some (Some m ∷ taken) n = ap (λ xs. m ∷ xs) (somes_some taken n)

nones_none : (taken : List (Option ℕ)) → nones (taken ++ None ∷ []) ≡ nones taken + 1
nones_none [] = refl
nones_none (None ∷ taken) = let e : nones (taken ++ None ∷ []) ≡ nones taken + 1 = nones_none taken in omega arith
nones_none (Some n ∷ taken) = nones_none taken

nones_some : (taken : List (Option ℕ)) (n : ℕ) → nones (taken ++ Some n ∷ []) ≡ nones taken
nones_some [] n = refl
nones_some (None ∷ taken) n = let e : nones (taken ++ Some n ∷ []) ≡ nones taken = nones_some taken n in omega arith
nones_some (Some m ∷ taken) n = nones_some taken n

-- the free globals and those that are taken are different ones that pass the test, and there are enough for those that are left
pub record AreChoices (test : ℕ → Bool) (choices : Choices) (left : ℕ) : Type 0 where
  pub free_apart : Apart choices.free
  pub free_pass : list_all test choices.free ≡ true
  pub taken_apart : Apart (somes choices.taken)
  pub taken_pass : list_all test (somes choices.taken) ≡ true
  pub disjoint : AreDisjoint (somes choices.taken) choices.free
  pub room : nones choices.taken + left ≤ length choices.free

pub passes : (test : ℕ → Bool) (xs : List ℕ) (n : ℕ) → list_all test xs ≡ true → list_any (nat_eq n) xs ≡ true → test n ≡ true
passes test [] n all any = absurd (true≢false (sym any))
passes test (x ∷ xs) n all any = by (nat_eq n x) refl (passes test xs n (and_parts (test x) (list_all test xs) all).1) any
  where
    by : (b : Bool) → nat_eq n x ≡ b → (list_any (nat_eq n) xs ≡ true → test n ≡ true) → (b || list_any (nat_eq n) xs) ≡ true → test n ≡ true
    by true is later any = ap test (nat_same n x is) ∙ (and_parts (test x) (list_all test xs) all).0
    by false is later any = later any

not_taken : (xs ys : List ℕ) (n : ℕ) → AreDisjoint xs ys → list_any (nat_eq n) ys ≡ true → list_any (nat_eq n) xs ≡ false
not_taken xs ys n disjoint in_ys = by (list_any (nat_eq n) xs) refl
  where
    by : (b : Bool) → list_any (nat_eq n) xs ≡ b → b ≡ false
    by true is = absurd (true≢false (sym in_ys ∙ disjoint n is))
    by false is = refl

-- none is taken
skip : (test : ℕ → Bool) (choices : Choices) (left : ℕ) → AreChoices test choices (left + 1) → AreChoices test (with_taken choices None) left
skip test choices left are = record {
  free_apart = are.free_apart;
  free_pass = are.free_pass;
  taken_apart = subst Apart (sym (somes_none choices.taken)) are.taken_apart;
  taken_pass = ap (list_all test) (somes_none choices.taken) ∙ are.taken_pass;
  disjoint = λ m is. are.disjoint m (ap (list_any (nat_eq m)) (sym (somes_none choices.taken)) ∙ is);
  room = let e : nones (choices.taken ++ None ∷ []) ≡ nones choices.taken + 1 = nones_none choices.taken in let le : nones choices.taken + (left + 1) ≤ length choices.free = are.room in omega arith;
}

-- one of the free ones is taken
take : (test : ℕ → Bool) (choices : Choices) (left n : ℕ) → AreChoices test choices (left + 1) → list_any (nat_eq n) choices.free ≡ true → AreChoices test (with_taken choices (Some n)) left
take test choices left n are free = record {
  free_apart = filter_apart (λ m. not (m == n)) choices.free are.free_apart;
  free_pass = filter_all test (λ m. not (m == n)) choices.free are.free_pass;
  taken_apart = subst Apart (sym (somes_some choices.taken n)) (push_apart (somes choices.taken) n are.taken_apart (not_taken (somes choices.taken) choices.free n are.disjoint free));
  taken_pass =
      ap (list_all test) (somes_some choices.taken n)
      ∙ list_all-append test (somes choices.taken) (n ∷ [])
      ∙ ap (λ b. b && (test n && true)) are.taken_pass
      ∙ ap (λ b. b && true) (passes test choices.free n are.free_pass free);
  disjoint = λ m is. by m (nat_eq m n) refl (sym (ap (list_any (nat_eq m)) (somes_some choices.taken n) ∙ list_any-append (nat_eq m) (somes choices.taken) (n ∷ [])) ∙ is);
  room =
      let e : nones (choices.taken ++ Some n ∷ []) ≡ nones choices.taken = nones_some choices.taken n in
      let le : nones choices.taken + (left + 1) ≤ length choices.free = are.room in
      let one : length choices.free ≤ length (filter (λ m. not (m == n)) choices.free) + 1 = one_less n choices.free are.free_apart in
      omega arith;
}
  where
    among : (a b : Bool) → b ≡ false → (a || (b || false)) ≡ true → a ≡ true
    among true b e f = refl
    among false false e f = absurd (true≢false (sym f))
    among false true e f = absurd (true≢false e)

    by : (m : ℕ) (b : Bool) → nat_eq m n ≡ b → (list_any (nat_eq m) (somes choices.taken) || (nat_eq m n || false)) ≡ true → list_any (nat_eq m) (filter (λ k. not (k == n)) choices.free) ≡ false
    by m true e is = ap (λ k. list_any (nat_eq k) (filter (λ k. not (k == n)) choices.free)) (nat_same m n e) ∙ out n choices.free
    by m false e is = filter_less (nat_eq m) (λ k. not (k == n)) choices.free (are.disjoint m (among (list_any (nat_eq m) (somes choices.taken)) (nat_eq m n) e is))

-- what is picked is free
pub found_in : (p : ℕ → Bool) (xs : List ℕ) (n : ℕ) → find p xs ≡ Some n → list_any (nat_eq n) xs ≡ true
found_in p [] n e = absurd (cc)
found_in p (x ∷ xs) n e = by (p x) (found_in p xs n) e
  where
    by : (b : Bool) → (find p xs ≡ Some n → list_any (nat_eq n) xs ≡ true) → (if b then Some x else find p xs) ≡ Some n → (nat_eq n x || list_any (nat_eq n) xs) ≡ true
    by true later e = let same : x ≡ n = cc in left_holds (nat_eq n x) (list_any (nat_eq n) xs) (ap (nat_eq n) same ∙ nat_self n)
    by false later e = right_holds (nat_eq n x) (list_any (nat_eq n) xs) (later e)

picked_in : (o : Option ℕ) (free : List ℕ) (n : ℕ) → (o ≡ Some n → list_any (nat_eq n) free ≡ true) → or_first o free ≡ Some n → list_any (nat_eq n) free ≡ true
picked_in (Some m) free n is e = is e
picked_in None [] n is e = absurd (cc)
picked_in None (m ∷ free) n is e = let same : m ≡ n = cc in left_holds (nat_eq n m) (list_any (nat_eq n) free) (ap (nat_eq n) same ∙ nat_self n)

choice_in : (parts : Parts) (p : Pins) (free : List ℕ) (n : ℕ) → choice parts p free ≡ Some n → list_any (nat_eq n) free ≡ true
choice_in parts p free n e = by (is_control p) e
  where
    by : (b : Bool) → (if b then picked parts p free else None) ≡ Some n → list_any (nat_eq n) free ≡ true
    by true e = picked_in (find (serves parts p) free) free n (found_in (serves parts p) free n) e
    by false e = absurd (cc)

first_are : (parts : Parts) (test : ℕ → Bool) (choices : Choices) (ps : List Pins) → AreChoices test choices (length ps) → AreChoices test (first_choices parts choices ps) 0 × (length (first_choices parts choices ps).taken ≡ length choices.taken + length ps)
first_are parts test choices [] are = (are, omega arith)
first_are parts test choices (p ∷ ps) are =
    let more : length (p ∷ ps) ≡ length ps + 1 = omega arith in
    let next = by (choice parts p choices.free) refl (subst (AreChoices test choices) more are) in
    let rest = first_are parts test (with_taken choices (choice parts p choices.free)) ps next in (
      rest.0,
      let long : length (choices.taken ++ choice parts p choices.free ∷ []) ≡ length choices.taken + 1 = length-append choices.taken (choice parts p choices.free ∷ []) in
          let e : length (first_choices parts (with_taken choices (choice parts p choices.free)) ps).taken ≡ length (choices.taken ++ choice parts p choices.free ∷ []) + length ps = rest.1 in
          omega arith,
    )
  where
    by : (o : Option ℕ) → choice parts p choices.free ≡ o → AreChoices test choices (length ps + 1) → AreChoices test (with_taken choices o) (length ps)
    by None is are = skip test choices (length ps) are
    by (Some n) is are = take test choices (length ps) n are (choice_in parts p choices.free n is)

-- ---- the others
-- what is neither taken nor free is not among all
outside : (taken : List (Option ℕ)) (free : List ℕ) (m : ℕ) → nones taken ≤ length free → list_any (nat_eq m) (somes taken) ≡ false → list_any (nat_eq m) free ≡ false → list_any (nat_eq m) (other_choices taken free) ≡ false
outside [] free m room not_taken not_free = refl
outside (Some n ∷ taken) free m room not_taken not_free =
    neither (nat_eq m n) (list_any (nat_eq m) (other_choices taken free)) (left_fails (nat_eq m n) (list_any (nat_eq m) (somes taken)) not_taken)
    (outside taken free m room (right_fails (nat_eq m n) (list_any (nat_eq m) (somes taken)) not_taken) not_free)
outside (None ∷ taken) [] m room not_taken not_free = absurd (omega arith)
outside (None ∷ taken) (n ∷ free) m room not_taken not_free =
    neither (nat_eq m n) (list_any (nat_eq m) (other_choices taken free)) (left_fails (nat_eq m n) (list_any (nat_eq m) free) not_free)
    (outside taken free m (omega arith) not_taken (right_fails (nat_eq m n) (list_any (nat_eq m) free) not_free))

pub others_apart : (taken : List (Option ℕ)) (free : List ℕ) → nones taken ≤ length free → Apart (somes taken) → Apart free → AreDisjoint (somes taken) free → Apart (other_choices taken free)
others_apart [] free room taken_apart free_apart disjoint = tt
others_apart (Some n ∷ taken) free room taken_apart free_apart disjoint = (
  outside taken free n room taken_apart.0 (disjoint n (left_holds (nat_eq n n) (list_any (nat_eq n) (somes taken)) (nat_self n))),
  others_apart taken free room taken_apart.1 free_apart (λ m is. disjoint m (right_holds (nat_eq m n) (list_any (nat_eq m) (somes taken)) is)),
)
others_apart (None ∷ taken) [] room taken_apart free_apart disjoint = absurd (omega arith)
others_apart (None ∷ taken) (n ∷ free) room taken_apart free_apart disjoint = (
  outside taken free n (omega arith) (not_taken (somes taken) (n ∷ free) n disjoint (left_holds (nat_eq n n) (list_any (nat_eq n) free) (nat_self n))) free_apart.0,
  others_apart taken free (omega arith) taken_apart free_apart.1 (λ m is. right_fails (nat_eq m n) (list_any (nat_eq m) free) (disjoint m is)),
)

pub both_hold : (a b : Bool) → a ≡ true → b ≡ true → (a && b) ≡ true
both_hold true b e f = f
both_hold false b e f = absurd (true≢false (sym e))

pub others_pass : (test : ℕ → Bool) (taken : List (Option ℕ)) (free : List ℕ) → nones taken ≤ length free → list_all test (somes taken) ≡ true → list_all test free ≡ true → list_all test (other_choices taken free) ≡ true
others_pass test [] free room taken_pass free_pass = refl
others_pass test (Some n ∷ taken) free room taken_pass free_pass =
    let parts = and_parts (test n) (list_all test (somes taken)) taken_pass in
    both_hold (test n) (list_all test (other_choices taken free)) parts.0 (others_pass test taken free room parts.1 free_pass)
others_pass test (None ∷ taken) [] room taken_pass free_pass = absurd (omega arith)
others_pass test (None ∷ taken) (n ∷ free) room taken_pass free_pass =
    let parts = and_parts (test n) (list_all test free) free_pass in
    both_hold (test n) (list_all test (other_choices taken free)) parts.0 (others_pass test taken free (omega arith) taken_pass parts.1)

pub others_long : (taken : List (Option ℕ)) (free : List ℕ) → length (other_choices taken free) ≡ length taken
others_long [] free = refl
others_long (Some n ∷ taken) free = let e : length (other_choices taken free) ≡ length taken = others_long taken free in omega arith
others_long (None ∷ taken) [] = let e : length (other_choices taken []) ≡ length taken = others_long taken [] in omega arith
others_long (None ∷ taken) (n ∷ free) = let e : length (other_choices taken free) ≡ length taken = others_long taken free in omega arith

-- ---- all
-- a global that can be taken, by its number
abbrev pub is_one : Parts → ℕ → Bool
is_one parts n = is_global parts n && nat_lt n 8

-- different globals, each of which passes the test, for each that chooses
pub record AreChosen (test : ℕ → Bool) (numbers : List ℕ) (count : ℕ) : Type 0 where
  pub apart : Apart numbers
  pub pass : list_all test numbers ≡ true
  pub long : length numbers ≡ count

pub eight_apart : Apart numbers
eight_apart = (refl, (refl, (refl, (refl, (refl, (refl, (refl, (refl, tt))))))))

pub eight_pass : list_all (λ n. nat_lt n 8) numbers ≡ true
eight_pass = refl

-- what is chosen from different globals that pass a test, where there are enough
pub all_chosen : (parts : Parts) (test : ℕ → Bool) (free : List ℕ) (ps : List Pins) → Apart free → list_all test free ≡ true → length ps ≤ length free → AreChosen test (chosen_from parts free ps) (length ps)
all_chosen parts test free ps apart pass enough =
    let begin : Choices = record { taken = []; free = free } in
    let begun : AreChoices test begin (length ps) = record {
      free_apart = apart;
      free_pass = pass;
      taken_apart = tt;
      taken_pass = refl;
      disjoint = λ m is. absurd (true≢false (sym is));
      room = omega arith;
    } in
    let first = first_are parts test begin ps begun in
    let ended = first_choices parts begin ps in
    let room : nones ended.taken ≤ length ended.free = let le : nones ended.taken + 0 ≤ length ended.free = first.0.room in omega arith in
    record {
      apart = others_apart ended.taken ended.free room first.0.taken_apart first.0.free_apart first.0.disjoint;
      pass = others_pass test ended.taken ended.free room first.0.taken_pass first.0.free_pass;
      long = let e : length ended.taken ≡ length begin.taken + length ps = first.1 in others_long ended.taken ended.free ∙ (let f : length ended.taken ≡ length ps = omega arith in f);
    }

-- all globals that can be taken are such
pub globals_apart : (parts : Parts) → Apart (globals parts)
globals_apart parts = filter_apart (is_global parts) numbers eight_apart

pub globals_pass : (parts : Parts) → list_all (is_one parts) (globals parts) ≡ true
globals_pass parts = filter_both (λ n. nat_lt n 8) (is_global parts) numbers eight_pass

-- ---- too few, or enough
pub filter_long : (p : ℕ → Bool) (xs : List ℕ) → length (filter p xs) ≤ length xs
filter_long p [] = omega arith
filter_long p (x ∷ xs) = by (p x) (filter_long p xs)
  where
    by : (b : Bool) → length (filter p xs) ≤ length xs → length (if b then x ∷ filter p xs else filter p xs) ≤ length (x ∷ xs)
    by true le = omega arith
    by false le = omega arith

pub few_globals : (parts : Parts) → length (globals parts) ≤ 8
few_globals parts = filter_long (is_global parts) numbers

pub too_few : (parts : Parts) (direct : List (Option ℕ)) (free : List ℕ) (ps : List Pins) (need have : ℕ) → need ≡ length ps → have ≡ length free → have < need → taken_with parts direct free ps ≡ Err (TooManyGlobals need have)
too_few parts direct free ps need have long few lt =
    let test : nat_lt (length free) (length ps) ≡ true = nat_below (length free) (length ps) (omega arith) in
    ap (λ b. if b then Err (TooManyGlobals (length ps) (length free)) else Ok (taken_by parts direct free ps)) test
    ∙ ap (λ n. Err (TooManyGlobals n (length free))) (sym long)
    ∙ ap (λ n. Err (TooManyGlobals need n)) (sym few)
  where
    nat_below : (a b : ℕ) → a < b → nat_lt a b ≡ true
    nat_below a b lt = search (rules, tests)

pub enough : (parts : Parts) (direct : List (Option ℕ)) (free : List ℕ) (ps : List Pins) → length ps ≤ length free → taken_with parts direct free ps ≡ Ok (taken_by parts direct free ps)
enough parts direct free ps le =
    let test : nat_lt (length free) (length ps) ≡ false = nat_above (length free) (length ps) le in
    ap (λ b. if b then Err (TooManyGlobals (length ps) (length free)) else Ok (taken_by parts direct free ps)) test
  where
    nat_above : (a b : ℕ) → b ≤ a → nat_lt a b ≡ false
    nat_above a b le = search (rules, tests)
