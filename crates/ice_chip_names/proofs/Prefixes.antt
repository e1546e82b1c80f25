-- What stands behind a prefix, and the numbers of digits.
use Rattle.std.proofs.Common.{◌≡◌, ℕ, zero, suc, inl, inr, is_some, ◌<◌, ◌≤◌, ◌+◌, ◌-◌, ◌==◌, ◌&&◌, Bool, true, false, Option, None, Some, List, [], ◌∷◌, ◌++◌, refl, sym, ap, ◌∙◌, subst, arith, if◌then◌else◌, option_map, option_and_then, nat_eq, nat_le, nat_lt, le-leb, lt-ltb, leb-true, ltb-true, take, drop, length, MatchOption, IfSome}
use Rattle.std.specs.Prelude.{◌⊎◌}
use Rattle.std.proofs.lemmas.Slice.Eq.{strip_prefix_is}
use Rattle.std.proofs.lemmas.Bool.Decides.{Decides-eqb}
use Rattle.std.specs.Cmp.Lexicographic.{pointwise}
use Rattle.std.specs.Borrow.{Bor}
use Rattle.ice_chip_names.specs.Names.{digit, number_of_digit, lone_number, behind, number_behind}
use Rattle.ice_chip_names.specs.NameReaders.{leading_number, number_within, number_or, numbered_or}
use Rattle.std.proofs.lemmas.Bool.{and_parts}
use Rattle.ice_base.proofs.Keys.{nat_same, nat_self}

pub behind_append : (prefix rest : List ℕ) → behind prefix (prefix ++ rest) ≡ Some rest
behind_append [] rest = refl
behind_append (p ∷ prefix) rest = rw (nat_self p) (behind_append prefix rest)

if_some : {A : Type 0} (b : Bool) (o : Option A) (x : A) → (if b then o else None) ≡ Some x → (b ≡ true) × (o ≡ Some x)
if_some true o x e = (refl, e)
if_some false o x e = absurd (cc)

pub behind_told : (prefix name rest : List ℕ) → behind prefix name ≡ Some rest → name ≡ prefix ++ rest
behind_told [] name rest e = cc
behind_told (p ∷ prefix) [] rest e = absurd (cc)
behind_told (p ∷ prefix) (c ∷ name) rest e =
    let parts = if_some (c == p) (behind prefix name) rest e in
    let same : c ≡ p = nat_same c p parts.0 in
    let more : name ≡ prefix ++ rest = behind_told prefix name rest parts.1 in
    cc

none_of : {A : Type 0} (o : Option A) → ((x : A) → o ≡ Some x → ⊥) → o ≡ None
none_of None never = refl
none_of (Some x) never = absurd (never x refl)

-- what `strip_prefix` answers
pub behind_is : (prefix name : List ℕ) (r : Option (Bor (List ℕ)))
    → MatchOption r (pointwise nat_eq (take (length prefix) name) prefix ≡ false) (λ x. (pointwise nat_eq (take (length prefix) name) prefix ≡ true) × (x.now ≡ drop (length prefix) name) × (length x.now + length prefix ≡ length name))
    → option_map (λ rest. rest.now) r ≡ behind prefix name
behind_is prefix name r said = by r (strip_prefix_is Decides-eqb name prefix r said)
  where
    by : (r : Option (Bor (List ℕ))) → MatchOption r ((rest : List ℕ) → name ≡ prefix ++ rest → ⊥) (λ x. name ≡ prefix ++ x.now) → option_map (λ rest. rest.now) r ≡ behind prefix name
    by None never = sym (none_of (behind prefix name) (λ rest e. never rest (behind_told prefix name rest e)))
    by (Some x) e = sym (ap (behind prefix) e ∙ behind_append prefix x.now)

-- ---- the numbers of digits
taken : {A : Type 0} (b : Bool) (x y : A) → b ≡ true → (if b then x else y) ≡ x
taken true x y e = refl
taken false x y e = absurd (cc)

both_so : (a b : Bool) → a ≡ true → b ≡ true → (a && b) ≡ true
both_so true b a_so b_so = b_so
both_so false b a_so b_so = a_so

pub digit_is : (n : ℕ) → n < 10 → digit n ≡ 48 + n
digit_is n lt = omega arith

pub number_digit : (limit n : ℕ) → n < limit → limit ≤ 10 → number_of_digit limit (digit n) ≡ Some n
number_digit limit n lt le =
    let low : nat_le 48 (digit n) ≡ true = le-leb 48 (digit n) (omega arith) in
    let below : nat_lt (digit n - 48) limit ≡ true = lt-ltb (digit n - 48) limit (omega arith) in
    let same : digit n - 48 ≡ n = omega arith in
    taken (nat_le 48 (digit n) && nat_lt (digit n - 48) limit) (Some (digit n - 48)) None (both_so (nat_le 48 (digit n)) (nat_lt (digit n - 48) limit) low below)
    ∙ ap (λ k. Some k) same

pub number_told : (limit d n : ℕ) → limit ≤ 10 → number_of_digit limit d ≡ Some n → (n < limit) × (d ≡ digit n)
number_told limit d n le e =
    let parts = if_some (nat_le 48 d && nat_lt (d - 48) limit) (Some (d - 48)) n e in
    let so = and_parts (nat_le 48 d) (nat_lt (d - 48) limit) parts.0 in
    let low : 48 ≤ d = leb-true 48 d so.0 in
    let below : d - 48 < limit = ltb-true (d - 48) limit so.1 in
    let same : d - 48 ≡ n = cc in
    (omega arith, omega arith)

-- ---- a number behind a prefix
then_some : {A B : Type 0} (f : A → Option B) (o : Option A) (y : B) → option_and_then f o ≡ Some y → (x : A) × (o ≡ Some x) × (f x ≡ Some y)
then_some f None y e = absurd (cc)
then_some f (Some x) y e = (x, refl, e)

pub number_behind_read : (limit : ℕ) (prefix : List ℕ) (n : ℕ) → n < limit → limit ≤ 10 → number_behind limit prefix (prefix ++ digit n ∷ []) ≡ Some n
number_behind_read limit prefix n lt le = ap (option_and_then (lone_number limit)) (behind_append prefix (digit n ∷ [])) ∙ number_digit limit n lt le

lone_told : (limit : ℕ) (text : List ℕ) (n : ℕ) → limit ≤ 10 → lone_number limit text ≡ Some n → (n < limit) × (text ≡ digit n ∷ [])
lone_told limit [] n le e = absurd (cc)
lone_told limit (d ∷ []) n le e = let found = number_told limit d n le e in (found.0, ap (λ k. k ∷ []) found.1)
lone_told limit (d ∷ c ∷ text) n le e = absurd (cc)

pub number_behind_told : (limit : ℕ) (prefix name : List ℕ) (n : ℕ) → limit ≤ 10 → number_behind limit prefix name ≡ Some n → (n < limit) × (name ≡ prefix ++ digit n ∷ [])
number_behind_told limit prefix name n le e =
    let found = then_some (lone_number limit) (behind prefix name) n e in
    let number = lone_told limit found.0 n le found.2 in
    (number.0, behind_told prefix name found.0 found.1 ∙ ap (λ rest. prefix ++ rest) number.1)

-- ---- a number within a name
pub number_within_read : (limit : ℕ) (prefix : List ℕ) (n : ℕ) (rest : List ℕ) → n < limit → limit ≤ 10 → number_within limit prefix (prefix ++ digit n ∷ rest) ≡ Some (n, rest)
number_within_read limit prefix n rest lt le =
    ap (option_and_then (leading_number limit)) (behind_append prefix (digit n ∷ rest)) ∙ ap (option_map (λ k. (k, rest))) (number_digit limit n lt le)

mapped_some : {A B : Type 0} (f : A → B) (o : Option A) (y : B) → option_map f o ≡ Some y → (x : A) × (o ≡ Some x) × (f x ≡ y)
mapped_some f None y e = absurd (cc)
mapped_some f (Some x) y e = (x, refl, cc)

leading_told : (limit : ℕ) (text : List ℕ) (found : ℕ × List ℕ) → limit ≤ 10 → leading_number limit text ≡ Some found → (found.0 < limit) × (text ≡ digit found.0 ∷ found.1)
leading_told limit [] found le e = absurd (cc)
leading_told limit (d ∷ text) found le e =
    let known = mapped_some (λ (k : ℕ). (k, text)) (number_of_digit limit d) found e in
    let number = number_told limit d known.0 le known.1 in
    subst (λ (f : ℕ × List ℕ). (f.0 < limit) × (d ∷ text ≡ digit f.0 ∷ f.1)) known.2 (number.0, ap (λ k. k ∷ text) number.1)

pub number_within_told : (limit : ℕ) (prefix name : List ℕ) (found : ℕ × List ℕ) → limit ≤ 10 → number_within limit prefix name ≡ Some found → (found.0 < limit) × (name ≡ prefix ++ digit found.0 ∷ found.1)
number_within_told limit prefix name found le e =
    let known = then_some (leading_number limit) (behind prefix name) found e in
    let number = leading_told limit known.0 found le known.2 in
    (number.0, behind_told prefix name known.0 known.1 ∙ ap (λ rest. prefix ++ rest) number.1)

-- ---- numbers below a number
pub below_or_last : (k n : ℕ) → k < n + 1 → (k < n) ⊎ (k ≡ n)
below_or_last zero zero lt = inr refl
below_or_last (suc k) zero lt = absurd (omega arith)
below_or_last zero (suc n) lt = inl (omega arith)
below_or_last (suc k) (suc n) lt = elim (below_or_last k n (omega arith)) [ inl below ↦ inl (omega arith) | inr last ↦ inr (ap suc last) ]

-- all of them pass
abbrev pub each_number : (ℕ → Bool) → ℕ → Bool
each_number test zero = true
each_number test (suc n) = each_number test n && test n

pub number_passes : (test : ℕ → Bool) (n limit : ℕ) → n < limit → each_number test limit ≡ true → test n ≡ true
number_passes test n zero lt all = absurd (omega arith)
number_passes test n (suc limit) lt all =
    let both = and_parts (each_number test limit) (test limit) all in
    elim (below_or_last n limit (omega arith)) [
      | inl below ↦ number_passes test n limit below both.0
      | inr last ↦ ap test last ∙ both.1
    ]

-- ---- sets of names: a prefix and a digit below the limit
pub set_number : (limit : ℕ) (prefix name : List ℕ) → limit ≤ 10 → is_some (number_behind limit prefix name) ≡ true → (n : ℕ) × (n < limit) × (name ≡ prefix ++ digit n ∷ [])
set_number limit prefix name le is = by (number_behind limit prefix name) is (λ n e. number_behind_told limit prefix name n le e)
  where
    by : (o : Option ℕ) → is_some o ≡ true → ((n : ℕ) → o ≡ Some n → (n < limit) × (name ≡ prefix ++ digit n ∷ [])) → (n : ℕ) × (n < limit) × (name ≡ prefix ++ digit n ∷ [])
    by None none told = absurd (cc)
    by (Some n) some told = let found = told n refl in (n, found.0, found.1)

-- a test that each name of the set passes
pub set_passes : (test : List ℕ → Bool) (limit : ℕ) (prefix name : List ℕ) → limit ≤ 10 → each_number (λ n. test (prefix ++ digit n ∷ [])) limit ≡ true → is_some (number_behind limit prefix name) ≡ true → test name ≡ true
set_passes test limit prefix name le each is =
    let found = set_number limit prefix name le is in
    ap test found.2 ∙ number_passes (λ n. test (prefix ++ digit n ∷ [])) found.0 limit found.1 each

-- ---- what readers in a row tell
module _ {A : Type 0} (P : A → Type 0) where
  pub if_meets : (b : Bool) (x y : Option A) → (b ≡ true → IfSome x P) → IfSome y P → IfSome (if b then x else y) P
  if_meets true x y here there = here refl
  if_meets false x y here there = there

  module _ (limit : ℕ) (le : limit ≤ 10) (prefix name : List ℕ) where
    pub number_meets : (meaning : ℕ → A) → ((n : ℕ) → n < limit → name ≡ prefix ++ digit n ∷ [] → P (meaning n)) → IfSome (option_map meaning (number_behind limit prefix name)) P
    number_meets meaning here = by (number_behind limit prefix name) (λ n e. number_behind_told limit prefix name n le e)
      where
        by : (o : Option ℕ) → ((n : ℕ) → o ≡ Some n → (n < limit) × (name ≡ prefix ++ digit n ∷ [])) → IfSome (option_map meaning o) P
        by None told = tt
        by (Some n) told = let found = told n refl in here n found.0 found.1

    pub number_or_meets : (meaning : ℕ → A) (other : Option A) → ((n : ℕ) → n < limit → name ≡ prefix ++ digit n ∷ [] → P (meaning n)) → IfSome other P → IfSome (number_or meaning (number_behind limit prefix name) other) P
    number_or_meets meaning other here there = by (number_behind limit prefix name) (λ n e. number_behind_told limit prefix name n le e)
      where
        by : (o : Option ℕ) → ((n : ℕ) → o ≡ Some n → (n < limit) × (name ≡ prefix ++ digit n ∷ [])) → IfSome (number_or meaning o other) P
        by None told = there
        by (Some n) told = let found = told n refl in here n found.0 found.1

    pub numbered_or_meets : (meaning : ℕ → List ℕ → Option A) (other : Option A) → ((n : ℕ) (rest : List ℕ) → n < limit → name ≡ prefix ++ digit n ∷ rest → IfSome (meaning n rest) P) → IfSome other P
        → IfSome (numbered_or meaning (number_within limit prefix name) other) P
    numbered_or_meets meaning other here there = by (number_within limit prefix name) (λ found e. number_within_told limit prefix name found le e)
      where
        by : (o : Option (ℕ × List ℕ)) → ((found : ℕ × List ℕ) → o ≡ Some found → (found.0 < limit) × (name ≡ prefix ++ digit found.0 ∷ found.1)) → IfSome (numbered_or meaning o other) P
        by None told = there
        by (Some found) told = let known = told found refl in here found.0 found.1 known.0 known.1
