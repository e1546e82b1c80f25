-- Numbers of names: each name that is there keeps its number, and no other has it.
use Rattle.std.proofs.Common.{◌≡◌, ℕ, arith, ◌+◌, ◌==◌, ◌&&◌, ◌||◌, Bool, true, false, not, cond, if◌then◌else◌, List, [], ◌∷◌, ◌++◌, map, Some, bytes_eq, refl, sym, ap, ◌∙◌, true≢false}
use Rattle.std.specs.Map.{lookup}
use Rattle.std.specs.List.{list_any, position_or_len}
use Rattle.ice_base.specs.declared.number.TileAt.{TileAt}
use Rattle.ice_base.specs.Lists.{with_name, number_of_name}
use Rattle.ice_chip.specs.declared.placed.PlacedName.{PlacedName}
use Rattle.ice_chip.specs.declared.index.NumberedName.{NumberedName}
use Rattle.ice_chip.specs.Database.{same_tile}
use Rattle.ice_chip.specs.WholeFaults.{same_placed}
use Rattle.ice_chip.specs.Lookups.{placed_at}
use Rattle.ice_chip.specs.Indices.{Numbered, same_numbered, with_first, firsts, with_named, numbered}
use Rattle.ice_base.proofs.Keys.{nat_same, nat_self, bytes_same, bytes_self}
use Rattle.ice_chip.proofs.Keys.{numbered_same}
use Rattle.ice_chip.proofs.Firsts.{lookup-firsts}

abbrev pub is_known : List (List ℕ) → List ℕ → Bool
is_known names name = list_any (bytes_eq name) names

-- ---- a name that is there keeps its number
count : {X : Type 0} (p : X → Bool) (b : Bool) (xs : List X) → (if not b then 1 + position_or_len p xs else 0) ≡ cond b 0 (1 + position_or_len p xs)
count p true xs = refl
count p false xs = refl

or_true : (a : Bool) → (a || true) ≡ true
or_true true = refl
or_true false = refl

known_after : (name other : List ℕ) (names : List (List ℕ)) → is_known names name ≡ true → is_known (names ++ other ∷ []) name ≡ true
known_after name other [] e = absurd (true≢false (sym e))
known_after name other (x ∷ xs) e = by (bytes_eq name x) e (known_after name other xs)
  where
    by : (b : Bool) → (b || is_known xs name) ≡ true → (is_known xs name ≡ true → is_known (xs ++ other ∷ []) name ≡ true) → (b || is_known (xs ++ other ∷ []) name) ≡ true
    by true e more = refl
    by false e more = more e

number_kept : (name other : List ℕ) (names : List (List ℕ)) → is_known names name ≡ true → number_of_name (names ++ other ∷ []) name ≡ number_of_name names name
number_kept name other [] e = absurd (true≢false (sym e))
number_kept name other (x ∷ xs) e = by (bytes_eq name x) e (number_kept name other xs)
  where
    by : (b : Bool) → (b || is_known xs name) ≡ true → (is_known xs name ≡ true → number_of_name (xs ++ other ∷ []) name ≡ number_of_name xs name)
        → (if not b then 1 + number_of_name (xs ++ other ∷ []) name else 0) ≡ (if not b then 1 + number_of_name xs name else 0)
    by true e more = refl
    by false e more = ap (λ n. 1 + n) (more e)

number_of_last : (name : List ℕ) (names : List (List ℕ)) → number_of_name (names ++ name ∷ []) name ≡ number_of_name names name
number_of_last name [] = rw (bytes_self name) refl
number_of_last name (x ∷ xs) = ap (λ n. if not (bytes_eq name x) then 1 + n else 0) (number_of_last name xs)

known_last : (name : List ℕ) (names : List (List ℕ)) → is_known (names ++ name ∷ []) name ≡ true
known_last name [] = rw (bytes_self name) refl
known_last name (x ∷ xs) = ap (λ b. bytes_eq name x || b) (known_last name xs) ∙ or_true (bytes_eq name x)

-- the names with a name more
text_known : (name : List ℕ) (names : List (List ℕ)) → is_known (with_name names name) name ≡ true
text_known name names = by (is_known names name) refl
  where
    by : (b : Bool) → is_known names name ≡ b → is_known (if b then names else names ++ name ∷ []) name ≡ true
    by true e = e
    by false e = known_last name names

text_number : (name : List ℕ) (names : List (List ℕ)) → number_of_name (with_name names name) name ≡ number_of_name names name
text_number name names = by (is_known names name)
  where
    by : (b : Bool) → number_of_name (if b then names else names ++ name ∷ []) name ≡ number_of_name names name
    by true = refl
    by false = number_of_last name names

text_keeps : (name other : List ℕ) (names : List (List ℕ)) → is_known names name ≡ true
    → (is_known (with_name names other) name ≡ true) × (number_of_name (with_name names other) name ≡ number_of_name names name)
text_keeps name other names known = by (is_known names other)
  where
    by : (b : Bool) → (is_known (if b then names else names ++ other ∷ []) name ≡ true) × (number_of_name (if b then names else names ++ other ∷ []) name ≡ number_of_name names name)
    by true = (known, refl)
    by false = (known_after name other names known, number_kept name other names known)

-- all the names of these rows
later_keeps : (name : List ℕ) (s : Numbered) (rows : List (PlacedName × ℕ)) → is_known s.texts name ≡ true
    → (is_known (numbered s rows).texts name ≡ true) × (number_of_name (numbered s rows).texts name ≡ number_of_name s.texts name)
later_keeps name s [] known = (known, refl)
later_keeps name s (row ∷ rows) known =
    let now = text_keeps name row.0.name s.texts known in
    let later = later_keeps name (with_named s row) rows now.0 in
    (later.0, later.1 ∙ now.1)

-- ---- no other name has the number of a name that is there
less_sym : (a b : List ℕ) → bytes_eq a b ≡ false → bytes_eq b a ≡ false
less_sym a b e = by (bytes_eq b a) refl
  where
    by : (c : Bool) → bytes_eq b a ≡ c → c ≡ false
    by false is = refl
    by true is = sym (bytes_self b) ∙ ap (λ x. bytes_eq x b) (bytes_same b a is) ∙ e

-- a test of numbers whose outcome is known
differ : (a b : ℕ) → (a ≡ b → ⊥) → (a == b) ≡ false
differ a b other = by (a == b) refl
  where
    by : (c : Bool) → (a == b) ≡ c → c ≡ false
    by false is = refl
    by true is = absurd (other (nat_same a b is))

one_up : (a b : ℕ) → (1 + a == 1 + b) ≡ (a == b)
one_up a b = by (a == b) refl
  where
    by : (c : Bool) → (a == b) ≡ c → (1 + a == 1 + b) ≡ c
    by true is = ap (λ x. 1 + x == 1 + b) (nat_same a b is) ∙ nat_self (1 + b)
    by false is = differ (1 + a) (1 + b) (λ e. let same : b ≡ a = omega arith in true≢false (sym (nat_self b) ∙ ap (λ x. x == b) same ∙ is))

numbers_apart : (name other : List ℕ) (names : List (List ℕ)) → is_known names other ≡ true → (number_of_name names name == number_of_name names other) ≡ bytes_eq name other
numbers_apart name other [] e = absurd (true≢false (sym e))
numbers_apart name other (x ∷ xs) e = by (bytes_eq name x) (bytes_eq other x) refl refl e (numbers_apart name other xs)
  where
    by : (b c : Bool) → bytes_eq name x ≡ b → bytes_eq other x ≡ c → (c || is_known xs other) ≡ true → (is_known xs other ≡ true → (number_of_name xs name == number_of_name xs other) ≡ bytes_eq name other)
        → ((if not b then 1 + number_of_name xs name else 0) == (if not c then 1 + number_of_name xs other else 0)) ≡ bytes_eq name other
    by true true is at e more = sym (ap (λ y. bytes_eq name y) (bytes_same other x at) ∙ is)
    by true false is at e more = differ 0 (1 + number_of_name xs other) (λ h. omega arith) ∙ sym (ap (λ y. bytes_eq y other) (bytes_same name x is) ∙ less_sym other x at)
    by false true is at e more = differ (1 + number_of_name xs name) 0 (λ h. omega arith) ∙ sym (ap (λ y. bytes_eq name y) (bytes_same other x at) ∙ is)
    by false false is at e more = one_up (number_of_name xs name) (number_of_name xs other) ∙ more e

-- ---- rows by numbers of names
abbrev pub by_number : List (List ℕ) → PlacedName × ℕ → NumberedName × ℕ
by_number names row = (record { tile = row.0.tile; number = number_of_name names row.0.name }, row.1)

abbrev pub AreKnown : List (List ℕ) → List (PlacedName × ℕ) → Type 0
AreKnown names [] = Unit {0}
AreKnown names (row ∷ rows) = (is_known names row.0.name ≡ true) × AreKnown names rows

pub rows_known : (s : Numbered) (rows : List (PlacedName × ℕ)) → AreKnown (numbered s rows).texts rows
rows_known s [] = tt
rows_known s (row ∷ rows) = ((later_keeps row.0.name (with_named s row) rows (text_known row.0.name s.texts)).0, rows_known (with_named s row) rows)

pub wires_are : (s : Numbered) (rows : List (PlacedName × ℕ)) → (numbered s rows).wires ≡ firsts same_numbered s.wires (map (by_number (numbered s rows).texts) rows)
wires_are s [] = refl
wires_are s (row ∷ rows) =
    let names = (numbered (with_named s row) rows).texts in
    let same : number_of_name s.texts row.0.name ≡ number_of_name names row.0.name =
    sym ((later_keeps row.0.name (with_named s row) rows (text_known row.0.name s.texts)).1 ∙ text_number row.0.name s.texts) in
    wires_are (with_named s row) rows
    ∙ ap (λ n. firsts same_numbered (with_first same_numbered s.wires (record { tile = row.0.tile; number = n }, row.1)) (map (by_number names) rows)) same

pub found_is : (tile : TileAt) (name : List ℕ) (names : List (List ℕ)) (rows : List (PlacedName × ℕ)) → AreKnown names rows
    → lookup (same_numbered (record { tile = tile; number = number_of_name names name })) (map (by_number names) rows) ≡ lookup (same_placed (placed_at tile name)) rows
found_is tile name names [] known = refl
found_is tile name names (row ∷ rows) known =
    ap (λ b. cond (same_tile tile row.0.tile && b) (Some row.1) (lookup (same_numbered (record { tile = tile; number = number_of_name names name })) (map (by_number names) rows))) (numbers_apart name row.0.name names known.0)
    ∙ ap (λ o. cond (same_tile tile row.0.tile && bytes_eq name row.0.name) (Some row.1) o) (found_is tile name names rows known.1)

-- by its number a name is found as in the rows themselves
pub found_by_number : (tile : TileAt) (name : List ℕ) (rows : List (PlacedName × ℕ))
    → lookup (same_numbered (record { tile = tile; number = number_of_name (numbered (record { texts = []; wires = [] }) rows).texts name })) (numbered (record { texts = []; wires = [] }) rows).wires
    ≡ lookup (same_placed (placed_at tile name)) rows
found_by_number tile name rows =
    let start : Numbered = record { texts = []; wires = [] } in
    let names = (numbered start rows).texts in
    let key : NumberedName = record { tile = tile; number = number_of_name names name } in
    ap (lookup (same_numbered key)) (wires_are start rows)
    ∙ lookup-firsts same_numbered numbered_same key [] (map (by_number names) rows)
    ∙ found_is tile name names rows (rows_known start rows)
