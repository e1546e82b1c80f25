-- Names in the order in which they are first met, as keys of a set: what its look-ups give.
use Rattle.std.proofs.Common.{◌≡◌, ℕ, ◌+◌, ◌<◌, Bool, true, false, not, ◌||◌, List, [], ◌∷◌, ◌++◌, length, refl, sym, ap, ◌∙◌, rules, tests, suc, if◌then◌else◌, Vec, bytes_eq, Some, None, position, nat_lt, subst, unwrap_or, ◌≤◌, arith}
use Rattle.std.specs.List.{list_any, position_or_len}
use Rattle.std.proofs.lemmas.List.Sums.{prefix_len-le-length}
use Rattle.std.specs.declared.alloc.Global.{Global}
use Rattle.ice_base.specs.Lists.{with_name, number_of_name}
use Rattle.ice_base.specs.Keys.{texts}

-- a key is this name
abbrev pub has_name : List ℕ → Vec ℕ Global → Bool
has_name name key = bytes_eq name key.items

pub texts_append : (xs ys : List (Vec ℕ Global)) → texts (xs ++ ys) ≡ texts xs ++ texts ys
texts_append [] ys = refl
texts_append (x ∷ xs) ys = ap (λ zs. x.items ∷ zs) (texts_append xs ys)

pub texts_length : (xs : List (Vec ℕ Global)) → length (texts xs) ≡ length xs
texts_length [] = refl
texts_length (x ∷ xs) = ap suc (texts_length xs)

pub any_texts : (name : List ℕ) (keys : List (Vec ℕ Global)) → list_any (bytes_eq name) (texts keys) ≡ list_any (has_name name) keys
any_texts name [] = refl
any_texts name (key ∷ keys) = ap (λ b. has_name name key || b) (any_texts name keys)

pub place_texts : (name : List ℕ) (keys : List (Vec ℕ Global)) → number_of_name (texts keys) name ≡ position_or_len (has_name name) keys
place_texts name [] = refl
place_texts name (key ∷ keys) = ap (λ n. if not (has_name name key) then 1 + n else 0) (place_texts name keys)

-- ---- a name that is there
pub place_is : {X : Type 0} (p : X → Bool) (xs : List X) (n : ℕ) (b : Bool) → nat_lt (position_or_len p xs) (length xs) ≡ b
    → position p xs ≡ Some n → (position_or_len p xs ≡ n) × (n < length xs)
place_is p xs n true e found =
    let same : Some (position_or_len p xs) ≡ Some n = sym (ap (λ c. if c then Some (position_or_len p xs) else None) e) ∙ found in
    let is : position_or_len p xs ≡ n = search (rules, tests) in
    let lt : position_or_len p xs < length xs = search (rules, tests) in
    (is, subst (λ m. m < length xs) is lt)
place_is p xs n false e found =
    let same : None ≡ Some n = sym (ap (λ c. if c then Some (position_or_len p xs) else None) e) ∙ found in
    absurd (cc)

pub found_number : (name : List ℕ) (keys : List (Vec ℕ Global)) (n : ℕ) → position (λ key. bytes_eq name key.items) keys ≡ Some n → n ≡ number_of_name (texts keys) name
found_number name keys n found = sym (place_texts name keys ∙ (place_is (has_name name) keys n (nat_lt (position_or_len (has_name name) keys) (length keys)) refl found).0)

pub found_within : (name : List ℕ) (keys : List (Vec ℕ Global)) (n : ℕ) → position (λ key. bytes_eq name key.items) keys ≡ Some n → n < length (texts keys)
found_within name keys n found = rw (texts_length keys) ((place_is (has_name name) keys n (nat_lt (position_or_len (has_name name) keys) (length keys)) refl found).1)

pub found_names : (name : List ℕ) (keys : List (Vec ℕ Global)) (n : ℕ) → true ≡ list_any (λ key. bytes_eq name key.items) keys → texts keys ≡ with_name (texts keys) name
found_names name keys n any = rw (any_texts name keys, ← any) refl

-- the place where it is there, or the number of all
pub sought_number : (name : List ℕ) (keys : List (Vec ℕ Global)) → unwrap_or (position (λ key. bytes_eq name key.items) keys) (length keys) ≡ number_of_name (texts keys) name
sought_number name keys = by (nat_lt (position_or_len (has_name name) keys) (length keys)) refl ∙ sym (place_texts name keys)
  where
    by : (b : Bool) → nat_lt (position_or_len (has_name name) keys) (length keys) ≡ b
        → unwrap_or (if b then Some (position_or_len (has_name name) keys) else None) (length keys) ≡ position_or_len (has_name name) keys
    by true is = refl
    by false is =
        let most : position_or_len (has_name name) keys ≤ length keys = prefix_len-le-length (λ key. not (has_name name key)) keys in
        let least : length keys ≤ position_or_len (has_name name) keys = search (rules, tests) in
        omega arith

-- ---- a name that is put last
pub new_number : (name : List ℕ) (keys : List (Vec ℕ Global)) (key : Vec ℕ Global) (n : ℕ) → key.items ≡ name
    → n ≡ position_or_len (λ k. bytes_eq key.items k.items) keys → n ≡ number_of_name (texts keys) name
new_number name keys key n is at = at ∙ ap (λ m. position_or_len (has_name m) keys) is ∙ sym (place_texts name keys)

pub new_names : (name : List ℕ) (keys now : List (Vec ℕ Global)) (key : Vec ℕ Global) → key.items ≡ name
    → now ≡ (if list_any (λ k. bytes_eq key.items k.items) keys then keys else keys ++ key ∷ []) → texts now ≡ with_name (texts keys) name
new_names name keys now key is inserted =
    ap texts inserted ∙ by (list_any (has_name key.items) keys)
    ∙ ap (λ m. if list_any (has_name m) keys then texts keys else texts keys ++ m ∷ []) is
    ∙ ap (λ b. if b then texts keys else texts keys ++ name ∷ []) (sym (any_texts name keys))
  where
    by : (b : Bool) → texts (if b then keys else keys ++ key ∷ []) ≡ (if b then texts keys else texts keys ++ key.items ∷ [])
    by true = refl
    by false = texts_append keys (key ∷ [])

pub new_within : (now : List (Vec ℕ Global)) (n : ℕ) → n < length now → n < length (texts now)
new_within now n lt = rw (texts_length now) lt

-- ---- a name that is sought
pub place_among_texts : (name : List ℕ) (keys : List (Vec ℕ Global)) → position (bytes_eq name) (texts keys) ≡ position (λ key. bytes_eq name key.items) keys
place_among_texts name keys =
    ap (λ n. if nat_lt n (length (texts keys)) then Some n else None) (place_texts name keys)
    ∙ ap (λ long. if nat_lt (position_or_len (has_name name) keys) long then Some (position_or_len (has_name name) keys) else None) (texts_length keys)
