-- The laws of tables.
use Rattle.std.proofs.Common.{◌≡◌, ℕ, zero, suc, ◌+◌, ◌-◌, ◌*◌, ◌/◌, ◌%◌, ◌^◌, ◌<◌, ◌≤◌, Bool, true, false, cond, eqb, Option, None, Some, List, [], ◌∷◌, ◌++◌, map, drop, length, get_or, set, refl, ap, sym, ◌∙◌, arith, append_assoc, length-append, length-drop}
use Rattle.std.specs.List.{range_with_len}
use Rattle.std.proofs.Math.Nat.{pow-suc, pow-succ', div-div-eq-div-mul}
use Rattle.std.proofs.Math.Path.{fun_ext}
use Rattle.std.proofs.Math.Pow.{pow_pos}
use Rattle.std.proofs.Math.Seq.{set-append_seam, drop-cons}
use Rattle.std.proofs.lemmas.List.Edits.{fill_by_more}
use Rattle.std.proofs.lemmas.List.FromFn.{fill_by_all, get_or-map-range_with_len, length-map-range_with_len}
use Rattle.ice_net.specs.Meaning.{number_of, table_bit}
use Rattle.ice_lut.specs.Tables.{levels_of, table_of, with_constant, levels_from, inputs_of, rewired, permuted, passing, folded, overlaid}

bit_bound : (b : Bool) → cond b 1 0 ≤ 1
bit_bound true = omega arith
bit_bound false = omega arith

pub number_bound : (bits : List Bool) (n : ℕ) → length bits ≤ n → number_of bits < 2 ^ n
number_bound [] n le = pow_pos n
number_bound (b ∷ bits) zero le = absurd (omega arith)
number_bound (b ∷ bits) (suc n) le =
    let rest : number_of bits < 2 ^ n = number_bound bits n (omega arith) in
    let first : cond b 1 0 ≤ 1 = bit_bound b in
    rw pow-suc (omega arith)

half : (b : Bool) (n : ℕ) → (cond b 1 0 + 2 * n) / 2 ≡ n
half b n = let first : cond b 1 0 ≤ 1 = bit_bound b in omega arith

odd : (b : Bool) (n : ℕ) → (cond b 1 0 + 2 * n) % 2 ≡ cond b 1 0
odd b n = let first : cond b 1 0 ≤ 1 = bit_bound b in omega arith

is_one : (b : Bool) → eqb (cond b 1 0) 1 ≡ b
is_one true = refl
is_one false = refl

bit_first : (b : Bool) (n : ℕ) → table_bit (cond b 1 0 + 2 * n) 0 ≡ b
bit_first b n =
    let e : (cond b 1 0 + 2 * n) / 1 ≡ cond b 1 0 + 2 * n = omega arith in
    ap (λ m. eqb (m % 2) 1) e ∙ ap (λ m. eqb m 1) (odd b n) ∙ is_one b

bit_next : (b : Bool) (n j : ℕ) → table_bit (cond b 1 0 + 2 * n) (suc j) ≡ table_bit n j
bit_next b n j =
    ap (λ m. eqb (m % 2) 1)
    (ap (λ p. (cond b 1 0 + 2 * n) / p) (pow-succ' 2 j) ∙ sym (div-div-eq-div-mul (cond b 1 0 + 2 * n) 2 (2 ^ j)) ∙ ap (λ m. m / 2 ^ j) (half b n))

-- the digits of a number that levels make are the levels
pub bit_of_number : (bits : List Bool) (j : ℕ) → j < length bits → table_bit (number_of bits) j ≡ get_or bits j false
bit_of_number [] j lt = absurd (omega arith)
bit_of_number (b ∷ bits) zero lt = bit_first b (number_of bits)
bit_of_number (b ∷ bits) (suc j) lt = bit_next b (number_of bits) j ∙ bit_of_number bits j (omega arith)

levels_back : (a b c d : Bool) → levels_of (number_of (a ∷ b ∷ c ∷ d ∷ [])) ≡ a ∷ b ∷ c ∷ d ∷ []
levels_back a b c d =
    let xs : List Bool = a ∷ b ∷ c ∷ d ∷ [] in
    rw (bit_of_number (a ∷ b ∷ c ∷ d ∷ []) 0 (omega arith), bit_of_number (a ∷ b ∷ c ∷ d ∷ []) 1 (omega arith), bit_of_number (a ∷ b ∷ c ∷ d ∷ []) 2 (omega arith), bit_of_number (a ∷ b ∷ c ∷ d ∷ []) 3 (omega arith)) refl

-- four levels are those of their number
pub levels_of_number : (xs : List Bool) → length xs ≡ 4 → levels_of (number_of xs) ≡ xs
levels_of_number [] e = absurd (omega arith)
levels_of_number (a ∷ []) e = absurd (omega arith)
levels_of_number (a ∷ b ∷ []) e = absurd (omega arith)
levels_of_number (a ∷ b ∷ c ∷ []) e = absurd (omega arith)
levels_of_number (a ∷ b ∷ c ∷ d ∷ []) e = levels_back a b c d
levels_of_number (a ∷ b ∷ c ∷ d ∷ f ∷ xs) e = absurd (omega arith)

-- a table gives what it was made to give
pub table_gives : (gives : List Bool → Bool) (xs : List Bool) → length xs ≡ 4 → table_bit (table_of gives) (number_of xs) ≡ gives xs
unfolding table_of
table_gives gives xs e =
    let small : number_of xs < 16 = number_bound xs 4 (omega arith) in
    bit_of_number (map (λ j. gives (levels_of j)) (range_with_len 0 16)) (number_of xs)
    (rw (length-map-range_with_len (λ j. gives (levels_of j)) 0 16) small)
    ∙ get_or-map-range_with_len (λ j. gives (levels_of j)) 0 16 (number_of xs) (number_of xs) false small (omega arith)
    ∙ ap gives (levels_of_number xs e)

pub constant_gives : (table k : ℕ) (level : Bool) (xs : List Bool) → length xs ≡ 4 → table_bit (with_constant table k level) (number_of xs) ≡ table_bit table (number_of (set xs k level))
constant_gives table k level xs e = table_gives (λ ys. table_bit table (number_of (set ys k level))) xs e

pub rewired_gives : (table : ℕ) (from : List (Option ℕ)) (xs : List Bool) → length xs ≡ 4 → table_bit (rewired table from) (number_of xs) ≡ table_bit table (number_of (levels_from from xs))
rewired_gives table from xs e = table_gives (λ ys. table_bit table (number_of (levels_from from ys))) xs e

pub permuted_gives : (table : ℕ) (order : List ℕ) (xs : List Bool) → length xs ≡ 4 → table_bit (permuted table order) (number_of xs) ≡ table_bit table (number_of (map (λ k. get_or xs k false) order))
permuted_gives table order xs e = table_gives (λ ys. table_bit table (number_of (map (λ k. get_or ys k false) order))) xs e

pub passing_gives : (k : ℕ) (xs : List Bool) → length xs ≡ 4 → table_bit (passing k) (number_of xs) ≡ get_or xs k false
passing_gives k xs e = table_gives (λ ys. get_or ys k false) xs e

levels_some : (order : List ℕ) (xs : List Bool) → levels_from (inputs_of order) xs ≡ map (λ k. get_or xs k false) order
levels_some [] xs = refl
levels_some (k ∷ order) xs = ap (λ ys. get_or xs k false ∷ ys) (levels_some order xs)

-- other inputs by their numbers
pub rewired_permuted : (table : ℕ) (order : List ℕ) → rewired table (inputs_of order) ≡ permuted table order
rewired_permuted table order = ap table_of (fun_ext (λ (xs : List Bool). ap (λ ys. table_bit table (number_of ys)) (levels_some order xs)))

-- ---- several constant inputs
pub length-overlaid : (levels : List (Option Bool)) (xs : List Bool) → length (overlaid levels xs) ≡ length xs
length-overlaid [] xs = refl
length-overlaid (level ∷ levels) [] = refl
length-overlaid (None ∷ levels) (x ∷ xs) = ap suc (length-overlaid levels xs)
length-overlaid (Some level ∷ levels) (x ∷ xs) = ap suc (length-overlaid levels xs)

-- the inputs before `ys` are done
folded_after : (table : ℕ) (levels : List (Option Bool)) (ys xs : List Bool) → length xs ≡ length levels → length ys + length xs ≡ 4
    → table_bit (folded table (length ys) levels) (number_of (ys ++ xs)) ≡ table_bit table (number_of (ys ++ overlaid levels xs))
folded_after table [] ys xs e le = refl
folded_after table (level ∷ levels) ys [] e le = absurd (omega arith)
folded_after table (None ∷ levels) ys (x ∷ xs) e le =
    let longer : length (ys ++ x ∷ []) ≡ suc (length ys) = length-append ys (x ∷ []) ∙ omega arith in
    ap (λ k. table_bit (folded table k levels) (number_of (ys ++ x ∷ xs))) (sym longer)
    ∙ ap (λ zs. table_bit (folded table (length (ys ++ x ∷ [])) levels) (number_of zs)) (sym (append_assoc ys (x ∷ []) xs))
    ∙ folded_after table levels (ys ++ x ∷ []) xs (omega arith) (omega arith)
    ∙ ap (λ zs. table_bit table (number_of zs)) (append_assoc ys (x ∷ []) (overlaid levels xs))
folded_after table (Some level ∷ levels) ys (x ∷ xs) e le =
    let longer : length (ys ++ x ∷ []) ≡ suc (length ys) = length-append ys (x ∷ []) ∙ omega arith in
    let same : length (overlaid levels xs) ≡ length xs = length-overlaid levels xs in
    let all : length (ys ++ x ∷ overlaid levels xs) ≡ length ys + suc (length (overlaid levels xs)) = length-append ys (x ∷ overlaid levels xs) in
    ap (λ k. table_bit (folded (with_constant table (length ys) level) k levels) (number_of (ys ++ x ∷ xs))) (sym longer)
    ∙ ap (λ zs. table_bit (folded (with_constant table (length ys) level) (length (ys ++ x ∷ [])) levels) (number_of zs)) (sym (append_assoc ys (x ∷ []) xs))
    ∙ folded_after (with_constant table (length ys) level) levels (ys ++ x ∷ []) xs (omega arith) (omega arith)
    ∙ ap (λ zs. table_bit (with_constant table (length ys) level) (number_of zs)) (append_assoc ys (x ∷ []) (overlaid levels xs))
    ∙ constant_gives table (length ys) level (ys ++ x ∷ overlaid levels xs) (omega arith)
    ∙ ap (λ zs. table_bit table (number_of zs)) (set-append_seam ys x (overlaid levels xs) level)

-- a table with constant inputs gives what the table gives where these have their levels
pub folded_gives : (table : ℕ) (levels : List (Option Bool)) (xs : List Bool) → length levels ≡ 4 → length xs ≡ 4
    → table_bit (folded table 0 levels) (number_of xs) ≡ table_bit table (number_of (overlaid levels xs))
folded_gives table levels xs long e = folded_after table levels [] xs (omega arith) (omega arith)

-- ---- a table that is written out
pub passing_first : passing 0 ≡ 43690
unfolding table_of
passing_first = refl

pub passing_second : passing 1 ≡ 52428
unfolding table_of
passing_second = refl

pub passing_third : passing 2 ≡ 61680
unfolding table_of
passing_third = refl

pub passing_fourth : passing 3 ≡ 65280
unfolding table_of
passing_fourth = refl

-- one more entry
pub filled_more : (gives : List Bool → Bool) (entries : List Bool) (j place : ℕ) (x : Bool) → place ≡ j → j < length entries → x ≡ gives (levels_of j)
    → ((k : ℕ) → k < j → get_or entries k false ≡ gives (levels_of k)) → (k : ℕ) → k < j + 1 → get_or (set entries place x) k false ≡ gives (levels_of k)
filled_more gives entries j place x e lt made each k below =
    ap (λ p. get_or (set entries p x) k false) e ∙ ap (λ y. get_or (set entries j y) k false) made ∙ fill_by_more (λ i. gives (levels_of i)) entries j false lt each k below

-- all entries
pub filled_all : (gives : List Bool → Bool) (entries : List Bool) (table : ℕ) → table ≡ number_of entries → length entries ≡ 16
    → ((k : ℕ) → k < 16 → get_or entries k false ≡ gives (levels_of k)) → table ≡ table_of gives
unfolding table_of
filled_all gives entries table e long each = e ∙ ap number_of (fill_by_all (λ j. gives (levels_of j)) entries 16 false long each)

-- ---- a table that is built from its last entry on
pub built_bound : (entries : List Bool) (j made : ℕ) → length entries ≡ 16 → 0 < j → made ≡ number_of (drop j entries) → made < 32768
built_bound entries j made long pos e = rw e (number_bound (drop j entries) 15 (simp length-drop (omega arith)))

pub built_more : (entries : List Bool) (j made bit : ℕ) → length entries ≡ 16 → 0 < j → j ≤ 16 → made ≡ number_of (drop j entries) → bit ≡ cond (get_or entries (j - 1) false) 1 0
    → 2 * made + bit ≡ number_of (drop (j - 1) entries)
built_more entries j made bit long pos le e b =
    let lt : j - 1 < length entries = omega arith in
    let next : suc (j - 1) ≡ j = omega arith in
    let one : 2 * made + bit ≡ bit + 2 * made = omega arith in
    let whole : drop (j - 1) entries ≡ get_or entries (j - 1) false ∷ drop j entries =
    drop-cons entries (j - 1) false lt ∙ ap (λ k. get_or entries (j - 1) false ∷ drop k entries) next in
    one ∙ ap (λ x. x + 2 * made) b ∙ ap (λ m. cond (get_or entries (j - 1) false) 1 0 + 2 * m) e ∙ sym (ap number_of whole)
