-- Where a line ends in a backslash before blanks.
use Rattle.std.proofs.Common.{◌≡◌, ◌≢◌, ℕ, ◌-◌, ◌<◌, ◌≤◌, ◌==◌, Bool, true, false, ◌&&◌, List, [], ◌∷◌, length, take, drop, get_or, zero, suc, refl, sym, ap, ◌∙◌, arith, rules, tests, if◌then◌else◌, Option, Some, None}
use Rattle.std.specs.List.{list_all}
use Rattle.std.proofs.lemmas.Bool.{and_parts}
use Rattle.ice_base.proofs.Booleans.{and_false}
use Rattle.ice_base.specs.Text.{is_blank}
use Rattle.ice_blif.specs.Continued.{before_backslash, in_front_of}

-- a line of blanks
all_blank : (line : List ℕ) → list_all is_blank line ≡ true → before_backslash line ≡ None
all_blank [] h = refl
all_blank (b ∷ line) h =
    let both = and_parts (is_blank b) (list_all is_blank line) h in
    let blank : is_blank b ≡ true = both.0 in
    let other : (b == 92) ≡ false = search (rules, tests) in
    ap (in_front_of b (list_all is_blank line)) (all_blank line both.1) ∙ rw other refl

-- a byte that is no blank, with any bytes around it
some_byte : (line : List ℕ) (i : ℕ) → i < length line → is_blank (get_or line i 0) ≡ false → list_all is_blank line ≡ false
some_byte [] i lt h = absurd (omega arith)
some_byte (b ∷ line) zero lt h = rw h refl
some_byte (b ∷ line) (suc i) lt h = ap (λ t. is_blank b && t) (some_byte line i (omega arith) h) ∙ and_false (is_blank b)

-- only blanks stand behind the backslash
found_at : (line : List ℕ) (i : ℕ) → i < length line → list_all is_blank (drop (suc i) line) ≡ true → get_or line i 0 ≡ 92
    → before_backslash line ≡ Some (take i line)
found_at [] i lt blanks at = absurd (omega arith)
found_at (b ∷ line) zero lt blanks at =
    let is : (b == 92) ≡ true = search (rules, tests) in
    ap (in_front_of b (list_all is_blank line)) (all_blank line blanks) ∙ rw (is, blanks) refl
found_at (b ∷ line) (suc i) lt blanks at = ap (in_front_of b (list_all is_blank line)) (found_at line i (omega arith) blanks at)

pub no_front : (t : Bool) → (let front : Option (List ℕ) = if t && false then Some [] else None in front) ≡ None
no_front true = refl
no_front false = refl

-- only blanks stand behind another byte
other_at : (line : List ℕ) (i : ℕ) → i < length line → list_all is_blank (drop (suc i) line) ≡ true → get_or line i 0 ≢ 92 → is_blank (get_or line i 0) ≡ false
    → before_backslash line ≡ None
other_at [] i lt blanks ne no_blank = absurd (omega arith)
other_at (b ∷ line) zero lt blanks ne no_blank =
    let other : (b == 92) ≡ false = search (rules, tests) in
    ap (in_front_of b (list_all is_blank line)) (all_blank line blanks) ∙ rw other refl
other_at (b ∷ line) (suc i) lt blanks ne no_blank =
    ap (in_front_of b (list_all is_blank line)) (other_at line i (omega arith) blanks ne no_blank)
    ∙ ap (λ t. in_front_of b t None) (some_byte line i (omega arith) no_blank) ∙ no_front (b == 92)

-- ---- in the loop's words
pub backslash_here : (line : List ℕ) (end : ℕ) → 0 < end → end ≤ length line → list_all is_blank (drop end line) ≡ true → get_or line (end - 1) 0 ≡ 92
    → before_backslash line ≡ Some (take (end - 1) line)
backslash_here line zero some le blanks at = absurd (omega arith)
backslash_here line (suc i) some le blanks at =
    let e : suc i - 1 ≡ i = omega arith in
    found_at line i (omega arith) blanks (ap (λ k. get_or line k 0) (sym e) ∙ at) ∙ ap (λ k. Some (take k line)) (sym e)

pub no_backslash_here : (line : List ℕ) (end : ℕ) → 0 < end → end ≤ length line → list_all is_blank (drop end line) ≡ true → get_or line (end - 1) 0 ≢ 92
    → is_blank (get_or line (end - 1) 0) ≡ false → before_backslash line ≡ None
no_backslash_here line zero some le blanks ne no_blank = absurd (omega arith)
no_backslash_here line (suc i) some le blanks ne no_blank =
    let e : suc i - 1 ≡ i = omega arith in
    let ne' : get_or line i 0 ≢ 92 = λ at. ne (ap (λ k. get_or line k 0) e ∙ at) in
    other_at line i (omega arith) blanks ne' (ap (λ k. is_blank (get_or line k 0)) (sym e) ∙ no_blank)

pub no_backslash : (line : List ℕ) (end : ℕ) → end ≤ 0 → list_all is_blank (drop end line) ≡ true → before_backslash line ≡ None
no_backslash line zero le blanks = all_blank line blanks
no_backslash line (suc end) le blanks = absurd (omega arith)

step_back : (line : List ℕ) (i : ℕ) → i < length line → list_all is_blank (drop (suc i) line) ≡ true → is_blank (get_or line i 0) ≡ true → list_all is_blank (drop i line) ≡ true
step_back [] i lt blanks blank = absurd (omega arith)
step_back (b ∷ line) zero lt blanks blank = rw (blank, blanks) refl
step_back (b ∷ line) (suc i) lt blanks blank = step_back line i (omega arith) blanks blank

pub blank_here : (line : List ℕ) (end : ℕ) → 0 < end → end ≤ length line → list_all is_blank (drop end line) ≡ true → is_blank (get_or line (end - 1) 0) ≡ true
    → list_all is_blank (drop (end - 1) line) ≡ true
blank_here line zero some le blanks blank = absurd (omega arith)
blank_here line (suc i) some le blanks blank =
    let e : suc i - 1 ≡ i = omega arith in
    ap (λ k. list_all is_blank (drop k line)) e ∙ step_back line i (omega arith) blanks (ap (λ k. is_blank (get_or line k 0)) (sym e) ∙ blank)

pub no_blanks_yet : (line : List ℕ) → list_all is_blank (drop (length line) line) ≡ true
no_blanks_yet [] = refl
no_blanks_yet (b ∷ line) = no_blanks_yet line
