-- The first numbers that pass a test, at most so many, one after another.
use Rattle.std.proofs.Common.{◌≡◌, ◌≢◌, ℕ, zero, suc, ◌+◌, ◌-◌, ◌<◌, ◌≤◌, Bool, true, false, List, [], ◌∷◌, ◌++◌, length, take, filter, refl, sym, ap, ◌∙◌, arith, append-nil, append_assoc, length-append, if◌then◌else◌}
use Rattle.std.specs.List.{range_with_len}

-- what there is so far, and then those of the next `more` numbers from k on, until there are enough
abbrev pub chosen : (ℕ → Bool) → ℕ → List ℕ → ℕ → ℕ → List ℕ
chosen test most so_far k more = so_far ++ take (most - length so_far) (filter test (range_with_len k more))

take_none : (xs : List ℕ) (n : ℕ) → n ≡ 0 → take n xs ≡ []
take_none xs n e = ap (λ m. take m xs) e

-- nothing is chosen yet
pub none_chosen : (test : ℕ → Bool) (most count : ℕ) → chosen test most [] 0 count ≡ take most (filter test (range_with_len 0 count))
none_chosen test most count = ap (λ m. take m (filter test (range_with_len 0 count))) (let e : most - 0 ≡ most = omega arith in e)

-- there are enough
pub all_chosen : (test : ℕ → Bool) (most k more : ℕ) (so_far : List ℕ) → length so_far ≡ most → chosen test most so_far k more ≡ so_far
all_chosen test most k more so_far e =
    ap (λ ys. so_far ++ ys) (take_none (filter test (range_with_len k more)) (most - length so_far) (omega (arith, e))) ∙ append-nil so_far

-- no number is left
pub end_chosen : (test : ℕ → Bool) (most k more : ℕ) (so_far : List ℕ) → more ≡ 0 → chosen test most so_far k more ≡ so_far
end_chosen test most k more so_far e =
    ap (λ m. chosen test most so_far k m) e ∙ ap (λ ys. so_far ++ ys) (none (most - length so_far)) ∙ append-nil so_far
  where
    none : (m : ℕ) → take {A = ℕ} m [] ≡ []
    none zero = refl
    none (suc m) = refl

-- the next number passes
pub one_chosen : (test : ℕ → Bool) (most k more : ℕ) (so_far : List ℕ) → test k ≡ true → length so_far < most → chosen test most so_far k (suc more) ≡ chosen test most (so_far ++ k ∷ []) (k + 1) more
one_chosen test most k more so_far passes room =
    ap (λ b. so_far ++ take (most - length so_far) (if b then k ∷ filter test (range_with_len (k + 1) more) else filter test (range_with_len (k + 1) more))) passes
    ∙ ap (λ m. so_far ++ take m (k ∷ filter test (range_with_len (k + 1) more))) (let e : most - length so_far ≡ suc (most - (length so_far + 1)) = omega (arith, room) in e)
    ∙ sym (append_assoc so_far (k ∷ []) (take (most - (length so_far + 1)) (filter test (range_with_len (k + 1) more))))
    ∙ ap (λ m. (so_far ++ k ∷ []) ++ take (most - m) (filter test (range_with_len (k + 1) more))) (sym (length-append so_far (k ∷ [])))

-- the next number does not pass
pub one_passed : (test : ℕ → Bool) (most k more : ℕ) (so_far : List ℕ) → test k ≡ false → chosen test most so_far k (suc more) ≡ chosen test most so_far (k + 1) more
one_passed test most k more so_far fails =
    ap (λ b. so_far ++ take (most - length so_far) (if b then k ∷ filter test (range_with_len (k + 1) more) else filter test (range_with_len (k + 1) more))) fails

-- ---- the same of the numbers below `count`, of which k is the next
pub then_chosen : (test : ℕ → Bool) (most k count : ℕ) (so_far now whole : List ℕ) → k < count → length so_far ≤ most → length so_far ≢ most → true ≡ test k → now ≡ so_far ++ k ∷ []
    → chosen test most so_far k (count - k) ≡ whole → (chosen test most now (k + 1) (count - (k + 1)) ≡ whole) × (length now ≤ most)
then_chosen test most k count so_far now whole lt le ne passes e h =
    let room : length so_far < most = omega (arith, le, ne) in
    let left : count - k ≡ suc (count - (k + 1)) = omega (arith, lt) in
    let long : length now ≡ length so_far + 1 = ap (λ ys. length ys) e ∙ length-append so_far (k ∷ []) in (
      ap (λ ys. chosen test most ys (k + 1) (count - (k + 1))) e ∙ sym (one_chosen test most k (count - (k + 1)) so_far (sym passes) room) ∙ ap (chosen test most so_far k) (sym left) ∙ h,
      omega (arith, long, room),
    )

pub then_passed : (test : ℕ → Bool) (most k count : ℕ) (so_far whole : List ℕ) → k < count → false ≡ test k
    → chosen test most so_far k (count - k) ≡ whole → chosen test most so_far (k + 1) (count - (k + 1)) ≡ whole
then_passed test most k count so_far whole lt fails h =
    let left : count - k ≡ suc (count - (k + 1)) = omega (arith, lt) in
    sym (one_passed test most k (count - (k + 1)) so_far (sym fails)) ∙ ap (chosen test most so_far k) (sym left) ∙ h
