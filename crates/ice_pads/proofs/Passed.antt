-- The first number that passes a test, one more at a time.
use Rattle.std.proofs.Common.{◌≡◌, ℕ, zero, suc, ◌+◌, ◌<◌, ◌≤◌, ◌-◌, Bool, true, false, cond, None, Some, if◌then◌else◌, refl, ap, ◌∙◌, arith, add-one}
use Rattle.std.specs.Option.{option_or}
use Rattle.ice_pads.specs.Constraints.{first_passing}

-- it is the first of those that are left
pub here : (test : ℕ → Bool) (n limit : ℕ) → n < limit → test n ≡ true → first_passing test n (limit - n) ≡ Some n
unfolding first_passing
here test n limit lt is =
    let left : limit - n ≡ suc (limit - suc n) = omega arith in
    ap (first_passing test n) left ∙ ap (λ b. cond b (Some n) (first_passing test (n + 1) (limit - suc n))) is

-- it is not the first
pub next : (test : ℕ → Bool) (n limit : ℕ) → n < limit → test n ≡ false → first_passing test n (limit - n) ≡ first_passing test (n + 1) (limit - (n + 1))
unfolding first_passing
next test n limit lt is =
    let left : limit - n ≡ suc (limit - (n + 1)) = omega arith in
    ap (first_passing test n) left ∙ ap (λ b. cond b (Some n) (first_passing test (n + 1) (limit - (n + 1)))) is

-- none is left
pub none : (test : ℕ → Bool) (n limit : ℕ) → limit ≤ n → first_passing test n (limit - n) ≡ None
unfolding first_passing
none test n limit le = let left : limit - n ≡ 0 = omega arith in ap (first_passing test n) left

-- all are left
pub whole : (test : ℕ → Bool) (limit : ℕ) → first_passing test 0 limit ≡ first_passing test 0 (limit - 0)
whole test limit = let left : limit ≡ limit - 0 = omega arith in ap (first_passing test 0) left

-- one more number is looked at, behind all others
pub one_more : (test : ℕ → Bool) (n left : ℕ) → first_passing test n (left + 1) ≡ option_or (first_passing test n left) (if test (n + left) then Some (n + left) else None)
unfolding first_passing
one_more test n zero =
    let last : n ≡ n + 0 = omega arith in
    ap (first_passing test n) (add-one 0) ∙ ap (λ k. if test k then Some k else None) last
one_more test n (suc left) =
    let more : suc left + 1 ≡ suc (left + 1) = omega arith in
    let last : n + 1 + left ≡ n + suc left = omega arith in
    ap (first_passing test n) more
    ∙ by (test n) (one_more test (n + 1) left ∙ ap (λ k. option_or (first_passing test (n + 1) left) (if test k then Some k else None)) last)
  where
    by : (b : Bool) → first_passing test (n + 1) (left + 1) ≡ option_or (first_passing test (n + 1) left) (if test (n + suc left) then Some (n + suc left) else None)
        → cond b (Some n) (first_passing test (n + 1) (left + 1)) ≡ option_or (cond b (Some n) (first_passing test (n + 1) left)) (if test (n + suc left) then Some (n + suc left) else None)
    by true e = refl
    by false e = e
