-- Each number below a limit passes a test.
use Rattle.std.proofs.Common.{◌≡◌, ◌≢◌, ℕ, zero, suc, ◌+◌, ◌<◌, ◌==◌, Bool, true, false, refl, sym, ap, ◌∙◌, arith, true≢false}
use Rattle.std.proofs.lemmas.Bool.{eqb-true, eq-eqb}
use Rattle.std.specs.Prelude.{◌&&◌}
use Rattle.ice_base.proofs.Booleans.{and_false}
use Rattle.ice_sites.specs.Site.{all_below}

pub none : (test : ℕ → Bool) → all_below test 0 ≡ true
unfolding all_below
none test = refl

pub next : (test : ℕ → Bool) (n : ℕ) → all_below test n ≡ true → test n ≡ true → all_below test (n + 1) ≡ true
unfolding all_below
next test n before here = let one : n + 1 ≡ suc n = omega arith in rw one (rw before here)

pub fails : (test : ℕ → Bool) (n limit : ℕ) → test n ≡ false → n < limit → all_below test limit ≡ false
unfolding all_below
fails test n zero e lt = absurd (omega arith)
fails test n (suc limit) e lt = by (n == limit) refl (λ below. fails test n limit e below)
  where
    by : (b : Bool) → (n == limit) ≡ b → (n < limit → all_below test limit ≡ false) → (all_below test limit && test limit) ≡ false
    by true is earlier = ap (λ m. all_below test limit && test m) (sym (eqb-true n limit is)) ∙ ap (λ t. all_below test limit && t) e ∙ and_false (all_below test limit)
    by false is earlier =
        let apart : n ≢ limit = λ same. true≢false (sym (eq-eqb n limit same) ∙ is) in
        ap (λ b. b && test limit) (earlier (omega arith))
