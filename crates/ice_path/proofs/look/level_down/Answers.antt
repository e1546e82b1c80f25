use Rattle.std.proofs.Common.{◌≡◌, ◌∙◌, ◌+◌, ◌-◌, ◌<◌, ◌≤◌, ℕ, min, List, length, length-set, slice_index, slice_set, sym, subst, arith}
use Rattle.ice_path.proofs.Levelling.{down_rises, set_far, set_lower}
use Rattle.ice_path.proofs.look.level_down.Goals as goal

pub loop-step-preserved : goal.loop-step-preserved
loop-step-preserved c =
    let i = c.loop-step.invariant in
    let t = c.loop-step-test.true in
    let b : List ℕ = c.loop-step.beyond in
    let p : ℕ = 62 - c.loop-step.step in
    let e : c.min.result ≡ min (slice_index b p) (slice_index b (p + 1)) = c.min.ensures in
    let long = i.long in
    let lt : p < length b = omega (arith, long) in
    let le : c.min.result ≤ slice_index b p = omega (arith, e) in
    record {
      long = length-set b p c.min.result ∙ long;
      rises = subst (λ x. (k : ℕ) → 63 ≤ k + (c.loop-step.step + 1) → k < 63 → slice_index (slice_set b p x) k ≤ slice_index (slice_set b p x) (k + 1)) (sym e) (down_rises b p c.loop-step.step (omega (arith, t)) lt i.rises);
      lower = λ k. (let a = set_lower b p c.min.result lt le k in let d = i.lower k in omega (arith, a, d));
      far = λ far h. (let f = i.far far h in set_far b p c.min.result lt le far (let a = f p (omega arith) in let d = f (p + 1) (omega arith) in omega (arith, a, d, e)) f);
    }
