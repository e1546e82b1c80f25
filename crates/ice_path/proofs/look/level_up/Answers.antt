use Rattle.std.proofs.Common.{◌≡◌, ◌∙◌, ◌+◌, ◌<◌, ◌≤◌, ℕ, min, List, length, length-set, slice_index, slice_set, sym, subst, arith}
use Rattle.ice_path.specs.Looks.{AreFar}
use Rattle.ice_path.proofs.Levelling.{up_far, up_lower, up_rises, up_slope}
use Rattle.ice_path.proofs.look.level_up.Goals as goal

pub loop-place-preserved : goal.loop-place-preserved
loop-place-preserved c =
    let i = c.loop-place.invariant in
    let t = c.loop-place-test.true in
    let b : List ℕ = c.loop-place.beyond in
    let p : ℕ = c.loop-place.place in
    let e : c.min.result ≡ min (slice_index b (p + 1)) (slice_index b p + 1) = c.min.ensures in
    let long = i.long in
    let lt : p + 1 < length b = omega (arith, long, t) in
    record {
      long = length-set b (p + 1) c.min.result ∙ long;
      rises = subst (λ x. (k : ℕ) → k < 63 → slice_index (slice_set b (p + 1) x) k ≤ slice_index (slice_set b (p + 1) x) (k + 1)) (sym e) (up_rises b p lt i.rises t);
      slope = subst (λ x. (k : ℕ) → k < p + 1 → slice_index (slice_set b (p + 1) x) (k + 1) ≤ slice_index (slice_set b (p + 1) x) k + 1) (sym e) (up_slope b p lt i.rises t i.slope);
      lower = subst (λ x. (k : ℕ) → slice_index (slice_set b (p + 1) x) k ≤ slice_index c.args.beyond.now k) (sym e) (λ k. (let a = up_lower b p lt i.rises t k in let d = i.lower k in omega (arith, a, d)));
      far = λ far h. subst (λ x. AreFar far (slice_set b (p + 1) x)) (sym e) (up_far b p lt i.rises t far (i.far far h));
    }
