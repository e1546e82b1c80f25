use Rattle.std.proofs.Common.{◌≡◌, ◌<◌, ◌+◌, ◌-◌, ◌/◌, ◌%◌, ◌∷◌, ◌++◌, ap, sym, ◌∙◌, arith}
use Rattle.ice_blif_write.specs.Text.{digit_of, levels_of}
use Rattle.ice_blif_write.proofs.Joining.{levels_step, put_digit}
use Rattle.ice_blif_write.proofs.words.put_levels.Goals as goal

pub loop-preserved : goal.loop-preserved
loop-preserved c =
    let some : 0 < c.args.width - c.loop.counter = (let lt = c.loop-test.true in omega arith) in
    let less : c.args.width - (c.loop.counter + 1) ≡ c.args.width - c.loop.counter - 1 = omega arith in
    put_digit (c.args.out.now.items ++ levels_of c.args.width c.args.number) c.loop.out.items c.push.new.self.items (levels_of (c.args.width - (c.loop.counter + 1)) (c.loop.rest / 2)) c.digit.result c.in_ok-push.ensures.items
    (ap (λ d. c.loop.out.items ++ d ∷ levels_of (c.args.width - (c.loop.counter + 1)) (c.loop.rest / 2)) c.digit.ensures
    ∙ ap (λ k. c.loop.out.items ++ digit_of (c.loop.rest % 2) ∷ levels_of k (c.loop.rest / 2)) less
    ∙ ap (λ xs. c.loop.out.items ++ xs) (sym (levels_step (c.args.width - c.loop.counter) c.loop.rest some)) ∙ c.loop.invariant)
