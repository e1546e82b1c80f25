use Rattle.std.proofs.Common.{◌≡◌, ◌∙◌, ◌+◌, ◌-◌, ◌<◌, ◌≤◌, ℕ, Some, ap, arith}
use Rattle.ice_graph.proofs.Drawing.{one_bit}
use Rattle.ice_graph.proofs.levels.home_of.Goals as goal

pub returns-clause-back : goal.returns-clause-back
returns-clause-back c = λ b on.
    let is = one_bit (c.in-Some.number - c.args.first) b (let t = c.if-bit-ge64.false in omega (arith, t)) on in
    c.in-Some.is ∙ ap (λ n. Some n) (let e : c.in-Some.number ≡ c.args.first + b = (let t = c.if-number-first.false in omega (arith, is, t)) in e)
