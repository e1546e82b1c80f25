use Rattle.std.proofs.Common.{◌≡◌, List, [], replicate, ap, ◌∙◌, arith}
use Rattle.ice_chip.specs.Database.{SwitchGroup}
use Rattle.ice_bits_rows.proofs.lists.empty_lists.Goals as goal

pub returns : goal.returns
returns c =
    let all : c.loop-wire._wire ≡ c.args.wires = omega (arith, c.loop-wire-test.false, c.loop-wire.auto._wire-end) in
    c.loop-wire.invariant ∙ ap (λ n. replicate {A = List SwitchGroup} n []) all
