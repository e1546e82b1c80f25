use Rattle.std.proofs.Common.{◌≡◌, [], ◌∷◌, ◌++◌, sym, ap, ◌∙◌, arith}
use Rattle.ice_bits_rows.specs.Uses.{uses_below}
use Rattle.ice_bits_rows.proofs.WireUses.{next_use}
use Rattle.ice_bits_rows.proofs.uses.uses_of.Goals as goal

pub loop-wire-preserved : goal.loop-wire-preserved
loop-wire-preserved c =
    c.in_ok-push.ensures.items
    ∙ ap (λ xs. xs ++ c.use_of.result ∷ []) c.loop-wire.invariant
    ∙ ap (λ x. uses_below c.args.chip.now c.loop-wire.wire ++ x ∷ []) c.use_of.ensures
    ∙ sym (next_use c.args.chip.now c.loop-wire.wire)

pub returns : goal.returns
returns c =
    let all : c.loop-wire.wire ≡ c.args.chip.now.wires = omega (arith, c.loop-wire-test.false, c.loop-wire.auto.wire-end, c.wires-wires.ensures.wires) in
    c.loop-wire.invariant ∙ ap (uses_below c.args.chip.now) all
