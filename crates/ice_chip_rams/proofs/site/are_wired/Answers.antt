use Rattle.std.proofs.Common.{◌≡◌, sym, ap, ◌∙◌, arith}
use Rattle.ice_chip_rams.specs.Sites.{is_wired, each_below, are_wired}
use Rattle.ice_chip_rams.proofs.EachBelow.{fails_one, one_more}
use Rattle.ice_chip_rams.proofs.site.are_wired.Goals as goal

pub returns-then-not-is_wired : goal.returns-then-not-is_wired
unfolding are_wired
returns-then-not-is_wired c = sym (fails_one (is_wired c.args.chip.now c.args.site) c.loop-wire.wire 74 c.loop-wire-test.true (sym c.is_wired.ensures ∙ c.if-not-is_wired.true))

pub loop-wire-preserved : goal.loop-wire-preserved
loop-wire-preserved c = one_more (is_wired c.args.chip.now c.args.site) c.loop-wire.wire c.loop-wire.invariant (sym c.is_wired.ensures ∙ c.if-not-is_wired.false)

pub returns : goal.returns
unfolding are_wired
returns c =
    let all : c.loop-wire.wire ≡ 74 = omega (arith, c.loop-wire-test.false, c.loop-wire.auto.wire-end) in
    sym (sym (ap (each_below (is_wired c.args.chip.now c.args.site)) all) ∙ c.loop-wire.invariant)
