use Rattle.std.proofs.Common.{length, ap, sym, ◌∙◌, arith}
use Rattle.std.specs.List.{list_any}
use Rattle.std.proofs.lemmas.List.{at_drop_all}
use Rattle.ice_bits_rows.specs.Bundles.{is_shared}
use Rattle.ice_bits_rows.proofs.bundle.shares_bit.Goals as goal

pub returns : goal.returns
returns c =
    let long = ap length c.as_slice-bit-items.ensures in
    sym (c.loop-bit.invariant
    ∙ at_drop_all (list_any (is_shared c.args.index.now.chip.now c.args.group.now.tile c.args.group.now.wire.0)) c.args.group.now.bits.items c.loop-bit.bit-index (omega (arith, long, c.loop-bit-test.false)))
