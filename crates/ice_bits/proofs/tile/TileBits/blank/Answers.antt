use Rattle.std.proofs.Common.{◌≡◌, false, replicate, ap, ◌∙◌, arith}
use Rattle.ice_bits.proofs.tile.TileBits.blank.Goals as goal

pub returns : goal.returns
returns c =
    let all : c.loop-row._row ≡ 16 = omega (arith, c.loop-row-test.false, c.loop-row.auto._row-end) in
    c.loop-row.invariant ∙ ap (λ n. replicate n (replicate c.args.columns false)) all
