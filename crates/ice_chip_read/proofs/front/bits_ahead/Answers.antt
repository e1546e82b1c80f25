use Rattle.std.proofs.Common.{[], ◌∷◌, length, length-append, sym, ap, subst, ◌∙◌, arith}
use Rattle.ice_chip_read.specs.Fronts.{AreBitsAhead}
use Rattle.ice_chip_read.proofs.BitFronts.{AreBitsTo, bit_joins, bits_stand}
use Rattle.ice_chip_read.proofs.front.bits_ahead.Goals as goal

pub returns-in-Some : goal.returns-in-Some
returns-in-Some c =
    subst (λ bits. AreBitsAhead c.args.text.now bits c.in-Some.behind.now) (sym c.push_reserved.ensures.items)
    (bits_stand c.args.text.now c.loop-k.left.now c.in_ok-bit.rest.now c.in-Some.behind.now c.loop-k.bits.items c.in_ok-bit.bit c.loop-k.invariant.read c.in_ok-bit.ensures c.in-Some.ensures)

pub loop-k-preserved : goal.loop-k-preserved
loop-k-preserved c =
    let i = c.loop-k.invariant in
    let long = length-append c.loop-k.bits.items (c.in_ok-bit.bit ∷ []) in
    record {
      room = c.push_reserved.ensures.capacity ∙ i.room;
      count = ap length c.push_reserved.ensures.items ∙ omega (arith, long, i.count);
      read = subst (AreBitsTo c.args.text.now c.in_ok-behind.behind.now) (sym c.push_reserved.ensures.items)
          (bit_joins c.args.text.now c.loop-k.left.now c.in_ok-bit.rest.now c.in_ok-behind.behind.now c.loop-k.bits.items c.in_ok-bit.bit i.read c.in_ok-bit.ensures c.in_ok-behind.ensures);
    }
