use Rattle.std.proofs.Common.{subst, All}
use Rattle.ice_asc.specs.RoundTrip.{IsSmall}
use Rattle.ice_asc.proofs.Joining.{text_joined}
use Rattle.ice_asc.proofs.write.put_text.Goals as goal

pub returns-clause-written : goal.returns-clause-written
returns-clause-written c =
    text_joined c.args.chip.now c.args.bits.now c.tiles.result.now c.contents.result.now c.extras.result.now c.args.out.now.items c.put_line.new.out.items c.put_line-2.new.out.items c.put_line-3.new.out.items
    c.put_tiles.new.out.items c.put_contents.new.out.items c.put_extras.new.out.items c.in_ok-put_line.ensures c.in_ok-put_line-2.ensures c.in_ok-put_line-3.ensures c.tiles.ensures c.in_ok-put_tiles.ensures
    c.contents.ensures c.in_ok-put_contents.ensures c.extras.ensures c.in_ok-put_extras.ensures.written

pub returns-clause-small : goal.returns-clause-small
returns-clause-small c = subst (All IsSmall) c.extras.ensures c.in_ok-put_extras.ensures.small
