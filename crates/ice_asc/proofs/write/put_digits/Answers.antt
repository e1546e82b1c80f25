use Rattle.std.proofs.Common.{◌∙◌, arith}
use Rattle.ice_asc.specs.Hex.{row_digit}
use Rattle.ice_asc.proofs.Joining.{one_more, digits_ended}
use Rattle.ice_asc.proofs.write.put_digits.Goals as goal

pub loop-place-preserved : goal.loop-place-preserved
loop-place-preserved c =
    c.in_ok-push.ensures.items
    ∙ one_more (row_digit c.args.words.now c.args.row) c.loop-place.place c.row_digit.result c.args.out.now.items c.loop-place.out.items c.loop-place.invariant c.row_digit.ensures

pub returns : goal.returns
returns c =
    digits_ended (row_digit c.args.words.now c.args.row) 64 c.loop-place.place c.args.out.now.items c.loop-place.out.items c.push-2.new.self.items c.loop-place.invariant (omega arith) c.in_ok-push-2.ensures.items
