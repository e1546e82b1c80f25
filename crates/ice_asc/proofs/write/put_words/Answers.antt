use Rattle.std.proofs.Common.{◌∙◌, arith}
use Rattle.ice_asc.specs.Hex.{row_digits}
use Rattle.ice_asc.proofs.Joining.{line_more, lines_ended}
use Rattle.ice_asc.proofs.write.put_words.Goals as goal

pub loop-row-preserved : goal.loop-row-preserved
loop-row-preserved c =
    c.in_ok-put_digits.ensures
    ∙ line_more (row_digits c.args.words.now) c.loop-row.row c.args.out.now.items c.loop-row.out.items c.loop-row.invariant

pub returns : goal.returns
returns c = lines_ended (row_digits c.args.words.now) 16 c.loop-row.row c.args.out.now.items c.loop-row.out.items c.loop-row.invariant (omega arith)
