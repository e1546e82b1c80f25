use Rattle.std.proofs.Common.{◌∙◌}
use Rattle.ice_asc.specs.Hex.{row_word}
use Rattle.ice_asc.proofs.Joining.{one_more}
use Rattle.ice_asc.proofs.hex.push_words.Goals as goal

pub loop-number-preserved : goal.loop-number-preserved
loop-number-preserved c =
    c.in_ok-push.ensures.items
    ∙ one_more (row_word c.args.values.now) c.loop-number.number c.row_word.result c.args.words.now.items c.loop-number.words.items c.loop-number.invariant c.row_word.ensures
