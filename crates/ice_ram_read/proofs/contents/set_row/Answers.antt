use Rattle.std.proofs.Common.{arith}
use Rattle.ice_ram_read.proofs.RowWords.{set_none, set_more, set_all}
use Rattle.ice_ram_read.proofs.contents.set_row.Goals as goal

pub loop-i-init : goal.loop-i-init
loop-i-init c = set_none c.args.words.now c.args.row c.args.digits.now c.requires

pub loop-i-preserved : goal.loop-i-preserved
loop-i-preserved c =
    set_more c.args.words.now c.args.row c.args.digits.now c.loop-i.i c.loop-i.words c.new_word.result (omega (arith, c.loop-i-test.true)) c.new_word.ensures c.loop-i.invariant

pub returns-clause-words : goal.returns-clause-words
returns-clause-words c = set_all c.args.words.now c.args.row c.args.digits.now c.loop-i.i c.loop-i.words (omega arith) c.loop-i.invariant

pub returns-clause-many : goal.returns-clause-many
returns-clause-many c = c.loop-i.invariant.long
