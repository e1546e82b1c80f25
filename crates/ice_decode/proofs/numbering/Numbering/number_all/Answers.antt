use Rattle.std.proofs.Common.{None}
use Rattle.ice_decode.proofs.Numbered.{numbers_more}
use Rattle.ice_decode.proofs.numbering.Numbering.number_all.Goals as goal

pub loop-read-preserved : goal.loop-read-preserved
loop-read-preserved c =
    numbers_more c.args.self.now c.args.reads.now c.loop-read.read-index None c.loop-read.row.items c.add_number.new.row.items c.loop-read-test.true c.loop-read.invariant c.in_ok-add_number.ensures
