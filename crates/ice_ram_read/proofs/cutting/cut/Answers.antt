use Rattle.std.proofs.Common.{◌∙◌}
use Rattle.ice_ram_read.proofs.Cuts.{cut_more}
use Rattle.ice_ram_read.proofs.cutting.cut.Goals as goal

pub loop-ram-preserved : goal.loop-ram-preserved
loop-ram-preserved c =
    c.loop-ram.invariant
    ∙ cut_more c.loop-ram.netlist c.add.new.netlist c.args.rams.now c.loop-ram.ram-index c.ram-item.result c.loop-ram-test.true c.ram-item.is c.in_ok-add.ensures
