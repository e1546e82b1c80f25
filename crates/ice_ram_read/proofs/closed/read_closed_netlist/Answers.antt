use Rattle.ice_ram_read.specs.RamTexts.{rams_of}
use Rattle.ice_ram_read.proofs.Unclosed.{said_closed, alone_within}
use Rattle.ice_ram_read.proofs.closed.read_closed_netlist.Goals as goal

pub returns-clause-closed : goal.returns-clause-closed
returns-clause-closed c =
    let text = c.args.text.now in
    let n = c.in_ok-netlist.netlist in
    said_closed text n c.closed_with.result c.in_ok-netlist.ensures.netlist (c.closed_with.ensures (rams_of n text) c.in_ok-texts.ensures)

pub returns-clause-limits : goal.returns-clause-limits
returns-clause-limits c =
    let text = c.args.text.now in
    let n = c.in_ok-netlist.netlist in
    alone_within text n (rams_of n text) c.closed_with.result c.in_ok-netlist.ensures.limits (c.closed_with.ensures (rams_of n text) c.in_ok-texts.ensures)
