use Rattle.ice_blif_write.proofs.Joining.{names_put}
use Rattle.ice_blif_write.proofs.cells.put_names.Goals as goal

pub returns : goal.returns
returns c =
    names_put c.args.out.now.items c.extend_from_slice.new.self.items c.put_signals.new.out.items c.put_signals-2.new.out.items c.end_line.new.out.items c.args.netlist.now.names c.args.ins.now c.args.outs.now
    c.in_ok-extend_from_slice.ensures.items c.in_ok-put_signals.ensures c.in_ok-put_signals-2.ensures c.in_ok-end_line.ensures
