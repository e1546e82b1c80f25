use Rattle.ice_blif_write.proofs.Joining.{text_put}
use Rattle.ice_blif_write.proofs.write.put_text.Goals as goal

pub returns-clause-written : goal.returns-clause-written
returns-clause-written c =
    text_put c.args.out.now.items c.extend_from_slice.new.self.items c.put_ports.new.out.items c.put_cells.new.out.items c.extend_from_slice-2.new.self.items c.args.netlist.now c.ports.result.now c.cells.result.now
    c.in_ok-extend_from_slice.ensures.items c.ports.ensures.ports c.in_ok-put_ports.ensures c.cells.ensures.cells c.in_ok-put_cells.ensures.written c.in_ok-extend_from_slice-2.ensures.items
