use Rattle.std.proofs.Common.{◌∷◌, []}
use Rattle.ice_blif_write.specs.Text.{first_line, lines_below}
use Rattle.ice_blif_write.proofs.Joining.{both_joined}
use Rattle.ice_blif_write.proofs.cells.put_cell.Goals as goal

pub returns-clause-written : goal.returns-clause-written
returns-clause-written c =
    both_joined c.args.out.now.items c.put_first.new.out.items c.put_below.new.out.items (first_line c.args.netlist.now.names c.args.cell.now.kind c.args.cell.now.ins c.args.cell.now.outs ∷ []) (lines_below c.args.cell.now.kind)
    c.in_ok-put_first.ensures c.in_ok-put_below.ensures.written
