use Rattle.std.proofs.Common.{◌++◌, List, All, ap, ◌∙◌, subst, arith}
use Rattle.std.specs.List.{flat_map}
use Rattle.std.proofs.lemmas.List.{take_all}
use Rattle.std.proofs.lemmas.List.Elements.{All-more}
use Rattle.ice_net.specs.declared.cell.Cell.{Cell}
use Rattle.ice_blif_write.specs.RoundTrip.{IsSmallCell}
use Rattle.ice_blif_write.specs.Text.{cell_lines}
use Rattle.ice_blif_write.proofs.Joining.{text_of, item_more}
use Rattle.ice_blif_write.proofs.cells.put_cells.Goals as goal

pub loop-cell-preserved : goal.loop-cell-preserved
loop-cell-preserved c = record {
  small =
      All-more IsSmallCell c.args.cells.now c.loop-cell.cell-index c.cell-item.result (omega arith) c.loop-cell.invariant.small
      (subst IsSmallCell c.cell-item.is c.in_ok-put_cell.ensures.small);
  written =
      item_more (cell_lines c.args.netlist.now.names) c.args.cells.now c.loop-cell.cell-index c.cell-item.result c.args.out.now.items c.loop-cell.out.items c.put_cell.new.out.items (omega arith)
      c.loop-cell.invariant.written
      (c.in_ok-put_cell.ensures.written ∙ ap (λ cell. c.loop-cell.out.items ++ text_of (cell_lines c.args.netlist.now.names cell)) c.cell-item.is);
}

pub returns-clause-small : goal.returns-clause-small
returns-clause-small c = subst (λ (cells : List Cell). All IsSmallCell cells) (take_all c.loop-cell.cell-index c.args.cells.now c.loop-cell-test.false) c.loop-cell.invariant.small

pub returns-clause-written : goal.returns-clause-written
returns-clause-written c =
    c.loop-cell.invariant.written
    ∙ ap (λ (cells : List Cell). c.args.out.now.items ++ text_of (flat_map (cell_lines c.args.netlist.now.names) cells)) (take_all c.loop-cell.cell-index c.args.cells.now c.loop-cell-test.false)
