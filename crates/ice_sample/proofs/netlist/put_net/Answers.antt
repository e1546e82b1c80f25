use Rattle.std.proofs.Common.{[], ◌∷◌, ◌++◌, codes}
use Rattle.ice_sample.specs.Netlist.{started_at, names, head_lines, all_cell_lines, all_output_lines}
use Rattle.ice_base.proofs.Pieces.{text_join}
use Rattle.ice_sample.proofs.Picking.{lines_third}
use Rattle.ice_sample.proofs.Numbering.{further_on_ok}
use Rattle.ice_sample.proofs.netlist.put_net.Goals as goal

pub returns : goal.returns
returns c =
    let cells = all_cell_lines (started_at c.args.number) c.args.cells in
    let outputs = all_output_lines (names c.args.cells) in
    further_on_ok c.put_line.result _ _ c.put_line.new.text.items _ _ _
    (lines_third _ _ _ _ head_lines cells outputs c.in_ok-put_head.ensures c.in_ok-put_cells.ensures c.in_ok-put_outputs.ensures)
    c.put_line.ensures (text_join (head_lines ++ cells ++ outputs) (codes ".end" ∷ []))
