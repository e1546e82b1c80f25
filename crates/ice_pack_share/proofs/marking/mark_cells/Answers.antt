use Rattle.std.proofs.Common.{List, Option, ap, ◌∙◌, arith}
use Rattle.ice_base.specs.declared.number.SignalNo.{SignalNo}
use Rattle.ice_cells.specs.Uses.{marked, reads_from, reading_ins}
use Rattle.ice_pack_share.proofs.Marks.{cells_more}
use Rattle.ice_pack_share.proofs.marking.mark_cells.Goals as goal

pub loop-j-preserved : goal.loop-j-preserved
loop-j-preserved c =
    cells_more c.args.origins.now c.loop-j.uses.items c.mark_cell.new.uses.items c.args.cells.now c.loop-j.j c.index-cells-j.result (omega arith) c.index-cells-j.is
    (c.mark_cell.ensures
    ∙ ap (λ (ins : List (Option SignalNo)). marked c.loop-j.uses.items (reads_from c.args.origins.now c.loop-j.j c.index-cells-j.result.kind 0 (reading_ins c.index-cells-j.result.kind ins c.as_slice-in-loop-j.result.now))) c.as_slice.ensures
    ∙ ap (λ (outs : List (Option SignalNo)). marked c.loop-j.uses.items (reads_from c.args.origins.now c.loop-j.j c.index-cells-j.result.kind 0 (reading_ins c.index-cells-j.result.kind c.index-cells-j.result.ins outs))) c.as_slice-in-loop-j.ensures)
    ∙ c.loop-j.invariant
