use Rattle.std.proofs.Common.{◌≡◌, ◌+◌, ◌*◌, ◌++◌, ap, ◌∙◌, arith}
use Rattle.ice_base.specs.Lines.{text_of_lines}
use Rattle.ice_sample.specs.Netlist.{started_at, after, cell_lines, all_cell_lines}
use Rattle.ice_base.proofs.Pieces.{further}
use Rattle.ice_sample.proofs.Numbering.{numbers_more, nothing_more}
use Rattle.ice_sample.proofs.Picking.{after-after}
use Rattle.ice_sample.proofs.netlist.put_cells.Goals as goal

pub loop-cell-init : goal.loop-cell-init
unfolding all_cell_lines
loop-cell-init c = record { drawn = c.started_at-rng.ensures; written = nothing_more c.args.text.now.items }

pub loop-cell-preserved : goal.loop-cell-preserved
unfolding all_cell_lines
loop-cell-preserved c =
    let g = started_at c.args.number in
    let k = c.loop-cell.cell in
    let e : 5 * k + 5 ≡ 5 * (k + 1) = omega arith in
    record {
      drawn = c.in_ok-put_cell.ensures.drawn ∙ ap (after 5) c.loop-cell.invariant.drawn ∙ after-after (5 * k) 5 g ∙ ap (λ n. after n g) e;
      written = further _ _ _ _ _ _ c.loop-cell.invariant.written
          (c.in_ok-put_cell.ensures.written ∙ ap (λ h. c.loop-cell.text.items ++ text_of_lines (cell_lines k h)) c.loop-cell.invariant.drawn)
          (numbers_more (λ j. cell_lines j (after (5 * j) g)) k);
    }
