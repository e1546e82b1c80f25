use Rattle.std.proofs.Common.{◌++◌, ◌∷◌, decimal, ap, ◌∙◌}
use Rattle.ice_base.proofs.Pieces.{further}
use Rattle.ice_base.specs.declared.number.RowNo.{RowNo}
use Rattle.ice_report.proofs.Writing.{word_more}
use Rattle.ice_report.proofs.rounds.put_rows.Goals as goal

pub loop-row-preserved : goal.loop-row-preserved
loop-row-preserved c =
    further _ _ _ _ _ _ c.loop-row.invariant (c.in_ok-put_number.ensures ∙ ap (λ number. c.loop-row.text.items ++ 32 ∷ decimal number) c.from.ensures)
    (word_more (λ (row : RowNo). decimal row.0) c.args.rows.now c.loop-row.row-index _ c.loop-row-test.true)
