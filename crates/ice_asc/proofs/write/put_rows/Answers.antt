use Rattle.std.proofs.Common.{option_map, ◌∙◌}
use Rattle.ice_bits.specs.Configuration.{bit_at}
use Rattle.ice_asc.proofs.Joining.{row_more}
use Rattle.ice_asc.proofs.write.put_rows.Goals as goal

pub loop-row-preserved : goal.loop-row-preserved
loop-row-preserved c =
    c.in_ok-put_row.ensures
    ∙ row_more (bit_at (option_map (λ rows. rows.now) c.args.rows)) c.args.columns c.loop-row.row c.args.out.now.items c.loop-row.out.items c.loop-row.invariant
