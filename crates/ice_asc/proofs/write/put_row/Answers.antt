use Rattle.std.proofs.Common.{option_map, ap, ◌∙◌}
use Rattle.ice_bits.specs.Configuration.{bit_at}
use Rattle.ice_asc.specs.Text.{digit_of_bit}
use Rattle.ice_asc.proofs.Joining.{digit_more}
use Rattle.ice_asc.proofs.write.put_row.Goals as goal

pub loop-col-preserved : goal.loop-col-preserved
loop-col-preserved c =
    c.in_ok-push.ensures.items
    ∙ digit_more (bit_at (option_map (λ rows. rows.now) c.args.rows)) c.loop-col.col c.args.row c.digit_of_bit.result c.args.out.now.items c.loop-col.out.items c.loop-col.invariant
    (c.digit_of_bit.ensures ∙ ap digit_of_bit c.bit_at.ensures)
