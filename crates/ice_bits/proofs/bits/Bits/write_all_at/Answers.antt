use Rattle.std.proofs.Common.{sym, ◌∙◌}
use Rattle.std.proofs.lemmas.Option.{slice_get_past}
use Rattle.ice_bits.proofs.TileWrites.{values_end}
use Rattle.ice_bits.proofs.bits.Bits.write_all_at.Goals as goal

pub returns-in_default : goal.returns-in_default
returns-in_default c =
    sym (values_end c.args.tile c.args.bits.now c.args.values.now c.loop-i.i c.loop-i.self (slice_get_past c.args.values.now c.loop-i.i c.in_default.ensures.lookup.3))
    ∙ c.loop-i.invariant.rest
