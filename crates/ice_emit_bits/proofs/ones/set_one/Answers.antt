use Rattle.std.proofs.Common.{sym, ◌∙◌}
use Rattle.ice_emit_bits.proofs.Placing.{somewhere_added}
use Rattle.ice_emit_bits.proofs.ones.set_one.Goals as goal

pub returns-in-Some : goal.returns-in-Some
returns-in-Some c =
    somewhere_added c.args.chip.now c.args.bits.now c.set_if.new.bits c.args.tile c.args.name.now c.args.number c.in-Some.place (sym c.place_of.ensures ∙ c.in-Some.is) c.set_if.ensures
