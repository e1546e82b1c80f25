use Rattle.std.proofs.Common.{ap₂, ◌∙◌}
use Rattle.ice_pads.specs.Globals.{numbers}
use Rattle.ice_emit_defs.specs.Written.{extras_among}
use Rattle.ice_emit.specs.Views.{with_extras}
use Rattle.ice_emit.proofs.Ready.{all_set}
use Rattle.ice_emit.proofs.writing.bits_with.Goals as goal

pub returns : goal.returns
returns c =
    let parts = c.args.chip.now in
    all_set parts c.args.rows.now c.args.made.now (extras_among parts c.args.pads.now.globals c.args.pads.now.direct numbers) c.args.rams.now c.in_ok-bits.bits c.turn_all_on.new.bits c.set_all.new.bits c.add_extras.new.bits c.add_contents.new.bits c.is_chip.ensures c.requires c.in_ok-bits.ensures.blank c.turn_all_on.ensures
    c.set_all.ensures
    (c.in_ok-add_extras.ensures ∙ ap₂ (λ globals direct. with_extras (extras_among parts globals direct numbers) c.set_all.new.bits) c.globals.ensures c.direct.ensures)
    c.in_ok-add_contents.ensures
