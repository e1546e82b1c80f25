use Rattle.std.proofs.Common.{sym, ◌∙◌}
use Rattle.ice_bits_rows.proofs.WireUses.{closed_use, open_use}
use Rattle.ice_bits_rows.proofs.uses.use_of.Goals as goal

pub returns-then-has_closed_name : goal.returns-then-has_closed_name
returns-then-has_closed_name c = closed_use c.args.chip.now c.args.wire.0 (sym c.has_closed_name.ensures ∙ c.if-has_closed_name.true)

pub returns : goal.returns
returns c =
    open_use c.args.chip.now c.args.wire.0 c.has_pin_names-input.result.0 c.has_pin_names-input.result.1 (sym c.has_closed_name.ensures ∙ c.if-has_closed_name.false) c.has_pin_names-input.ensures.input c.has_pin_names-input.ensures.output
