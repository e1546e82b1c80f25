use Rattle.std.proofs.Common.{sym, ◌∙◌}
use Rattle.ice_chip.specs.Lookups.{kind_at}
use Rattle.ice_bits_rows.proofs.Pins.{no_input, no_output}
use Rattle.ice_bits_rows.proofs.names.pin_there.Goals as goal

pub returns-in-None-clause-input : goal.returns-in-None-clause-input
returns-in-None-clause-input c = sym (no_input (kind_at c.args.chip.now c.args.tile) c.args.name.now (sym c.tile_wire.ensures ∙ c.in-None.is))

pub returns-in-None-clause-output : goal.returns-in-None-clause-output
returns-in-None-clause-output c = sym (no_output (kind_at c.args.chip.now c.args.tile) c.args.name.now (sym c.tile_wire.ensures ∙ c.in-None.is))
