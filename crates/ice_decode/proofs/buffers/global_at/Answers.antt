use Rattle.std.proofs.Common.{◌∙◌}
use Rattle.ice_decode.proofs.GlobalsNamed.{global_is}
use Rattle.ice_decode.proofs.buffers.global_at.Goals as goal

pub returns : goal.returns
returns c = c.global_named.ensures ∙ global_is c.args.chip.now c.chip_is_lawful.ensures c.args.tile c.args.wire.0
