use Rattle.std.proofs.Common.{ap, ◌∙◌}
use Rattle.ice_bits.specs.Configuration.{bits_of}
use Rattle.ice_bits.specs.Settings.{set_at}
use Rattle.ice_decode.proofs.pads.pin_type_digit.Goals as goal

pub returns : goal.returns
returns c = c.setting.ensures ∙ ap (λ name. set_at c.args.chip.now (bits_of c.args.bits.now) c.args.pad.tile name 0) c.pin_type_function.ensures
