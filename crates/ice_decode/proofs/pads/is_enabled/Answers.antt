use Rattle.std.proofs.Common.{ap, sym, ◌∙◌}
use Rattle.std.specs.Prelude.{not}
use Rattle.ice_bits.specs.Configuration.{bits_of}
use Rattle.ice_bits.specs.Settings.{set_at}
use Rattle.ice_decode.specs.Pads.{is_enabled_by}
use Rattle.ice_decode.proofs.pads.is_enabled.Goals as goal

pub returns-in-Some : goal.returns-in-Some
returns-in-Some c =
    let named = ap (λ name. set_at c.args.chip.now (bits_of c.args.bits.now) c.in-Some.enable.tile name 0) c.input_enable_function.ensures in
    ap not (c.setting.ensures ∙ named) ∙ ap (is_enabled_by c.args.chip.now (bits_of c.args.bits.now)) (sym c.in-Some.is ∙ c.ieren_of.ensures)
