use Rattle.std.proofs.Common.{ap, ◌∙◌}
use Rattle.ice_bits.specs.Configuration.{bits_of}
use Rattle.ice_decode.specs.Pads.{is_enabled}
use Rattle.ice_back_laws.specs.declared.root.LevelRoot.TheVariants.{Level}
use Rattle.ice_back_laws.specs.Roots.{pad_number, bonded_root}
use Rattle.ice_back_points.proofs.Turned.{enabled_is}
use Rattle.ice_back_points.proofs.roots.feeding_root.Goals as goal

pub returns : goal.returns
returns c =
    c.level_root.ensures
    ∙ ap (bonded_root Level) c.enabled_number.ensures
    ∙ enabled_is Level (pad_number c.args.pad c.args.pads.now.keys) (is_enabled c.args.chip.now (bits_of c.args.bits.now) c.args.pad)
