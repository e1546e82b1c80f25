use Rattle.std.proofs.Common.{ap, ◌∙◌}
use Rattle.ice_bits.specs.Configuration.{bits_of}
use Rattle.ice_decode.specs.Pads.{is_enabled}
use Rattle.ice_back_laws.specs.declared.root.LevelRoot.TheVariants.{Input}
use Rattle.ice_back_laws.specs.Roots.{pad_number, bonded_root}
use Rattle.ice_back_points.proofs.Turned.{enabled_is}
use Rattle.ice_back_points.proofs.roots.plain_root.Goals as goal

pub returns : goal.returns
returns c =
    c.given_root.ensures
    ∙ ap (bonded_root Input) c.enabled_number.ensures
    ∙ enabled_is Input (pad_number c.args.pad c.args.pads.now.keys) (is_enabled c.args.chip.now (bits_of c.args.bits.now) c.args.pad)
