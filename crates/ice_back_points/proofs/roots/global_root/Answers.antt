use Rattle.std.proofs.Common.{ap, ◌∙◌}
use Rattle.ice_bits.specs.Configuration.{Configuration, bits_of}
use Rattle.ice_back_points.specs.Filling.{either_root}
use Rattle.ice_back_points.proofs.roots.global_root.Goals as goal

pub returns : goal.returns
returns c =
    c.either_root.ensures
    ∙ ap (λ (k : Configuration). either_root c.args.chip.now (bits_of k) c.args.pads.now.keys c.args.roots.now c.args.global c.takes_pad.result) c.bits.ensures
    ∙ ap (either_root c.args.chip.now (bits_of c.args.circuit.now.configuration) c.args.pads.now.keys c.args.roots.now c.args.global) (c.takes_pad.ensures.told c.args.chip.now c.requires)
