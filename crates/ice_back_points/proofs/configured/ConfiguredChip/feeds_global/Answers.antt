use Rattle.std.proofs.Common.{ap, ◌∙◌}
use Rattle.ice_bits.specs.Configuration.{bits_of}
use Rattle.ice_back_laws.specs.Roots.{feeds_global}
use Rattle.ice_back_points.specs.ConfiguredChips.{ConfiguredData}
use Rattle.ice_back_points.proofs.configured.ConfiguredChip.feeds_global.Goals as goal

pub feeds_global-requires : goal.feeds_global-requires
feeds_global-requires c = c.self.invariant.circuit

pub returns : goal.returns
returns c = c.feeds_global.ensures ∙ ap (λ (d : ConfiguredData). feeds_global d.parts (bits_of d.configuration) d.configuration.extras c.args.pad) c.self.view_is
