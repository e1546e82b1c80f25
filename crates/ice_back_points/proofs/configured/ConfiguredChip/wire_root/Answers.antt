use Rattle.std.proofs.Common.{◌≡◌, ◌<◌, List, false, get_or, sym, ap, ◌∙◌, subst}
use Rattle.ice_bits.specs.Configuration.{bits_of}
use Rattle.ice_decode.specs.declared.point.Point.TheVariants.{Wire}
use Rattle.ice_back_laws.specs.declared.root.LevelRoot.{LevelRoot}
use Rattle.ice_back_laws.specs.declared.root.LevelRoot.TheVariants.{Fixed}
use Rattle.ice_back_laws.specs.Roots.{IsNumbered, root_of}
use Rattle.ice_back_points.specs.ConfiguredChips.{ConfiguredData, IsConfigured}
use Rattle.ice_back_points.proofs.ConfiguredFacts.{wire_numbered}
use Rattle.ice_back_points.proofs.configured.ConfiguredChip.wire_root.Goals as goal
use Rattle.ice_back_points.proofs.configured.ConfiguredChip.wire_root.Goals.{After-root_at}

root_is : (c : After-root_at) → c.root_at.result ≡ root_of c.args.self.now.parts (bits_of c.args.self.now.configuration) c.args.self.now.configuration.extras c.args.self.now.bonded.pads (Wire c.args.wire)
root_is c =
    c.root_at.ensures
    ∙ ap (λ (roots : List LevelRoot). get_or roots c.args.wire.0 (Fixed false)) c.deref.ensures.value
    ∙ c.self.invariant.roots c.args.wire.0 (subst (λ (d : ConfiguredData). c.args.wire.0 < d.parts.wires) (sym c.self.view_is) c.requires)
    ∙ ap (λ (d : ConfiguredData). root_of d.parts (bits_of d.configuration) d.configuration.extras d.bonded.pads (Wire c.args.wire)) c.self.view_is

pub returns-clause-root : goal.returns-clause-root
returns-clause-root c = root_is c

pub returns-clause-numbered : goal.returns-clause-numbered
returns-clause-numbered c =
    subst (IsNumbered c.args.self.now.parts c.args.self.now.bonded.pads) (sym (root_is c))
    (wire_numbered c.args.self.now (subst (λ (d : ConfiguredData). IsConfigured d) c.self.view_is c.self.invariant.configured) c.args.wire.0 c.requires)
