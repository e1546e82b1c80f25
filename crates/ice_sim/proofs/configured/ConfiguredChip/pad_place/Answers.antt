use Rattle.std.proofs.Common.{rules, ◌≡◌, ◌∙◌, ap}
use Rattle.std.specs.Map.{lookup}
use Rattle.ice_chip.specs.Database.{same_pad}
use Rattle.ice_sim.specs.ChipSlots.{pad_place}
use Rattle.ice_sim.specs.ConfiguredChips.{ConfiguredData}
use Rattle.ice_sim.proofs.TilePlaces.{pad_found}
use Rattle.ice_sim.proofs.configured.ConfiguredChip.pad_place.Goals as goal

pub returns : goal.returns
returns c =
    let found : c.map.result ≡ lookup (same_pad c.args.pad) c.self.inside.pad_places.entries = search rules in
    found ∙ pad_found c.self.inside.pads.now c.self.inside.pad_places.entries c.args.pad c.self.invariant.pad_places
    ∙ ap (λ (d : ConfiguredData). pad_place d.bonded c.args.pad) c.self.view_is
