use Rattle.std.proofs.Common.{rules, ◌≡◌, ◌∙◌, ap}
use Rattle.std.specs.Map.{lookup}
use Rattle.ice_chip.specs.Database.{same_tile}
use Rattle.ice_decode.specs.Cells.{logic_tiles, tile_place}
use Rattle.ice_sim.specs.ConfiguredChips.{ConfiguredData}
use Rattle.ice_sim.proofs.TilePlaces.{tile_found}
use Rattle.ice_sim.proofs.configured.ConfiguredChip.tile_place.Goals as goal

pub returns : goal.returns
returns c =
    let found : c.copied.result ≡ lookup (same_tile c.args.tile) c.self.inside.logic_places.entries = search rules in
    found ∙ tile_found (logic_tiles c.self.inside.chip.now) c.self.inside.logic_places.entries c.args.tile c.self.invariant.logic_places
    ∙ ap (λ (d : ConfiguredData). tile_place c.args.tile (logic_tiles d.parts)) c.self.view_is
