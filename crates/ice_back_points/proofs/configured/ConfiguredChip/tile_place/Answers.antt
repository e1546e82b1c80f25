use Rattle.std.proofs.Common.{◌≡◌, ℕ, List, Option, sym, ap, ◌∙◌, subst}
use Rattle.std.specs.Prelude.{IsSome}
use Rattle.ice_base.specs.declared.number.TileAt.{TileAt}
use Rattle.ice_decode.specs.Cells.{logic_tiles, tile_place}
use Rattle.ice_back_points.specs.ConfiguredChips.{ConfiguredData, IsConfigured}
use Rattle.ice_back_points.proofs.ConfiguredFacts.{place_below}
use Rattle.ice_back_points.proofs.Turned.{tile_found}
use Rattle.ice_back_points.proofs.configured.ConfiguredChip.tile_place.Goals as goal
use Rattle.ice_back_points.proofs.configured.ConfiguredChip.tile_place.Goals.{After-get_index_of}

found : (c : After-get_index_of) → c.get_index_of.result ≡ tile_place c.args.tile (logic_tiles c.args.self.now.parts)
found c =
    c.get_index_of.ensures.index
    ∙ tile_found c.self.inside.tiles.keys c.args.tile
    ∙ ap (λ (tiles : List TileAt). tile_place c.args.tile tiles) c.self.invariant.tiles
    ∙ ap (λ (d : ConfiguredData). tile_place c.args.tile (logic_tiles d.parts)) c.self.view_is

pub unwrap-requires : goal.unwrap-requires
unwrap-requires c = subst (λ (o : Option ℕ). IsSome o) (sym (found c)) c.requires

pub returns-clause-place : goal.returns-clause-place
returns-clause-place c = let a = (goal.at.returns-clause-place c).After-get_index_of in sym (found a) ∙ c.unwrap.ensures

pub returns-clause-small : goal.returns-clause-small
returns-clause-small c =
    let a = (goal.at.returns-clause-small c).After-get_index_of in
    place_below c.args.self.now (subst (λ (d : ConfiguredData). IsConfigured d) c.self.view_is c.self.invariant.configured) c.args.tile c.unwrap.result (sym (found a) ∙ c.unwrap.ensures)
