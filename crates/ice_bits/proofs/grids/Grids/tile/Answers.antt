use Rattle.std.proofs.Common.{rules, ◌≡◌, ◌<◌, length, List, Bool, Some, ap, sym, ◌∙◌}
use Rattle.std.specs.Map.{lookup}
use Rattle.ice_base.specs.declared.number.TileAt.{TileAt}
use Rattle.ice_chip.specs.Database.{same_tile}
use Rattle.ice_bits.specs.TilePlaces.{place_in}
use Rattle.ice_bits.proofs.TileWrites.{place_within, place_none, place_some}
use Rattle.ice_bits.proofs.grids.Grids.tile.Goals as goal

pub index-requires : goal.index-requires
index-requires c =
    let lt : c.in-Some.place < length c.self.inside.tiles.items =
    place_within c.args.tile c.self.inside.tiles.items c.in-Some.place (ap (λ (es : List (TileAt × List (List Bool))). place_in c.args.tile es) c.self.view_is ∙ sym c.in-Some.ensures) in
    search rules

pub returns-in-None : goal.returns-in-None
returns-in-None c = sym (place_none c.args.tile c.args.self.now (sym c.in-None.ensures))

pub returns-in-Some : goal.returns-in-Some
returns-in-Some c =
    let at : place_in c.args.tile c.self.inside.tiles.items ≡ Some c.in-Some.place
    = ap (λ (es : List (TileAt × List (List Bool))). place_in c.args.tile es) c.self.view_is ∙ sym c.in-Some.ensures in
    ap (λ e. Some e.1) c.index.ensures ∙ sym (place_some c.args.tile c.self.inside.tiles.items c.in-Some.place c.index.result.now at)
    ∙ ap (λ (es : List (TileAt × List (List Bool))). lookup (same_tile c.args.tile) es) c.self.view_is
