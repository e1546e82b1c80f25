use Rattle.std.proofs.Common.{rules, ◌<◌, length, List, Bool, ◌≡◌, set, ap, sym, ◌∙◌, Some}
use Rattle.ice_base.specs.declared.number.TileAt.{TileAt}
use Rattle.ice_bits.specs.Rewriting.{rows_with, tiles_with}
use Rattle.ice_bits.specs.TilePlaces.{place_in}
use Rattle.ice_bits.proofs.TileWrites.{place_within, place_after, written_at}
use Rattle.ice_bits.proofs.grids.Grids.write.Goals as goal

abbrev Tiles : Type 0
Tiles = List (TileAt × List (List Bool))

pub index_mut-held-requires : goal.index_mut-held-requires
index_mut-held-requires c =
    let lt : c.args.place < length c.self.inside.tiles.items =
    place_within c.args.tile c.self.inside.tiles.items c.args.place (ap (λ (es : Tiles). place_in c.args.tile es) c.self.view_is ∙ c.requires) in
    search rules

pub invariant_of-self : goal.invariant_of-self
invariant_of-self c =
    let at : place_in c.args.tile c.self.inside.tiles.items ≡ Some c.args.place = ap (λ (es : Tiles). place_in c.args.tile es) c.self.view_is ∙ c.requires in
    let wrote : set c.self.inside.tiles.items c.args.place (c.index_mut-held.result.now.0, c.write.new.self) ≡ tiles_with c.args.tile (rows_with c.args.bit c.args.value) c.self.inside.tiles.items =
    written_at c.args.tile (rows_with c.args.bit c.args.value) c.self.inside.tiles.items c.args.place c.index_mut-held.result.now c.write.new.self at c.index_mut-held.ensures.value c.write.ensures in
    record {
      each = λ t. c.self.invariant.each t ∙ sym (ap (place_in t) wrote ∙ place_after c.args.tile t (rows_with c.args.bit c.args.value) c.self.inside.tiles.items);
    }

pub returns-clause-written : goal.returns-clause-written
returns-clause-written c =
    let at : place_in c.args.tile c.self.inside.tiles.items ≡ Some c.args.place = ap (λ (es : Tiles). place_in c.args.tile es) c.self.view_is ∙ c.requires in
    written_at c.args.tile (rows_with c.args.bit c.args.value) c.self.inside.tiles.items c.args.place c.index_mut-held.result.now c.write.new.self at c.index_mut-held.ensures.value c.write.ensures
    ∙ ap (λ (es : Tiles). tiles_with c.args.tile (rows_with c.args.bit c.args.value) es) c.self.view_is

pub returns-clause-place : goal.returns-clause-place
returns-clause-place c =
    let at : place_in c.args.tile c.self.inside.tiles.items ≡ Some c.args.place = ap (λ (es : Tiles). place_in c.args.tile es) c.self.view_is ∙ c.requires in
    ap (place_in c.args.tile)
    (written_at c.args.tile (rows_with c.args.bit c.args.value) c.self.inside.tiles.items c.args.place c.index_mut-held.result.now c.write.new.self at c.index_mut-held.ensures.value c.write.ensures)
    ∙ place_after c.args.tile c.args.tile (rows_with c.args.bit c.args.value) c.self.inside.tiles.items ∙ at
