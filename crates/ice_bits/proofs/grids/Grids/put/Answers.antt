use Rattle.std.proofs.Common.{rules, ◌<◌, length, List, Bool, ◌≡◌, set, ap, sym, refl, ◌∙◌, Some}
use Rattle.ice_base.specs.declared.number.TileAt.{TileAt}
use Rattle.ice_bits.specs.Rewriting.{tiles_with}
use Rattle.ice_bits.specs.TilePlaces.{place_in}
use Rattle.ice_bits.proofs.TileWrites.{place_within, place_after, written_at, nothing_changes}
use Rattle.ice_bits.proofs.grids.Grids.put.Goals as goal

abbrev Tiles : Type 0
Tiles = List (TileAt × List (List Bool))

pub index_mut-requires : goal.index_mut-requires
index_mut-requires c =
    let lt : c.in-Some.place < length c.self.inside.tiles.items =
    place_within c.args.tile c.self.inside.tiles.items c.in-Some.place (ap (λ (es : Tiles). place_in c.args.tile es) c.self.view_is ∙ sym c.in-Some.ensures) in
    search rules

pub invariant_of-self : goal.invariant_of-self
invariant_of-self c =
    let at : place_in c.args.tile c.self.inside.tiles.items ≡ Some c.in-Some.place = ap (λ (es : Tiles). place_in c.args.tile es) c.self.view_is ∙ sym c.in-Some.ensures in
    let wrote : set c.self.inside.tiles.items c.in-Some.place (c.index_mut.result.now.0, c.args.rows) ≡ tiles_with c.args.tile (λ _. c.args.rows) c.self.inside.tiles.items =
    written_at c.args.tile (λ _. c.args.rows) c.self.inside.tiles.items c.in-Some.place c.index_mut.result.now c.args.rows at c.index_mut.ensures.value refl in
    record { each = λ t. c.self.invariant.each t ∙ sym (ap (place_in t) wrote ∙ place_after c.args.tile t (λ _. c.args.rows) c.self.inside.tiles.items) }

pub returns-in-Some : goal.returns-in-Some
returns-in-Some c =
    let at : place_in c.args.tile c.self.inside.tiles.items ≡ Some c.in-Some.place = ap (λ (es : Tiles). place_in c.args.tile es) c.self.view_is ∙ sym c.in-Some.ensures in
    written_at c.args.tile (λ _. c.args.rows) c.self.inside.tiles.items c.in-Some.place c.index_mut.result.now c.args.rows at c.index_mut.ensures.value refl
    ∙ ap (λ (es : Tiles). tiles_with c.args.tile (λ _. c.args.rows) es) c.self.view_is

pub returns-in_default : goal.returns-in_default
returns-in_default c = sym (nothing_changes c.args.tile (λ _. c.args.rows) c.args.self.now (sym c.in_default.ensures))
