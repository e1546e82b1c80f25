use Rattle.std.proofs.Common.{rules, ◌≡◌, None, Some, sym, ap, ◌∙◌, slice_get, option_map, option_copied}
use Rattle.std.specs.Option.{option_and_then}
use Rattle.ice_chip.specs.NamePlaces.{by_kind}
use Rattle.ice_chip.specs.Lookups.{function_of}
use Rattle.ice_chip.specs.Views.{parts_view, function_view}
use Rattle.ice_chip.proofs.NamePlaces.{function_found, seen_at, item_found}
use Rattle.ice_chip.proofs.chip.Chip.function.Goals as goal

pub returns-in_err-place : goal.returns-in_err-place
returns-in_err-place c =
    let parts = parts_view c.self.inside.parts in
    let none : c.find.result ≡ None = search rules in
    let answer : c.from_residual.result ≡ None = search rules in
    ap (option_map (λ found. function_view found.now)) answer
    ∙ ap (option_and_then (slice_get parts.functions)) (sym none ∙ c.find.ensures)
    ∙ function_found parts (by_kind c.self.inside.places.functions) c.args.kind c.args.name.now c.self.invariant.places.functions
    ∙ ap (λ rows. function_of rows c.args.kind c.args.name.now) c.self.view_is

pub returns : goal.returns
returns c =
    let parts = parts_view c.self.inside.parts in
    let some : c.find.result ≡ Some c.in_ok-place.place = search rules in
    let got : option_copied c.get.result ≡ slice_get c.self.inside.parts.functions.items c.in_ok-place.place =
    item_found c.deref.result.now c.in_ok-place.place c.get.result (c.get.ensures.lookup.0) (c.get.ensures.lookup.1) ∙ ap (λ xs. slice_get xs c.in_ok-place.place) c.deref.ensures.value in
    seen_at function_view c.get.result c.self.inside.parts.functions.items c.in_ok-place.place got
    ∙ ap (option_and_then (slice_get parts.functions)) (sym some ∙ c.find.ensures)
    ∙ function_found parts (by_kind c.self.inside.places.functions) c.args.kind c.args.name.now c.self.invariant.places.functions
    ∙ ap (λ rows. function_of rows c.args.kind c.args.name.now) c.self.view_is
