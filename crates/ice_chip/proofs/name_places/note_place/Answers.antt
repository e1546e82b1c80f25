use Rattle.std.proofs.Common.{rules, ◌≡◌, [], ◌∷◌, ◌++◌, None, bytes_eq, is_some, true}
use Rattle.std.specs.Map.{lookup}
use Rattle.ice_chip.proofs.Entries.{new_goes_last}
use Rattle.ice_chip.proofs.NamePlaces.{text_kept, text_put}
use Rattle.ice_chip.proofs.name_places.note_place.Goals as goal

pub returns-in_ok-insert : goal.returns-in_ok-insert
returns-in_ok-insert c =
    let none : lookup (λ key. bytes_eq c.args.name.now key.items) c.args.places.now.entries ≡ None = search rules in
    let same : lookup (λ k. bytes_eq c.in_ok-key.key.items k.items) c.args.places.now.entries ≡ None = rw (c.in_ok-key.ensures.items) none in
    let put : c.insert.new.self.entries ≡ c.args.places.now.entries ++ (c.in_ok-key.key, c.args.place) ∷ [] =
    new_goes_last (λ a b. bytes_eq a.items b.items) c.args.places.now c.insert.new.self c.in_ok-key.key c.args.place same (search rules) in
    text_put c.args.name.now c.args.place c.args.places.now.entries c.insert.new.self.entries c.in_ok-key.key c.in_ok-key.ensures.items none put

pub returns-else-is_none : goal.returns-else-is_none
returns-else-is_none c =
    let some : is_some (lookup (λ key. bytes_eq c.args.name.now key.items) c.args.places.now.entries) ≡ true = search rules in
    text_kept c.args.name.now c.args.place c.args.places.now.entries some
