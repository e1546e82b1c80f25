use Rattle.std.proofs.Common.{rules, ◌≡◌, ◌∙◌, bytes_eq}
use Rattle.std.specs.Map.{lookup}
use Rattle.ice_chip.proofs.NamePlaces.{lookup_text}
use Rattle.ice_chip.proofs.name_places.place_of.Goals as goal

pub returns : goal.returns
returns c =
    let found : c.copied.result ≡ lookup (λ key. bytes_eq c.args.name.now key.items) c.args.places.now.entries = search rules in
    found ∙ lookup_text c.args.name.now c.args.places.now.entries
