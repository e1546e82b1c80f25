use Rattle.std.proofs.Common.{rules, ◌≡◌, [], ◌∷◌, ◌++◌, None, sym, ap, ◌∙◌}
use Rattle.std.specs.Map.{lookup}
use Rattle.ice_chip.specs.Database.{same_pad}
use Rattle.ice_sim.specs.ConfiguredChips.{put_place}
use Rattle.ice_chip.proofs.Entries.{new_goes_last}
use Rattle.ice_sim.proofs.configured.note_pad.Goals as goal

pub returns-in_ok-insert : goal.returns-in_ok-insert
returns-in_ok-insert c =
    let none : lookup (same_pad c.args.pad) c.args.places.now.entries ≡ None = search rules in
    let put : c.insert.new.self.entries ≡ c.args.places.now.entries ++ (c.args.pad, c.args.place) ∷ []
    = new_goes_last same_pad c.args.places.now c.insert.new.self c.args.pad c.args.place none (search rules) in
    put ∙ ap (put_place c.args.pad c.args.place c.args.places.now.entries) (sym none)
