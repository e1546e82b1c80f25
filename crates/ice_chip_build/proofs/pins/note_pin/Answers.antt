use Rattle.std.proofs.Common.{rules, ◌≡◌, [], ◌∷◌, ◌++◌, None, nat_eq}
use Rattle.std.specs.Map.{lookup}
use Rattle.ice_chip.proofs.Entries.{new_goes_last}
use Rattle.ice_chip_build.proofs.pins.note_pin.Goals as goal

pub returns : goal.returns
returns c =
    let none : lookup (nat_eq c.args.wire) c.args.seen.now.entries ≡ None = search rules in
    let joined : c.insert.new.self.entries ≡ c.args.seen.now.entries ++ (c.args.wire, c.args.pin) ∷ [] = new_goes_last nat_eq c.args.seen.now c.insert.new.self c.args.wire c.args.pin none (search rules) in
    search rules
