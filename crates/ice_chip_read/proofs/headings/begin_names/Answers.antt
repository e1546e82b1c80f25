use Rattle.std.proofs.Common.{rules, ◌≡◌, nat_eq, [], ◌∷◌, ◌++◌, None}
use Rattle.std.specs.Map.{lookup}
use Rattle.ice_chip.proofs.Entries.{new_goes_last}
use Rattle.ice_chip_read.proofs.headings.begin_names.Goals as goal

pub returns : goal.returns
returns c =
    let none : lookup (nat_eq c.in_ok-known.known) c.args.reading.now.nets.entries ≡ None = search rules in
    let joined : c.insert.new.self.entries ≡ c.args.reading.now.nets.entries ++ (c.in_ok-known.known, c.args.line) ∷ [] = new_goes_last nat_eq c.args.reading.now.nets c.insert.new.self c.in_ok-known.known c.args.line none (search rules) in
    search rules
