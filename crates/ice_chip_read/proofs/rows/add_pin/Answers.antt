use Rattle.std.proofs.Common.{rules, ◌≡◌, [], ◌∷◌, ◌++◌, None, bytes_eq, sym, ap, ◌∙◌, Ok}
use Rattle.std.specs.Map.{lookup}
use Rattle.indexmap.specs.IndexSet.{insert_key}
use Rattle.ice_chip.specs.Views.{package_view}
use Rattle.ice_chip.specs.Database.{same_pad}
use Rattle.ice_chip_read.specs.Lines.{with_pin}
use Rattle.ice_chip.proofs.Entries.{new_goes_last}
use Rattle.ice_chip_read.proofs.rows.add_pin.Goals as goal

pub returns : goal.returns
returns c =
    let same : c.in_ok-pin.pin ≡ c.args.pin.now = search rules in
    let none : lookup (bytes_eq c.in_ok-pin.pin) c.args.pins.now.pins.entries ≡ None = search rules in
    let joined : c.insert.new.self.entries ≡ c.args.pins.now.pins.entries ++ (c.in_ok-pin.pin, c.args.pad) ∷ [] = new_goes_last bytes_eq c.args.pins.now.pins c.insert.new.self c.in_ok-pin.pin c.args.pad none (search rules) in
    let pads : c.insert_full.new.self.keys ≡ insert_key same_pad c.args.pins.now.pads.keys c.args.pad = search rules in
    let made : with_pin (package_view c.args.pins.now) c.in_ok-pin.pin c.args.pad None ≡ package_view (record { name = c.args.pins.now.name; pins = c.insert.new.self; pads = c.insert_full.new.self }) = cc in
    ap (λ pin. Ok (with_pin (package_view c.args.pins.now) pin c.args.pad (lookup (bytes_eq pin) c.args.pins.now.pins.entries))) (sym same)
    ∙ ap (λ found. Ok (with_pin (package_view c.args.pins.now) c.in_ok-pin.pin c.args.pad found)) none
    ∙ ap Ok made
