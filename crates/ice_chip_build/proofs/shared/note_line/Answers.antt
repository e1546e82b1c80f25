use Rattle.std.proofs.Common.{◌≡◌, ap, ◌∙◌, rules}
use Rattle.std.specs.Map.{lookup}
use Rattle.indexmap.specs.IndexMap.{insert_entry}
use Rattle.ice_chip.specs.LeastLine.{least_of}
use Rattle.ice_chip.specs.contracts.uses.KindBitPartialEq.TheImpl as bits
use Rattle.ice_chip_build.proofs.DerivedEquality.{bits_equal}
use Rattle.ice_chip_build.proofs.shared.note_line.Goals as goal

pub returns : goal.returns
returns c =
    let entries = c.args.lines.now.entries in
    let known : c.least_of-least.result ≡ least_of (lookup ((bits.eq-value).it c.args.place) entries) c.args.line = search rules in
    let put : c.insert.new.self.entries ≡ insert_entry (bits.eq-value).it entries c.args.place (least_of (lookup ((bits.eq-value).it c.args.place) entries) c.args.line) = search rules in
    put ∙ ap (λ equal. insert_entry equal entries c.args.place (least_of (lookup (equal c.args.place) entries) c.args.line)) bits_equal
