use Rattle.std.proofs.Common.{◌≡◌, ap, ◌∙◌, rules}
use Rattle.std.specs.Map.{lookup}
use Rattle.ice_chip_build.specs.BitsUsed.{with_clash}
use Rattle.ice_chip.specs.SharedFunction.{same_bit}
use Rattle.ice_chip.specs.contracts.uses.KindBitPartialEq.TheImpl as bits
use Rattle.ice_chip_build.proofs.DerivedEquality.{bits_equal}
use Rattle.ice_chip_build.proofs.shared.UsedBits.note_other.Goals as goal

pub returns : goal.returns
returns c =
    let entries = c.args.self.now.read.entries in
    let derived : c.with_clash-self.result ≡ with_clash c.args.self.now.shared c.args.line (lookup ((bits.eq-value).it c.args.place) entries) = search rules in
    let shared : c.with_clash-self.result ≡ with_clash c.args.self.now.shared c.args.line (lookup (same_bit c.args.place) entries) =
    derived ∙ ap (λ equal. with_clash c.args.self.now.shared c.args.line (lookup (equal c.args.place) entries)) bits_equal in
    search rules
