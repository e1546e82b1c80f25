use Rattle.std.proofs.Common.{◌≡◌, ap, ◌∙◌, rules}
use Rattle.std.specs.Map.{lookup}
use Rattle.ice_chip_build.specs.BitsUsed.{with_clash}
use Rattle.ice_chip.specs.contracts.uses.KindBitPartialEq.TheImpl as bits
use Rattle.ice_chip_build.proofs.DerivedEquality.{bits_equal}
use Rattle.ice_chip_build.proofs.shared.with_other.Goals as goal

pub returns : goal.returns
returns c =
    let entries = c.args.read.now.entries in
    let derived : c.with_clash.result ≡ with_clash c.args.known c.args.line (lookup ((bits.eq-value).it c.args.place) entries) = search rules in
    derived ∙ ap (λ equal. with_clash c.args.known c.args.line (lookup (equal c.args.place) entries)) bits_equal
