-- The derived `==` of bits of kinds, as the definitions name it.
use Rattle.std.proofs.Common.{◌≡◌, Bool, refl, ap, ◌&&◌, ◌==◌}
use Rattle.std.proofs.Math.Path.{fun_ext}
use Rattle.ice_chip.specs.Functions.{same_kind}
use Rattle.ice_chip.specs.SharedFunction.{same_bit}
use Rattle.ice_chip.specs.contracts.rows.TileKindPartialEq.TheImpl as kinds
use Rattle.ice_chip.specs.contracts.uses.KindBitPartialEq.TheImpl as bits
use Rattle.ice_chip.specs.declared.rows.TileKind.{TileKind}
use Rattle.ice_chip.specs.declared.rows.TileKind.TheVariants.{Io, Logic, RamBottom, RamTop}
use Rattle.ice_chip.specs.declared.uses.KindBit.{KindBit}

pub kinds_equal : (a b : TileKind) → (kinds.eq-value).it a b ≡ same_kind a b
kinds_equal Io Io = refl
kinds_equal Io Logic = refl
kinds_equal Io RamBottom = refl
kinds_equal Io RamTop = refl
kinds_equal Logic Io = refl
kinds_equal Logic Logic = refl
kinds_equal Logic RamBottom = refl
kinds_equal Logic RamTop = refl
kinds_equal RamBottom Io = refl
kinds_equal RamBottom Logic = refl
kinds_equal RamBottom RamBottom = refl
kinds_equal RamBottom RamTop = refl
kinds_equal RamTop Io = refl
kinds_equal RamTop Logic = refl
kinds_equal RamTop RamBottom = refl
kinds_equal RamTop RamTop = refl

pub bits_equal : (bits.eq-value).it ≡ same_bit
bits_equal = fun_ext (λ (a : KindBit). fun_ext (λ (b : KindBit). ap (λ (same : Bool). same && ((a.bit.row == b.bit.row) && (a.bit.col == b.bit.col))) (kinds_equal a.kind b.kind)))
