-- Kinds of tiles that a test takes for the same are equal.
use Rattle.std.proofs.Common.{◌≡◌, true, refl, sym, true≢false}
use Rattle.ice_chip.specs.declared.rows.TileKind.{TileKind}
use Rattle.ice_chip.specs.declared.rows.TileKind.TheVariants.{Io, Logic, RamBottom, RamTop}
use Rattle.ice_chip.specs.Functions.{same_kind}

pub kind_same : (a b : TileKind) → same_kind a b ≡ true → a ≡ b
kind_same Io Io e = refl
kind_same Io Logic e = absurd (true≢false (sym e))
kind_same Io RamBottom e = absurd (true≢false (sym e))
kind_same Io RamTop e = absurd (true≢false (sym e))
kind_same Logic Io e = absurd (true≢false (sym e))
kind_same Logic Logic e = refl
kind_same Logic RamBottom e = absurd (true≢false (sym e))
kind_same Logic RamTop e = absurd (true≢false (sym e))
kind_same RamBottom Io e = absurd (true≢false (sym e))
kind_same RamBottom Logic e = absurd (true≢false (sym e))
kind_same RamBottom RamBottom e = refl
kind_same RamBottom RamTop e = absurd (true≢false (sym e))
kind_same RamTop Io e = absurd (true≢false (sym e))
kind_same RamTop Logic e = absurd (true≢false (sym e))
kind_same RamTop RamBottom e = absurd (true≢false (sym e))
kind_same RamTop RamTop e = refl

pub kind_self : (a : TileKind) → same_kind a a ≡ true
kind_self Io = refl
kind_self Logic = refl
kind_self RamBottom = refl
kind_self RamTop = refl
