use Rattle.std.proofs.Common.{◌≡◌, true, false, sym, subst}
use Rattle.ice_bits.specs.Configuration.{Configuration, bits_of}
use Rattle.ice_bits.specs.Grids.{is_there}
use Rattle.ice_bits.specs.Written.{with_bit}
use Rattle.ice_bits.specs.Rewriting.{Rewrites}
use Rattle.ice_bits.proofs.TileWrites.{bit_rewrites, never_there}
use Rattle.ice_bits.proofs.bits.Bits.set.Goals as goal

pub returns-in-Some : goal.returns-in-Some
returns-in-Some c =
    subst (λ (k : Configuration). Rewrites c.args.self.now k (with_bit c.args.tile c.args.bit c.args.value (bits_of c.args.self.now))) (sym c.write_at.ensures.written)
    (bit_rewrites c.args.self.now c.args.tile c.args.bit c.args.value c.requires)

pub returns-in_default : goal.returns-in_default
returns-in_default c =
    let never : is_there c.args.self.now c.args.tile c.args.bit ≡ false = never_there c.args.self.now c.args.tile c.args.bit (sym c.in_default.ensures) in
    let there : is_there c.args.self.now c.args.tile c.args.bit ≡ true = c.requires in
    absurd (cc)
