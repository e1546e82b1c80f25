use Rattle.std.proofs.Common.{sym}
use Rattle.ice_bits.proofs.TileWrites.{places_nowhere}
use Rattle.ice_bits.proofs.bits.Bits.write_all.Goals as goal

pub returns-in_default : goal.returns-in_default
returns-in_default c = places_nowhere c.args.tile c.args.bits.now c.args.values.now c.args.self.now (sym c.in_default.ensures)
