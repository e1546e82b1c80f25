use Rattle.std.proofs.Common.{sym, arith}
use Rattle.ice_bits_rows.proofs.Listing.{groups_beyond}
use Rattle.ice_bits_rows.proofs.index.Index.groups_into.Goals as goal

pub returns-then-wire-wires : goal.returns-then-wire-wires
returns-then-wire-wires c = sym (groups_beyond c.args.self.now.chip.now.wires c.args.wire.0 c.args.self.now.chip.now.groups c.wires.ensures.chip.read.group_wires (omega arith))
