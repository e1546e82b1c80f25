use Rattle.ice_bits_rows.proofs.WireUses.{target_at, use_within}
use Rattle.ice_bits_rows.proofs.uses.is_target.Goals as goal

pub bounds-uses-wire : goal.bounds-uses-wire
bounds-uses-wire c = use_within c.args.chip.now c.args.uses.now c.args.wire.0 c.requires.uses c.requires.wire

pub returns : goal.returns
returns c = target_at c.args.chip.now c.args.uses.now c.args.wire.0 _ c.requires.uses c.requires.wire
