use Rattle.std.proofs.Common.{rules, length, sym, ap, ◌∙◌}
use Rattle.ice_bits_rows.proofs.Blocks.{items_at, items_set}
use Rattle.ice_bits_rows.proofs.owners.note.Goals as goal

pub note_in-requires-clause-long : goal.note_in-requires-clause-long
note_in-requires-clause-long c = sym (ap length (items_at c.args.blocks.now c.args.number c.index-blocks-number.result c.requires.there)) ∙ c.requires.long

pub returns : goal.returns
returns c = items_set c.args.blocks.now c.args.number c.index-blocks-number.result c.note_in.new.block c.args.bit c.args.wire.0 c.requires.there (search rules)
