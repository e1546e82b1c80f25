use Rattle.ice_emit_rows_laws.proofs.SetBits.{no_groups, bit_set}
use Rattle.ice_emit_rows_laws.proofs.laws.settings_are_read.Goals as goal

pub returns-clause-apart : goal.returns-clause-apart
returns-clause-apart c settings read = no_groups c.args.chip.now c.chip_is_lawful.ensures.bits settings read

pub returns-clause-set : goal.returns-clause-set
returns-clause-set c settings t kind name k b read known is place has = (bit_set c.args.chip.now c.chip_is_lawful.ensures.bits settings read t name k b kind known is place).0 has

pub returns-clause-other : goal.returns-clause-other
returns-clause-other c settings t kind name k b read known is place never = (bit_set c.args.chip.now c.chip_is_lawful.ensures.bits settings read t name k b kind known is place).1 never
