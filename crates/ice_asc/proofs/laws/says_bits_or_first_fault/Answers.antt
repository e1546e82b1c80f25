use Rattle.ice_asc.proofs.FirstFaults.{text_bits, text_fault, text_one, text_never_both}
use Rattle.ice_asc.proofs.laws.says_bits_or_first_fault.Goals as goal

pub returns-clause-bits : goal.returns-clause-bits
returns-clause-bits c = text_bits c.args.chip.now c.args.text.now

pub returns-clause-fault : goal.returns-clause-fault
returns-clause-fault c = text_fault c.args.chip.now c.args.text.now

pub returns-clause-one : goal.returns-clause-one
returns-clause-one c = text_one c.args.chip.now c.args.text.now

pub returns-clause-never_both : goal.returns-clause-never_both
returns-clause-never_both c = text_never_both c.args.chip.now c.args.text.now
