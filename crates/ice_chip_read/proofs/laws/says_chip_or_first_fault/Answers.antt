use Rattle.ice_chip_read.proofs.FirstFaults.{has_chip, has_fault, has_one, never_both}
use Rattle.ice_chip_read.proofs.laws.says_chip_or_first_fault.Goals as goal

pub returns-clause-chip : goal.returns-clause-chip
returns-clause-chip c = has_chip c.args.text.now

pub returns-clause-fault : goal.returns-clause-fault
returns-clause-fault c = has_fault c.args.text.now

pub returns-clause-one : goal.returns-clause-one
returns-clause-one c = has_one c.args.text.now

pub returns-clause-never_both : goal.returns-clause-never_both
returns-clause-never_both c = never_both c.args.text.now
