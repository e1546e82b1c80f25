use Rattle.ice_blif.proofs.FaultLaws.{text_netlist, text_fault, text_one, text_never_both}
use Rattle.ice_blif.proofs.laws.says_netlist_or_first_fault.Goals as goal

pub returns-clause-netlist : goal.returns-clause-netlist
returns-clause-netlist c = text_netlist c.args.text.now

pub returns-clause-fault : goal.returns-clause-fault
returns-clause-fault c = text_fault c.args.text.now

pub returns-clause-one : goal.returns-clause-one
returns-clause-one c = text_one c.args.text.now

pub returns-clause-never_both : goal.returns-clause-never_both
returns-clause-never_both c = text_never_both c.args.text.now
