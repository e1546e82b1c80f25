use Rattle.std.proofs.Common.{◌∙◌, length, sym}
use Rattle.ice_check.specs.Faults.{is_driven_twice}
use Rattle.ice_check.proofs.Faulty.{first_within}
use Rattle.ice_check.proofs.checking.check_driven_once.Goals as goal

pub signal_name-requires-clause-signal : goal.signal_name-requires-clause-signal
signal_name-requires-clause-signal c =
    let n = c.args.netlist.now in
    first_within (is_driven_twice n) (length n.names) c.in-Some.signal (sym c.in_ok-signal.ensures ∙ c.in-Some.is)
