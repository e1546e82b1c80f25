use Rattle.std.proofs.Common.{◌<◌, length, rules}
use Rattle.ice_check.proofs.Faulty.{names_more}
use Rattle.ice_check.proofs.naming.names_of.Goals as goal

pub loop-signal-preserved : goal.loop-signal-preserved
loop-signal-preserved c =
    let lt : c.loop-signal.signal-index < length c.args.signals.now = search rules in
    names_more c.args.netlist.now c.args.signals.now c.loop-signal.signal-index 0 c.loop-signal.names.items c.push.new.self.items c.in_ok-signal_name.field-0
    lt c.loop-signal.invariant c.in_ok-signal_name.ensures (search rules)
