use Rattle.std.proofs.Common.{◌≤◌, ◌<◌, ◌+◌, length, arith, rules}
use Rattle.ice_net.specs.NetlistData.{empty_netlist}
use Rattle.ice_net_additions.proofs.Added.{names_more}
use Rattle.ice_check_promote.proofs.filling.with_its_names.Goals as goal

pub loop-signal-preserved : goal.loop-signal-preserved
loop-signal-preserved c =
    let n = c.args.netlist.now in
    let lt : c.loop-signal.signal < length n.names = search rules in
    let few : 0 + length n.names ≤ 1073741823 = (let most = c.requires.formed.few in omega (arith, most)) in
    names_more empty_netlist c.loop-signal.made c.signal.new.self n.names c.loop-signal.signal c.name.result.now (record { few = few; once = c.requires.once }) lt c.name.ensures c.loop-signal.invariant c.in_ok-signal.ensures.appended
