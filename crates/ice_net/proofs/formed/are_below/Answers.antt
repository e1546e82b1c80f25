use Rattle.std.proofs.Common.{◌<◌, ◌≤◌, length, get_or, None, refl, rules}
use Rattle.ice_net.specs.Formed.{IsBelow}
use Rattle.ice_net.proofs.SignalLists.{below_seen, below_all}
use Rattle.ice_net.proofs.formed.are_below.Goals as goal

pub loop-signal-preserved : goal.loop-signal-preserved
loop-signal-preserved c =
    let lt : c.loop-signal.signal-index < length c.args.list.now = search rules in
    let here : IsBelow c.args.signals (get_or c.args.list.now c.loop-signal.signal-index None) = search rules in
    below_seen c.args.signals c.args.list.now c.loop-signal.signal-index None lt c.loop-signal.invariant here

pub returns : goal.returns
returns c =
    let le : length c.args.list.now ≤ c.loop-signal.signal-index = search rules in
    (λ e. below_all c.args.signals c.args.list.now c.loop-signal.signal-index le c.loop-signal.invariant, λ all. refl)
