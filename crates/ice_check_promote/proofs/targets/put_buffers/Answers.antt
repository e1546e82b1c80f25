use Rattle.std.proofs.Common.{◌≤◌, length, arith}
use Rattle.ice_check_promote.proofs.Redirected.{none_redirected}
use Rattle.ice_check_promote.proofs.targets.put_buffers.Goals as goal

pub loop-place-init : goal.loop-place-init
loop-place-init c =
    let all : length c.args.clocks.now ≤ length c.args.clocks.now = omega arith in
    record { within = all; made = none_redirected c.args.count (length c.args.clocks.now) c.args.clocks.now c.args.table.now.items all c.requires.own }
