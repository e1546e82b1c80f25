use Rattle.std.proofs.Common.{◌≤◌, ◌+◌, length, drop}
use Rattle.ice_check_promote.proofs.Redirected.{AreReadFrom}
use Rattle.ice_check_promote.proofs.targets.put_buffers.Given as goal

abbrev pub invariant-loop-place : goal.invariant-loop-place
invariant-loop-place l = record {
  within : l.place ≤ length l.clocks;
  made : AreReadFrom l.count (l.count + l.place) (drop l.place l.clocks) l.table.items;
}
