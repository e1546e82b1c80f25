use Rattle.std.proofs.Common.{◌≡◌, ◌≤◌, take, filter, length}
use Rattle.ice_pads.specs.Globals.{is_global}
use Rattle.ice_pads.proofs.free_globals.count_takeable.Given as goal

abbrev pub invariant-loop-number : goal.invariant-loop-number
invariant-loop-number l = record {
  counted : l.count ≡ length (filter (is_global l.chip) (take l.number-index l.numbers));
  few : l.count ≤ l.number-index;
}
