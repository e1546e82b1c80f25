use Rattle.std.proofs.Common.{◌≡◌, ◌+◌, ◌*◌, ◌++◌, length, take, drop}
use Rattle.ice_ram.specs.Ports.{after_all}
use Rattle.ice_ram.proofs.ports.step_all.Given as goal

abbrev pub invariant-loop-j : goal.invariant-loop-j
invariant-loop-j l = record {
  long : length l.rams ≡ length l.fn.rams;
  done : after_all l.drives l.k l.fn.rams ≡ take l.j l.rams ++ after_all l.drives (l.k + 74 * l.j) (drop l.j l.rams);
}
