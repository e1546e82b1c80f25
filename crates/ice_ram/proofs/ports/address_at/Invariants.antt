use Rattle.std.proofs.Common.{◌≡◌, ◌+◌, ◌-◌, ◌^◌, ◌<◌, ◌≤◌}
use Rattle.ice_net.specs.Meaning.{number_of}
use Rattle.ice_ram.specs.Ports.{taken_from}
use Rattle.ice_ram.proofs.ports.address_at.Given as goal

abbrev pub invariant-loop-done : goal.invariant-loop-done
invariant-loop-done l = record {
  number : l.address ≡ number_of (taken_from l.drives (l.k + (11 - l.done)) l.done);
  few : l.address < 2 ^ l.done;
  room : 2 ^ l.done ≤ 2048;
}
