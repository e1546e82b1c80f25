use Rattle.std.proofs.Common.{◌≡◌, ◌≤◌, drop}
use Rattle.ice_net.specs.Meaning.{number_of}
use Rattle.ice_lut.proofs.table.table_with.Given as goal

abbrev pub invariant-loop-j : goal.invariant-loop-j
invariant-loop-j l = record {
  built : l.table ≡ number_of (drop l.j l.entries);
  within : l.j ≤ 16;
}
