use Rattle.std.proofs.Common.{◌≡◌, All, vec_len}
use Rattle.ice_worker.specs.Kits.{IsKitOf}
use Rattle.ice_negotiate.proofs.rounds.kits_of.Given as goal

abbrev pub invariant-loop-worker : goal.invariant-loop-worker
invariant-loop-worker l = record {
  many : vec_len l.kits ≡ l._worker;
  kits : All (IsKitOf l.graph) l.kits.items;
}
