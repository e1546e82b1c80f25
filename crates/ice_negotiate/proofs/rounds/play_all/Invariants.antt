use Rattle.std.proofs.Common.{◌≡◌, All, vec_len}
use Rattle.ice_worker.specs.Kits.{IsKitOf}
use Rattle.ice_negotiate.specs.Progress.{IsBefore, IsReady, Opening}
use Rattle.ice_negotiate.proofs.rounds.play_all.Given as goal

abbrev pub invariant-loop-round : goal.invariant-loop-round
invariant-loop-round g l = record {
  ready : IsReady l.graph l.nets l.round l.state;
  before : (opening : Opening) → IsBefore l.graph l.nets opening 0 l.fn.state → IsBefore l.graph l.nets opening l.round l.state;
  many : vec_len l.kits ≡ l.workers;
  kits : All (IsKitOf l.graph) l.kits.items;
}
