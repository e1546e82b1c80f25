use Rattle.std.proofs.Common.{◌≡◌, ◌≤◌, drop}
use Rattle.ice_place.specs.Place.{longest_from, longest}
use Rattle.ice_place.proofs.refusal.longest.Given as goal

abbrev pub invariant-loop-stretch : goal.invariant-loop-stretch
invariant-loop-stretch l = record {
  bound : l.most ≤ 65536;
  left : longest_from l.most (drop l.stretch-index l.stretches) ≡ longest l.stretches;
}
