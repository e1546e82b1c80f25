use Rattle.std.proofs.Common.{◌≡◌, ℕ, ◌+◌, ◌*◌, ◌<◌, false, length, get_or}
use Rattle.ice_ram.specs.Ports.{port_level}
use Rattle.ice_ram.proofs.ports.join_levels.Given as goal

abbrev pub invariant-loop-k : goal.invariant-loop-k
invariant-loop-k l = record {
  long : length l.out ≡ l.first + 74 * length l.rams;
  filled : (j : ℕ) → j < l.k → get_or l.out j false ≡ port_level l.first l.levels l.rams j;
}
