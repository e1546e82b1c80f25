use Rattle.std.proofs.Common.{◌≡◌, ◌≤◌, ◌+◌, ℕ, Some, false, length, slice_index}
use Rattle.ice_core.specs.Congestion.{price}
use Rattle.ice_path.specs.Aims.{rest}
use Rattle.ice_path.specs.Looks.{AreFar, Reaches}
use Rattle.ice_path.specs.Search.{done, label}
use Rattle.ice_path.proofs.look.note.Given as goal

abbrev pub invariant-loop-wire : goal.invariant-loop-wire
invariant-loop-wire l = record {
  long : length l.beyond ≡ 64;
  reach : Reaches l.marked l.wire-index (price l.prices) (rest l.graph l.way.hops.now l.way.guides.now) l.near l.settled l.beyond;
  lower : (k : ℕ) → slice_index l.beyond k ≤ slice_index l.fn.beyond k;
  far : (far : ℕ) → AreFar far l.fn.beyond → ((w c : ℕ) → done l.settled w ≡ false → label l.near w ≡ Some c → far ≤ c + price l.prices w) → AreFar far l.beyond;
}
