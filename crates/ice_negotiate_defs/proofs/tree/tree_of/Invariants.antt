use Rattle.std.proofs.Common.{◌≡◌, ◌<◌, ℕ, List, Some, slice_get}
use Rattle.ice_base.specs.declared.number.WireNo.{WireNo}
use Rattle.ice_core.specs.Congestion.{price}
use Rattle.ice_path.specs.Room.{IsFor}
use Rattle.ice_negotiate_defs.specs.Trees.{AreOnce, IsRooted, IsSinkReached, route_of}
use Rattle.ice_negotiate_defs.proofs.Joining.{GoesOn}
use Rattle.ice_negotiate_defs.proofs.tree.tree_of.Given as goal

abbrev pub invariant-loop-sink : goal.invariant-loop-sink
invariant-loop-sink l = record {
  joined : GoesOn l.graph.edges (price l.prices) l.root l.sinks l.sink-index (route_of l.tree);
  rooted : IsRooted l.graph l.root l.tree.wires.items;
  apart : AreOnce l.tree.wires.items;
  reached : (k : ℕ) (v : List WireNo) → k < l.sink-index → slice_get l.sinks k ≡ Some v → IsSinkReached l.graph.edges l.root v;
  scratch : IsFor l.graph l.scratch;
}
