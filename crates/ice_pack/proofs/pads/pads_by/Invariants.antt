use Rattle.std.proofs.Common.{◌≡◌, ◌++◌, drop}
use Rattle.ice_pack_sinks.specs.Plans.{plan}
use Rattle.ice_pack.specs.Buffered.{pads_by}
use Rattle.ice_pack.proofs.pads.pads_by.Given as goal

abbrev pub invariant-loop-k : goal.invariant-loop-k
invariant-loop-k l = l.pads.items ++ pads_by (plan l.slices) l.cells l.buffers l.k (drop l.k l.ports) ≡ pads_by (plan l.slices) l.cells l.buffers 0 l.ports
