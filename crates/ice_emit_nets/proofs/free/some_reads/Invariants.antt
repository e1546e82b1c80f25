use Rattle.std.proofs.Common.{◌≡◌, Some, drop}
use Rattle.std.specs.List.{list_any}
use Rattle.ice_cells.specs.Same.{same_source}
use Rattle.ice_emit_nets.proofs.free.some_reads.Given as goal

abbrev pub invariant-loop-input : goal.invariant-loop-input
invariant-loop-input l = list_any (same_source (Some l.root)) l.ins ≡ list_any (same_source (Some l.root)) (drop l.input-index l.ins)
