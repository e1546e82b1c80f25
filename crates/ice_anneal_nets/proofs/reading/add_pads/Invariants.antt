use Rattle.std.proofs.Common.{◌≡◌, ◌++◌, drop}
use Rattle.ice_anneal_nets.specs.Reads.{pads_reads}
use Rattle.ice_anneal_nets.proofs.reading.add_pads.Given as goal

abbrev pub invariant-loop-k : goal.invariant-loop-k
invariant-loop-k l = l.reads.items ++ pads_reads (drop l.k l.places) (drop l.k l.pads) ≡ l.fn.reads.items ++ pads_reads l.places l.pads
