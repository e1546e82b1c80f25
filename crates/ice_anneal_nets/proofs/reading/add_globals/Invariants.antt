use Rattle.std.proofs.Common.{◌≡◌, ◌++◌, drop}
use Rattle.ice_place_defs.specs.Loads.{fed_roots}
use Rattle.ice_anneal_nets.specs.Reads.{globals_reads}
use Rattle.ice_anneal_nets.proofs.reading.add_globals.Given as goal

abbrev pub invariant-loop-k : goal.invariant-loop-k
invariant-loop-k l =
    l.reads.items ++ globals_reads l.chip (drop l.k l.numbers) (drop l.k (fed_roots l.direct l.roots)) ≡ l.fn.reads.items ++ globals_reads l.chip l.numbers (fed_roots l.direct l.roots)
