use Rattle.std.proofs.Common.{◌≡◌, ◌++◌, map}
use Rattle.std.specs.List.{range_with_len}
use Rattle.ice_timing.specs.declared.end.End.TheVariants.{Ram}
use Rattle.ice_timing.specs.declared.end.Door.TheVariants.{Port}
use Rattle.ice_timing.specs.Entries.{entries_by, ram_last}
use Rattle.ice_timing.proofs.ends.add_ram.Given as goal

abbrev pub invariant-loop-wire : goal.invariant-loop-wire
invariant-loop-wire l =
    l.entries.items ≡ l.fn.entries.items ++ entries_by (Ram l.site.lower) Port (map (ram_last l.chip l.site) (range_with_len 0 l.wire))
