use Rattle.std.proofs.Common.{◌≡◌, ◌++◌, take}
use Rattle.std.specs.List.{flat_map}
use Rattle.ice_timing.specs.Entries.{ram_entries}
use Rattle.ice_timing.proofs.ends.add_rams.Given as goal

abbrev pub invariant-loop-site : goal.invariant-loop-site
invariant-loop-site l =
    l.entries.items ≡ l.fn.entries.items ++ flat_map (ram_entries l.chip) (take l.site-index l.sites)
