use Rattle.std.proofs.Common.{◌≡◌, ◌++◌, drop, length}
use Rattle.std.specs.List.{flat_map}
use Rattle.ice_cells.specs.Chains.{feed_cells, fed_from}
use Rattle.ice_carry_chains.proofs.feed.push_feeds.Given as goal

abbrev pub invariant-loop-c : goal.invariant-loop-c
invariant-loop-c l =
    (l.cells.items ++ flat_map (feed_cells l.marks) (drop l.c-index l.heads) ≡ l.initial.cells.items ++ flat_map (feed_cells l.marks) l.heads)
    × (l.all.items ++ fed_from l.marks (length l.cells.items) (drop l.c-index l.heads) ≡ fed_from l.marks (length l.initial.cells.items) l.heads)
