use Rattle.std.proofs.Common.{◌≡◌, [], drop, map, filter}
use Rattle.ice_chip.specs.Database.{same_tile}
use Rattle.ice_chip.specs.Lookups.{buffer_counts, served_tile}
use Rattle.ice_chip.specs.Indices.{firsts}
use Rattle.ice_chip.specs.Views.{parts_view}
use Rattle.ice_chip.proofs.index.column_buffers.Given as goal

abbrev pub invariant-loop-row : goal.invariant-loop-row
invariant-loop-row l =
    firsts same_tile [] (map served_tile (filter (buffer_counts (parts_view l.parts).tiles (parts_view l.parts).functions) (parts_view l.parts).colbuf))
    ≡ firsts same_tile l.buffers.entries (map served_tile (filter (buffer_counts (parts_view l.parts).tiles (parts_view l.parts).functions) (drop l.row-index l.parts.colbuf.items)))
