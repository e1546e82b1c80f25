use Rattle.std.proofs.Common.{◌≡◌, drop, map, filter}
use Rattle.ice_chip.specs.Lookups.{is_placed, placed_names, placed_wire}
use Rattle.ice_chip.specs.Indices.{numbered}
use Rattle.ice_chip.specs.NameIndex.{numbered_of}
use Rattle.ice_chip.specs.Views.{name_view, parts_view}
use Rattle.ice_chip.proofs.names.NameIndex.note_all.Given as goal

abbrev pub invariant-loop-row : goal.invariant-loop-row
invariant-loop-row l = numbered (numbered_of l.fn.self) (map placed_wire (placed_names (parts_view l.parts))) ≡ numbered (numbered_of l.self) (map placed_wire (filter (is_placed (parts_view l.parts).tiles) (map name_view (drop l.row-index l.parts.names.items))))
