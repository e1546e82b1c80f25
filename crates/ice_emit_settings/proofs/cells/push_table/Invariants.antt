use Rattle.std.proofs.Common.{◌≡◌, ◌++◌}
use Rattle.std.specs.List.{flat_map, range_with_len}
use Rattle.ice_chip.specs.Names.{cell_function}
use Rattle.ice_emit_settings.specs.Cells.{entry_settings}
use Rattle.ice_emit_settings.specs.Views.{views}
use Rattle.ice_emit_settings.proofs.cells.push_table.Given as goal

abbrev pub invariant-loop-entry : goal.invariant-loop-entry
invariant-loop-entry l = views l.made.items ≡ views l.initial.made.items ++ flat_map (entry_settings l.tile (cell_function l.cell) l.table) (range_with_len 0 l.entry)
