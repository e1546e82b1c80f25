use Rattle.std.proofs.Common.{◌≡◌, ◌++◌, take}
use Rattle.ice_base.specs.Lines.{text_of_lines}
use Rattle.ice_sample.specs.Wires.{global_wire_lines}
use Rattle.ice_sample.proofs.wires.put_global_wire.Given as goal

abbrev pub invariant-loop-tile : goal.invariant-loop-tile
invariant-loop-tile l = l.text.items ≡ l.fn.text.items ++ text_of_lines (global_wire_lines (take l.tile-index l.tiles) l.global)
