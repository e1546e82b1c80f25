use Rattle.std.proofs.Common.{◌≡◌}
use Rattle.ice_chip_read.specs.Lines.{chip_lines_say}
use Rattle.ice_chip_read.specs.Views.{reading_view}
use Rattle.ice_chip_read.proofs.read.take_lines.Given as goal

abbrev pub invariant-loop-line : goal.invariant-loop-line
invariant-loop-line l =
    (goal.iterator-loop-line).can_next l.line-iterator × (goal.iterator-loop-line).is_finite l.line-iterator
    × (chip_lines_say (reading_view l.fn.reading) l.fn.lines ≡ chip_lines_say (reading_view l.reading) l.line-iterator)
