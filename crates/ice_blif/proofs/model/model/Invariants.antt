use Rattle.std.proofs.Common.{◌≡◌, length}
use Rattle.ice_base.specs.Text.{lines, numbered}
use Rattle.ice_blif.specs.Cells.{IsReady, IsWithin}
use Rattle.ice_blif.specs.Grammar.{model_says, empty_reader, within_limits}
use Rattle.ice_blif.specs.JoinedLines.{filled, last_number}
use Rattle.ice_blif.specs.Views.{reader_view, lines_left}
use Rattle.ice_blif.proofs.model.model.Given as goal

abbrev pub invariant-loop-first : goal.invariant-loop-first
invariant-loop-first l =
    (model_says within_limits (last_number 0 (numbered 1 (lines l.text))) empty_reader (filled (lines_left l.fn.words)) ≡ model_says within_limits (last_number 0 (numbered 1 (lines l.text))) (reader_view l.reader) (filled (lines_left l.words)))
    × IsReady 1048576 (reader_view l.reader)
    × IsWithin (reader_view l.reader)

abbrev pub decreases-loop-first : goal.decreases-loop-first
decreases-loop-first l = length (filled (lines_left l.words))
