-- Lines without where they lie in memory.
use Rattle.std.specs.Prelude.{ℕ, List, ◌∷◌}
use Rattle.ice_base.specs.declared.lines.Line.{Line}
use Rattle.ice_base.specs.declared.plain.PlainLine.{PlainLine}

-- the number and the bytes of a line
abbrev pub line_view : Line → ℕ × List ℕ
line_view line = (line.number, line.text.now)

-- the number and the words of a line that has words
abbrev pub plain_line_view : PlainLine → ℕ × List (List ℕ)
plain_line_view line = (line.number, line.first.now ∷ line.others)
