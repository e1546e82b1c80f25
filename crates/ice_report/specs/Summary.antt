-- The summary of a sample that was placed and routed: one line.
use Rattle.std.specs.Prelude.{ℕ, List, [], ◌∷◌, codes, decimal}
use Rattle.ice_base.specs.Lines.{text_of_lines}
use Rattle.ice_report.specs.Lines.{line_of}
use Rattle.ice_report.specs.declared.samples.Summary.{Summary}

-- each size behind its name
abbrev pub size_words : Summary → List (List ℕ)
size_words s =
    codes "cells" ∷ decimal s.cells ∷ codes "tiles" ∷ decimal s.tiles ∷ codes "nets" ∷ decimal s.nets ∷ codes "rounds" ∷ decimal s.rounds
    ∷ codes "length" ∷ decimal s.length ∷ []

abbrev pub summary_line : Summary → List ℕ
summary_line s = line_of (codes "sample" ∷ decimal s.number ∷ size_words s)

abbrev pub summary_text : Summary → List ℕ
summary_text s = text_of_lines (summary_line s ∷ [])
