-- What lines of a chip text say so far.
use Rattle.std.specs.Prelude.{ℕ, Option, Some, None, List, [], ◌∷◌, Result, Ok, Err}
use Rattle.ice_base.specs.Text.{numbered, words, uncommented, plain_lines, with_words}
use Rattle.ice_chip.specs.declared.fault.ChipFault.{ChipFault}
use Rattle.ice_chip_read.specs.Faults.{◌>>=◌}
use Rattle.ice_chip_read.specs.Lines.{chip_line_says, first_says, plain_says}
use Rattle.ice_chip_read.specs.Reading.{Reading}

-- nothing yet, where no line has words; otherwise the rows of the lines, or their first fault
abbrev pub so_far : List (ℕ × List (List ℕ)) → Result (Option Reading) ChipFault
so_far [] = Ok None
so_far (line ∷ others) = plain_says (line ∷ others) >>= (λ r. Ok (Some r))

-- what a line behind these adds
abbrev pub with_line : Result (Option Reading) ChipFault → ℕ × List (List ℕ) → Result (Option Reading) ChipFault
with_line (Err fault) line = Err fault
with_line (Ok None) line = first_says line.0 line.1 >>= (λ r. Ok (Some r))
with_line (Ok (Some r)) line = chip_line_says r line.0 line.1 >>= (λ more. Ok (Some more))

-- the same of a line that may have no words
abbrev pub with_text : Result (Option Reading) ChipFault → ℕ → List (List ℕ) → Result (Option Reading) ChipFault
with_text (Err fault) number ws = Err fault
with_text (Ok None) number [] = Ok None
with_text (Ok None) number (w ∷ ws) = first_says number (w ∷ ws) >>= (λ r. Ok (Some r))
with_text (Ok (Some r)) number ws = chip_line_says r number ws >>= (λ more. Ok (Some more))

-- the number and the words of a line, where it has words
abbrev pub words_at : ℕ → List ℕ → List (ℕ × List (List ℕ))
words_at number line = with_words number (uncommented (words line)) []

-- what the first lines of a text say
abbrev pub lines_so_far : List (List ℕ) → Result (Option Reading) ChipFault
lines_so_far ended = so_far (plain_lines (numbered 1 ended))
