-- A text that is cut behind its last line feed.
use Rattle.std.specs.Prelude.{◌≡◌, ℕ, List, [], ◌∷◌, ◌++◌}
use Rattle.std.specs.List.{AllByRecursion}
use Rattle.ice_base.specs.Text.{next_number}
use Rattle.ice_base.specs.Lines.{IsLine, text_of_lines}

-- the text is these lines, each ended by a line feed, and behind them bytes without one
pub record IsCut (text : List ℕ) (ended : List (List ℕ)) (rest : List ℕ) : Type 0 where
  pub ends : AllByRecursion IsLine ended
  pub unended : IsLine rest
  pub whole : text ≡ text_of_lines ended ++ rest

-- the number of the line behind these, the first of which has the number n
abbrev pub number_behind : ℕ → List (List ℕ) → ℕ
number_behind n [] = n
number_behind n (line ∷ lines) = number_behind (next_number n) lines
