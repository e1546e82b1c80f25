-- Lines of words.
use Rattle.std.specs.Prelude.{ℕ, List, [], ◌∷◌}
use Rattle.std.specs.List.{join_by}

-- the words with one space between each two
abbrev pub line_of : List (List ℕ) → List ℕ
line_of words = join_by (λ (word : List ℕ). word) (32 ∷ []) words
