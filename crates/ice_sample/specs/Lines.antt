-- Lines of a text, and lines of things that are numbered one after another.
use Rattle.std.specs.Prelude.{ℕ, ◌+◌, ◌/◌, ◌%◌, ◌^◌, zero, suc, List, [], ◌∷◌, ◌++◌, codes, decimal}
use Rattle.ice_base.specs.declared.number.TileAt.{TileAt}

-- The lines of things that are numbered one after another: the first thing begins with the number n, each takes as many
-- numbers as its size, and `lines` gives the lines of a thing from its first number.
abbrev pub numbered : {A : Type 0} → (A → ℕ) → (ℕ → A → List (List ℕ)) → ℕ → List A → List (List ℕ)
numbered size lines n [] = []
numbered size lines n (x ∷ xs) = lines n x ++ numbered size lines (n + size x) xs

-- two numbers
abbrev pub number_words : ℕ → ℕ → List ℕ
number_words m n = decimal m ++ codes " " ++ decimal n

-- the column and the row of a place
abbrev pub place_words : TileAt → List ℕ
place_words t = number_words t.x t.y

-- a place and a number there
abbrev pub placed_words : TileAt → ℕ → List ℕ
placed_words t n = place_words t ++ codes " " ++ decimal n

-- the lowest digits of a number in binary, so many of them, the greatest first
abbrev pub binary : ℕ → ℕ → List ℕ
binary zero n = []
binary (suc k) n = (48 + n / 2 ^ k % 2) ∷ binary k n
