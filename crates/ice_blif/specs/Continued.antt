-- Lines that go on: those whose last byte before blanks is a backslash outside a comment.
use Rattle.std.specs.Prelude.{ℕ, Bool, ◌&&◌, ◌==◌, List, [], ◌∷◌, Option, Some, None, if◌then◌else◌}
use Rattle.std.specs.List.{list_all, list_any}
use Rattle.ice_base.specs.Text.{words, is_blank, begins_with}

-- the byte stands in front; 92 is the backslash
abbrev pub in_front_of : ℕ → Bool → Option (List ℕ) → Option (List ℕ)
in_front_of b blanks_behind (Some front) = Some (b ∷ front)
in_front_of b blanks_behind None = if b == 92 && blanks_behind then Some [] else None

-- what stands before a backslash that only blanks follow
abbrev pub before_backslash : List ℕ → Option (List ℕ)
before_backslash [] = None
before_backslash (b ∷ bytes) = in_front_of b (list_all is_blank bytes) (before_backslash bytes)

-- the same, where it holds no comment; 35 is `#`
abbrev pub outside_comment : Option (List ℕ) → Option (List ℕ)
outside_comment None = None
outside_comment (Some front) = if list_any (begins_with 35) (words front) then None else Some front

-- what stands before the backslash of a line that goes on in the next one
abbrev pub continued : List ℕ → Option (List ℕ)
continued line = outside_comment (before_backslash line)
