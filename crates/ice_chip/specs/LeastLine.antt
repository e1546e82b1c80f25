-- The least line.
use Rattle.std.specs.Prelude.{ℕ, Option, None, Some, nat_lt, if◌then◌else◌}

-- the lesser of a line that is known, if there is one, and another
abbrev pub least_of : Option ℕ → ℕ → ℕ
least_of None line = line
least_of (Some known) line = if nat_lt line known then line else known
