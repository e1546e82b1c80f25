-- Rows that are the only ones of their bundle that are on.
use Rattle.std.specs.Prelude.{ℕ, Bool, true, false, Option, None, Some, List, [], ◌∷◌, filter, if◌then◌else◌}
use Rattle.ice_base.specs.declared.number.TileAt.{TileAt}
use Rattle.ice_chip.specs.Database.{SwitchGroup, same_tile}
use Rattle.ice_bits.specs.Configuration.{Bits}
use Rattle.ice_bits.specs.Settings.{row_on}

-- the groups of a tile among these
abbrev pub in_tile : TileAt → List SwitchGroup → List SwitchGroup
in_tile tile groups = filter (λ g. same_tile g.tile tile) groups

-- the number of the group's row that is on, where the group is of the tile
abbrev pub on_there : Bits → TileAt → SwitchGroup → Option ℕ
on_there bits tile g = if same_tile g.tile tile then row_on bits g else None

-- both are there
abbrev pub are_two : Option ℕ → Option ℕ → Bool
are_two None found = false
are_two (Some n) None = false
are_two (Some n) (Some m) = true

-- the first, or else the second
abbrev pub either : Option ℕ → Option ℕ → Option ℕ
either None found = found
either (Some n) found = Some n

-- a list of none or one
abbrev pub listed_one : Option ℕ → List ℕ
listed_one None = []
listed_one (Some n) = n ∷ []
