-- Rows that lead from one wire to another.
use Rattle.std.specs.Prelude.{ℕ, ◌+◌, ◌==◌, Bool, false, ◌&&◌, ◌||◌, Option, None, Some, List, [], ◌∷◌, if◌then◌else◌}
use Rattle.std.specs.List.{list_any}
use Rattle.ice_chip.specs.Database.{Parts, SwitchRow, SwitchGroup}
use Rattle.ice_bits_rows.specs.Bundles.{groups_into}
use Rattle.ice_bits_rows.specs.Alone.{either}
use Rattle.ice_bits_rows.specs.Sound.{is_sound}
use Rattle.ice_bits_rows.specs.Usable.{is_usable}

-- ---- sound rows
-- the number of the first sound row from the source among these rows of a group, where the first of them has the number n
abbrev pub first_of : Parts → ℕ → SwitchGroup → ℕ → List SwitchRow → Option ℕ
first_of parts source g n [] = None
first_of parts source g n (r ∷ rows) = if (r.source == source) && is_sound parts g n r then Some n else first_of parts source g (n + 1) rows

abbrev pub first_among : Parts → ℕ → List SwitchGroup → Option ℕ
first_among parts source [] = None
first_among parts source (g ∷ groups) = either (first_of parts source g g.first g.rows) (first_among parts source groups)

-- the number of the first sound row, in row order, from one wire to another
abbrev pub first_sound : Parts → ℕ → ℕ → Option ℕ
first_sound parts source target = first_among parts source (groups_into parts.groups target)

-- ---- usable rows
-- one of these rows of a group, where the first of them has the number n, is usable and comes from the source
abbrev pub some_usable : Parts → ℕ → SwitchGroup → ℕ → List SwitchRow → Bool
some_usable parts source g n [] = false
some_usable parts source g n (r ∷ rows) = ((r.source == source) && is_usable parts g n r) || some_usable parts source g (n + 1) rows

-- a usable row leads from one wire to another
abbrev pub is_joined : Parts → ℕ → ℕ → Bool
is_joined parts source target = list_any (λ g. some_usable parts source g g.first g.rows) (groups_into parts.groups target)
