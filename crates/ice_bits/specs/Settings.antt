-- What the bits of a tile set: functions, by the names of its kind's functions, and rows of switches.
use Rattle.std.specs.Prelude.{ℕ, Bool, false, Option, None, Some, List, slice_get, ◌+◌, [], ◌∷◌, map, if◌then◌else◌}
use Rattle.std.specs.Option.{option_map_or, option_and_then}
use Rattle.ice_base.specs.declared.number.TileAt.{TileAt}
use Rattle.ice_base.specs.declared.bit.BitAt.{BitAt}
use Rattle.ice_chip.specs.Database.{Parts, SwitchRow, SwitchGroup}
use Rattle.ice_chip.specs.Lookups.{kind_at, function_of}
use Rattle.ice_bits.specs.Configuration.{Bits}
use Rattle.std.specs.Bool.{beq}
use Rattle.std.specs.List.{list_any}
use Rattle.std.specs.Cmp.Lexicographic.{pointwise}

-- where the bit numbered k of a function stands in a tile; nowhere, where no tile stands at the place, or its kind lacks the
-- function or the bit
abbrev pub function_bit : Parts → TileAt → List ℕ → ℕ → Option BitAt
function_bit parts t name k = option_and_then (λ kind. option_and_then (λ f. slice_get f.bits k) (function_of parts kind name)) (kind_at parts t)

-- the bit numbered k of a function in a tile; 0 where it stands nowhere
abbrev pub set_at : Parts → Bits → TileAt → List ℕ → ℕ → Bool
set_at parts bits t name k = option_map_or (bits t) (function_bit parts t name k) false

-- the values of the group's bits
abbrev pub values_of : Bits → SwitchGroup → List Bool
values_of bits g = map (bits g.tile) g.bits

-- the number of the first of these rows that has the values, where the first of all has the number n
abbrev pub number_with : List Bool → ℕ → List SwitchRow → Option ℕ
number_with values n [] = None
number_with values n (r ∷ rows) = if pointwise beq r.values values then Some n else number_with values (n + 1) rows

-- The number of the group's row that is on. A row is on where the group's bits have its values, these are not all 0,
-- and no earlier row of the group has the same values.
abbrev pub row_on : Bits → SwitchGroup → Option ℕ
row_on bits g = if list_any (λ v. v) (values_of bits g) then number_with (values_of bits g) g.first g.rows else None
