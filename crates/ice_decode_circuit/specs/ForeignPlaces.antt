-- The different places of the bits of foreign functions in a tile.
use Rattle.std.specs.Prelude.{List, [], ◌∷◌, ◌++◌, if◌then◌else◌}
use Rattle.std.specs.List.{list_any}
use Rattle.ice_base.specs.declared.bit.BitAt.{BitAt}
use Rattle.ice_chip.specs.Database.{FunctionRow}
use Rattle.ice_chip.specs.Functions.{is_foreign}
use Rattle.ice_bits.specs.Configuration.{same_place}

-- a place behind the others, where it isn't among them
abbrev pub with_place : List BitAt → BitAt → List BitAt
with_place seen b = if list_any (same_place b) seen then seen else seen ++ b ∷ []

-- the places seen so far, and then those that are new
abbrev pub with_places : List BitAt → List BitAt → List BitAt
with_places seen [] = seen
with_places seen (b ∷ bits) = with_places (with_place seen b) bits

abbrev pub with_function : List BitAt → FunctionRow → List BitAt
with_function seen f = if is_foreign f.kind f.name then with_places seen f.bits else seen

-- the places seen so far, and then those of the foreign ones of these functions
abbrev pub foreign_places : List BitAt → List FunctionRow → List BitAt
foreign_places seen [] = seen
foreign_places seen (f ∷ functions) = foreign_places (with_function seen f) functions
