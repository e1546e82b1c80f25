-- The names of the signals of pads, pin by pin.
use Rattle.std.specs.Prelude.{ℕ, List, [], ◌∷◌, ◌++◌, if◌then◌else◌}
use Rattle.std.specs.List.{list_any}
use Rattle.indexmap.specs.IndexSet.{insert_key}
use Rattle.ice_chip.specs.Database.{same_pad}
use Rattle.ice_chip.specs.declared.rows.Pad.{Pad}
use Rattle.ice_back_laws.specs.Numbers.{pin_names}

-- nothing, where an earlier pin leads to the pad
abbrev pub new_names : List Pad → List ℕ × Pad → List (List ℕ)
new_names seen pin = if list_any (same_pad pin.1) seen then [] else pin_names pin.0

-- the names for all these pins, where some pads were seen before
abbrev pub names_of_pins : List Pad → List (List ℕ × Pad) → List (List ℕ)
names_of_pins seen [] = []
names_of_pins seen (pin ∷ pins) = new_names seen pin ++ names_of_pins (insert_key same_pad seen pin.1) pins
