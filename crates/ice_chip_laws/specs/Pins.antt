-- Pins: names by which a wire leads into the cells or pads of a tile, or out of them.
use Rattle.std.specs.Prelude.{◌≡◌, ◌⊎◌, ◌||◌, ℕ, Bool, true, false, Option, None, Some, List, find}
use Rattle.ice_chip.specs.Database.{Parts}
use Rattle.ice_chip.specs.Lookups.{kind_at, names_of}
use Rattle.ice_chip.specs.Names.{is_global_name}
use Rattle.ice_chip.specs.PinNames.{is_input_name, is_output_name}
use Rattle.ice_chip.specs.declared.rows.TileKind.{TileKind}
use Rattle.ice_chip.specs.declared.placed.PlacedName.{PlacedName}
use Rattle.ice_chip_laws.specs.Names.{HasName}

-- the name is an input or output name in a tile of the kind
abbrev pub is_pin_in : Option TileKind → List ℕ → Bool
is_pin_in None name = false
is_pin_in (Some kind) name = is_input_name kind name || is_output_name kind name

-- the name is that of a pin of its tile
abbrev pub is_pin_name : Parts → PlacedName → Bool
is_pin_name parts n = is_pin_in (kind_at parts n.tile) n.name

-- The pin that a wire leads to. A global has a name in many tiles, of which this is the first.
abbrev pub pin_of : Parts → ℕ → Option PlacedName
pin_of parts w = find (is_pin_name parts) (names_of parts w)

-- two names are of one pin: they are the same, or one global's in two tiles
abbrev pub AreOnePin : PlacedName → PlacedName → Type 0
AreOnePin a b = (a.name ≡ b.name) × ((a.tile ≡ b.tile) ⊎ (is_global_name a.name ≡ true))

-- the wire has the name, which is that of a pin
abbrev pub IsPinOf : Parts → ℕ → PlacedName → Type 0
IsPinOf parts w n = HasName parts w n × (is_pin_name parts n ≡ true)

-- the wire has no pin name; or all its pin names are of this one pin
abbrev pub IsOnePin : Parts → ℕ → Option PlacedName → Type 0
IsOnePin parts w None = (n : PlacedName) → IsPinOf parts w n → ⊥
IsOnePin parts w (Some pin) = IsPinOf parts w pin × ((n : PlacedName) → IsPinOf parts w n → AreOnePin pin n)

pub record HasPins (parts : Parts) : Type 0 where
  -- all pin names of a wire are of one pin
  pub one_pin : (w : ℕ) (a b : PlacedName) → IsPinOf parts w a → IsPinOf parts w b → AreOnePin a b
  -- a wire with a pin name leads to that pin
  pub found : (w : ℕ) (n : PlacedName) → IsPinOf parts w n → (first : PlacedName) × (pin_of parts w ≡ Some first) × AreOnePin first n
  -- and has no other pin name, unless it is a global
  pub only : (w : ℕ) (n : PlacedName) → IsPinOf parts w n → is_global_name n.name ≡ false → pin_of parts w ≡ Some n
  -- the pin to which a wire leads is named by it
  pub named : (w : ℕ) (n : PlacedName) → pin_of parts w ≡ Some n → IsPinOf parts w n
