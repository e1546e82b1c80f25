-- Which pads the ports of a netlist have, by what a text of pin constraints says of their names.
use Rattle.std.specs.Prelude.{◌≡◌, ℕ, Option, None, Some, List, [], ◌∷◌, length, map, filter_map, position, codes, bytes_eq, if◌then◌else◌}
use Rattle.std.specs.Map.{lookup}
use Rattle.std.specs.Option.{option_and_then}
use Rattle.ice_base.specs.Text.{lines, words, uncommented}
use Rattle.ice_base_values.specs.Order.{At, Has, StandOnce}
use Rattle.ice_net.specs.Drivers.{place_of}
use Rattle.ice_net.specs.NetlistData.{NetlistData}
use Rattle.ice_net.specs.declared.port.Port.{Port}
use Rattle.ice_chip.specs.Database.{PackageRows}
use Rattle.ice_chip.specs.declared.rows.Pad.{Pad}

-- ---- what the text says
abbrev pub last_two : List (List ℕ) → Option (List ℕ × List ℕ)
last_two [] = None
last_two (name ∷ pin ∷ []) = Some (name, pin)
last_two (word ∷ more) = last_two more

-- the name of a port and of its pin, in a line `set_io OPTION .. NAME PIN`
abbrev pub pin_set : List (List ℕ) → Option (List ℕ × List ℕ)
pin_set [] = None
pin_set (word ∷ more) = if bytes_eq word (codes "set_io") then last_two more else None

-- those of all lines
abbrev pub pins_set : List ℕ → List (List ℕ × List ℕ)
pins_set text = filter_map pin_set (map (λ line. uncommented (words line)) (lines text))

-- ---- what the ports have
-- the place of the first port of this name
abbrev pub port_called : NetlistData → List ℕ → Option ℕ
port_called n name = option_and_then (λ s. place_of s (map (λ (port : Port). Some port.signal) n.ports)) (position (bytes_eq name) n.names)

-- The ports of the netlist have these pads, in port order, in the package with these rows.
pub record HavePinnedPads (bonded : PackageRows) (pins : List (List ℕ × List ℕ)) (n : NetlistData) (ports : List Pad) : Type 0 where
  -- there are as many as ports, all of the package, and none stands twice
  pub each : length ports ≡ length n.ports
  pub of_package : (k : ℕ) (pad : Pad) → At ports k pad → Has bonded.pads pad
  pub apart : StandOnce ports
  -- a port that a constraint names has the pad of the constraint's pin
  pub pinned : (name pin : List ℕ) (k : ℕ) (pad : Pad) → Has pins (name, pin) → port_called n name ≡ Some k → At ports k pad
      → lookup (bytes_eq pin) bonded.pins ≡ Some pad
