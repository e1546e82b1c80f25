-- Wires that lead to two pins.
use Rattle.std.specs.Prelude.{ℕ, Bool, ◌||◌, ◌&&◌, false, Option, None, Some, List, [], ◌∷◌, ◌++◌, bytes_eq, if◌then◌else◌, Result, Ok, Err, nat_eq}
use Rattle.std.specs.Map.{lookup}
use Rattle.ice_base.specs.declared.number.TileAt.{TileAt}
use Rattle.ice_chip.specs.Database.{Parts, WireName, same_tile, tile_known}
use Rattle.ice_chip.specs.Names.{is_global_name}
use Rattle.ice_chip.specs.PinNames.{is_input_name, is_output_name}
use Rattle.ice_chip.specs.WholeFaults.{placed, unless_clash}
use Rattle.ice_chip.specs.declared.rows.TileLine.{TileLine}
use Rattle.ice_chip.specs.declared.placed.PlacedName.{PlacedName}
use Rattle.ice_chip.specs.declared.name_lines.PinLine.{PinLine}

-- an input or output name of the tile at its place; where no tile stands, a name has no effect
abbrev pub is_pin : Option TileLine → List ℕ → Bool
is_pin None name = false
is_pin (Some tile) name = is_input_name tile.kind name || is_output_name tile.kind name

-- one global in several tiles is one pin
abbrev pub same_pin : PlacedName → PlacedName → Bool
same_pin a b = bytes_eq a.name b.name && (same_tile a.tile b.tile || is_global_name a.name)

abbrev pub pin_line : WireName → PinLine
pin_line n = record { pin = placed n; line = n.line }

-- the first pin of each wire after a pin more, which is the wire's first or the same as its first; or the lines of two
-- pins of the wire, the later one first
abbrev pub with_pin : List (ℕ × PinLine) → WireName → Option PinLine → Result (List (ℕ × PinLine)) (ℕ × ℕ)
with_pin seen n None = Ok (seen ++ (n.wire, pin_line n) ∷ [])
with_pin seen n (Some first) = if same_pin first.pin (placed n) then Ok seen else Err (n.line, first.line)

-- names of other kinds make no pin
abbrev pub with_pin_name : Option TileLine → List (ℕ × PinLine) → WireName → Result (List (ℕ × PinLine)) (ℕ × ℕ)
with_pin_name tile seen n = if is_pin tile n.name then with_pin seen n (lookup (nat_eq n.wire) seen) else Ok seen

abbrev pub shared_from : List (TileAt × TileLine) → List (ℕ × PinLine) → List WireName → Option (ℕ × ℕ)
shared_from tiles seen [] = None
shared_from tiles seen (n ∷ ns) = unless_clash (with_pin_name (tile_known tiles n.tile) seen n) (λ more. shared_from tiles more ns)

-- the first line that gives a wire another pin than an earlier line, and the first line that gives it a pin
abbrev pub shared_pin : Parts → Option (ℕ × ℕ)
shared_pin parts = shared_from parts.tiles [] parts.names
