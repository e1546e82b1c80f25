-- A name of no wire of cells or pads, nor of a global, is that of no pin.
use Rattle.std.proofs.Common.{◌≡◌, ℕ, false, Option, None, Some, List, refl, ap}
use Rattle.std.specs.Prelude.{◌||◌}
use Rattle.std.specs.Option.{option_map_or}
use Rattle.ice_chip.specs.PinNames.{is_input_of, is_output_of}
use Rattle.ice_chip.specs.SharedPins.{is_pin}
use Rattle.ice_chip.specs.WireNames.{tile_wire}
use Rattle.ice_chip.specs.declared.rows.TileLine.{TileLine}

pub no_pin : (tile : Option TileLine) (name : List ℕ) → tile_wire name ≡ None → is_pin tile name ≡ false
no_pin None name e = refl
no_pin (Some tile) name e = ap (λ wire. option_map_or (is_input_of tile.kind) wire false || option_map_or (is_output_of tile.kind) wire false) e
