-- A name of no wire of cells or pads, and of no global, is that of no pin.
use Rattle.std.proofs.Common.{◌≡◌, ℕ, false, Option, None, Some, List, refl, ap}
use Rattle.std.specs.Option.{option_map_or}
use Rattle.ice_chip.specs.PinNames.{is_input_of, is_output_of}
use Rattle.ice_chip.specs.WireNames.{tile_wire}
use Rattle.ice_chip.specs.declared.rows.TileKind.{TileKind}
use Rattle.ice_bits_rows.specs.WireNames.{is_input_in, is_output_in}

pub no_input : (kind : Option TileKind) (name : List ℕ) → tile_wire name ≡ None → is_input_in kind name ≡ false
no_input None name e = refl
no_input (Some kind) name e = ap (λ wire. option_map_or (is_input_of kind) wire false) e

pub no_output : (kind : Option TileKind) (name : List ℕ) → tile_wire name ≡ None → is_output_in kind name ≡ false
no_output None name e = refl
no_output (Some kind) name e = ap (λ wire. option_map_or (is_output_of kind) wire false) e
