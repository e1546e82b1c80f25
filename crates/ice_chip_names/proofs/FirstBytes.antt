-- A name with another first byte is no name of a wire of cells, pads or block RAMs, nor of a global.
use Rattle.std.proofs.Common.{◌≡◌, ℕ, ◌==◌, false, None, List, [], ◌∷◌, ap, option_map}
use Rattle.std.specs.Prelude.{◌||◌}
use Rattle.std.proofs.lemmas.Bool.{or_parts}
use Rattle.ice_chip_names.specs.FirstBytes.{may_be_wire}
use Rattle.ice_chip_names.specs.RamNames.{ram_number}
use Rattle.ice_chip_names.specs.WireNames.{tile_wire}
use Rattle.ice_chip_names.specs.declared.wire_names.TileWire.TheVariants.{Ram}
use Rattle.ice_chip_names.proofs.RamNamesRead.{no_empty_name, no_ram_name}

by_byte : (a : ℕ) (name : List ℕ) → (a == 108) ≡ false → (a == 105) ≡ false → (a == 103) ≡ false → (a == 99) ≡ false → (a == 102) ≡ false → ram_number (a ∷ name) ≡ None → tile_wire (a ∷ name) ≡ None
by_byte a name l i g c f none = rw (l, i, g, c, f) (ap (option_map Ram) none)

pub not_begun : (name : List ℕ) → may_be_wire name ≡ false → tile_wire name ≡ None
not_begun [] e = ap (option_map Ram) no_empty_name
not_begun (a ∷ name) e =
    let other = or_parts ((a == 108) || (a == 105) || (a == 103) || (a == 99) || (a == 102)) (a == 114) e in
    let last = or_parts ((a == 108) || (a == 105) || (a == 103) || (a == 99)) (a == 102) other.0 in
    let fourth = or_parts ((a == 108) || (a == 105) || (a == 103)) (a == 99) last.0 in
    let third = or_parts ((a == 108) || (a == 105)) (a == 103) fourth.0 in
    let second = or_parts (a == 108) (a == 105) third.0 in
    by_byte a name second.0 second.1 third.1 fourth.1 last.1 (no_ram_name a name other.1)
