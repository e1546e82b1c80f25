-- What the chip drives pads of IO tiles with.
use Rattle.std.proofs.Common.{◌≡◌, zero, suc, ◌<◌, ◌-◌, nat_lt, Bool, List, [], ◌∷◌, filter, ap, subst, lt-ltb, if◌then◌else◌, arith}
use Rattle.std.specs.List.{flat_map}
use Rattle.std.proofs.lemmas.Option.{same_Some, none-some}
use Rattle.ice_base.specs.declared.number.TileAt.{TileAt}
use Rattle.ice_base_values.specs.Order.{Has}
use Rattle.ice_chip.specs.Database.{Parts}
use Rattle.ice_chip.specs.declared.rows.TileLine.{TileLine}
use Rattle.ice_chip.specs.declared.rows.Pad.{Pad}
use Rattle.ice_bits.specs.Configuration.{Bits}
use Rattle.ice_net.specs.declared.driver.Drive.TheVariants.{Off}
use Rattle.ice_decode.specs.Meaning.{pad_drive, ram_drive, drive_at}
use Rattle.ice_decode.specs.Pads.{pads_in, is_io_tile, pads}
use Rattle.ice_decode.specs.declared.point.Point.{Point}

-- the pads of a chip are those of IO tiles
abbrev pads_of : TileAt × TileLine → List Pad
pads_of tile = pads_in tile.0

low_in : (tiles : List (TileAt × TileLine)) (pad : Pad) → Has (flat_map pads_of tiles) pad → pad.pio < 2
low_in [] pad has = absurd (none-some pad has.1)
low_in (tile ∷ tiles) pad (zero, at) = let same = same_Some (record { tile = tile.0; pio = 0 }) pad at in subst (λ (p : Pad). p.pio < 2) same (omega arith)
low_in (tile ∷ tiles) pad (suc zero, at) = let same = same_Some (record { tile = tile.0; pio = 1 }) pad at in subst (λ (p : Pad). p.pio < 2) same (omega arith)
low_in (tile ∷ tiles) pad (suc (suc n), at) = low_in tiles pad (n, at)

pub pad_low : (parts : Parts) (pad : Pad) → Has (pads parts) pad → pad.pio < 2
pad_low parts pad has = low_in (filter is_io_tile parts.tiles) pad has

pub low_drive : (parts : Parts) (bits : Bits) (kept : List Bool) (v : Point → Bool) (pad : Pad) → pad.pio < 2 → drive_at parts bits kept v pad ≡ pad_drive parts bits kept v pad
low_drive parts bits kept v pad lt =
    ap (λ b. if b then pad_drive parts bits kept v pad else (if nat_lt pad.pio 78 then ram_drive parts v pad.tile (pad.pio - 2) else Off)) (lt-ltb pad.pio 2 lt)
