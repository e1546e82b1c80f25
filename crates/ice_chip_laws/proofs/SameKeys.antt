-- Keys that a test takes for the same are equal.
use Rattle.std.proofs.Common.{◌≡◌, true, refl}
use Rattle.std.specs.Prelude.{bytes_eq}
use Rattle.std.proofs.lemmas.Bool.{and_parts}
use Rattle.ice_base.proofs.Keys.{bytes_same, bytes_self, tile_same, tile_self}
use Rattle.ice_chip.specs.declared.placed.PlacedName.{PlacedName}
use Rattle.ice_chip.specs.Database.{same_tile}
use Rattle.ice_chip.specs.WholeFaults.{same_placed}

pub placed_same : (a b : PlacedName) → same_placed a b ≡ true → a ≡ b
placed_same a b e =
    let parts = and_parts (same_tile a.tile b.tile) (bytes_eq a.name b.name) e in
    let tile = tile_same a.tile b.tile parts.0 in
    let name = bytes_same a.name b.name parts.1 in
    λ i. record { tile = tile i; name = name i }

pub placed_self : (a : PlacedName) → same_placed a a ≡ true
placed_self a = rw (tile_self a.tile, bytes_self a.name) refl
