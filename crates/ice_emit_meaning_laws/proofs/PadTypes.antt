-- The pads of a chip, and the types of their pins.
use Rattle.std.proofs.Common.{◌≡◌, ◌⊎◌, ◌<◌, Option, None, Some, inl, inr, refl, ap}
use Rattle.ice_base.specs.declared.number.TileAt.{TileAt}
use Rattle.ice_base_values.specs.Order.{Has}
use Rattle.ice_base_values.proofs.Members.{Has_filter}
use Rattle.ice_chip.specs.Lookups.{kind_at, is_io_kind}
use Rattle.ice_chip.specs.declared.rows.TileLine.{TileLine}
use Rattle.ice_chip.specs.declared.rows.Pad.{Pad}
use Rattle.ice_chip.specs.declared.rows.TileKind.{TileKind}
use Rattle.ice_chip.specs.declared.rows.TileKind.TheVariants.{Io, Logic, RamBottom, RamTop}
use Rattle.ice_decode.specs.Pads.{pads_in, is_io_tile, pads}
use Rattle.ice_decode.proofs.OtherTypes.{each_two}
use Rattle.ice_emit_meaning_laws.proofs.Premises.{Premises}
use Rattle.ice_emit_meaning_laws.proofs.Read.{has_flat}

-- ---- pads of IO tiles
pub pad_there : (g : Premises) (pad : Pad) → kind_at g.parts pad.tile ≡ Some Io → pad.pio < 2 → Has (pads g.parts) pad
pad_there g pad io lt =
    let tile = g.lawful.tiles.listed pad.tile Io io in
    let line : TileAt × TileLine = (pad.tile, tile.0) in
    let kept = Has_filter is_io_tile g.parts.tiles line tile.1 (ap is_io_kind tile.2) in
    has_flat (λ (x : TileAt × TileLine). pads_in x.0) _ kept.0 line pad kept.1
    (each_two (λ pio. Has (pads_in pad.tile) (record { tile = pad.tile; pio = pio })) (0, refl) (1, refl) pad.pio lt)

module _ (g : Premises) where
  -- a tile is an IO tile, or not
  pub io_or_other : (t : TileAt) → (kind_at g.parts t ≡ Some Io) ⊎ (kind_at g.parts t ≡ Some Io → ⊥)
  io_or_other t = by (kind_at g.parts t)
    where
      by : (o : Option TileKind) → (o ≡ Some Io) ⊎ (o ≡ Some Io → ⊥)
      by None = inr (λ e. cc e)
      by (Some Io) = inl refl
      by (Some Logic) = inr (λ e. cc e)
      by (Some RamBottom) = inr (λ e. cc e)
      by (Some RamTop) = inr (λ e. cc e)
