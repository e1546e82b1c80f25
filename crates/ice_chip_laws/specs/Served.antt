-- Tiles that serve others: by column buffers, by input enables, and by feeding a global.
use Rattle.std.specs.Prelude.{◌≡◌, ℕ, ◌<◌, Some}
use Rattle.ice_base.specs.declared.number.TileAt.{TileAt}
use Rattle.ice_chip.specs.Database.{Parts}
use Rattle.ice_chip.specs.Lookups.{kind_at, colbuf_of, ieren_of, global_of}
use Rattle.ice_chip.specs.declared.rows.Pad.{Pad}
use Rattle.ice_chip.specs.declared.rows.TileKind.{TileKind}
use Rattle.ice_chip.specs.declared.rows.TileKind.TheVariants.{Io}
use Rattle.ice_chip_laws.specs.Functions.{HasColumnBuffers}
use Rattle.ice_base_values.specs.Order.{Has}

-- a tile stands there that has column buffers
abbrev pub HoldsBuffers : Parts → TileAt → Type 0
HoldsBuffers parts t = (kind : TileKind) × (kind_at parts t ≡ Some kind) × HasColumnBuffers parts kind

pub record HasServers (parts : Parts) : Type 0 where
  -- the tile that serves another has column buffers
  pub buffers : (t s : TileAt) → colbuf_of parts t ≡ Some s → HoldsBuffers parts s
  -- so has each tile but an IO tile that a row names as serving another
  pub sources : (t s : TileAt) (kind : TileKind) → Has parts.colbuf (s, t) → kind_at parts s ≡ Some kind → (kind ≡ Io → ⊥) → HasColumnBuffers parts kind
  -- a pad's input enable stands in an IO tile
  pub enables : (p q : Pad) → ieren_of parts p ≡ Some q → kind_at parts q.tile ≡ Some Io
  -- as that of pad 0 or pad 1
  pub pads : (p q : Pad) → ieren_of parts p ≡ Some q → q.pio < 2
  -- the tile that feeds a global is one that a row names
  pub globals : (n : ℕ) (t : TileAt) → global_of parts n ≡ Some t → Has parts.gbufin (t, n)
