-- The rows of trees, and the bits of lists of rows and settings.
use Rattle.std.specs.Prelude.{◌≡◌, ℕ, ◌||◌, Bool, ◌++◌, List}
use Rattle.ice_base.specs.declared.bit.BitAt.{BitAt}
use Rattle.ice_base.specs.declared.number.RowNo.{RowNo}
use Rattle.ice_base.specs.declared.number.TileAt.{TileAt}
use Rattle.ice_bits.specs.Configuration.{Configuration, bits_of}
use Rattle.ice_bits.specs.Grids.{IsOf}
use Rattle.ice_chip.specs.Database.{Parts}
use Rattle.ice_chip_rams.specs.Sites.{sites}
use Rattle.ice_graph.specs.declared.tree.Tree.{Tree}
use Rattle.ice_ram.specs.Ram.{Kept}
use Rattle.ice_ram.specs.declared.setup.Setup.{Setup}
use Rattle.ice_emit_defs.specs.Rams.{site_contents}
use Rattle.ice_emit_settings.specs.Views.{views}
use Rattle.ice_emit_rows_laws.specs.Settings.{function_bits}
use Rattle.ice_emit_bits.specs.Lists.{all_rows}
use Rattle.ice_emit_bits.specs.declared.settings.Setting.{Setting}

abbrev pub rows_in : Tree → List RowNo
rows_in tree = tree.rows.items

-- these extra bits are behind the others, and nothing else changes
abbrev pub with_extras : List (ℕ × ℕ × ℕ) → Configuration → Configuration
with_extras more k = record { tiles = k.tiles; kinds = k.kinds; extras = k.extras ++ more; contents = k.contents }

-- these contents of block RAMs are behind the others, and nothing else changes
abbrev pub with_contents : List (TileAt × List (List Bool)) → Configuration → Configuration
with_contents more k = record { tiles = k.tiles; kinds = k.kinds; extras = k.extras; contents = k.contents ++ more }

-- bits of a chip of which those of these rows and settings and these extra bits are set, and no others; of its block RAMs these are used
pub record AreBitsWith (parts : Parts) (rows : List RowNo) (made : List Setting) (extras : List (ℕ × ℕ × ℕ)) (rams : List (Setup × Kept)) (k : Configuration) : Type 0 where
  pub form : IsOf parts k
  pub extras_are : k.extras ≡ extras
  pub contents_are : k.contents ≡ site_contents (sites parts) rams
  pub bits : (t : TileAt) (b : BitAt) → bits_of k t b ≡ (all_rows parts rows t b || function_bits parts (views made) t b)
