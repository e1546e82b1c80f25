-- Foreign functions by tiles with their kinds.
use Rattle.std.specs.Prelude.{ℕ, ◌&&◌, Bool, Option, None, List, [], ◌∷◌, find, option_map}
use Rattle.std.specs.List.{list_any}
use Rattle.ice_base.specs.declared.number.TileAt.{TileAt}
use Rattle.ice_chip.specs.Database.{Parts, FunctionRow}
use Rattle.ice_chip.specs.Functions.{is_foreign, same_kind}
use Rattle.ice_chip.specs.declared.tile.Tile.{Tile}
use Rattle.ice_bits.specs.Configuration.{Bits}
use Rattle.ice_decode.specs.Faults.{counts_in}
use Rattle.ice_decode.specs.FirstFaults.{or_else}

-- a bit of a foreign function of the tile's kind is set in the tile, where the function counts
abbrev pub is_set_at : Parts → Bits → Tile → FunctionRow → Bool
is_set_at parts bits tile f =
    same_kind f.kind tile.kind && is_foreign f.kind f.name && list_any (bits tile.at) f.bits && counts_in parts bits tile.at f.name

-- the line of the first such function
abbrev pub foreign_at : Parts → List FunctionRow → Bits → Tile → Option ℕ
foreign_at parts functions bits tile = option_map (λ (f : FunctionRow). f.line) (find (is_set_at parts bits tile) functions)

-- the first of these tiles with one, and the function's line
abbrev pub foreign_among : Parts → Bits → List Tile → Option (TileAt × ℕ)
foreign_among parts bits [] = None
foreign_among parts bits (tile ∷ tiles) = or_else (option_map (λ line. (tile.at, line)) (foreign_at parts parts.functions bits tile)) (foreign_among parts bits tiles)
