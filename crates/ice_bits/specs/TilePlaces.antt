-- Where the bits of a tile stand in a list of tiles.
use Rattle.std.specs.Prelude.{ℕ, suc, Option, None, Some, List, [], ◌∷◌, option_map, if◌then◌else◌}
use Rattle.ice_base.specs.declared.number.TileAt.{TileAt}
use Rattle.ice_chip.specs.Database.{same_tile}

-- the place in the list of the first tile that stands here
abbrev pub place_in : {X : Type 0} → TileAt → List (TileAt × X) → Option ℕ
place_in t [] = None
place_in t (e ∷ es) = if same_tile t e.0 then Some 0 else option_map (λ i. suc i) (place_in t es)
