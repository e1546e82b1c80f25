-- Settings, and those that stand on a condition.
use Rattle.std.specs.Prelude.{ℕ, Bool, List, [], ◌∷◌, if◌then◌else◌}
use Rattle.ice_base.specs.declared.number.TileAt.{TileAt}
use Rattle.ice_emit_rows_laws.specs.Settings.{Setting}

abbrev pub setting : TileAt → List ℕ → ℕ → Setting
setting t name k = record { tile = t; name = name; number = k }

abbrev pub setting_if : Bool → TileAt → List ℕ → ℕ → List Setting
setting_if b t name k = if b then setting t name k ∷ [] else []
