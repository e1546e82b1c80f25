-- Functions that a tile's kind lacks.
use Rattle.std.specs.Prelude.{◌≡◌, ℕ, false, None, Some, List}
use Rattle.ice_base.specs.declared.number.TileAt.{TileAt}
use Rattle.ice_chip.specs.Database.{Parts}
use Rattle.ice_chip.specs.Lookups.{kind_at, function_of}
use Rattle.ice_chip.specs.declared.rows.TileKind.{TileKind}
use Rattle.ice_bits.specs.Configuration.{Bits}
use Rattle.ice_bits.specs.Settings.{function_bit, set_at}

-- no tile whose kind has the function stands at the place
abbrev pub LacksFunctionAt : Parts → TileAt → List ℕ → Type 0
LacksFunctionAt parts t name = (kind : TileKind) → kind_at parts t ≡ Some kind → function_of parts kind name ≡ None

-- there the function has no bits, and each of them is read as 0
abbrev pub OtherKindsReadZero : Type 0
OtherKindsReadZero = (parts : Parts) (t : TileAt) (name : List ℕ) (k : ℕ) → LacksFunctionAt parts t name
    → (function_bit parts t name k ≡ None) × ((bits : Bits) → set_at parts bits t name k ≡ false)
