-- Bundles: the groups of a tile into a wire.
use Rattle.std.specs.Prelude.{◌≡◌, ℕ, ◌==◌, Bool, false, not, ◌&&◌, ◌||◌, Option, None, Some, List, filter}
use Rattle.std.specs.List.{list_any}
use Rattle.ice_base.specs.declared.number.TileAt.{TileAt}
use Rattle.ice_base.specs.declared.bit.BitAt.{BitAt}
use Rattle.ice_chip.specs.Database.{Parts, FunctionRow, SwitchGroup, same_tile}
use Rattle.ice_base.specs.Places.{same_place}
use Rattle.ice_chip.specs.Lookups.{kind_at}
use Rattle.ice_chip.specs.Functions.{same_kind, is_foreign}
use Rattle.ice_chip.specs.declared.rows.TileKind.{TileKind}

-- all groups into a wire
abbrev pub groups_into : List SwitchGroup → ℕ → List SwitchGroup
groups_into groups wire = filter (λ g. g.wire == wire) groups

-- the bundle of a tile and a wire: all groups there into that wire
abbrev pub bundle : List SwitchGroup → TileAt → ℕ → List SwitchGroup
bundle groups tile wire = filter (λ g. same_tile g.tile tile) (groups_into groups wire)

-- ---- bits that a bundle shares
abbrev pub has_bit : List BitAt → BitAt → Bool
has_bit bits b = list_any (λ p. same_place p b) bits

-- another bundle of the tile has the bit
abbrev pub is_of_other : List SwitchGroup → TileAt → ℕ → BitAt → Bool
is_of_other groups tile wire b = list_any (λ g. same_tile g.tile tile && not (g.wire == wire) && has_bit g.bits b) groups

-- a foreign function of the tile's kind has the bit
abbrev pub is_of_function : List FunctionRow → Option TileKind → BitAt → Bool
is_of_function functions None b = false
is_of_function functions (Some kind) b = list_any (λ f. same_kind f.kind kind && is_foreign f.kind f.name && has_bit f.bits b) functions

-- these are the bits of the foreign functions of a kind of tile
abbrev pub AreForeign : List FunctionRow → TileKind → List BitAt → Type 0
AreForeign functions kind bits = (b : BitAt) → has_bit bits b ≡ is_of_function functions (Some kind) b

abbrev pub is_shared : Parts → TileAt → ℕ → BitAt → Bool
is_shared parts tile wire b = is_of_other parts.groups tile wire b || is_of_function parts.functions (kind_at parts tile) b

abbrev pub shares_bit : Parts → SwitchGroup → Bool
shares_bit parts g = list_any (is_shared parts g.tile g.wire) g.bits

-- none of the bundle's bits is in another bundle of the tile or in a foreign function of its kind
abbrev pub is_private : Parts → TileAt → ℕ → Bool
is_private parts tile wire = not (list_any (shares_bit parts) (bundle parts.groups tile wire))
