-- Groups that have no bit in common, and none of a foreign function.
use Rattle.std.specs.Prelude.{◌≡◌, ℕ, [], ◌∷◌, Bool, true, false, ◌&&◌, Some, List, length, slice_index_or}
use Rattle.std.specs.List.{list_any, Contains}
use Rattle.ice_base.specs.declared.number.TileAt.{TileAt}
use Rattle.ice_base.specs.declared.bit.BitAt.{BitAt}
use Rattle.ice_chip.specs.Database.{Parts, SwitchGroup, same_tile}
use Rattle.ice_chip.specs.Lookups.{kind_at}
use Rattle.ice_bits_rows.specs.Bundles.{groups_into, has_bit, is_of_function, is_private}
use Rattle.ice_bits_rows.specs.Own.{each_once}
use Rattle.ice_bits_rows.specs.Owners.{is_within, place_of}
use Rattle.ice_bits_rows.specs.Plain.{is_meeting, meets_one}
use Rattle.ice_bits_rows.specs.declared.apart.Met.{Met}

-- a group of the tile among these has the bit
abbrev pub is_met : List SwitchGroup → TileAt → BitAt → Bool
is_met groups tile b = list_any (λ g. same_tile g.tile tile && has_bit g.bits b) groups

-- no bit of the group stands twice in it, and none is in a group of its tile among these or in a foreign function of its kind
pub record IsApart (parts : Parts) (groups : List SwitchGroup) (g : SwitchGroup) : Type 0 where
  pub once : each_once g.bits ≡ true
  pub unmet : (b : BitAt) → has_bit g.bits b ≡ true → is_met groups g.tile b ≡ false
  pub native : (b : BitAt) → has_bit g.bits b ≡ true → is_of_function parts.functions (kind_at parts g.tile) b ≡ false

-- so is each of the groups, beside those behind it
abbrev pub AreApart : Parts → List SwitchGroup → Type 0
AreApart parts [] = Unit {0}
AreApart parts (g ∷ groups) = IsApart parts groups g × AreApart parts groups

-- no bit of the group stands twice in it, and if it has one, no other group of its bundle has one of them
abbrev pub IsLone : List SwitchGroup → SwitchGroup → Type 0
IsLone groups g = (each_once g.bits ≡ true) × (is_meeting g g ≡ true → meets_one g false (groups_into groups g.wire) ≡ true)

-- the groups share no bits: their bundles are private, and they are lone
abbrev pub ShareNothing : Parts → Type 0
ShareNothing parts = ((tile : TileAt) (wire : ℕ) → is_private parts tile wire ≡ true) × ((g : SwitchGroup) → Contains parts.groups g → IsLone parts.groups g)

-- ---- marks of the bits of a tile
abbrev pub is_marked : List Bool → BitAt → Bool
is_marked marks b = slice_index_or marks (place_of b) false

-- the bits stand once, and none of them is marked
pub record AreFresh (marks : List Bool) (bits : List BitAt) : Type 0 where
  pub once : each_once bits ≡ true
  pub unmarked : (b : BitAt) → has_bit bits b ≡ true → is_marked marks b ≡ false

-- these bits are marked, and those that were
pub record Marks (bits : List BitAt) (old new : List Bool) : Type 0 where
  pub long : length new ≡ length old
  pub these : (b : BitAt) → is_within b ≡ true → is_marked new b ≡ false → has_bit bits b ≡ false
  pub before : (b : BitAt) → is_within b ≡ true → is_marked new b ≡ false → is_marked old b ≡ false

-- the bits of the tile that are not marked are in no group of these, and in no foreign function of its kind
pub record IsSpared (parts : Parts) (groups : List SwitchGroup) (tile : TileAt) (marks : List Bool) : Type 0 where
  pub unmet : (b : BitAt) → is_within b ≡ true → is_marked marks b ≡ false → is_met groups tile b ≡ false
  pub native : (b : BitAt) → is_within b ≡ true → is_marked marks b ≡ false → is_of_function parts.functions (kind_at parts tile) b ≡ false

-- what was met of groups: none is of another tile than these, of which the last one is one, whose bits are marked
pub record HasMet (parts : Parts) (groups : List SwitchGroup) (met : Met) : Type 0 where
  pub long : length met.marks.items ≡ 1024
  pub tiles : (t : TileAt) → list_any (same_tile t) met.tiles.keys ≡ false → (b : BitAt) → is_met groups t b ≡ false
  pub there : (t : TileAt) → met.last ≡ Some t → list_any (same_tile t) met.tiles.keys ≡ true
  pub last : (t : TileAt) → met.last ≡ Some t → IsSpared parts groups t met.marks.items
