-- Sound rows: their values turn them on, and nothing else.
use Rattle.std.specs.Prelude.{ℕ, ◌==◌, Bool, false, not, ◌&&◌, ◌||◌, List, [], ◌∷◌, filter_map}
use Rattle.ice_base.specs.declared.bit.BitAt.{BitAt}
use Rattle.ice_chip.specs.Database.{Parts, SwitchRow, SwitchGroup, same_tile}
use Rattle.ice_base.specs.Places.{same_place}
use Rattle.ice_bits.specs.Configuration.{Bits}
use Rattle.ice_bits.specs.Settings.{row_on}
use Rattle.ice_bits_rows.specs.Bundles.{bundle, is_private}
use Rattle.ice_bits_rows.specs.WireNames.{has_strange_name}

-- the bits of the list that have the value 1
abbrev pub value_at : List BitAt → List Bool → BitAt → Bool
value_at [] values b = false
value_at (p ∷ bits) [] b = false
value_at (p ∷ bits) (v ∷ values) b = (same_place p b && v) || value_at bits values b

-- the row's values in its group's bits, and 0 elsewhere
abbrev pub sets : SwitchGroup → SwitchRow → Bits
sets g r tile b = same_tile g.tile tile && value_at g.bits r.values b

-- the numbers of the rows of these groups that are on
abbrev pub rows_on : Bits → List SwitchGroup → List ℕ
rows_on bits groups = filter_map (row_on bits) groups

-- the list holds this number alone
abbrev pub is_one : ℕ → List ℕ → Bool
is_one n [] = false
is_one n (m ∷ []) = m == n
is_one n (m ∷ k ∷ others) = false

-- with the row's values the row of number n is the one row of its bundle that is on
abbrev pub is_alone : List SwitchGroup → SwitchGroup → ℕ → SwitchRow → Bool
is_alone groups g n r = is_one n (rows_on (sets g r) (bundle groups g.tile g.wire))

-- the row of number n of the group is sound: its bundle is private, its source has no name of a memory that is no pin, and its values turn it on alone
abbrev pub is_sound : Parts → SwitchGroup → ℕ → SwitchRow → Bool
is_sound parts g n r = is_private parts g.tile g.wire && not (has_strange_name parts r.source) && is_alone parts.groups g n r
