-- Groups whose rows are all alone, which one look at the group shows.
use Rattle.std.specs.Prelude.{◌≡◌, ℕ, ◌+◌, ◌==◌, Bool, true, false, not, ◌&&◌, ◌||◌, List, [], ◌∷◌, length, Some, slice_get, if◌then◌else◌}
use Rattle.std.specs.Bool.{beq}
use Rattle.std.specs.List.{list_any}
use Rattle.std.specs.Cmp.Lexicographic.{pointwise}
use Rattle.ice_chip.specs.Database.{SwitchRow, SwitchGroup, same_tile}
use Rattle.ice_bits_rows.specs.Bundles.{groups_into, has_bit}
use Rattle.ice_bits_rows.specs.Own.{each_once}
use Rattle.ice_bits_rows.specs.Sound.{is_alone}

-- each row of the group is the one row of its bundle that is on under its values
abbrev pub AreAlone : List SwitchGroup → SwitchGroup → Type 0
AreAlone groups g = (k : ℕ) (r : SwitchRow) → slice_get g.rows k ≡ Some r → is_alone groups g (g.first + k) r ≡ true

-- ---- what shows it
-- the values stand above the others: where they first differ, theirs is 1; values that are missing are 0
abbrev pub is_above : List Bool → List Bool → Bool
is_above [] others = false
is_above (v ∷ values) [] = list_any (λ x. x) (v ∷ values)
is_above (v ∷ values) (o ∷ others) = if beq v o then is_above values others else v

-- the rows have this many values each, and the values of each stand above those of the row before it, the first above these
abbrev pub do_rise : ℕ → List Bool → List SwitchRow → Bool
do_rise count low [] = true
do_rise count low (r ∷ rows) = (length r.values == count) && is_above r.values low && do_rise count r.values rows

-- one of the rows has these values
abbrev pub has_again : List Bool → List SwitchRow → Bool
has_again values rows = list_any (λ r. pointwise beq values r.values) rows

-- the row has this many values, which aren't all 0, and no later row has the same
abbrev pub differs : ℕ → SwitchRow → List SwitchRow → Bool
differs count r rows = (length r.values == count) && list_any (λ x. x) r.values && not (has_again r.values rows)

-- this holds of each row
abbrev pub do_differ : ℕ → List SwitchRow → Bool
do_differ count [] = true
do_differ count (r ∷ rows) = differs count r rows && do_differ count rows

-- another group is of the group's tile and has a bit of it
abbrev pub is_meeting : SwitchGroup → SwitchGroup → Bool
is_meeting g other = same_tile other.tile g.tile && list_any (has_bit g.bits) other.bits

-- one group of these is such a one, and no second one, where one may have been met before
abbrev pub meets_one : SwitchGroup → Bool → List SwitchGroup → Bool
meets_one g met [] = met
meets_one g met (other ∷ groups) = if is_meeting g other && met then false else meets_one g (met || is_meeting g other) groups

-- no bit of the group stands twice, the values of its rows rise or else differ, and no other group of its bundle has a bit of it
abbrev pub is_plain : List SwitchGroup → SwitchGroup → Bool
is_plain groups g = each_once g.bits && (do_rise (length g.bits) [] g.rows || do_differ (length g.bits) g.rows) && meets_one g false (groups_into groups g.wire)
