-- Usable rows: sound ones that a route may take.
use Rattle.std.specs.Prelude.{ℕ, Bool, not, ◌&&◌}
use Rattle.ice_chip.specs.Database.{Parts, SwitchRow, SwitchGroup}
use Rattle.ice_bits_rows.specs.Bundles.{is_private}
use Rattle.ice_bits_rows.specs.WireNames.{has_strange_name, may_leave, may_enter}
use Rattle.ice_bits_rows.specs.Sound.{is_sound, is_alone}

-- the row of number n of the group is usable: it is sound, and a route may leave its source and enter its target
abbrev pub is_usable : Parts → SwitchGroup → ℕ → SwitchRow → Bool
is_usable parts g n r = is_sound parts g n r && may_leave parts r.source && may_enter parts g.wire

-- ---- the same, group by group
-- what a group with usable rows meets: its bundle is private, and a route may enter its wire
abbrev pub is_open : Parts → SwitchGroup → Bool
is_open parts g = is_private parts g.tile g.wire && may_enter parts g.wire

-- what a usable row of an open group meets
abbrev pub is_taken : Parts → SwitchGroup → ℕ → SwitchRow → Bool
is_taken parts g n r = (not (has_strange_name parts r.source) && is_alone parts.groups g n r) && may_leave parts r.source
