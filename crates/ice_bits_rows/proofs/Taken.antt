-- A row is usable where its group is open and it is taken.
use Rattle.std.proofs.Common.{◌≡◌, ℕ, Bool, true, false, refl}
use Rattle.std.specs.Prelude.{◌&&◌, not}
use Rattle.ice_base.proofs.Booleans.{and_true, and_false}
use Rattle.ice_chip.specs.Database.{Parts, SwitchRow, SwitchGroup}
use Rattle.ice_bits_rows.specs.Bundles.{is_private}
use Rattle.ice_bits_rows.specs.WireNames.{has_strange_name, may_leave, may_enter}
use Rattle.ice_bits_rows.specs.Sound.{is_alone}
use Rattle.ice_bits_rows.specs.Usable.{is_usable, is_open, is_taken}

parts_table : (p m a l e : Bool) → (p && e) ≡ true → ((((p && m) && a) && l) && e) ≡ ((m && a) && l)
parts_table true m a l true is = and_true ((m && a) && l)
parts_table true m a l false is = absurd (cc)
parts_table false m a l e is = absurd (cc)

none_table : (p m a l e : Bool) → (p && e) ≡ false → ((((p && m) && a) && l) && e) ≡ false
none_table false m a l e is = refl
none_table true m a l true is = absurd (cc)
none_table true m a l false is = and_false ((m && a) && l)

-- in an open group a row is usable where it is taken
pub taken : (parts : Parts) (g : SwitchGroup) (n : ℕ) (r : SwitchRow) → is_open parts g ≡ true → is_usable parts g n r ≡ is_taken parts g n r
taken parts g n r e = parts_table (is_private parts g.tile g.wire) (not (has_strange_name parts r.source)) (is_alone parts.groups g n r) (may_leave parts r.source) (may_enter parts g.wire) e

-- no row of another group is usable
pub unusable : (parts : Parts) (g : SwitchGroup) (n : ℕ) (r : SwitchRow) → is_open parts g ≡ false → is_usable parts g n r ≡ false
unusable parts g n r e = none_table (is_private parts g.tile g.wire) (not (has_strange_name parts r.source)) (is_alone parts.groups g n r) (may_leave parts r.source) (may_enter parts g.wire) e
