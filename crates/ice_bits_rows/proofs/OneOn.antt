-- The rows that are on, group by group.
use Rattle.std.proofs.Common.{◌≡◌, ℕ, Bool, true, false, cond, Option, None, Some, List, [], ◌∷◌, ◌++◌, refl}
use Rattle.ice_base.specs.declared.number.TileAt.{TileAt}
use Rattle.ice_chip.specs.Database.{SwitchGroup, same_tile}
use Rattle.ice_bits.specs.Configuration.{Bits}
use Rattle.ice_bits.specs.Settings.{row_on}
use Rattle.ice_bits_rows.specs.Sound.{rows_on, is_one}
use Rattle.ice_bits_rows.specs.Alone.{in_tile, on_there, are_two, either, listed_one}

on_more : (bits : Bits) (g : SwitchGroup) (gs : List SwitchGroup) (o : Option ℕ) → row_on bits g ≡ o → rows_on bits (g ∷ gs) ≡ listed_one o ++ rows_on bits gs
on_more bits g gs None e = rw e refl
on_more bits g gs (Some n) e = rw e refl

there_more : (bits : Bits) (tile : TileAt) (g : SwitchGroup) (gs : List SwitchGroup) (b : Bool) → same_tile g.tile tile ≡ b
    → rows_on bits (cond b (g ∷ in_tile tile gs) (in_tile tile gs)) ≡ listed_one (cond b (row_on bits g) None) ++ rows_on bits (in_tile tile gs)
there_more bits tile g gs true e = on_more bits g (in_tile tile gs) (row_on bits g) refl
there_more bits tile g gs false e = refl

-- the rows of a group, and then those of the others
pub on_first : (bits : Bits) (tile : TileAt) (g : SwitchGroup) (gs : List SwitchGroup)
    → rows_on bits (in_tile tile (g ∷ gs)) ≡ listed_one (on_there bits tile g) ++ rows_on bits (in_tile tile gs)
on_first bits tile g gs = there_more bits tile g gs (same_tile g.tile tile) refl

pub two : (n : ℕ) (on found : Option ℕ) (rest : List ℕ) → are_two on found ≡ true → is_one n (listed_one on ++ (listed_one found ++ rest)) ≡ false
two n None found rest e = absurd (cc)
two n (Some m) None rest e = absurd (cc)
two n (Some m) (Some k) rest e = refl

pub one_more : (on found : Option ℕ) (rest : List ℕ) → are_two on found ≡ false → listed_one on ++ (listed_one found ++ rest) ≡ listed_one (either on found) ++ rest
one_more None found rest e = refl
one_more (Some m) None rest e = refl
one_more (Some m) (Some k) rest e = absurd (cc)

pub last : (on : Option ℕ) → listed_one on ++ [] ≡ listed_one on
last None = refl
last (Some n) = refl
