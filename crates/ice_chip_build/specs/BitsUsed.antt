-- What is known of the uses of bits so far.
use Rattle.std.specs.Prelude.{ℕ, Bool, true, false, Option, None, Some, List, [], ◌∷◌}
use Rattle.std.specs.Map.{lookup}
use Rattle.indexmap.specs.IndexMap.{insert_entry}
use Rattle.ice_base.specs.declared.number.TileAt.{TileAt}
use Rattle.ice_chip.specs.Database.{FunctionRow, SwitchGroup, tile_known}
use Rattle.ice_chip.specs.LeastLine.{least_of}
use Rattle.ice_chip.specs.SharedFunction.{same_bit, function_uses, group_uses, two_lines, first_of}
use Rattle.ice_chip.specs.declared.rows.TileLine.{TileLine}
use Rattle.ice_chip.specs.declared.uses.KindBit.{KindBit}
use Rattle.ice_chip.specs.declared.uses.BitUse.{BitUse}

-- the least line of the uses of each bit, the least line of its uses by read functions, and the first two lines of uses
-- that clash
pub record BitsUsed : Type 0 where
  pub any : List (KindBit × ℕ)
  pub read : List (KindBit × ℕ)
  pub shared : Option (ℕ × ℕ)

abbrev pub none_used : BitsUsed
none_used = record { any = []; read = []; shared = None }

abbrev pub with_line : List (KindBit × ℕ) → KindBit → ℕ → List (KindBit × ℕ)
with_line lines place line = insert_entry same_bit lines place (least_of (lookup (same_bit place) lines) line)

abbrev pub with_clash : Option (ℕ × ℕ) → ℕ → Option ℕ → Option (ℕ × ℕ)
with_clash shared line None = shared
with_clash shared line (Some other) = first_of shared (two_lines line other)

-- a use of a read function clashes with every use of its bit, and any other with those of read functions
abbrev pub with_use : BitsUsed → BitUse → Bool → BitsUsed
with_use s u true = record {
  any = with_line s.any u.place u.line;
  read = with_line s.read u.place u.line;
  shared = with_clash s.shared u.line (lookup (same_bit u.place) s.any);
}
with_use s u false = record {
  any = with_line s.any u.place u.line;
  read = s.read;
  shared = with_clash s.shared u.line (lookup (same_bit u.place) s.read);
}

abbrev pub with_uses : BitsUsed → List BitUse → BitsUsed
with_uses s [] = s
with_uses s (u ∷ us) = with_uses (with_use s u u.is_read) us

abbrev pub with_functions : BitsUsed → List FunctionRow → BitsUsed
with_functions s [] = s
with_functions s (f ∷ fs) = with_functions (with_uses s (function_uses f)) fs

abbrev pub with_groups : List (TileAt × TileLine) → BitsUsed → List SwitchGroup → BitsUsed
with_groups tiles s [] = s
with_groups tiles s (g ∷ gs) = with_groups tiles (with_uses s (group_uses (tile_known tiles g.tile) g)) gs

-- ---- the first two lines alone, where no read function follows
abbrev pub with_others : List (KindBit × ℕ) → Option (ℕ × ℕ) → List BitUse → Option (ℕ × ℕ)
with_others read shared [] = shared
with_others read shared (u ∷ us) = with_others read (with_clash shared u.line (lookup (same_bit u.place) read)) us

abbrev pub groups_shared : List (TileAt × TileLine) → List (KindBit × ℕ) → Option (ℕ × ℕ) → List SwitchGroup → Option (ℕ × ℕ)
groups_shared tiles read shared [] = shared
groups_shared tiles read shared (g ∷ gs) = groups_shared tiles read (with_others read shared (group_uses (tile_known tiles g.tile) g)) gs
