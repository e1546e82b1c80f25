-- Marks of the bits of kinds of tiles that are noted with a line.
use Rattle.std.specs.Prelude.{◌≡◌, ℕ, ◌+◌, ◌*◌, Bool, true, false, not, ◌&&◌, ◌||◌, None, List, nat_lt, slice_index_or, slice_set, if◌then◌else◌}
use Rattle.std.specs.Map.{lookup}
use Rattle.ice_chip.specs.SharedFunction.{same_bit}
use Rattle.ice_chip.specs.declared.rows.TileKind.{TileKind}
use Rattle.ice_chip.specs.declared.rows.TileKind.TheVariants.{Io, Logic, RamBottom, RamTop}
use Rattle.ice_chip.specs.declared.uses.KindBit.{KindBit}

abbrev pub kind_number : TileKind → ℕ
kind_number Io = 0
kind_number Logic = 1
kind_number RamBottom = 2
kind_number RamTop = 3

-- some tile may have the bit: 16 rows of 64
abbrev pub is_within : KindBit → Bool
is_within p = nat_lt p.bit.row 16 && nat_lt p.bit.col 64

abbrev pub place_of : KindBit → ℕ
place_of p = kind_number p.kind * 1024 + p.bit.row * 64 + p.bit.col

abbrev pub with_mark : List Bool → KindBit → List Bool
with_mark marks p = if is_within p then slice_set marks (place_of p) true else marks

abbrev pub may_be_noted : List Bool → KindBit → Bool
may_be_noted marks p = not (is_within p) || slice_index_or marks (place_of p) false

-- a bit that is noted may be noted
abbrev pub HaveMarks : List Bool → List (KindBit × ℕ) → Type 0
HaveMarks marks lines = (p : KindBit) → may_be_noted marks p ≡ false → lookup (same_bit p) lines ≡ None

-- of the bits that may not be noted these lines say what the last ones of them say
abbrev pub LeaveTo : List (KindBit × ℕ) → List Bool → List (KindBit × ℕ) → Type 0
LeaveTo rest marks lines = (p : KindBit) → may_be_noted marks p ≡ false → lookup (same_bit p) lines ≡ lookup (same_bit p) rest
