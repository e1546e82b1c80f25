-- Bits that a read function shares.
use Rattle.std.specs.Prelude.{ℕ, ◌==◌, ◌&&◌, ◌||◌, Bool, true, false, Option, None, Some, List, [], ◌∷◌, ◌++◌, map, fold, nat_lt, if◌then◌else◌}
use Rattle.std.specs.List.{flat_map}
use Rattle.ice_base.specs.declared.bit.BitAt.{BitAt}
use Rattle.ice_chip.specs.Database.{Parts, FunctionRow, SwitchGroup, tile_known}
use Rattle.ice_chip.specs.Functions.{is_read, is_foreign, same_kind}
use Rattle.ice_chip.specs.declared.rows.TileKind.{TileKind}
use Rattle.ice_chip.specs.declared.rows.TileLine.{TileLine}
use Rattle.ice_chip.specs.declared.uses.KindBit.{KindBit}
use Rattle.ice_chip.specs.declared.uses.BitUse.{BitUse}

abbrev pub same_bit : KindBit → KindBit → Bool
same_bit a b = same_kind a.kind b.kind && ((a.bit.row == b.bit.row) && (a.bit.col == b.bit.col))

-- ---- the uses of bits
abbrev pub bit_use : TileKind → Bool → ℕ → BitAt → BitUse
bit_use kind is_read line bit = record { place = record { kind = kind; bit = bit }; is_read = is_read; line = line }

-- the bits of a function; those that are neither read nor foreign use none
abbrev pub function_uses : FunctionRow → List BitUse
function_uses f =
    if is_read f.kind f.name then map (bit_use f.kind true f.line) f.bits
    else (if is_foreign f.kind f.name then map (bit_use f.kind false f.line) f.bits
    else [])

-- the bits of a group, where a tile stands at its place
abbrev pub group_uses : Option TileLine → SwitchGroup → List BitUse
group_uses None g = []
group_uses (Some tile) g = map (bit_use tile.kind false g.line) g.bits

abbrev pub bit_uses : Parts → List BitUse
bit_uses parts = flat_map function_uses parts.functions ++ flat_map (λ g. group_uses (tile_known parts.tiles g.tile) g) parts.groups

-- ---- two uses that clash
-- two uses of one bit, of which a read function has one or both
abbrev pub clash : BitUse → BitUse → Bool
clash a b = same_bit a.place b.place && (a.is_read || b.is_read)

-- the later line and the earlier one
abbrev pub two_lines : ℕ → ℕ → ℕ × ℕ
two_lines a b = if nat_lt a b then (b, a) else (a, b)

-- the lines of a use with each of these that it clashes with
abbrev pub clashes_with : BitUse → List BitUse → List (ℕ × ℕ)
clashes_with u [] = []
clashes_with u (v ∷ vs) = if clash u v then two_lines u.line v.line ∷ clashes_with u vs else clashes_with u vs

-- the lines of each two uses that clash: those of each use with the uses before it
abbrev pub clashes : List BitUse → List BitUse → List (ℕ × ℕ)
clashes before [] = []
clashes before (u ∷ us) = clashes_with u before ++ clashes (u ∷ before) us

-- ---- the first two lines
-- a lesser later line, or the same and a lesser earlier line
abbrev pub precedes : ℕ × ℕ → ℕ × ℕ → Bool
precedes p q = nat_lt p.0 q.0 || ((p.0 == q.0) && nat_lt p.1 q.1)

abbrev pub first_of : Option (ℕ × ℕ) → ℕ × ℕ → Option (ℕ × ℕ)
first_of None p = Some p
first_of (Some q) p = if precedes p q then Some p else Some q

-- the later and the earlier line of a bit that a read function shares
abbrev pub shared_function : Parts → Option (ℕ × ℕ)
shared_function parts = fold first_of None (clashes [] (bit_uses parts))
