-- Faults that rows far apart make together, each at the first line at which it comes.
use Rattle.std.specs.Prelude.{ℕ, ◌==◌, Bool, true, false, Option, None, Some, List, [], ◌∷◌, ◌++◌, nat_lt, if◌then◌else◌, Result, Ok, Err}
use Rattle.std.specs.Map.{lookup}
use Rattle.ice_base.specs.declared.number.TileAt.{TileAt}
use Rattle.ice_base.specs.declared.bit.BitAt.{BitAt}
use Rattle.ice_chip.specs.Database.{SwitchGroup, WireName, columns, tile_known}
pub use Rattle.ice_chip.specs.Lookups.{placed, same_placed}
use Rattle.ice_chip.specs.declared.rows.TileLine.{TileLine}
use Rattle.ice_chip.specs.declared.placed.PlacedName.{PlacedName}
use Rattle.ice_chip.specs.declared.name_lines.WireLine.{WireLine}

-- ---- a group at a place without a tile
abbrev pub lacks_tile : Option TileLine → Bool
lacks_tile None = true
lacks_tile (Some tile) = false

-- the line of the first group at a place without a tile
abbrev pub group_without_tile : List (TileAt × TileLine) → List SwitchGroup → Option ℕ
group_without_tile tiles [] = None
group_without_tile tiles (g ∷ gs) = if lacks_tile (tile_known tiles g.tile) then Some g.line else group_without_tile tiles gs

-- ---- a bit of a group beyond the columns of its tile
abbrev pub has_bit_beyond : ℕ → List BitAt → Bool
has_bit_beyond limit [] = false
has_bit_beyond limit (b ∷ bits) = if nat_lt b.col limit then has_bit_beyond limit bits else true

abbrev pub exceeds : Option TileLine → List BitAt → Bool
exceeds None bits = false
exceeds (Some tile) bits = has_bit_beyond (columns tile.kind) bits

-- the line of the first group with a bit that its tile doesn't have
abbrev pub group_beyond_tile : List (TileAt × TileLine) → List SwitchGroup → Option ℕ
group_beyond_tile tiles [] = None
group_beyond_tile tiles (g ∷ gs) = if exceeds (tile_known tiles g.tile) g.bits then Some g.line else group_beyond_tile tiles gs

-- ---- one name of two wires in a tile
abbrev pub wire_line : WireName → WireLine
wire_line n = record { wire = n.wire; line = n.line }

-- the names with their wires and first lines after a name more, which is new, or of the wire that has it; or the lines
-- of two wires with the name, the later one first
abbrev pub with_placed : List (PlacedName × WireLine) → PlacedName → WireLine → Option WireLine → Result (List (PlacedName × WireLine)) (ℕ × ℕ)
with_placed seen name known None = Ok (seen ++ (name, known) ∷ [])
with_placed seen name known (Some old) = if old.wire == known.wire then Ok seen else Err (known.line, old.line)

-- a name at a place without a tile has no effect
abbrev pub with_name : Option TileLine → List (PlacedName × WireLine) → WireName → Result (List (PlacedName × WireLine)) (ℕ × ℕ)
with_name None seen n = Ok seen
with_name (Some tile) seen n = with_placed seen (placed n) (wire_line n) (lookup (same_placed (placed n)) seen)

abbrev pub unless_clash : {A : Type 0} → Result A (ℕ × ℕ) → (A → Option (ℕ × ℕ)) → Option (ℕ × ℕ)
unless_clash (Ok x) f = f x
unless_clash (Err lines) f = Some lines

-- the first line that gives a name in a tile to another wire than an earlier line, and the first such line
abbrev pub name_of_two_wires : List (TileAt × TileLine) → List (PlacedName × WireLine) → List WireName → Option (ℕ × ℕ)
name_of_two_wires tiles seen [] = None
name_of_two_wires tiles seen (n ∷ ns) = unless_clash (with_name (tile_known tiles n.tile) seen n) (λ more. name_of_two_wires tiles more ns)

-- what a step answers: two lines, or none with the names so far
abbrev pub clash_or : {A : Type 0} → Option (ℕ × ℕ) → A → Result A (ℕ × ℕ)
clash_or None seen = Ok seen
clash_or (Some lines) seen = Err lines
