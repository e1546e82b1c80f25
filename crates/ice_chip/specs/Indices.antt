-- The maps and lists by which a chip answers at once, as what its rows make of them.
use Rattle.std.specs.Prelude.{◌≡◌, ℕ, ◌+◌, ◌<◌, ◌≤◌, ◌==◌, ◌&&◌, Bool, Option, None, Some, List, [], ◌∷◌, ◌++◌, map, filter, length, slice_set, slice_index_or, Vec}
use Rattle.std.specs.Map.{lookup}
use Rattle.std.specs.declared.alloc.Global.{Global}
use Rattle.ice_base.specs.Lists.{with_name, number_of_name}
use Rattle.ice_chip.specs.Database.{Parts, WireName, same_tile, same_pad}
use Rattle.ice_chip.specs.WholeFaults.{placed}
use Rattle.ice_chip.specs.Lookups.{enable_counts}
use Rattle.ice_chip.specs.declared.rows.Pad.{Pad}
use Rattle.ice_chip.specs.declared.placed.PlacedName.{PlacedName}
use Rattle.ice_chip.specs.declared.index.NumberedName.{NumberedName}
use Rattle.ice_chip.specs.declared.sections.Group.{Group}

-- ---- of the rows with one key the first counts
abbrev pub put_first : {K V : Type 0} → List (K × V) → K × V → Option V → List (K × V)
put_first entries row None = entries ++ row ∷ []
put_first entries row (Some old) = entries

abbrev pub with_first : {K V : Type 0} → (K → K → Bool) → List (K × V) → K × V → List (K × V)
with_first eq entries row = put_first entries row (lookup (eq row.0) entries)

abbrev pub firsts : {K V : Type 0} → (K → K → Bool) → List (K × V) → List (K × V) → List (K × V)
firsts eq entries [] = entries
firsts eq entries (row ∷ rows) = firsts eq (with_first eq entries row) rows

-- the pads with an input enable by a row that counts, each with its enable, in the order of the text
abbrev pub enables_of : Parts → List (Pad × Pad)
enables_of parts = firsts same_pad [] (filter (enable_counts parts.tiles) parts.ieren)

-- ---- wires by names: each different name has a number, and each number at a place a wire
pub record Numbered : Type 0 where
  pub texts : List (List ℕ)
  pub wires : List (NumberedName × ℕ)

abbrev pub same_numbered : NumberedName → NumberedName → Bool
same_numbered a b = same_tile a.tile b.tile && (a.number == b.number)

abbrev pub with_named : Numbered → PlacedName × ℕ → Numbered
with_named s row = record {
  texts = with_name s.texts row.0.name;
  wires = with_first same_numbered s.wires (record { tile = row.0.tile; number = number_of_name s.texts row.0.name }, row.1);
}

abbrev pub numbered : Numbered → List (PlacedName × ℕ) → Numbered
numbered s [] = s
numbered s (row ∷ rows) = numbered (with_named s row) rows

-- ---- the names of each wire
abbrev pub lists_of : List (Vec PlacedName Global) → List (List PlacedName)
lists_of lists = map (λ list. list.items) lists

abbrev pub with_listed : List (List PlacedName) → WireName → List (List PlacedName)
with_listed lists n = slice_set lists n.wire (slice_index_or lists n.wire [] ++ placed n ∷ [])

abbrev pub listed : List (List PlacedName) → List WireName → List (List PlacedName)
listed lists [] = lists
listed lists (n ∷ ns) = listed (with_listed lists n) ns

-- ---- groups whose rows are numbered on
-- so many groups begin with this row or one before it, and no other does
pub record IsBorder (groups : List Group) (row n : ℕ) : Type 0 where
  pub within : n ≤ length groups
  pub before : (k : ℕ) (d : Group) → k + 1 ≡ n → (slice_index_or groups k d).first.0 ≤ row
  pub behind : (d : Group) → n < length groups → row < (slice_index_or groups n d).first.0
