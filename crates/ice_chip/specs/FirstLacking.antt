-- What a kind of tile lacks, told by the names of functions that it needs.
use Rattle.std.specs.Prelude.{◌≡◌, ◌⊎◌, ℕ, ◌≤◌, ◌&&◌, ◌||◌, not, Bool, true, false, Option, None, Some, List, ◌∷◌, ◌++◌}
use Rattle.ice_chip.specs.Database.{Parts, FunctionRow}
use Rattle.ice_chip.specs.Functions.{is_read, is_column_buffer, is_ram_function, function_line}
use Rattle.ice_chip.specs.LacksFunction.{has_tile, is_buffer_source, has_wrong_bits, lacks_function}
use Rattle.ice_chip.specs.declared.rows.TileKind.{TileKind}
use Rattle.ice_chip.specs.declared.rows.TileKind.TheVariants.{Io, Logic, RamBottom, RamTop}

-- logic and memory need column buffers where they are a source of them
abbrev pub needs_buffers : Bool → TileKind → Bool
needs_buffers is_source Io = false
needs_buffers is_source Logic = is_source
needs_buffers is_source RamBottom = is_source
needs_buffers is_source RamTop = is_source

-- the kind needs the functions that are read in it, but none of block RAMs, and column buffers only so
abbrev pub is_needed : Bool → TileKind → List ℕ → Bool
is_needed is_source kind name = is_read kind name && not (is_ram_function kind name) && (not (is_column_buffer name) || needs_buffers is_source kind)

-- a kind with a tile has no function of a name that it needs
pub record Lacks (parts : Parts) : Type 0 where
  pub kind : TileKind
  pub name : List ℕ
  pub tile : has_tile kind parts.tiles ≡ true
  pub needed : is_needed (is_buffer_source kind parts.tiles parts.colbuf) kind name ≡ true
  pub lacking : function_line kind name parts.functions ≡ None

-- the line of a read function of a kind with a tile, which has a wrong number of bits
pub record IsWrong (parts : Parts) (line : ℕ) : Type 0 where
  pub front : List FunctionRow
  pub function : FunctionRow
  pub rest : List FunctionRow
  pub stands : parts.functions ≡ front ++ function ∷ rest
  pub wrong : has_wrong_bits parts.tiles function ≡ true
  pub on_line : line ≡ function.line

-- nothing is lacking or wrong; or something is lacking, and the line is 0; or nothing is lacking, and the line is the
-- least of what is wrong
abbrev pub IsFirstLack : Parts → Option ℕ → Type 0
IsFirstLack parts None = (Lacks parts → ⊥) × ((line : ℕ) → IsWrong parts line → ⊥)
IsFirstLack parts (Some line) = (Lacks parts × (line ≡ 0)) ⊎ ((Lacks parts → ⊥) × IsWrong parts line × ((other : ℕ) → IsWrong parts other → line ≤ other))

abbrev pub LacksFunctionIsFirst : Type 0
LacksFunctionIsFirst = (parts : Parts) → IsFirstLack parts (lacks_function parts)
