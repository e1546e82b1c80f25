-- Names of wires that routes may not leave or enter.
use Rattle.std.specs.Prelude.{ℕ, Bool, false, not, ◌&&◌, ◌||◌, Option, None, Some, List, codes, bytes_eq}
use Rattle.std.specs.List.{list_any}
use Rattle.ice_chip.specs.Database.{Parts}
use Rattle.ice_chip.specs.Lookups.{kind_at, names_of}
use Rattle.ice_chip.specs.Names.{cell_pin}
use Rattle.ice_chip.specs.PinNames.{is_input_name, is_memory_name, is_output_name}
use Rattle.ice_chip.specs.declared.rows.TileKind.{TileKind}

-- a name by which a tile of the kind reads the wire
abbrev pub is_input_in : Option TileKind → List ℕ → Bool
is_input_in None name = false
is_input_in (Some kind) name = is_input_name kind name

-- a name by which a tile of the kind drives the wire, other than by switches
abbrev pub is_output_in : Option TileKind → List ℕ → Bool
is_output_in None name = false
is_output_in (Some kind) name = is_output_name kind name

-- a name of a memory that is no pin of a block RAM in a tile of the kind
abbrev pub is_strange_in : Option TileKind → List ℕ → Bool
is_strange_in kind name = is_memory_name name && not (is_input_in kind name || is_output_in kind name)

-- a name of a wire that no route uses: of a memory, where it is no pin, or `lutff_I/lout`
abbrev pub is_closed_in : Option TileKind → List ℕ → Bool
is_closed_in kind name = is_strange_in kind name || bytes_eq (cell_pin name) (codes "lout")

-- ---- names of a wire
abbrev pub has_strange_name : Parts → ℕ → Bool
has_strange_name parts wire = list_any (λ n. is_strange_in (kind_at parts n.tile) n.name) (names_of parts wire)

abbrev pub has_closed_name : Parts → ℕ → Bool
has_closed_name parts wire = list_any (λ n. is_closed_in (kind_at parts n.tile) n.name) (names_of parts wire)

abbrev pub has_input_name : Parts → ℕ → Bool
has_input_name parts wire = list_any (λ n. is_input_in (kind_at parts n.tile) n.name) (names_of parts wire)

abbrev pub has_output_name : Parts → ℕ → Bool
has_output_name parts wire = list_any (λ n. is_output_in (kind_at parts n.tile) n.name) (names_of parts wire)

-- a route may leave the wire: it has no input name and is not closed
abbrev pub may_leave : Parts → ℕ → Bool
may_leave parts wire = not (has_input_name parts wire) && not (has_closed_name parts wire)

-- a route may enter the wire: it has no output name and is not closed
abbrev pub may_enter : Parts → ℕ → Bool
may_enter parts wire = not (has_output_name parts wire) && not (has_closed_name parts wire)
