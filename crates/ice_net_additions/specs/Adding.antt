-- Names and cells that are added to a netlist, behind those that it has.
use Rattle.std.specs.Prelude.{ℕ, ◌+◌, ◌≤◌, List, ◌++◌, length, All, bytes_eq}
use Rattle.std.specs.List.{IsDistinct}
use Rattle.ice_net.specs.declared.cell.Cell.{Cell}
use Rattle.ice_net.specs.Formed.{IsFormedCell}
use Rattle.ice_net.specs.NetlistData.{NetlistData}

-- these names behind the others
abbrev pub with_names : NetlistData → List (List ℕ) → NetlistData
with_names n names = record n { names = n.names ++ names }

-- none of these names is there, or stands twice, and there is room for them
pub record HasRoomForNames (n : NetlistData) (names : List (List ℕ)) : Type 0 where
  pub few : length n.names + length names ≤ 1073741823
  pub once : IsDistinct bytes_eq (n.names ++ names)

-- these cells behind the others
abbrev pub with_cells : NetlistData → List Cell → NetlistData
with_cells n cells = record n { cells = n.cells ++ cells }

-- each of these cells is well formed, and there is room for them
pub record HasRoomForCells (n : NetlistData) (cells : List Cell) : Type 0 where
  pub few : length n.cells + length cells ≤ 1073741823
  pub formed : All (IsFormedCell (length n.names)) cells
