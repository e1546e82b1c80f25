-- Names and cells that are added to a netlist.
use Rattle.std.specs.Prelude.{ℕ, List, All}
pub use Rattle.ice_net_additions.specs.Adding.{HasRoomForCells, HasRoomForNames, with_cells, with_names}
use Rattle.ice_base.specs.declared.number.TileAt.{TileAt}
use Rattle.ice_chip.specs.Database.{Parts}
use Rattle.ice_back_laws.specs.Roots.{StandsAt}

-- each of these cells stands in a logic tile of the chip
abbrev pub StandAt : Parts → List (TileAt × ℕ) → Type 0
StandAt parts cells = All (λ (c : TileAt × ℕ). StandsAt parts c.0 c.1) cells
