-- How many roots the design of a netlist reads.
use Rattle.std.specs.Prelude.{ℕ, ◌+◌, ◌≤◌, Some, List, length}
use Rattle.ice_base_values.specs.Order.{Has}
use Rattle.ice_net.specs.NetlistData.{NetlistData}
use Rattle.ice_cells.specs.declared.design.Design.{Design}
use Rattle.ice_cells.specs.declared.root.Root.{Root}
use Rattle.ice_cells.specs.Readings.{roots_read}
use Rattle.ice_cells.specs.Runs.{design_of}
use Rattle.ice_pack_laws.specs.PackLaws.{IsSoundInOrder}

-- all roots that the design reads stand in a list of at most so many
pub record ReadsAtMost (count : ℕ) (d : Design) : Type 0 where
  pub roots : List Root
  pub few : length roots ≤ count
  pub each : (root : Root) → Has (roots_read d) (Some root) → Has roots root

-- it reads at most one root of each signal, and the cells of the two constants
abbrev pub DesignsReadFew : Type 0
DesignsReadFew = (n : NetlistData) (order : List ℕ) → IsSoundInOrder n order → ReadsAtMost (length n.names + 2) (design_of n)
