-- The placed design of a netlist.
use Rattle.std.specs.Prelude.{◌≡◌, ℕ, ◌≤◌, Some, Ok, List}
use Rattle.ice_base.specs.declared.number.TileAt.{TileAt}
use Rattle.ice_net.specs.NetlistData.{NetlistData}
use Rattle.ice_pcf.specs.declared.constraint.Constraint.{Constraint}
use Rattle.ice_chip.specs.Database.{Parts, PackageRows}
use Rattle.ice_chip.specs.IsRead.{IsChip}
use Rattle.ice_chip.specs.Lookups.{package_of}
use Rattle.ice_cells.specs.Clusters.{clusters_of}
use Rattle.ice_cells.specs.Ranks.{clusters_by}
use Rattle.ice_cells.specs.Runs.{design_of}
use Rattle.ice_cells.specs.declared.cluster.Clusters.{Clusters}
use Rattle.ice_cells.specs.declared.design.Design.{Design}
use Rattle.ice_sites.specs.Legal.{IsLegal}
use Rattle.ice_sites.specs.Stretches.{stretches_of}
use Rattle.ice_place.specs.Place.{chunks_of, place_of}
use Rattle.ice_place.specs.declared.arrangement.Arrangement.{Arrangement}
use Rattle.ice_pads.specs.Assign.{PadsData, assign_of}
use Rattle.ice_pads.specs.Closings.{open_closing}
use Rattle.ice_pads.specs.declared.closing.Closing.{Closing}
use Rattle.ice_place_defs.specs.Length.{length_of}
use Rattle.ice_place_defs.specs.Plan.{Plan}
use Rattle.ice_anneal.specs.Least.{IsSwapLeast}
use Rattle.ice_emit_nets.specs.Plans.{plan_of}
use Rattle.ice_emit_defs.specs.Routed.{IsPlaced}
use Rattle.ice_flow_build.specs.declared.answer.Layout.{Layout}

-- what is to be built: a netlist and how it is closed, on a package of a chip, with what constraints say of its ports
pub record Task : Type 0 where
  pub parts : Parts
  pub name : List ℕ
  pub constraints : List Constraint
  pub circuit : NetlistData
  pub closing : Closing

-- all ports of the netlist are seen from outside, and no block RAM closes it
abbrev pub task_of : Parts → List ℕ → List Constraint → NetlistData → Task
task_of parts name constraints n = record { parts = parts; name = name; constraints = constraints; circuit = n; closing = open_closing n }

-- the length of the wires, with the clusters on these tiles
abbrev pub length_on : Parts → Clusters → Design → PadsData → List TileAt → ℕ
length_on parts clusters d pads at = length_of parts (plan_of d clusters at pads)

-- The placement is legal, no longer than the first one of the clusters in the order of the design, and no exchange of two clusters and no
-- move of one to a free site makes it shorter.
pub record IsSettled (parts : Parts) (clusters : Clusters) (d : Design) (pads : PadsData) (at : List TileAt) : Type 0 where
  pub first : List TileAt
  pub is_first : place_of (stretches_of parts) (clusters_of d) d ≡ Ok first
  pub legal : IsLegal (stretches_of parts) (chunks_of clusters.list) at
  pub shorter : length_on parts clusters d pads at ≤ length_on parts (clusters_of d) d pads first
  pub least : IsSwapLeast (length_on parts clusters d pads) (chunks_of clusters.list) (stretches_of parts) at

-- the packed netlist with its runs made, in clusters by ranks, on the assigned pads, and on sites of the chip
pub record IsOnSites (task : Task) (layout : Layout) : Type 0 where
  pub design : layout.design ≡ design_of task.circuit
  pub clusters : layout.clusters ≡ clusters_by layout.ranks layout.design
  pub pads : assign_of task.parts task.name task.constraints task.circuit task.closing layout.design ≡ Ok layout.pads
  pub legal : IsLegal (stretches_of task.parts) (chunks_of layout.clusters.list) layout.placement

abbrev pub plan_in : Layout → Plan
plan_in layout = plan_of layout.design layout.clusters layout.placement layout.pads

-- where its cells stand
abbrev pub arrangement_in : Layout → Arrangement
arrangement_in layout = record { ranks = layout.ranks; placement = layout.placement }

-- the packed netlist with its runs made, in clusters by ranks, on the assigned pads, and placed
pub record IsLaidOut (task : Task) (layout : Layout) : Type 0 where
  pub design : layout.design ≡ design_of task.circuit
  pub clusters : layout.clusters ≡ clusters_by layout.ranks layout.design
  pub pads : assign_of task.parts task.name task.constraints task.circuit task.closing layout.design ≡ Ok layout.pads
  pub placed : IsSettled task.parts layout.clusters layout.design layout.pads layout.placement

-- it stands on the sites of the chip, the pads of the package, and the pins of so many block RAMs
abbrev pub StandsOn : Parts → List ℕ → ℕ → Layout → Type 0
StandsOn parts name rams layout =
    (bonded : PackageRows) × (package_of parts name ≡ Some bonded) × (placed : IsPlaced parts bonded (plan_in layout) layout.pads.pullups) × IsChip parts × (placed.rams ≡ rams)
