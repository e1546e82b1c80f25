-- Placed and routed designs: what has to hold of one for its bits to mean it.
use Rattle.std.specs.Prelude.{◌≡◌, ◌<◌, ℕ, Bool, List, length}
use Rattle.ice_base.specs.declared.number.WireNo.{WireNo}
use Rattle.ice_base_values.specs.Order.{At, Has}
use Rattle.ice_chip.specs.Database.{Parts, PackageRows}
use Rattle.ice_cells.specs.Clusterings.{IsClustering}
use Rattle.ice_cells.specs.Formed.{IsFormed}
use Rattle.ice_cells.specs.Meaning.{HasValues}
use Rattle.ice_sites.specs.Legal.{IsLegalOn}
use Rattle.ice_place.specs.Place.{chunks_of}
use Rattle.ice_pads.specs.Assign.{PadsData}
use Rattle.ice_pads.specs.Facts.{ArePads}
use Rattle.ice_place_defs.specs.Plan.{Plan, listed}
use Rattle.ice_emit_nets.specs.Ends.{wire_no}
use Rattle.ice_emit_nets.specs.Nets.{Bare, nets_of}
use Rattle.ice_fabric.specs.Edges.{usable_rows}
use Rattle.ice_graph.specs.Leading.{Leads}
use Rattle.ice_graph.specs.Leading.{Route}

abbrev pub pads_of : Plan → List Bool → PadsData
pads_of plan pullups = record { ports = plan.ports; pullups = pullups; globals = plan.globals; direct = plan.direct }

-- The design keeps to its form and has no loop. Its clusters stand on sites of the chip, its ports have pads of one of the chip's
-- packages, or pins of its first block RAMs, and its global buffers have globals.
pub record IsPlaced (parts : Parts) (rows : PackageRows) (plan : Plan) (pullups : List Bool) : Type 0 where
  pub formed : IsFormed plan.design
  pub values : HasValues plan.design
  pub clusters : IsClustering plan.design (listed plan)
  pub legal : IsLegalOn parts (chunks_of plan.clusters) plan.at
  pub «package» : Has parts.packages rows
  pub rams : ℕ
  pub pads : ArePads parts rows rams plan.design (pads_of plan pullups)

-- One tree for each net: it leads over usable rows from the net's root to one target of each of its sinks, on wires of the chip. No
-- wire is in two trees.
pub record AreTrees (parts : Parts) (plan : Plan) (routes : List Route) : Type 0 where
  pub count : length routes ≡ length (nets_of parts plan)
  pub lead : (n : ℕ) (net : Bare) (route : Route) → At (nets_of parts plan) n net → At routes n route → Leads (usable_rows parts) (wire_no net.0) net.1 route
  pub within : (n : ℕ) (route : Route) (w : WireNo) → At routes n route → Has route.wires w → w.0 < parts.wires
  pub apart : (j k : ℕ) (one other : Route) (w : WireNo) → At routes j one → At routes k other → Has one.wires w → Has other.wires w → j ≡ k
