-- Placed designs, by their parts.
use Rattle.std.specs.Prelude.{List}
use Rattle.ice_base.specs.declared.number.TileAt.{TileAt}
use Rattle.ice_cells.specs.declared.cluster.Clusters.{Clusters}
use Rattle.ice_cells.specs.declared.design.Design.{Design}
use Rattle.ice_pads.specs.Assign.{PadsData}
use Rattle.ice_place_defs.specs.Plan.{Plan}

-- a design with its clusters, the tile of each, and its pads and globals
abbrev pub plan_of : Design → Clusters → List TileAt → PadsData → Plan
plan_of d clusters at pads = record { design = d; clusters = clusters.list; at = at; ports = pads.ports; globals = pads.globals; direct = pads.direct }
