-- Placed and routed designs, by their parts.
use Rattle.std.specs.Prelude.{◌≡◌, ℕ, ◌<◌, ◌≤◌, suc, Option, None, Some, List, [], ◌∷◌, length, map, if◌then◌else◌}
use Rattle.ice_base.specs.declared.number.TileAt.{TileAt}
use Rattle.ice_base.specs.declared.number.WireNo.{WireNo}
use Rattle.ice_base_values.specs.Order.{At, Has}
use Rattle.ice_cells.specs.declared.cluster.Cluster.{Cluster}
use Rattle.ice_cells.specs.Tables.{table}
use Rattle.ice_graph.specs.Leading.{Route, route_of}
use Rattle.ice_place_defs.specs.Plan.{slot_of, plan_in}
use Rattle.ice_emit_nets.specs.Rooted.{wires_in, root_wires}
use Rattle.ice_emit_rows_laws.specs.Settings.{Setting}
use Rattle.ice_emit_defs.specs.Arrivals.{Held, holds}
use Rattle.ice_emit_defs.specs.Functions.{cluster_settings}
use Rattle.ice_emit_defs.specs.Written.{held_by}
use Rattle.ice_emit.specs.declared.routed.Routed.{Routed}

abbrev pub routes_in : Routed → List Route
routes_in routed = map route_of routed.trees.now

-- the wires that the tree of each root holds
abbrev pub held_in : Routed → Held
held_in routed = held_by routed.placed.chip.now (plan_in routed.placed) (routes_in routed)

-- the number of the first route that holds a wire, where the first route has the number n
abbrev pub owner_from : ℕ → List Route → ℕ → Option ℕ
owner_from n [] w = None
owner_from n (route ∷ routes) w = if holds route.wires (Some (record { 0 = w })) then Some n else owner_from (suc n) routes w

-- no wire is in two routes
abbrev pub AreApart : List Route → Type 0
AreApart routes = (j k : ℕ) (one other : Route) (w : WireNo) → At routes j one → At routes k other → Has one.wires w → Has other.wires w → j ≡ k

abbrev pub AreWithin : ℕ → List Route → Type 0
AreWithin wires routes = (k : ℕ) (route : Route) (w : WireNo) → At routes k route → Has route.wires w → w.0 < wires

-- what is looked up is that of the design, and the trees are apart
pub record IsRouted (routed : Routed) : Type 0 where
  pub wires : wires_in routed.wires.now ≡ root_wires routed.placed.chip.now (plan_in routed.placed)
  pub owners : routed.owners.now ≡ table (owner_from 0 (routes_in routed)) routed.placed.chip.now.wires
  -- no slot holds a number that no cell has
  pub cells : (c : ℕ) → length routed.placed.design.now.cells ≤ c → slot_of (plan_in routed.placed) c ≡ None
  pub apart : AreApart (routes_in routed)
  pub within : AreWithin routed.placed.chip.now.wires (routes_in routed)

-- the settings of a cluster
abbrev pub cluster_gives : Routed → Cluster → TileAt → List Setting
cluster_gives routed cluster t = cluster_settings routed.placed.chip.now (held_in routed) routed.placed.design.now t cluster
