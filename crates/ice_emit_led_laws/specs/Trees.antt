-- The trees of the nets of a placed design on a chip, and the rows that they take.
use Rattle.std.specs.Prelude.{◌≡◌, ℕ, ◌+◌, true, Some, Bool, List}
use Rattle.ice_base_values.specs.Order.{At, Has}
use Rattle.ice_chip.specs.Database.{Parts, PackageRows}
use Rattle.ice_chip.specs.IsRead.{IsRead}
use Rattle.ice_chip.specs.WireNames.{WireNamesAreRead}
use Rattle.ice_chip_laws.specs.Laws.{IsLawful}
use Rattle.ice_decode.specs.declared.driver.Switch.{Switch}
use Rattle.ice_bits_rows.specs.WireNames.{may_leave, may_enter}
use Rattle.ice_cells.specs.Readings.{is_read}
use Rattle.ice_cells.specs.declared.root.Root.{Root}
use Rattle.ice_cluster.specs.Slots.{AreSlots}
use Rattle.ice_cluster.specs.Chunks.{AreChunks}
use Rattle.ice_place_defs.specs.Plan.{Plan, listed}
use Rattle.ice_emit_nets.specs.Ends.{ends}
use Rattle.ice_emit_nets.specs.Nets.{Bare, root_wire, sinks_of, nets_of}
use Rattle.ice_graph.specs.Leading.{Route}
use Rattle.ice_emit_defs.specs.Links.{tree_switch}
use Rattle.ice_emit_defs.specs.Routed.{IsPlaced}

-- a placed design, with the laws that its chip and its clusters keep
pub record IsOnChip (parts : Parts) (rows : PackageRows) (plan : Plan) (pullups : List Bool) : Type 0 where
  pub placed : IsPlaced parts rows plan pullups
  pub read : IsRead parts
  pub lawful : IsLawful parts
  pub names : WireNamesAreRead
  pub slots : AreSlots plan.design (listed plan)
  pub chunks : AreChunks plan.design plan.clusters

-- the route is the tree of the root's net
pub record IsTreeOf (parts : Parts) (plan : Plan) (routes : List Route) (root : Root) (route : Route) : Type 0 where
  pub number : ℕ
  pub net : Bare
  pub net_is : At (nets_of parts plan) number net
  pub route_is : At routes number route
  pub wire : root_wire parts plan root ≡ Some net.0
  pub sinks : net.1 ≡ sinks_of (ends parts plan) root
  pub read : is_read plan.design root ≡ true

-- the switch is a row of a tree: it leads from a wire of the tree to another
pub record IsTreeRow (parts : Parts) (plan : Plan) (routes : List Route) (s : Switch) : Type 0 where
  pub root : Root
  pub route : Route
  pub tree : IsTreeOf parts plan routes root route
  pub place : ℕ
  pub row : At route.rows place s.row
  pub numbered : tree_switch parts s.row ≡ Some s
  pub source : Has route.wires s.source
  pub target : At route.wires (place + 1) s.target
  pub leave : may_leave parts s.source.0 ≡ true
  pub enter : may_enter parts s.target.0 ≡ true
