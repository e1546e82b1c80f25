-- How many nets a placed design has.
use Rattle.std.specs.Prelude.{◌≤◌, Bool, Some, List, length}
use Rattle.ice_base_values.specs.Order.{Has}
use Rattle.ice_chip.specs.Database.{Parts, PackageRows}
use Rattle.ice_chip.specs.IsRead.{IsChip}
use Rattle.ice_cells.specs.declared.root.Root.{Root}
use Rattle.ice_cells.specs.Readings.{roots_read}
use Rattle.ice_place_defs.specs.Plan.{Plan}
use Rattle.ice_emit_nets.specs.Nets.{nets_of}
use Rattle.ice_emit_defs.specs.Routed.{IsPlaced}

-- no more than roots in a list that has all that the design reads
abbrev pub PlacedNetsAreFew : Type 0
PlacedNetsAreFew =
    (parts : Parts) (rows : PackageRows) (plan : Plan) (pullups : List Bool) (all : List Root)
    → IsChip parts → IsPlaced parts rows plan pullups → ((root : Root) → Has (roots_read plan.design) (Some root) → Has all root) → length (nets_of parts plan) ≤ length all
