-- The tiles of a placed design that have clusters are logic tiles.
use Rattle.std.proofs.Common.{◌≡◌, Bool, true, false, Option, None, Some, List, refl, subst}
use Rattle.std.specs.Prelude.{◌&&◌}
use Rattle.std.proofs.lemmas.Option.{get_or_from_slice_get}
use Rattle.ice_base.specs.declared.number.TileAt.{TileAt}
use Rattle.ice_base_values.proofs.Members.{At_within}
use Rattle.ice_chip.specs.Database.{Parts, PackageRows}
use Rattle.ice_chip.specs.Lookups.{kind_at}
use Rattle.ice_chip.specs.declared.rows.TileKind.{TileKind}
use Rattle.ice_chip.specs.declared.rows.TileKind.TheVariants.{Io, Logic, RamBottom, RamTop}
use Rattle.ice_cells.specs.declared.cluster.Cluster.{Cluster}
use Rattle.ice_sites.specs.Legal.{tile_at}
use Rattle.ice_sites.specs.Site.{is_logic, is_site, all_below, has_cell, has_controls, has_entry, has_chain}
use Rattle.ice_place_defs.specs.Plan.{Plan}
use Rattle.ice_emit_defs.specs.Routed.{IsPlaced}
use Rattle.ice_emit_defs.specs.Slots.{IsOn}

first_part : (a b c d e : Bool) → (a && b && c && d && e) ≡ true → a ≡ true
first_part true b c d e is = refl
first_part false b c d e is = is

logic_is : (o : Option TileKind) → is_logic o ≡ true → o ≡ Some Logic
logic_is None e = cc e
logic_is (Some Io) e = cc e
logic_is (Some Logic) e = refl
logic_is (Some RamBottom) e = cc e
logic_is (Some RamTop) e = cc e

pub at_tile : (plan : Plan) (t : TileAt) (cluster : Cluster) (on : IsOn plan t cluster) → tile_at plan.at on.number ≡ t
at_tile plan t cluster on = get_or_from_slice_get plan.at on.number t (record { x = 0; y = 0 }) on.tile_is

pub on_logic : (parts : Parts) (rows : PackageRows) (plan : Plan) (pullups : List Bool) → IsPlaced parts rows plan pullups → (t : TileAt) (cluster : Cluster) → IsOn plan t cluster
    → kind_at parts t ≡ Some Logic
on_logic parts rows plan pullups placed t cluster on =
    let site : is_site parts t ≡ true
    = subst (λ (u : TileAt). is_site parts u ≡ true) (at_tile plan t cluster on) (placed.legal.sites on.number (At_within plan.at on.number t on.tile_is)) in
    logic_is (kind_at parts t)
    (first_part (is_logic (kind_at parts t)) (all_below (has_cell parts t) 8) (has_controls parts t) (has_entry parts t) (all_below (has_chain parts t) 7) site)
