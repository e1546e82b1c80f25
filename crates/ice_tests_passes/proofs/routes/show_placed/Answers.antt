use Rattle.std.proofs.Common.{sym, subst}
use Rattle.ice_chip.specs.Database.{Parts}
use Rattle.ice_emit.specs.Placed.{IsPlacedOn}
use Rattle.ice_flow_build.specs.Laid.{plan_in}
use Rattle.ice_tests_passes.proofs.routes.show_placed.Goals as goal

-- the chip of the index is the one at hand
pub show_by-requires : goal.show_by-requires
show_by-requires g c =
    (c.type_bounds.sync-R, subst (λ (parts : Parts). IsPlacedOn parts (plan_in c.args.layout.now) c.args.layout.now.pads.pullups 0) (sym c.in_ok-index.ensures) c.requires)
