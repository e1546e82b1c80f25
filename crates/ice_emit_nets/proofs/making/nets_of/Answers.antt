use Rattle.std.proofs.Common.{◌≡◌, subst, map, IfOk}
use Rattle.ice_chip.specs.Database.{Parts}
use Rattle.ice_place_defs.specs.Plan.{Plan}
use Rattle.ice_emit_nets.specs.Nets.{nets_of, bare_net}
use Rattle.ice_emit_nets.specs.Plans.{plan_of}
use Rattle.ice_emit_nets.proofs.making.nets_of.Goals as goal

pub returns-clause-nets : goal.returns-clause-nets
returns-clause-nets c =
    subst (λ (parts : Parts). IfOk c.nets_in.result (λ nets. map bare_net nets.items ≡ nets_of parts (plan_of c.args.design.now c.args.clusters.now c.args.placement.now c.args.pads.now))) c.placed_of.ensures.chip
    (subst (λ (plan : Plan). IfOk c.nets_in.result (λ nets. map bare_net nets.items ≡ nets_of c.placed_of.result.chip.now plan)) c.placed_of.ensures.plan c.nets_in.ensures.nets)
