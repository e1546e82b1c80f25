use Rattle.std.proofs.Common.{refl, arith, ◌∙◌}
use Rattle.std.specs.List.{zip}
use Rattle.ice_emit_nets.proofs.Siding.{sides_step, sides_end}
use Rattle.ice_emit_settings.specs.Ports.{port_gives}
use Rattle.ice_emit_settings.specs.Views.{views}
use Rattle.ice_emit_settings.proofs.Beside.{ports_are, place_is}
use Rattle.ice_emit_settings.proofs.ports.push_ports.Goals as goal

pub loop-k-preserved : goal.loop-k-preserved
loop-k-preserved c =
    sides_step (port_gives c.args.chip.now) (zip c.args.pads.now c.args.pullups.now) c.args.ports.now c.loop-k.k _ _ c.place_at.result (views c.loop-k.made.items) (views c.push_port_at.new.made.items) _ (omega arith) refl
    (c.place_at.ensures ∙ place_is c.args.pads.now c.args.pullups.now c.loop-k.k) c.in_ok-push_port_at.ensures c.loop-k.invariant

pub returns : goal.returns
returns c =
    ports_are c.args.chip.now c.args.pads.now c.args.pullups.now c.args.ports.now (views c.args.made.now.items) (views c.loop-k.made.items)
    (sides_end (port_gives c.args.chip.now) (zip c.args.pads.now c.args.pullups.now) c.args.ports.now c.loop-k.k (views c.loop-k.made.items) _ (omega arith) c.loop-k.invariant)
