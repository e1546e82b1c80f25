use Rattle.std.proofs.Common.{None, slice_index_or, sym, ap, ◌∙◌, arith}
use Rattle.ice_pads.proofs.PortPlaces.{no_port, port_step}
use Rattle.ice_pads.proofs.places.places_of.Goals as goal

pub loop-place-init : goal.loop-place-init
loop-place-init c s = ap (λ xs. slice_index_or xs s None) c.new-places.ensures.items ∙ sym (no_port c.args.ports.now s)

pub loop-place-preserved : goal.loop-place-preserved
loop-place-preserved c s = port_step c.args.ports.now c.loop-place.place s _ (omega arith) (c.in_ok-note.ensures s) (c.loop-place.invariant s)
