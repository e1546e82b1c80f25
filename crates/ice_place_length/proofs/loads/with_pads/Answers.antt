use Rattle.std.proofs.Common.{refl, ◌<◌, length, drop, get_or, ◌+◌, arith}
use Rattle.ice_place_defs.specs.Loads.{pad_loads, pads_loads}
use Rattle.ice_place_length.specs.Grown.{box_in}
use Rattle.ice_place_length.proofs.Growing.{pads_more, pads_end, step_grown, end_grown}
use Rattle.ice_place_length.proofs.loads.with_pads.Goals as goal

pub loop-k-preserved : goal.loop-k-preserved
loop-k-preserved c =
    let places = c.args.places.now in
    let pads = c.args.pads.now in
    let k = c.loop-k.k in
    step_grown c.args.root (box_in c.args.span) (box_in c.loop-k.wide) (box_in c.with_pad-wide.result) _ (pads_loads (drop (k + 1) places) (drop (k + 1) pads)) (pads_loads (drop k places) (drop k pads)) (pads_loads places pads)
    (pads_more places pads k _ _ _ _ (omega arith) (omega arith) refl refl) c.with_pad-wide.ensures c.loop-k.invariant

pub returns : goal.returns
returns c =
    let places = c.args.places.now in
    let pads = c.args.pads.now in
    let k = c.loop-k.k in
    end_grown c.args.root (box_in c.args.span) (box_in c.loop-k.wide) (pads_loads (drop k places) (drop k pads)) (pads_loads places pads) (pads_end places pads k (omega arith)) c.loop-k.invariant
