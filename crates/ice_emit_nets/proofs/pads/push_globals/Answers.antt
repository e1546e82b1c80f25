use Rattle.std.proofs.Common.{None, sym, ◌∙◌, arith}
use Rattle.ice_place_defs.specs.Loads.{fed_roots}
use Rattle.ice_place_defs.proofs.Feeding.{fed_long, fed_get}
use Rattle.ice_emit_nets.specs.Given.{global_ends}
use Rattle.ice_emit_nets.proofs.Siding.{sides_step, sides_end, globals_are}
use Rattle.ice_emit_nets.proofs.pads.push_globals.Goals as goal

pub loop-k-preserved : goal.loop-k-preserved
loop-k-preserved c =
    let reads = fed_roots c.args.direct.now c.args.roots.now in
    let long = fed_long c.args.direct.now c.args.roots.now in
    sides_step (global_ends c.args.chip.now) c.args.numbers.now reads c.loop-k.k c.fed_root-read.result None c.global_at.result c.loop-k.ends.items c.push_global_at.new.ends.items _ (omega (arith, long))
    (c.fed_root-read.ensures ∙ fed_get c.args.direct.now c.args.roots.now c.loop-k.k None None (omega arith)) c.global_at.ensures c.in_ok-push_global_at.ensures c.loop-k.invariant

pub returns : goal.returns
returns c =
    let reads = fed_roots c.args.direct.now c.args.roots.now in
    let long = fed_long c.args.direct.now c.args.roots.now in
    globals_are c.args.chip.now c.args.numbers.now reads c.args.ends.now.items c.loop-k.ends.items
    (sides_end (global_ends c.args.chip.now) c.args.numbers.now reads c.loop-k.k c.loop-k.ends.items _ (omega (arith, long)) c.loop-k.invariant)
