use Rattle.std.proofs.Common.{None, refl, drop, ◌+◌, ◌∙◌, arith}
use Rattle.ice_place_defs.specs.Loads.{fed_roots, globals_loads}
use Rattle.ice_place_defs.proofs.Feeding.{fed_long, fed_get}
use Rattle.ice_place_length.specs.Grown.{box_in}
use Rattle.ice_place_length.proofs.Growing.{globals_more, globals_end, step_grown, end_grown}
use Rattle.ice_place_length.proofs.loads.with_globals.Goals as goal

pub loop-k-preserved : goal.loop-k-preserved
loop-k-preserved c =
    let parts = c.args.chip.now in
    let ns = c.args.numbers.now in
    let reads = fed_roots c.args.direct.now c.args.reads.now in
    let long = fed_long c.args.direct.now c.args.reads.now in
    let k = c.loop-k.k in
    step_grown c.args.root (box_in c.args.span) (box_in c.loop-k.wide) (box_in c.with_global-wide.result) _ (globals_loads parts (drop (k + 1) ns) (drop (k + 1) reads)) (globals_loads parts (drop k ns) (drop k reads))
    (globals_loads parts ns reads)
    (globals_more parts ns reads k _ _ c.fed_root-read.result None (omega arith) (omega (arith, long)) refl (c.fed_root-read.ensures ∙ fed_get c.args.direct.now c.args.reads.now k None None (omega arith)))
    c.with_global-wide.ensures c.loop-k.invariant

pub returns : goal.returns
returns c =
    let parts = c.args.chip.now in
    let ns = c.args.numbers.now in
    let reads = fed_roots c.args.direct.now c.args.reads.now in
    let long = fed_long c.args.direct.now c.args.reads.now in
    let k = c.loop-k.k in
    end_grown c.args.root (box_in c.args.span) (box_in c.loop-k.wide) (globals_loads parts (drop k ns) (drop k reads)) (globals_loads parts ns reads) (globals_end parts ns reads k (omega (arith, long))) c.loop-k.invariant
