use Rattle.std.proofs.Common.{None, refl, ◌++◌, drop, ◌+◌, ◌∙◌, arith}
use Rattle.ice_place_defs.specs.Loads.{fed_roots}
use Rattle.ice_place_defs.proofs.Feeding.{fed_long, fed_get}
use Rattle.ice_anneal_nets.specs.Reads.{globals_reads}
use Rattle.ice_anneal_nets.proofs.Joining.{globals_more, globals_end, step_joined, end_joined}
use Rattle.ice_anneal_nets.proofs.reading.add_globals.Goals as goal

pub loop-k-preserved : goal.loop-k-preserved
loop-k-preserved c =
    let parts = c.args.chip.now in
    let ns = c.args.numbers.now in
    let roots = fed_roots c.args.direct.now c.args.roots.now in
    let long = fed_long c.args.direct.now c.args.roots.now in
    let k = c.loop-k.k in
    step_joined c.loop-k.reads.items c.add_global.new.reads.items _ (globals_reads parts (drop (k + 1) ns) (drop (k + 1) roots)) (globals_reads parts (drop k ns) (drop k roots)) (c.args.reads.now.items ++ globals_reads parts ns roots)
    (globals_more parts ns roots k _ _ c.fed_root-read.result None (omega arith) (omega (arith, long)) refl (c.fed_root-read.ensures ∙ fed_get c.args.direct.now c.args.roots.now k None None (omega arith))) c.in_ok-add_global.ensures c.loop-k.invariant

pub returns : goal.returns
returns c =
    let parts = c.args.chip.now in
    let ns = c.args.numbers.now in
    let roots = fed_roots c.args.direct.now c.args.roots.now in
    let long = fed_long c.args.direct.now c.args.roots.now in
    end_joined c.loop-k.reads.items (globals_reads parts (drop c.loop-k.k ns) (drop c.loop-k.k roots)) (c.args.reads.now.items ++ globals_reads parts ns roots) (globals_end parts ns roots c.loop-k.k (omega (arith, long))) c.loop-k.invariant
