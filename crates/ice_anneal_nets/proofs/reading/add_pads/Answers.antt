use Rattle.std.proofs.Common.{refl, ◌++◌, drop, ◌+◌, arith}
use Rattle.ice_anneal_nets.specs.Reads.{pads_reads}
use Rattle.ice_anneal_nets.proofs.Joining.{pads_more, pads_end, step_joined, end_joined}
use Rattle.ice_anneal_nets.proofs.reading.add_pads.Goals as goal

pub loop-k-preserved : goal.loop-k-preserved
loop-k-preserved c =
    let places = c.args.places.now in
    let pads = c.args.pads.now in
    let k = c.loop-k.k in
    step_joined c.loop-k.reads.items c.add_pad.new.reads.items _ (pads_reads (drop (k + 1) places) (drop (k + 1) pads)) (pads_reads (drop k places) (drop k pads)) (c.args.reads.now.items ++ pads_reads places pads)
    (pads_more places pads k _ _ _ _ (omega arith) (omega arith) refl refl) c.in_ok-add_pad.ensures c.loop-k.invariant

pub returns : goal.returns
returns c =
    let places = c.args.places.now in
    let pads = c.args.pads.now in
    end_joined c.loop-k.reads.items (pads_reads (drop c.loop-k.k places) (drop c.loop-k.k pads)) (c.args.reads.now.items ++ pads_reads places pads) (pads_end places pads c.loop-k.k (omega arith)) c.loop-k.invariant
