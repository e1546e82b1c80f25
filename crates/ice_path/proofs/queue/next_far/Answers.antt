use Rattle.std.proofs.Common.{◌∙◌, length, arith}
use Rattle.std.specs.BinaryHeap.{heap_items}
use Rattle.ice_path.proofs.Queueing.{top_within, goes_down, first_far, far_none}
use Rattle.ice_path.proofs.queue.next_far.Goals as goal

pub bounds-settled-wire : goal.bounds-settled-wire
bounds-settled-wire c = top_within c.args.settled.now (heap_items c.args.far.now) (heap_items c.loop-wire.far) (heap_items c.pop_far.new.far) c.in-Some.sum c.in-Some.wire c.loop-wire.invariant.left c.in-Some.ensures.items (length c.args.settled.now) c.requires.within

pub returns-in_default-clause-none : goal.returns-in_default-clause-none
returns-in_default-clause-none c = far_none c.args.settled.now (heap_items c.args.far.now) (heap_items c.loop-wire.far) c.loop-wire.invariant.left c.in_default.ensures.none

pub returns-then-not-settled-wire-clause-some : goal.returns-then-not-settled-wire-clause-some
returns-then-not-settled-wire-clause-some c = first_far c.args.settled.now (heap_items c.args.far.now) (heap_items c.loop-wire.far) (heap_items c.pop_far.new.far) c.in-Some.sum c.in-Some.wire c.loop-wire.invariant.left c.in-Some.ensures.items c.if-not-settled-wire.true c.in-Some.ensures.least

pub returns-then-not-settled-wire-clause-only : goal.returns-then-not-settled-wire-clause-only
returns-then-not-settled-wire-clause-only c =
    let first = first_far c.args.settled.now (heap_items c.args.far.now) (heap_items c.loop-wire.far) (heap_items c.pop_far.new.far) c.in-Some.sum c.in-Some.wire c.loop-wire.invariant.left c.in-Some.ensures.items c.if-not-settled-wire.true c.in-Some.ensures.least in
    first.only

pub loop-wire-preserved : goal.loop-wire-preserved
loop-wire-preserved c =
    let len = c.in-Some.ensures.len in
    let short = c.loop-wire.invariant.shorter in
    record {
      order = c.pop_far.ensures.order;
      left = goes_down c.args.settled.now (heap_items c.args.far.now) (heap_items c.loop-wire.far) (heap_items c.pop_far.new.far) c.in-Some.sum c.in-Some.wire c.loop-wire.invariant.left c.in-Some.ensures.items c.if-not-settled-wire.false;
      shorter = omega (arith, c.pop_far.ensures.shorter, short);
      capacity = c.pop_far.ensures.capacity ∙ c.loop-wire.invariant.capacity;
    }
