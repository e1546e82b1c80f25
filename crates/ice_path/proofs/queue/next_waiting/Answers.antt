use Rattle.std.proofs.Common.{◌≡◌, ◌∙◌, ℕ, List, length, refl, sym, ap, subst, slice_set, arith, inl}
use Rattle.std.specs.Vec.{with_items}
use Rattle.std.proofs.lemmas.List.{with_items_is}
use Rattle.std.specs.BinaryHeap.{heap_items}
use Rattle.ice_path.specs.declared.queue.Waiting.{Waiting}
use Rattle.ice_path.specs.Queue.{IsFirstListed}
use Rattle.ice_path.proofs.Queueing.{same_lists, high_left, far_within, first_within, near_open, near_queues, far_open, far_queues}
use Rattle.ice_path.proofs.queue.next_waiting.Goals as goal

pub first_listed-listed-requires-clause-within : goal.first_listed-listed-requires-clause-within
first_listed-listed-requires-clause-within c = λ s w on. c.requires.within s w (inl (same_lists _ _ _ _ c.deref.ensures.value c.deref-2.ensures.value s w on))

pub next_far-requires-clause-within : goal.next_far-requires-clause-within
next_far-requires-clause-within c = far_within c.args.queue.now (length c.args.settled.now) c.requires.within

pub returns-in_default-clause-order : goal.returns-in_default-clause-order
returns-in_default-clause-order c =
    let is = c.requires.order in
    record {
      lists = is.lists;
      order = c.next_far.ensures.order;
      high = high_left (heap_items c.args.queue.now.far) (heap_items c.next_far.new.far) c.next_far.ensures.only is.high;
      near_room = is.near_room;
      far_room = omega (arith, is.far_room, c.next_far.ensures.capacity);
    }

pub returns-in_default-clause-least : goal.returns-in_default-clause-least
returns-in_default-clause-least c = λ bound labels long waiting.
    far_open bound c.args.settled.now labels c.args.queue.now (record { heads = c.args.queue.now.heads; entries = c.args.queue.now.entries; low = 1024; far = c.next_far.new.far; room = c.args.queue.now.room }) long waiting c.requires.order
    (λ s w le on. c.in_default.ensures.none s w le (same_lists _ _ _ _ (sym c.deref.ensures.value) (sym c.deref-2.ensures.value) s w on)) c.next_far.result c.next_far.ensures.some c.next_far.ensures.none

pub returns-in_default-clause-waits : goal.returns-in_default-clause-waits
returns-in_default-clause-waits c = λ bound labels long waiting.
    far_queues bound c.args.settled.now labels c.args.queue.now (record { heads = c.args.queue.now.heads; entries = c.args.queue.now.entries; low = 1024; far = c.next_far.new.far; room = c.args.queue.now.room }) long waiting c.requires.order
    (λ s w le on. c.in_default.ensures.none s w le (same_lists _ _ _ _ (sym c.deref.ensures.value) (sym c.deref-2.ensures.value) s w on)) refl refl c.next_far.result c.next_far.ensures.some

pub returns-in_default-clause-within : goal.returns-in_default-clause-within
returns-in_default-clause-within c = first_within c.args.settled.now c.args.queue.now (heap_items c.next_far.new.far) (length c.args.settled.now) c.requires.within c.next_far.result c.next_far.ensures.some

pub returns-clause-least : goal.returns-clause-least
returns-clause-least c = λ bound labels long waiting.
    let first = subst (λ (hs : List ℕ). IsFirstListed hs c.args.queue.now.entries.items c.args.settled.now c.args.queue.now.low c.in-Some.sum c.in-Some.wire c.in-Some.behind) c.deref.ensures.value
    (subst (λ (es : List Waiting). IsFirstListed c.deref.result.now es c.args.settled.now c.args.queue.now.low c.in-Some.sum c.in-Some.wire c.in-Some.behind) c.deref-2.ensures.value c.in-Some.ensures.some) in
    near_open bound c.args.settled.now labels c.args.queue.now c.args.queue.now long waiting c.requires.order c.in-Some.sum c.in-Some.wire c.in-Some.behind first

pub returns-clause-waits : goal.returns-clause-waits
returns-clause-waits c = λ bound labels long waiting.
    let first = subst (λ (hs : List ℕ). IsFirstListed hs c.args.queue.now.entries.items c.args.settled.now c.args.queue.now.low c.in-Some.sum c.in-Some.wire c.in-Some.behind) c.deref.ensures.value
    (subst (λ (es : List Waiting). IsFirstListed c.deref.result.now es c.args.settled.now c.args.queue.now.low c.in-Some.sum c.in-Some.wire c.in-Some.behind) c.deref-2.ensures.value c.in-Some.ensures.some) in
    let heads : (with_items c.args.queue.now.heads c.set_head.new.heads).items ≡ slice_set c.args.queue.now.heads.items c.in-Some.sum c.in-Some.behind =
    with_items_is c.args.queue.now.heads c.set_head.new.heads (c.set_head.auto.heads ∙ c.deref_mut.ensures.len) ∙ c.set_head.ensures ∙ ap (λ (hs : List ℕ). slice_set hs c.in-Some.sum c.in-Some.behind) c.deref_mut.ensures.value in
    near_queues bound c.args.settled.now labels c.args.queue.now (record { heads = with_items c.args.queue.now.heads c.set_head.new.heads; entries = c.args.queue.now.entries; low = c.in-Some.sum; far = c.args.queue.now.far; room = c.args.queue.now.room }) long waiting c.requires.order
    c.in-Some.sum c.in-Some.wire c.in-Some.behind first heads refl refl refl

pub returns-clause-within : goal.returns-clause-within
returns-clause-within c =
    let first = subst (λ (hs : List ℕ). IsFirstListed hs c.args.queue.now.entries.items c.args.settled.now c.args.queue.now.low c.in-Some.sum c.in-Some.wire c.in-Some.behind) c.deref.ensures.value
    (subst (λ (es : List Waiting). IsFirstListed c.deref.result.now es c.args.settled.now c.args.queue.now.low c.in-Some.sum c.in-Some.wire c.in-Some.behind) c.deref-2.ensures.value c.in-Some.ensures.some) in
    c.requires.within c.in-Some.sum c.in-Some.wire (inl first.first.there)
