use Rattle.std.proofs.Common.{◌∙◌, List, ℕ, refl, ap, arith}
use Rattle.std.specs.Vec.{with_items}
use Rattle.std.proofs.lemmas.List.{with_items_is}
use Rattle.ice_path.specs.declared.queue.Queue.{Queue}
use Rattle.ice_path.proofs.Listing.{put, joined}
use Rattle.ice_path.proofs.Queueing.{adds_far, adds_near, min_left, min_right}
use Rattle.ice_path.proofs.queue.push.Goals as goal

pub returns-then-sum-ge1024-clause-adds : goal.returns-then-sum-ge1024-clause-adds
returns-then-sum-ge1024-clause-adds c = adds_far c.args.queue.now _ c.args.sum c.args.wire refl refl refl c.push_far.ensures.items

pub returns-clause-adds : goal.returns-clause-adds
returns-clause-adds c =
    let low_left = min_left c.args.queue.now.low c.args.sum in
    let low_right = min_right c.args.queue.now.low c.args.sum in
    let new : Queue = record { heads = with_items c.args.queue.now.heads c.enlist.new.heads; entries = c.enlist.new.entries; low = c.min-queue.result; far = c.args.queue.now.far; room = c.args.queue.now.room } in
    adds_near c.args.queue.now new c.args.sum c.args.wire c.if-sum-ge1024.false c.requires.order.lists
    (with_items_is c.args.queue.now.heads c.enlist.new.heads (c.enlist.auto.heads ∙ c.deref_mut.ensures.len) ∙ c.enlist.ensures.heads ∙ ap (λ (hs : List ℕ). put hs c.args.queue.now.entries.items c.args.sum) c.deref_mut.ensures.value)
    (c.enlist.ensures.entries ∙ ap (λ (hs : List ℕ). joined hs c.args.queue.now.entries.items c.args.sum c.args.wire) c.deref_mut.ensures.value)
    (omega (arith, c.min-queue.ensures, low_left)) (omega (arith, c.min-queue.ensures, low_right)) refl
