use Rattle.std.proofs.Common.{◌≡◌, ◌+◌, List, length, slice_set, sym, subst, arith}
use Rattle.ice_path.specs.Queue.{AreLists}
use Rattle.ice_path.specs.declared.queue.Waiting.{Waiting}
use Rattle.ice_path.proofs.Listing.{lists_more}
use Rattle.ice_path.proofs.queue.enlist.Goals as goal

pub returns-clause-lists : goal.returns-clause-lists
returns-clause-lists c =
    let count : c.len.result ≡ length c.args.entries.now.items + 1 = omega (arith, c.len.ensures, c.push_reserved.ensures.len) in
    let more = lists_more c.args.heads.now c.args.entries.now.items c.args.sum c.args.wire c.requires.sum c.requires.lists in
    subst (λ n. AreLists (slice_set c.args.heads.now c.args.sum n) c.push_reserved.new.self.items) (sym count)
    (subst (λ (es : List Waiting). AreLists (slice_set c.args.heads.now c.args.sum (length c.args.entries.now.items + 1)) es) (sym c.push_reserved.ensures.items) more)
