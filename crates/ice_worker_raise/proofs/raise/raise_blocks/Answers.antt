use Rattle.std.proofs.Common.{◌≡◌, ◌*◌, length, sym, ap, subst, ◌∙◌}
use Rattle.ice_words_histories.specs.declared.view.HistoryView.{HistoryView}
use Rattle.ice_words_histories.specs.declared.view.HistoryPart.{HistoryPart}
use Rattle.ice_words_histories.specs.Blocks.{claiming, with_own, own}
use Rattle.ice_worker_raise.specs.Raised.{going_part, AreBelow}
use Rattle.ice_worker_raise.proofs.Raising.{bumps_below, own_is, claim_is}
use Rattle.ice_worker_raise.proofs.raise.raise_blocks.Goals as goal

pub raise_block-requires-clause-below : goal.raise_block-requires-clause-below
raise_block-requires-clause-below c =
    let v0 = c.args.hand.now.view in
    let counts = c.args.counts.now.closed in
    let n = length v0.histories in
    let b = c.in-Some.block in
    let blocks = (own c.loop-block.hand.view).blocks in
    let p : HistoryPart = going_part counts n blocks in
    let e : c.claim_block.new.hand.view ≡ with_own (claiming b) (with_own (λ (q : HistoryPart). p) v0) = c.in-Some.ensures.number.2 ∙ ap (λ (v : HistoryView). with_own (claiming b) v) c.loop-block.invariant.view in
    let mine : own c.claim_block.new.hand.view ≡ claiming b p = ap own (claim_is b p v0 c.claim_block.new.hand.view e) ∙ own_is (claiming b p) v0 c.requires.fresh in
    subst (λ (q : HistoryPart). AreBelow (b * 1024) q.bumps) (sym mine) (bumps_below counts n b blocks c.in-Some.ensures.number.1 c.loop-block.invariant.falls)
