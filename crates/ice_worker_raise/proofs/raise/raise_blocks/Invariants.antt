use Rattle.std.proofs.Common.{◌≡◌, ◌-◌, length}
use Rattle.ice_words_histories.specs.Blocks.{blocks_of, with_own, own}
use Rattle.ice_words_histories.specs.Grips.{IsHandOf}
use Rattle.ice_worker_raise.specs.Raised.{going_part, Falls, next_of}
use Rattle.ice_worker_raise.proofs.raise.raise_blocks.Given as goal

abbrev pub invariant-loop-block : goal.invariant-loop-block
invariant-loop-block l = record {
  of : IsHandOf l.words l.hand;
  view : l.hand.view ≡ with_own (λ p. going_part l.counts.closed (length l.fn.hand.view.histories) (own l.hand.view).blocks) l.fn.hand.view;
  falls : Falls (own l.hand.view).blocks;
}

abbrev pub decreases-loop-block : goal.decreases-loop-block
decreases-loop-block l = blocks_of (length l.fn.hand.view.histories) - next_of (own l.hand.view).blocks
