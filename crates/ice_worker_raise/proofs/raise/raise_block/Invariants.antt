use Rattle.std.proofs.Common.{◌≡◌, ◌*◌}
use Rattle.ice_words_histories.specs.Blocks.{with_own}
use Rattle.ice_words_histories.specs.Grips.{IsHandOf}
use Rattle.ice_worker_raise.specs.Raised.{wirings}
use Rattle.ice_worker_raise.proofs.raise.raise_block.Given as goal

abbrev pub invariant-loop-k : goal.invariant-loop-k
invariant-loop-k l = record {
  of : IsHandOf l.words l.hand;
  view : l.hand.view ≡ with_own (wirings l.counts.closed (l.block * 1024) l.k) l.fn.hand.view;
}
