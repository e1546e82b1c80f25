use Rattle.std.proofs.Common.{◌≡◌, ◌+◌, ◌*◌, sym, subst}
use Rattle.ice_words_histories.specs.declared.view.HistoryView.{HistoryView}
use Rattle.ice_words_histories.specs.Blocks.{bumps_on, own}
use Rattle.ice_worker_raise.proofs.Raising.{wire_new}
use Rattle.ice_worker_raise.proofs.raise.raise_block.Goals as goal

pub raise_wire-requires-clause-new : goal.raise_wire-requires-clause-new
raise_wire-requires-clause-new c = subst (λ (v : HistoryView). bumps_on (c.args.block * 1024 + c.loop-k.k) (own v) ≡ 0) (sym c.loop-k.invariant.view) (wire_new c.args.counts.now.closed (c.args.block * 1024) c.loop-k.k c.args.hand.now.view c.requires.below)
