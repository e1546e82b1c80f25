use Rattle.std.proofs.Common.{◌-◌, ◌≤◌, All, vec_len}
use Rattle.ice_words_histories.specs.Grips.{IsHandOf}
use Rattle.ice_negotiate_round.specs.Raising.{AreJoined, HasFinished}
use Rattle.ice_negotiate_round.proofs.raising.gather.Given as goal

abbrev pub invariant-loop-hand : goal.invariant-loop-hand
invariant-loop-hand l = record {
  of : IsHandOf l.words l.main;
  hands : All (HasFinished l.words l.counts.closed) l.hands.items;
  few : vec_len l.hands ≤ vec_len l.fn.hands;
  joined : AreJoined l.words.histories l.counts.closed (vec_len l.fn.hands) (vec_len l.hands) (vec_len l.fn.hands - vec_len l.hands) l.main.view;
}

abbrev pub decreases-loop-hand : goal.decreases-loop-hand
decreases-loop-hand l = vec_len l.hands
