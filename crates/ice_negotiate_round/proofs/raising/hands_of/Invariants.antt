use Rattle.std.proofs.Common.{◌≡◌, [], All, vec_len}
use Rattle.ice_words_histories.specs.Grips.{IsHandOf}
use Rattle.ice_negotiate_round.specs.Raising.{IsIdle, history_main}
use Rattle.ice_negotiate_round.proofs.raising.hands_of.Given as goal

abbrev pub invariant-loop-worker : goal.invariant-loop-worker
invariant-loop-worker l = record {
  of : IsHandOf l.words l.main;
  main : l.main.view ≡ history_main l.words.histories l._worker l._worker [];
  many : vec_len l.hands ≡ l._worker;
  hands : All (IsIdle l.words) l.hands.items;
}
