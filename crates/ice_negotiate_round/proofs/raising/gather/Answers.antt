use Rattle.std.proofs.Common.{◌≡◌, ◌+◌, ◌-◌, Some, vec_len, ap, arith, subst, ◌∙◌}
use Rattle.std.proofs.lemmas.List.Elements.{All-pop}
use Rattle.ice_words_histories.specs.declared.view.HistoryView.{HistoryView}
use Rattle.ice_words_histories.specs.Grips.{Grip}
use Rattle.ice_negotiate_round.specs.Raising.{AreJoined, HasFinished}
use Rattle.ice_negotiate_round.proofs.RaisingAll.{one_joined}
use Rattle.ice_negotiate_round.proofs.raising.gather.Goals as goal

pub join-requires-clause-main : goal.join-requires-clause-main
join-requires-clause-main c = ap (λ (v : HistoryView). v.main) c.loop-hand.invariant.joined.is

pub loop-hand-preserved : goal.loop-hand-preserved
loop-hand-preserved c =
    let board = c.args.words.now in
    let counts = c.args.counts.now.closed in
    let P : Grip → Type 0 = HasFinished board counts in
    let t = All-pop P c.loop-hand.hands.items c.pop.new.self.items (Some c.in-Some.hand) c.in-Some.ensures.items c.loop-hand.invariant.hands in
    let all = vec_len c.args.hands in
    let more : vec_len c.loop-hand.hands ≡ vec_len c.pop.new.self + 1 = omega (arith, c.in-Some.ensures.len) in
    let done : (all - vec_len c.loop-hand.hands) + 1 ≡ all - vec_len c.pop.new.self = omega (arith, more, c.loop-hand.invariant.few) in
    record {
      of = c.join.ensures.of;
      hands = t.0;
      few = omega (arith, more, c.loop-hand.invariant.few);
      joined = subst (λ n. AreJoined board.histories counts all (vec_len c.pop.new.self) n c.join.new.hand.view) done
          (one_joined board counts all (vec_len c.pop.new.self) (vec_len c.loop-hand.hands) (all - vec_len c.loop-hand.hands) c.in-Some.hand c.loop-hand.main.view c.join.new.hand.view t.1 c.join.ensures.view more c.loop-hand.invariant.joined);
    }
