use Rattle.std.proofs.Common.{◌≡◌, ◌∙◌, arith}
use Rattle.ice_negotiate.proofs.Stating.{gave_up, routed_of}
use Rattle.ice_negotiate.proofs.rounds.play_all.Goals as goal

pub returns-in-Err-clause-fault : goal.returns-in-Err-clause-fault
returns-in-Err-clause-fault g c = λ opening first. c.in-Err.ensures.stop opening c.args.rounds (c.loop-round.invariant.before opening first)

pub returns-then-is_free-clause-routed : goal.returns-then-is_free-clause-routed
returns-then-is_free-clause-routed g c = λ opening first.
    let e = c.in_ok-routed.ensures in
    routed_of c.args.graph.now c.args.nets.now opening c.loop-round.round c.args.rounds c.play_next.new.state c.in-Ok.played.counts c.in_ok-routed.field-0
    (c.in-Ok.ensures.after opening (c.loop-round.invariant.before opening first)) c.loop-round-test.true (c.is_free.ensures.free c.if-is_free.true) e.trees e.logs e.tallies

pub returns-clause-fault : goal.returns-clause-fault
returns-clause-fault g c = λ opening first.
    let most = c.loop-round.auto.round-end in
    let least = c.loop-round-test.false in
    let all : c.loop-round.round ≡ c.args.rounds = omega arith in
    gave_up c.args.graph.now c.args.nets.now opening c.loop-round.round c.args.rounds c.loop-round.state (c.loop-round.invariant.before opening first) all c.requires.rounds.0

pub loop-round-preserved : goal.loop-round-preserved
loop-round-preserved g c = record {
  ready = c.in_ok-prepare.ensures.ready;
  before = λ opening first. c.in_ok-prepare.ensures.before opening (c.in-Ok.ensures.after opening (c.loop-round.invariant.before opening first));
  many = c.in-Ok.ensures.many ∙ c.loop-round.invariant.many;
  kits = c.in-Ok.ensures.kits;
}
