use Rattle.std.proofs.Common.{◌≡◌, ◌∙◌, sym, subst}
use Rattle.std.specs.Vec.{with_items}
use Rattle.std.proofs.lemmas.List.{with_items_is}
use Rattle.ice_negotiate_defs.specs.Logs.{IsStop}
use Rattle.ice_negotiate.proofs.Stating.{after_by, played_by, stop_fault}
use Rattle.ice_negotiate.proofs.rounds.play_next.Goals as goal

pub returns-in-Err-clause-stop : goal.returns-in-Err-clause-stop
returns-in-Err-clause-stop g c = stop_fault c.args.graph.now c.args.nets.now c.args.round c.args.state.now c.in-Err.fault
    (subst (λ m. IsStop c.args.graph.now c.args.nets.now m c.in-Err.fault) c.deref.ensures.value c.in-Err.ensures.stop)

pub returns-clause-played : goal.returns-clause-played
returns-clause-played g c =
    let e = c.in-Ok.ensures in
    let items : (with_items c.args.state.now.trees c.play.new.trees).items ≡ c.play.new.trees = with_items_is c.args.state.now.trees c.play.new.trees (c.play.auto.trees ∙ c.deref_mut.ensures.len) in
    played_by c.args.graph.now c.args.nets.now c.args.round c.args.state.now (with_items c.args.state.now.trees c.play.new.trees) c.push.new.self c.in_ok-log.log c.in-Ok.played.counts
    c.deref.result.now c.deref_mut.result.now c.play.new.trees
    c.deref.ensures.value c.deref_mut.ensures.value (sym items)
    c.requires.ready e.done e.tally e.apart

pub returns-clause-after : goal.returns-clause-after
returns-clause-after g c =
    let e = c.in-Ok.ensures in
    let items : (with_items c.args.state.now.trees c.play.new.trees).items ≡ c.play.new.trees = with_items_is c.args.state.now.trees c.play.new.trees (c.play.auto.trees ∙ c.deref_mut.ensures.len) in
    after_by c.args.graph.now c.args.nets.now c.args.round c.args.state.now (with_items c.args.state.now.trees c.play.new.trees) c.push.new.self c.in_ok-log.log c.in-Ok.played.counts
    c.deref.result.now c.deref-2.result.now c.deref_mut.result.now c.play.new.trees c.deref-3.result.now c.all.result.now
    c.deref.ensures.value c.deref_mut.ensures.value (sym items) c.deref-2.ensures.value c.deref-3.ensures.value c.all.ensures
    e.done e.tally c.in_ok-push.ensures.items c.in_ok-log.ensures e.reached
