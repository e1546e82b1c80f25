use Rattle.std.proofs.Common.{◌≡◌, List, sym, subst}
use Rattle.ice_graph.specs.declared.tree.Tree.{Tree}
use Rattle.ice_core.specs.declared.task.Task.{Task}
use Rattle.ice_negotiate_defs.specs.Rounds.{HoldOnce, IsRound}
use Rattle.ice_negotiate_defs.specs.Tallies.{IsTally}
use Rattle.ice_negotiate_round.specs.Moving.{AreTasksOf, placed}
use Rattle.ice_negotiate_round.proofs.Opening.{are_playable}
use Rattle.ice_negotiate_round.proofs.Ending.{all_reached, hold_once, is_round, is_tally, round_stop, stop_within}
use Rattle.ice_negotiate_round.proofs.moving.play.Goals as goal

pub play_tasks-requires-clause-playable : goal.play_tasks-requires-clause-playable
play_tasks-requires-clause-playable g c κs within =
    let are = subst (λ (ts : List Task). AreTasksOf c.args.nets.now c.args.trees.now c.args.moved.now ts) (sym c.deref.ensures.value) c.in_ok-tasks.ensures in
    are_playable c.args.nets.now c.args.trees.now c.args.moved.now c.deref.result.now are c.requires.moved c.requires.trees c.args.graph.now c.args.prices.now c.requires.few c.requires.counts c.requires.apart c.requires.bounded c.requires.nets

pub fault-requires : goal.fault-requires
fault-requires g c =
    let are = subst (λ (ts : List Task). AreTasksOf c.args.nets.now c.args.trees.now c.args.moved.now ts) (sym c.deref.ensures.value) c.in_ok-tasks.ensures in
    stop_within c.args.graph.now c.args.nets.now c.args.trees.now c.args.moved.now c.deref.result.now are c.requires.moved c.requires.trees c.in-Err.stop c.in-Err.ensures.stop

pub returns-in-Err-clause-stop : goal.returns-in-Err-clause-stop
returns-in-Err-clause-stop g c =
    let are = subst (λ (ts : List Task). AreTasksOf c.args.nets.now c.args.trees.now c.args.moved.now ts) (sym c.deref.ensures.value) c.in_ok-tasks.ensures in
    round_stop c.args.graph.now c.args.nets.now c.args.trees.now c.args.moved.now c.deref.result.now are c.requires.moved c.requires.trees c.in-Err.stop c.fault.result c.in-Err.ensures.stop c.fault.ensures

pub returns-clause-done : goal.returns-clause-done
returns-clause-done g c =
    let are = subst (λ (ts : List Task). AreTasksOf c.args.nets.now c.args.trees.now c.args.moved.now ts) (sym c.deref.ensures.value) c.in_ok-tasks.ensures in
    let e : c.place.new.trees ≡ placed c.args.trees.now c.args.moved.now c.in-Ok.played.news.items = c.place.ensures in
    subst (λ (ts : List Tree). IsRound c.args.graph.now c.args.nets.now c.args.prices.now.round c.args.prices.now.history.items c.args.prices.now.counts.items c.args.moved.now c.args.trees.now ts) (sym e)
    (is_round c.args.graph.now c.args.prices.now c.args.nets.now c.args.trees.now c.args.moved.now c.deref.result.now c.in-Ok.played.news.items c.in-Ok.played.counts are c.requires.moved c.requires.trees c.requires.few c.requires.counts c.requires.apart c.requires.bounded c.in-Ok.ensures.played)

pub returns-clause-apart : goal.returns-clause-apart
returns-clause-apart g c =
    let are = subst (λ (ts : List Task). AreTasksOf c.args.nets.now c.args.trees.now c.args.moved.now ts) (sym c.deref.ensures.value) c.in_ok-tasks.ensures in
    let e : c.place.new.trees ≡ placed c.args.trees.now c.args.moved.now c.in-Ok.played.news.items = c.place.ensures in
    subst (λ (ts : List Tree). HoldOnce ts) (sym e)
    (hold_once c.args.graph.now c.args.prices.now c.args.nets.now c.args.trees.now c.args.moved.now c.deref.result.now c.in-Ok.played.news.items c.in-Ok.played.counts are c.requires.moved c.requires.trees c.requires.few c.requires.counts c.requires.apart c.requires.bounded c.in-Ok.ensures.played)

pub returns-clause-reached : goal.returns-clause-reached
returns-clause-reached g c =
    let are = subst (λ (ts : List Task). AreTasksOf c.args.nets.now c.args.trees.now c.args.moved.now ts) (sym c.deref.ensures.value) c.in_ok-tasks.ensures in
    all_reached c.args.graph.now c.args.prices.now c.args.nets.now c.args.trees.now c.args.moved.now c.deref.result.now c.in-Ok.played.news.items c.in-Ok.played.counts are c.requires.moved c.requires.trees c.requires.few c.requires.counts c.requires.apart c.requires.bounded c.in-Ok.ensures.played

pub returns-clause-tally : goal.returns-clause-tally
returns-clause-tally g c =
    let are = subst (λ (ts : List Task). AreTasksOf c.args.nets.now c.args.trees.now c.args.moved.now ts) (sym c.deref.ensures.value) c.in_ok-tasks.ensures in
    let e : c.place.new.trees ≡ placed c.args.trees.now c.args.moved.now c.in-Ok.played.news.items = c.place.ensures in
    subst (λ (ts : List Tree). IsTally c.args.graph.now.wires c.args.moved.now c.args.trees.now ts c.in-Ok.played.counts) (sym e)
    (is_tally c.args.graph.now c.args.prices.now c.args.nets.now c.args.trees.now c.args.moved.now c.deref.result.now c.in-Ok.played.news.items c.in-Ok.played.counts are c.requires.moved c.requires.trees c.requires.few c.requires.counts c.requires.apart c.requires.bounded c.in-Ok.ensures.played)
