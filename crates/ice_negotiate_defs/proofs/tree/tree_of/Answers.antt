use Rattle.std.proofs.Common.{◌<◌, ◌∙◌, List, get_or, length, sym, subst, arith}
use Rattle.std.proofs.lemmas.Option.{slice_get-get_or, slice_get_within}
use Rattle.std.proofs.lemmas.Result.{err_from_is_err_and}
use Rattle.ice_base.specs.declared.number.WireNo.{WireNo}
use Rattle.ice_core.specs.Congestion.{price}
use Rattle.ice_path.specs.Room.{AreWires}
use Rattle.ice_negotiate_defs.specs.declared.stop.TreeStop.{TreeStop}
use Rattle.ice_negotiate_defs.specs.Trees.{IsJoined, IsSinkReached, StopsAt, route_of}
use Rattle.ice_negotiate_defs.proofs.Joining.{goes_more, reached_more, stop_cause}
use Rattle.ice_negotiate_defs.proofs.tree.tree_of.Goals as goal

pub join-requires-clause-targets : goal.join-requires-clause-targets
join-requires-clause-targets c =
    let item : List WireNo = c.sink-item.result in
    subst (AreWires c.args.graph.now.wires) (sym (c.targets.ensures ∙ c.sink-item.is)) (c.requires.sinks c.loop-sink.sink-index (get_or c.args.sinks.now c.loop-sink.sink-index item) (slice_get-get_or c.args.sinks.now c.loop-sink.sink-index item c.loop-sink-test.true)).1

pub join-requires-clause-some : goal.join-requires-clause-some
join-requires-clause-some c =
    let item : List WireNo = c.sink-item.result in
    subst (λ (ts : List WireNo). 0 < length ts) (sym (c.targets.ensures ∙ c.sink-item.is)) (c.requires.sinks c.loop-sink.sink-index (get_or c.args.sinks.now c.loop-sink.sink-index item) (slice_get-get_or c.args.sinks.now c.loop-sink.sink-index item c.loop-sink-test.true)).0

pub loop-sink-preserved : goal.loop-sink-preserved
loop-sink-preserved c =
    let i = c.loop-sink.invariant in
    let e = c.in_ok-join.ensures in
    let item : List WireNo = c.sink-item.result in
    let same = c.targets.ensures ∙ c.sink-item.is in
    record {
      joined = goes_more c.args.graph.now.edges (price c.args.prices.now) c.args.root c.args.sinks.now c.loop-sink.sink-index item (route_of c.loop-sink.tree) (route_of c.join.new.tree) c.loop-sink-test.true
          (subst (λ (ts : List WireNo). IsJoined c.args.graph.now.edges (price c.args.prices.now) (route_of c.loop-sink.tree) ts (route_of c.join.new.tree)) same e.joined) i.joined;
      rooted = e.rooted;
      apart = e.apart;
      reached = reached_more c.args.graph.now.edges c.args.root c.args.sinks.now c.loop-sink.sink-index item c.loop-sink-test.true (subst (IsSinkReached c.args.graph.now.edges c.args.root) same e.reached) i.reached;
      scratch = e.scratch;
    }

pub returns-clause-reached : goal.returns-clause-reached
returns-clause-reached c = λ k v at. (let lt = slice_get_within c.args.sinks.now k v at in c.loop-sink.invariant.reached k v (omega (arith, c.loop-sink-test.false)) at)

pub returns-in_err-join-clause-stop : goal.returns-in_err-join-clause-stop
returns-in_err-join-clause-stop c =
    let item : List WireNo = c.sink-item.result in
    let same = c.targets.ensures ∙ c.sink-item.is in
    let p = err_from_is_err_and c.from_residual-in_err-join.result c.from_residual-in_err-join.ensures.1 in
    let stop : TreeStop = c.in_err-join.field-0.0 in
    rw (p.1, p.2)
    (stop_cause c.args.graph.now.edges c.args.root c.args.sinks.now c.loop-sink.sink-index item c.loop-sink-test.true c.loop-sink.invariant.reached stop
    (subst (λ (ts : List WireNo). StopsAt c.args.graph.now.edges c.args.root ts stop) same c.in_err-join.ensures.stop))
