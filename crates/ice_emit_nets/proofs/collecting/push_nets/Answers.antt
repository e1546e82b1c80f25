use Rattle.std.proofs.Common.{◌+◌, ◌++◌, drop, length, ap, sym, ◌∙◌, arith}
use Rattle.std.specs.Vec.Iter.{into_iter_items, into_iter_len}
use Rattle.std.proofs.lemmas.List.{drop_more}
use Rattle.ice_emit_nets.specs.Collected.{bare_nets, kind_nets}
use Rattle.ice_emit_nets.proofs.Leaving.{nets_step, nets_end, nets_all, left_long}
use Rattle.ice_emit_nets.proofs.collecting.push_nets.Goals as goal

pub returns-in_default-clause-nets : goal.returns-in_default-clause-nets
returns-in_default-clause-nets c =
    nets_end (bare_nets c.loop-wire.nets.items) _ (drop c.loop-wire.wire-index c.args.wires.now) (into_iter_items c.loop-wire.rest) (into_iter_len c.loop-wire.rest) c.in_default.ensures.cases.0 c.loop-wire.invariant.long
    c.loop-wire.invariant.nets

pub loop-wire-preserved : goal.loop-wire-preserved
loop-wire-preserved c =
    let wires = c.args.wires.now in
    let i = c.loop-wire.wire-index in
    let before = bare_nets c.loop-wire.nets.items in
    let lists = into_iter_items c.loop-wire.rest in
    record {
      nets = nets_step before (bare_nets c.push_net.new.nets.items) _ _ (drop (i + 1) wires) _ lists (into_iter_items c.next.new.self) c.in-Some.ensures.items c.in_ok-push_net.ensures.nets
          (ap (λ ws. before ++ kind_nets ws lists) (sym (drop_more wires i _ c.loop-wire-test.true)) ∙ c.loop-wire.invariant.nets);
      numbers = c.in_ok-push_net.ensures.numbers;
      long = left_long (into_iter_len c.loop-wire.rest) (into_iter_len c.next.new.self) c.in-Some.sinks lists (into_iter_items c.next.new.self) c.in-Some.ensures.items c.in-Some.ensures.len c.loop-wire.invariant.long;
    }

pub returns-clause-nets : goal.returns-clause-nets
returns-clause-nets c = nets_all (bare_nets c.loop-wire.nets.items) _ c.args.wires.now c.loop-wire.wire-index (into_iter_items c.loop-wire.rest) c.loop-wire-test.false c.loop-wire.invariant.nets

pub loop-wire-init : goal.loop-wire-init
loop-wire-init c = record {
  nets = ap (λ lists. bare_nets c.args.nets.now.items ++ kind_nets c.args.wires.now lists) c.into_iter-rest.ensures.rest;
  numbers = c.requires;
  long = omega (arith, c.into_iter-rest.ensures.len, ap length c.into_iter-rest.ensures.rest);
}
