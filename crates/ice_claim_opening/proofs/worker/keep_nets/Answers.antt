use Rattle.std.proofs.Common.{◌≡◌, ◌+◌, ◌<◌, ◌≤◌, List, IfNone, length, vec_len, arith, subst, sym, ap, ◌∙◌}
use Rattle.ice_core.specs.Routes.{numbers, times, wires_of}
use Rattle.ice_claim.specs.Claims.{with_own}
use Rattle.ice_claim_opening.specs.declared.notes.Note.{Note}
use Rattle.ice_claim_opening.specs.Workers.{took}
use Rattle.ice_claim_opening.proofs.Keeping.{IsBetween, as_long, fewer_left, has_none, list_of_net, net_done, room_left}
use Rattle.ice_claim_opening.proofs.worker.keep_nets.Goals as goal

pub keep_net-lost-requires-clause-once : goal.keep_net-lost-requires-clause-once
keep_net-lost-requires-clause-once g c =
    let lists = c.args.lists.now in
    let net = c.in-Some.net in
    let same = c.requires.lists.same in
    let lt : net < length lists = omega (arith, c.in-Some.ensures.number.0, ap length same, as_long lists) in
    let its : wires_of c.args.table.now.lists net ≡ numbers c.deref.result.now = ap (λ ls. wires_of ls net) same ∙ (list_of_net lists net c.index-lists-net.result lt c.index-lists-net.is ∙ ap numbers (sym c.deref.ensures.value)) in
    λ w. subst (λ ws. times w ws ≤ 1) its (c.requires.lists.start.once net w)

pub keep_net-lost-requires-clause-none : goal.keep_net-lost-requires-clause-none
keep_net-lost-requires-clause-none g c =
    has_none c.args.table.now.lists c.args.pass.now.view c.loop-net.pass.view c.claim.new.pass.view c.loop-net.notes.items c.in-Some.net c.requires.fresh c.loop-net.invariant.between c.in-Some.ensures.number.1 c.in-Some.ensures.number.2

pub push_reserved-requires : goal.push_reserved-requires
push_reserved-requires g c =
    let lists = c.args.lists.now in
    let room = room_left c.args.table.now.lists c.args.pass.now.view c.loop-net.pass.view c.claim.new.pass.view c.loop-net.notes.items c.in-Some.net c.requires.fresh c.loop-net.invariant.between c.in-Some.ensures.number.1 c.in-Some.ensures.number.2 c.in-Some.ensures.number.0 in
    omega (arith, room, c.loop-net.invariant.room, ap length c.requires.lists.same, as_long lists, c.loop-net.notes.ok)

pub loop-net-smaller : goal.loop-net-smaller
loop-net-smaller g c =
    let lists = c.args.lists.now in
    let room = room_left c.args.table.now.lists c.args.pass.now.view c.loop-net.pass.view c.claim.new.pass.view c.loop-net.notes.items c.in-Some.net c.requires.fresh c.loop-net.invariant.between c.in-Some.ensures.number.1 c.in-Some.ensures.number.2 c.in-Some.ensures.number.0 in
    let few : vec_len c.loop-net.notes < length lists = omega (arith, room, ap length c.requires.lists.same, as_long lists, c.loop-net.notes.ok) in
    let more : vec_len c.push_reserved.new.self ≡ vec_len c.loop-net.notes + 1 = omega (arith, c.push_reserved.ensures.len) in
    fewer_left (length lists) (vec_len c.loop-net.notes) (vec_len c.push_reserved.new.self) few more

pub loop-net-preserved : goal.loop-net-preserved
loop-net-preserved g c =
    let lists = c.args.lists.now in
    let net = c.in-Some.net in
    let same = c.requires.lists.same in
    let lt : net < length lists = omega (arith, c.in-Some.ensures.number.0, ap length same, as_long lists) in
    let its : wires_of c.args.table.now.lists net ≡ numbers c.deref.result.now = ap (λ ls. wires_of ls net) same ∙ (list_of_net lists net c.index-lists-net.result lt c.index-lists-net.is ∙ ap numbers (sym c.deref.ensures.value)) in
    let next = c.keep_net-lost.new.pass.view in
    let kept : IfNone c.keep_net-lost.result (next ≡ with_own (took net (wires_of c.args.table.now.lists net)) c.claim.new.pass.view) = subst (λ ws. IfNone c.keep_net-lost.result (next ≡ with_own (took net ws) c.claim.new.pass.view)) (sym its) c.keep_net-lost.ensures.kept in
    let done = net_done c.args.table.now.lists c.args.pass.now.view c.loop-net.pass.view c.claim.new.pass.view c.loop-net.notes.items net c.requires.fresh c.loop-net.invariant.between c.in-Some.ensures.number.1 c.in-Some.ensures.number.2
    c.in-Some.ensures.number.0 c.in-Some.ensures.lone next c.keep_net-lost.result kept c.keep_net-lost.ensures.given c.keep_net-lost.ensures.lost c.keep_net-lost.ensures.lone in
    record {
      of = c.keep_net-lost.ensures.of;
      between = subst (λ (ns : List Note). IsBetween c.args.table.now.lists c.args.pass.now.view next ns) (sym c.push_reserved.ensures.items) done;
      room = omega (arith, c.push_reserved.ensures.capacity, c.loop-net.invariant.room);
    }
