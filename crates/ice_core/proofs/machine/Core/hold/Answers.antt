use Rattle.std.proofs.Common.{rules, ◌≡◌, ◌<◌, ◌+◌, Some, length, slice_get, slice_index, slice_set, sym, subst, arith}
use Rattle.ice_core.specs.declared.event.Event.TheVariants.{Hold}
use Rattle.ice_core.specs.declared.progress.Progress.{Progress}
use Rattle.ice_core.specs.Routes.{lists_of}
use Rattle.ice_core.specs.Machine.{CoreState, Allowed, next}
use Rattle.ice_core.specs.Program.{Moment, worker_by}
use Rattle.ice_core.proofs.Stepping.{state_by, at_of, place_of, count_read, hold_wire, hold_ready, hold_leads, hold_runs, count_small}
use Rattle.ice_core.proofs.machine.Core.hold.Goals as goal

pub index-count-requires : goal.index-count-requires
index-count-requires c =
    let o = lists_of c.self.inside.olds.items in
    let n = lists_of c.self.inside.news.items in
    let s = c.self.inside in
    let may : Allowed (state_by o n s.number s.counts.items s.up s.down s.workers.items) (Hold c.args.worker c.args.wire) = subst (λ (m : Moment). Allowed m.state (Hold c.args.worker c.args.wire)) (sym c.self.view_is) c.requires in
    let lt : c.args.wire.0 < length s.counts.items = hold_wire o n s.number s.counts.items s.up s.down s.workers.items c.args.worker c.args.wire c.self.invariant may in
    search rules

pub overflow_add-count : goal.overflow_add-count
overflow_add-count c =
    let o = lists_of c.self.inside.olds.items in
    let n = lists_of c.self.inside.news.items in
    let s = c.self.inside in
    let may : Allowed (state_by o n s.number s.counts.items s.up s.down s.workers.items) (Hold c.args.worker c.args.wire) = subst (λ (m : Moment). Allowed m.state (Hold c.args.worker c.args.wire)) (sym c.self.view_is) c.requires in
    let lt = hold_wire o n s.number s.counts.items s.up s.down s.workers.items c.args.worker c.args.wire c.self.invariant may in
    let read : c.index-count.result.now ≡ slice_index s.counts.items c.args.wire.0 = count_read s.counts.items c.args.wire.0 c.index-count.result.now lt c.index-count.ensures in
    omega (arith, count_small o n s.number s.counts.items s.up s.down s.workers.items c.args.wire.0 c.index-count.result.now c.self.invariant read)

pub index_mut-requires : goal.index_mut-requires
index_mut-requires c =
    let o = lists_of c.self.inside.olds.items in
    let n = lists_of c.self.inside.news.items in
    let s = c.self.inside in
    let may : Allowed (state_by o n s.number s.counts.items s.up s.down s.workers.items) (Hold c.args.worker c.args.wire) = subst (λ (m : Moment). Allowed m.state (Hold c.args.worker c.args.wire)) (sym c.self.view_is) c.requires in
    let lt : c.args.wire.0 < length s.counts.items = hold_wire o n s.number s.counts.items s.up s.down s.workers.items c.args.worker c.args.wire c.self.invariant may in
    search rules

pub index_mut-requires-2 : goal.index_mut-requires-2
index_mut-requires-2 c =
    let o = lists_of c.self.inside.olds.items in
    let n = lists_of c.self.inside.news.items in
    let s = c.self.inside in
    let may : Allowed (state_by o n s.number s.counts.items s.up s.down s.workers.items) (Hold c.args.worker c.args.wire) = subst (λ (m : Moment). Allowed m.state (Hold c.args.worker c.args.wire)) (sym c.self.view_is) c.requires in
    let lt : c.args.worker < length s.workers.items = place_of (worker_by o n) s.workers.items c.args.worker may.0 may.1 in
    search rules

pub hold-requires : goal.hold-requires
hold-requires c =
    let o = lists_of c.self.inside.olds.items in
    let n = lists_of c.self.inside.news.items in
    let s = c.self.inside in
    let may : Allowed (state_by o n s.number s.counts.items s.up s.down s.workers.items) (Hold c.args.worker c.args.wire) = subst (λ (m : Moment). Allowed m.state (Hold c.args.worker c.args.wire)) (sym c.self.view_is) c.requires in
    hold_ready o n s.number s.counts.items s.up s.down s.workers.items c.args.worker c.args.wire c.index_mut-2.result.now c.self.invariant may c.index_mut-2.ensures.value

pub invariant_of-self : goal.invariant_of-self
invariant_of-self c =
    let o = lists_of c.self.inside.olds.items in
    let n = lists_of c.self.inside.news.items in
    let s = c.self.inside in
    let may : Allowed (state_by o n s.number s.counts.items s.up s.down s.workers.items) (Hold c.args.worker c.args.wire) = subst (λ (m : Moment). Allowed m.state (Hold c.args.worker c.args.wire)) (sym c.self.view_is) c.requires in
    let lt = hold_wire o n s.number s.counts.items s.up s.down s.workers.items c.args.worker c.args.wire c.self.invariant may in
    let read : c.index-count.result.now ≡ slice_index s.counts.items c.args.wire.0 = count_read s.counts.items c.args.wire.0 c.index-count.result.now lt c.index-count.ensures in
    let p : Progress = c.index_mut-2.result.now in
    let at : slice_get s.workers.items c.args.worker ≡ Some p = (at_of (worker_by o n) s.workers.items c.args.worker may.0 p may.1 c.index_mut-2.ensures.value).0 in
    hold_runs o n s.number s.counts.items s.up s.down s.workers.items c.args.worker c.args.wire p c.hold.new.self c.index-count.result.now c.self.invariant may at read (c.hold.ensures.worker o n) c.hold.ensures.room

pub returns-clause-state : goal.returns-clause-state
returns-clause-state c =
    let o = lists_of c.self.inside.olds.items in
    let n = lists_of c.self.inside.news.items in
    let s = c.self.inside in
    let may : Allowed (state_by o n s.number s.counts.items s.up s.down s.workers.items) (Hold c.args.worker c.args.wire) = subst (λ (m : Moment). Allowed m.state (Hold c.args.worker c.args.wire)) (sym c.self.view_is) c.requires in
    let lt = hold_wire o n s.number s.counts.items s.up s.down s.workers.items c.args.worker c.args.wire c.self.invariant may in
    let read : c.index-count.result.now ≡ slice_index s.counts.items c.args.wire.0 = count_read s.counts.items c.args.wire.0 c.index-count.result.now lt c.index-count.ensures in
    let p : Progress = c.index_mut-2.result.now in
    let at : slice_get s.workers.items c.args.worker ≡ Some p = (at_of (worker_by o n) s.workers.items c.args.worker may.0 p may.1 c.index_mut-2.ensures.value).0 in
    let after : CoreState = state_by o n s.number (slice_set s.counts.items c.args.wire.0 (c.index-count.result.now + 1)) s.up s.down (slice_set s.workers.items c.args.worker c.hold.new.self) in
    subst (λ (m : Moment). after ≡ next m.olds m.news m.state (Hold c.args.worker c.args.wire)) c.self.view_is (sym (hold_leads o n s.number s.counts.items s.up s.down s.workers.items c.args.worker c.args.wire p c.hold.new.self c.index-count.result.now at read (c.hold.ensures.worker o n)))
