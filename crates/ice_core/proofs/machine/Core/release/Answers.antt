use Rattle.std.proofs.Common.{rules, ◌≡◌, ◌<◌, Some, length, slice_get, slice_index, slice_set, sym, subst}
use Rattle.ice_core.specs.declared.event.Event.TheVariants.{Release}
use Rattle.ice_core.specs.declared.progress.Progress.{Progress}
use Rattle.ice_core.specs.Routes.{lists_of}
use Rattle.ice_core.specs.Machine.{CoreState, Allowed, next}
use Rattle.ice_core.specs.Program.{Moment, worker_by}
use Rattle.ice_core.proofs.Stepping.{state_by, at_of, place_of, count_read, release_wire, release_ready, release_leads, release_runs}
use Rattle.ice_core.proofs.machine.Core.release.Goals as goal

pub index-count-requires : goal.index-count-requires
index-count-requires c =
    let o = lists_of c.self.inside.olds.items in
    let n = lists_of c.self.inside.news.items in
    let s = c.self.inside in
    let may : Allowed (state_by o n s.number s.counts.items s.up s.down s.workers.items) (Release c.args.worker c.args.wire) = subst (λ (m : Moment). Allowed m.state (Release c.args.worker c.args.wire)) (sym c.self.view_is) c.requires in
    let lt : c.args.wire.0 < length s.counts.items = release_wire o n s.number s.counts.items s.up s.down s.workers.items c.args.worker c.args.wire c.self.invariant may in
    search rules

pub index_mut-requires : goal.index_mut-requires
index_mut-requires c =
    let o = lists_of c.self.inside.olds.items in
    let n = lists_of c.self.inside.news.items in
    let s = c.self.inside in
    let may : Allowed (state_by o n s.number s.counts.items s.up s.down s.workers.items) (Release c.args.worker c.args.wire) = subst (λ (m : Moment). Allowed m.state (Release c.args.worker c.args.wire)) (sym c.self.view_is) c.requires in
    let lt : c.args.wire.0 < length s.counts.items = release_wire o n s.number s.counts.items s.up s.down s.workers.items c.args.worker c.args.wire c.self.invariant may in
    search rules

pub index_mut-requires-2 : goal.index_mut-requires-2
index_mut-requires-2 c =
    let o = lists_of c.self.inside.olds.items in
    let n = lists_of c.self.inside.news.items in
    let s = c.self.inside in
    let may : Allowed (state_by o n s.number s.counts.items s.up s.down s.workers.items) (Release c.args.worker c.args.wire) = subst (λ (m : Moment). Allowed m.state (Release c.args.worker c.args.wire)) (sym c.self.view_is) c.requires in
    let lt : c.args.worker < length s.workers.items = place_of (worker_by o n) s.workers.items c.args.worker may.0 may.1 in
    search rules

pub release-requires : goal.release-requires
release-requires c =
    let o = lists_of c.self.inside.olds.items in
    let n = lists_of c.self.inside.news.items in
    let s = c.self.inside in
    let may : Allowed (state_by o n s.number s.counts.items s.up s.down s.workers.items) (Release c.args.worker c.args.wire) = subst (λ (m : Moment). Allowed m.state (Release c.args.worker c.args.wire)) (sym c.self.view_is) c.requires in
    release_ready o n s.number s.counts.items s.up s.down s.workers.items c.args.worker c.args.wire c.index_mut-2.result.now c.self.invariant may c.index_mut-2.ensures.value

pub invariant_of-self : goal.invariant_of-self
invariant_of-self c =
    let o = lists_of c.self.inside.olds.items in
    let n = lists_of c.self.inside.news.items in
    let s = c.self.inside in
    let may : Allowed (state_by o n s.number s.counts.items s.up s.down s.workers.items) (Release c.args.worker c.args.wire) = subst (λ (m : Moment). Allowed m.state (Release c.args.worker c.args.wire)) (sym c.self.view_is) c.requires in
    let lt = release_wire o n s.number s.counts.items s.up s.down s.workers.items c.args.worker c.args.wire c.self.invariant may in
    let read : c.index-count.result.now ≡ slice_index s.counts.items c.args.wire.0 = count_read s.counts.items c.args.wire.0 c.index-count.result.now lt c.index-count.ensures in
    let p : Progress = c.index_mut-2.result.now in
    let at : slice_get s.workers.items c.args.worker ≡ Some p = (at_of (worker_by o n) s.workers.items c.args.worker may.0 p may.1 c.index_mut-2.ensures.value).0 in
    release_runs o n s.number s.counts.items s.up s.down s.workers.items c.args.worker c.args.wire p c.release.new.self c.index-count.result.now c.saturating_sub.result c.self.invariant may at read c.saturating_sub.ensures (c.release.ensures.worker o n) c.release.ensures.room

pub returns-clause-state : goal.returns-clause-state
returns-clause-state c =
    let o = lists_of c.self.inside.olds.items in
    let n = lists_of c.self.inside.news.items in
    let s = c.self.inside in
    let may : Allowed (state_by o n s.number s.counts.items s.up s.down s.workers.items) (Release c.args.worker c.args.wire) = subst (λ (m : Moment). Allowed m.state (Release c.args.worker c.args.wire)) (sym c.self.view_is) c.requires in
    let lt = release_wire o n s.number s.counts.items s.up s.down s.workers.items c.args.worker c.args.wire c.self.invariant may in
    let read : c.index-count.result.now ≡ slice_index s.counts.items c.args.wire.0 = count_read s.counts.items c.args.wire.0 c.index-count.result.now lt c.index-count.ensures in
    let p : Progress = c.index_mut-2.result.now in
    let at : slice_get s.workers.items c.args.worker ≡ Some p = (at_of (worker_by o n) s.workers.items c.args.worker may.0 p may.1 c.index_mut-2.ensures.value).0 in
    let after : CoreState = state_by o n s.number (slice_set s.counts.items c.args.wire.0 c.saturating_sub.result) s.up s.down (slice_set s.workers.items c.args.worker c.release.new.self) in
    subst (λ (m : Moment). after ≡ next m.olds m.news m.state (Release c.args.worker c.args.wire)) c.self.view_is (sym (release_leads o n s.number s.counts.items s.up s.down s.workers.items c.args.worker c.args.wire p c.release.new.self c.index-count.result.now c.saturating_sub.result at read c.saturating_sub.ensures (c.release.ensures.worker o n)))
