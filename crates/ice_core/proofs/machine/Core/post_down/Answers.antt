use Rattle.std.proofs.Common.{◌≡◌, ◌+◌, Some, false, slice_get, slice_set, sym, subst, arith}
use Rattle.ice_core.specs.declared.event.Event.TheVariants.{Post}
use Rattle.ice_core.specs.declared.progress.Progress.{Progress}
use Rattle.ice_core.specs.Routes.{lists_of}
use Rattle.ice_core.specs.Machine.{CoreState, Allowed, next}
use Rattle.ice_core.specs.Program.{Moment, worker_by}
use Rattle.ice_core.proofs.Stepping.{state_by, at_of, down_small, down_leads, down_runs}
use Rattle.ice_core.proofs.machine.Core.post_down.Goals as goal

pub overflow_add-self : goal.overflow_add-self
overflow_add-self c =
    let o = lists_of c.self.inside.olds.items in
    let n = lists_of c.self.inside.news.items in
    let s = c.self.inside in
    let may : Allowed (state_by o n s.number s.counts.items s.up s.down s.workers.items) (Post c.args.worker false) = subst (λ (m : Moment). Allowed m.state (Post c.args.worker false)) (sym c.self.view_is) c.requires in
    let p : Progress = c.index_mut.result.now in
    let at : slice_get s.workers.items c.args.worker ≡ Some p = (at_of (worker_by o n) s.workers.items c.args.worker may.0 p may.1 c.index_mut.ensures.value).0 in
    omega (arith, down_small o n s.number s.counts.items s.up s.down s.workers.items c.args.worker p c.self.invariant at, c.post-posted.ensures.number)

pub invariant_of-self : goal.invariant_of-self
invariant_of-self c =
    let o = lists_of c.self.inside.olds.items in
    let n = lists_of c.self.inside.news.items in
    let s = c.self.inside in
    let may : Allowed (state_by o n s.number s.counts.items s.up s.down s.workers.items) (Post c.args.worker false) = subst (λ (m : Moment). Allowed m.state (Post c.args.worker false)) (sym c.self.view_is) c.requires in
    let p : Progress = c.index_mut.result.now in
    let at : slice_get s.workers.items c.args.worker ≡ Some p = (at_of (worker_by o n) s.workers.items c.args.worker may.0 p may.1 c.index_mut.ensures.value).0 in
    down_runs o n s.number s.counts.items s.up s.down s.workers.items c.args.worker p c.post-posted.new.self c.post-posted.result c.self.invariant may at c.post-posted.ensures.number (c.post-posted.ensures.worker o n) c.post-posted.ensures.room

pub returns-clause-state : goal.returns-clause-state
returns-clause-state c =
    let o = lists_of c.self.inside.olds.items in
    let n = lists_of c.self.inside.news.items in
    let s = c.self.inside in
    let may : Allowed (state_by o n s.number s.counts.items s.up s.down s.workers.items) (Post c.args.worker false) = subst (λ (m : Moment). Allowed m.state (Post c.args.worker false)) (sym c.self.view_is) c.requires in
    let p : Progress = c.index_mut.result.now in
    let at : slice_get s.workers.items c.args.worker ≡ Some p = (at_of (worker_by o n) s.workers.items c.args.worker may.0 p may.1 c.index_mut.ensures.value).0 in
    let after : CoreState = state_by o n s.number s.counts.items s.up (s.down + c.post-posted.result) (slice_set s.workers.items c.args.worker c.post-posted.new.self) in
    subst (λ (m : Moment). after ≡ next m.olds m.news m.state (Post c.args.worker false)) c.self.view_is (sym (down_leads o n s.number s.counts.items s.up s.down s.workers.items c.args.worker p c.post-posted.new.self c.post-posted.result at c.post-posted.ensures.number (c.post-posted.ensures.worker o n)))
