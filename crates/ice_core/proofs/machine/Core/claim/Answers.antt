use Rattle.std.proofs.Common.{rules, ◌≡◌, ◌+◌, ◌-◌, Some, length, slice_get, slice_set, sym, subst, arith, ◌∙◌}
use Rattle.ice_core.specs.declared.event.Event.TheVariants.{Claim}
use Rattle.ice_core.specs.declared.progress.Progress.{Progress}
use Rattle.ice_core.specs.Routes.{numbers, lists_of}
use Rattle.std.specs.Global.{Vec}
use Rattle.std.proofs.lemmas.List.{length-map}
use Rattle.ice_base.specs.declared.number.WireNo.{WireNo}
use Rattle.ice_core.specs.Machine.{CoreState, Allowed, next}
use Rattle.ice_core.specs.Program.{Moment, HasRoom, worker_by}
use Rattle.ice_core.proofs.Stepping.{state_by, at_of, number_small, claim_leads, claim_runs}
use Rattle.ice_core.proofs.machine.Core.claim.Goals as goal

pub overflow_add-self : goal.overflow_add-self
overflow_add-self c =
    let o = lists_of c.self.inside.olds.items in
    let n = lists_of c.self.inside.news.items in
    let s = c.self.inside in
    omega (arith, number_small o n s.number s.counts.items s.up s.down s.workers.items c.self.invariant)

pub invariant_of-self : goal.invariant_of-self
invariant_of-self c =
    let o = lists_of c.self.inside.olds.items in
    let n = lists_of c.self.inside.news.items in
    let s = c.self.inside in
    let may : Allowed (state_by o n s.number s.counts.items s.up s.down s.workers.items) (Claim c.args.worker) = subst (λ (m : Moment). Allowed m.state (Claim c.args.worker)) (sym c.self.view_is) c.requires in
    let p : Progress = c.index_mut.result.now in
    let at : slice_get s.workers.items c.args.worker ≡ Some p = (at_of (worker_by o n) s.workers.items c.args.worker may.0 p may.1 c.index_mut.ensures.value).0 in
    let count : c.len-tasks.result ≡ length s.olds.items = search rules in
    let many : length o ≡ c.len-tasks.result = length-map s.olds.items (λ (wires : Vec WireNo). numbers wires.items) ∙ sym count in
    claim_runs o n s.number s.counts.items s.up s.down s.workers.items c.args.worker p c.claim.new.self c.self.invariant may at (c.claim.ensures.worker o n many) (subst (λ t. HasRoom (t - (s.number + 1)) c.claim.new.self) (sym many) c.claim.ensures.room)

pub returns-clause-state : goal.returns-clause-state
returns-clause-state c =
    let o = lists_of c.self.inside.olds.items in
    let n = lists_of c.self.inside.news.items in
    let s = c.self.inside in
    let may : Allowed (state_by o n s.number s.counts.items s.up s.down s.workers.items) (Claim c.args.worker) = subst (λ (m : Moment). Allowed m.state (Claim c.args.worker)) (sym c.self.view_is) c.requires in
    let p : Progress = c.index_mut.result.now in
    let at : slice_get s.workers.items c.args.worker ≡ Some p = (at_of (worker_by o n) s.workers.items c.args.worker may.0 p may.1 c.index_mut.ensures.value).0 in
    let count : c.len-tasks.result ≡ length s.olds.items = search rules in
    let many : length o ≡ c.len-tasks.result = length-map s.olds.items (λ (wires : Vec WireNo). numbers wires.items) ∙ sym count in
    let after : CoreState = state_by o n (s.number + 1) s.counts.items s.up s.down (slice_set s.workers.items c.args.worker c.claim.new.self) in
    subst (λ (m : Moment). after ≡ next m.olds m.news m.state (Claim c.args.worker)) c.self.view_is (sym (claim_leads o n s.number s.counts.items s.up s.down s.workers.items c.args.worker p c.claim.new.self at (c.claim.ensures.worker o n many)))
