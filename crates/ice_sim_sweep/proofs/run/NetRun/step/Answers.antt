use Rattle.std.proofs.Common.{◌≡◌, ◌++◌, ◌∙◌, ap, sym, length, take, drop}
use Rattle.ice_net.specs.NetlistData.{NetlistData}
use Rattle.ice_net.specs.Meaning.{State, step}
use Rattle.ice_sim_sweep.specs.Sweeps.{remembered}
use Rattle.ice_sim_sweep.specs.Plans.{swept, state_of}
use Rattle.ice_sim_sweep.proofs.Remembering.{memories_long}
use Rattle.ice_sim_sweep.proofs.Within.{parts_within}
use Rattle.ice_base_values.proofs.Places.{written}
use Rattle.ice_sim_sweep.proofs.Running.{run_after, state_after, out_after}
use Rattle.ice_sim_sweep.proofs.run.NetRun.step.Goals as goal
use Rattle.ice_sim_sweep.proofs.run.NetRun.step.Goals.{After-sweep}

pub sweep-requires-clause-within : goal.sweep-requires-clause-within
sweep-requires-clause-within c =
    parts_within c.self.inside.sound.now c.self.inside.plan c.self.invariant.planned (length c.args.levels.now) (length c.deref_mut.result.now) (length c.deref_mut-2.result.now)
    (c.requires.levels ∙ ap (λ (v : NetlistData × State). length v.0.ports) (sym c.self.view_is))
    (ap length c.deref_mut.ensures.value ∙ memories_long c.self.inside.sound.now.cells c.self.inside.memories.items c.self.invariant.between.remembers)
    (ap length c.deref_mut-2.ensures.value ∙ c.self.invariant.between.long)

after_is : (c : After-sweep) → c.sweep.new.values ≡ swept c.self.inside.plan c.args.levels.now c.self.inside.memories.items c.self.inside.values.items
after_is c =
    c.sweep.ensures.values
    ∙ ap (λ m. swept c.self.inside.plan c.args.levels.now m c.deref_mut-2.result.now) c.deref_mut.ensures.value
    ∙ ap (λ v. swept c.self.inside.plan c.args.levels.now c.self.inside.memories.items v) c.deref_mut-2.ensures.value

next_is : (c : After-sweep) → c.sweep.new.memories ≡ remembered c.self.inside.plan.keepers.items c.sweep.new.values c.self.inside.memories.items
next_is c = c.sweep.ensures.memories ∙ ap (remembered c.self.inside.plan.keepers.items c.sweep.new.values) c.deref_mut.ensures.value

memories_new : (c : After-sweep)
    → take c.self.inside.memories.len (c.sweep.new.memories ++ drop (length c.sweep.new.memories) c.self.inside.memories.items) ≡ c.sweep.new.memories
memories_new c =
    written c.self.inside.memories.len c.self.inside.memories.items c.sweep.new.memories (c.sweep.auto.memories ∙ ap length c.deref_mut.ensures.value) c.self.inside.memories.ok.0

values_new : (c : After-sweep) → take c.self.inside.values.len (c.sweep.new.values ++ drop (length c.sweep.new.values) c.self.inside.values.items) ≡ c.sweep.new.values
values_new c =
    written c.self.inside.values.len c.self.inside.values.items c.sweep.new.values (c.sweep.auto.values ∙ ap length c.deref_mut-2.ensures.value) c.self.inside.values.ok.0

pub invariant_of-self : goal.invariant_of-self
invariant_of-self c =
    let a = (goal.at.invariant_of-self c).After-sweep in
    rw (memories_new a, values_new a)
    (run_after c.self.inside.sound.now c.self.inside.plan c.args.levels.now c.self.inside.memories.items c.sweep.new.memories c.self.inside.values.items c.sweep.new.values c.self.invariant
    (after_is a) (next_is a))

pub returns-clause-run : goal.returns-clause-run
returns-clause-run c =
    let a = (goal.at.returns-clause-run c).After-sweep in
    ap (λ (s : State). (c.self.inside.sound.now, s))
    (ap state_of (memories_new a)
    ∙ state_after c.self.inside.sound.now c.self.inside.plan c.args.levels.now c.self.inside.memories.items c.sweep.new.memories c.self.inside.values.items c.sweep.new.values c.self.invariant
    (after_is a) (next_is a))
    ∙ ap (λ (v : NetlistData × State). (v.0, (step v.0 v.1 c.args.levels.now).0)) c.self.view_is

pub returns-clause-out : goal.returns-clause-out
returns-clause-out c =
    let a = (goal.at.returns-clause-out c).After-sweep in
    out_after c.self.inside.sound.now c.self.inside.plan c.args.levels.now c.self.inside.memories.items c.sweep.new.memories c.self.inside.values.items c.sweep.new.values c.self.invariant
    (after_is a) (next_is a) c.sweep.new.out c.sweep.ensures.out
    ∙ ap (λ (v : NetlistData × State). (step v.0 v.1 c.args.levels.now).1) c.self.view_is
