use Rattle.std.proofs.Common.{◌≡◌, ◌++◌, ◌∙◌, ap, sym, length, take, drop}
use Rattle.ice_bits.specs.Configuration.{bits_of}
use Rattle.ice_net.specs.Meaning.{State}
use Rattle.ice_decode.specs.Pads.{stores}
use Rattle.ice_decode.specs.Meaning.{chip_step}
use Rattle.ice_sim_sweep.specs.Sweeps.{remembered}
use Rattle.ice_sim_sweep.specs.Plans.{swept, state_of}
use Rattle.ice_sim.specs.ChipRuns.{ChipRunData, with_state}
use Rattle.ice_base_values.proofs.Places.{written}
use Rattle.ice_sim.proofs.ChipStates.{kept_long}
use Rattle.ice_sim.proofs.ChipRunning.{parts_within, run_after, state_after_is, out_after, taps_long}
use Rattle.ice_sim.proofs.chip_run.ChipRun.step.Goals as goal
use Rattle.ice_sim.proofs.chip_run.ChipRun.step.Goals.{After-sweep}

pub sweep-requires-clause-within : goal.sweep-requires-clause-within
sweep-requires-clause-within c =
    parts_within c.self.inside.chip.now (bits_of c.self.inside.circuit.now.configuration) c.self.inside.circuit.now.configuration.extras c.self.inside.pads.now c.self.invariant.feeds c.self.inside.plan
    c.self.invariant.run.planned (length c.args.levels.now) (length c.deref_mut.result.now) (length c.deref_mut-2.result.now)
    (c.requires.levels ∙ ap (λ (v : ChipRunData). length v.bonded) (sym c.self.view_is))
    (ap length c.deref_mut.ensures.value
    ∙ kept_long c.self.inside.chip.now (bits_of c.self.inside.circuit.now.configuration) (stores c.self.inside.chip.now) c.self.inside.memories.items c.self.invariant.run.remembers)
    (ap length c.deref_mut-2.ensures.value ∙ c.self.invariant.run.long)

pub sweep-requires-clause-out : goal.sweep-requires-clause-out
sweep-requires-clause-out c =
    c.requires.out
    ∙ ap (λ (v : ChipRunData). length v.bonded) (sym c.self.view_is)
    ∙ sym (taps_long c.self.inside.chip.now (bits_of c.self.inside.circuit.now.configuration) c.self.inside.circuit.now.configuration.extras c.self.inside.pads.now c.self.invariant.feeds c.self.inside.plan
    c.self.invariant.run.planned)

after_is : (c : After-sweep) → c.sweep.new.values ≡ swept c.self.inside.plan c.args.levels.now c.self.inside.memories.items c.self.inside.values.items
after_is c =
    c.sweep.ensures.values
    ∙ ap (λ m. swept c.self.inside.plan c.args.levels.now m c.deref_mut-2.result.now) c.deref_mut.ensures.value
    ∙ ap (λ v. swept c.self.inside.plan c.args.levels.now c.self.inside.memories.items v) c.deref_mut-2.ensures.value

next_is : (c : After-sweep) → c.sweep.new.memories ≡ remembered c.self.inside.plan.keepers.items c.sweep.new.values c.self.inside.memories.items
next_is c = c.sweep.ensures.memories ∙ ap (remembered c.self.inside.plan.keepers.items c.sweep.new.values) c.deref_mut.ensures.value

memories_new : (c : After-sweep)
    → take c.self.inside.memories.len (c.sweep.new.memories ++ drop (length c.sweep.new.memories) c.self.inside.memories.items) ≡ c.sweep.new.memories
memories_new c =
    written c.self.inside.memories.len c.self.inside.memories.items c.sweep.new.memories (c.sweep.auto.memories ∙ ap length c.deref_mut.ensures.value) c.self.inside.memories.ok.0

values_new : (c : After-sweep) → take c.self.inside.values.len (c.sweep.new.values ++ drop (length c.sweep.new.values) c.self.inside.values.items) ≡ c.sweep.new.values
values_new c =
    written c.self.inside.values.len c.self.inside.values.items c.sweep.new.values (c.sweep.auto.values ∙ ap length c.deref_mut-2.ensures.value) c.self.inside.values.ok.0

pub invariant_of-self : goal.invariant_of-self
invariant_of-self c =
    let a = (goal.at.invariant_of-self c).After-sweep in
    record {
      feeds = c.self.invariant.feeds;
      run = rw (memories_new a, values_new a)
          (run_after c.self.inside.chip.now (bits_of c.self.inside.circuit.now.configuration) c.self.inside.circuit.now.configuration.extras c.self.inside.pads.now c.self.invariant.feeds c.self.inside.plan
          c.self.invariant.run.planned c.args.levels.now c.self.inside.memories.items c.self.inside.values.items c.self.invariant.run c.sweep.new.memories c.sweep.new.values (after_is a) (next_is a));
    }

pub returns-clause-run : goal.returns-clause-run
returns-clause-run c =
    let a = (goal.at.returns-clause-run c).After-sweep in
    ap (λ (s : State). record { parts = c.self.inside.chip.now; configuration = c.self.inside.circuit.now.configuration; bonded = c.self.inside.pads.now; state = s })
    (ap state_of (memories_new a)
    ∙ state_after_is c.self.inside.chip.now (bits_of c.self.inside.circuit.now.configuration) c.self.inside.circuit.now.configuration.extras c.self.inside.pads.now c.self.invariant.feeds c.self.inside.plan
    c.self.invariant.run.planned c.args.levels.now c.self.inside.memories.items c.self.inside.values.items c.self.invariant.run c.sweep.new.memories c.sweep.new.values (after_is a) (next_is a))
    ∙ ap (λ (v : ChipRunData). with_state v (chip_step v.parts (bits_of v.configuration) v.configuration.extras v.bonded v.bonded v.state c.args.levels.now).0) c.self.view_is

pub returns-clause-out : goal.returns-clause-out
returns-clause-out c =
    let a = (goal.at.returns-clause-out c).After-sweep in
    out_after c.self.inside.chip.now (bits_of c.self.inside.circuit.now.configuration) c.self.inside.circuit.now.configuration.extras c.self.inside.pads.now c.self.invariant.feeds c.self.inside.plan
    c.self.invariant.run.planned c.args.levels.now c.self.inside.memories.items c.self.inside.values.items c.self.invariant.run c.sweep.new.memories c.sweep.new.values (after_is a) (next_is a)
    c.sweep.new.out c.sweep.ensures.out
    ∙ ap (λ (v : ChipRunData). (chip_step v.parts (bits_of v.configuration) v.configuration.extras v.bonded v.bonded v.state c.args.levels.now).1) c.self.view_is
