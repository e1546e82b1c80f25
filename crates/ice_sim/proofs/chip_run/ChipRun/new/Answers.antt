use Rattle.std.proofs.Common.{◌≡◌, ℕ, length, replicate, ap, ◌∙◌}
use Rattle.ice_bits.specs.Configuration.{bits_of}
use Rattle.ice_net.specs.Meaning.{State}
use Rattle.ice_decode.specs.Pads.{stores}
use Rattle.ice_sim_sweep.specs.Sweeps.{blank}
use Rattle.ice_sim_sweep.specs.Plans.{state_of}
use Rattle.ice_sim.proofs.ChipStates.{state_blank}
use Rattle.ice_sim.proofs.Compiling.{counted, run_begins}
use Rattle.ice_sim.proofs.chip_run.ChipRun.new.Goals as goal
use Rattle.ice_sim.proofs.chip_run.ChipRun.new.Goals.{In_ok-memories}

memories_are : (c : In_ok-memories) → c.in_ok-memories.memories.items ≡ replicate (length (stores c.args.chip.now)) blank
memories_are c = c.in_ok-memories.ensures ∙ ap (λ (n : ℕ). replicate n blank) (c.in_ok-count.ensures ∙ counted c.args.chip.now c.in_ok-stores.stores c.in_ok-stores.ensures)

pub invariant_of-result : goal.invariant_of-result
invariant_of-result c =
    let a = (goal.at.invariant_of-result c).In_ok-memories in
    let made = c.in_ok-plan.ensures in
    record {
      feeds = made.feeds;
      run = run_begins c.args.chip.now (bits_of c.args.circuit.now.configuration) c.args.circuit.now.configuration.extras c.args.pads.now c.in_ok-plan.plan c.in_ok-memories.memories.items c.in_ok-plan.values.items made
          (memories_are a);
    }

pub returns : goal.returns
returns c =
    let a = (goal.at.returns c).In_ok-memories in
    ap (λ (s : State). record { parts = c.args.chip.now; configuration = c.args.circuit.now.configuration; bonded = c.args.pads.now; state = s })
    (ap state_of (memories_are a) ∙ state_blank c.args.chip.now)
