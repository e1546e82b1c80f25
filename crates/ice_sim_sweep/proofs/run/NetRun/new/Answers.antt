use Rattle.std.proofs.Common.{◌≡◌, ◌++◌, ◌∷◌, [], true, false, length, replicate, ap, ◌∙◌, subst, ◌+◌}
use Rattle.ice_net.specs.NetlistData.{NetlistData}
use Rattle.ice_net.specs.Meaning.{State}
use Rattle.ice_sim_sweep.specs.Sweeps.{blank}
use Rattle.ice_sim_sweep.specs.Plans.{IsPlan, state_of}
use Rattle.ice_sim_sweep.proofs.Running.{run_start, state_start}
use Rattle.ice_sim_sweep.proofs.run.NetRun.new.Goals as goal
use Rattle.ice_sim_sweep.proofs.run.NetRun.new.Goals.{In_ok-values}

memories_are : (c : In_ok-values) → c.in_ok-memories.memories.items ≡ replicate (length c.args.sound.now.cells) blank
memories_are c =
    c.in_ok-memories.ensures
    ∙ ap (λ k. replicate k blank) (ap length c.cells.ensures.cells ∙ ap (λ (n : NetlistData). length n.cells) c.netlist-netlist.ensures.netlist)

values_are : (c : In_ok-values) → c.in_ok-values.values.items ≡ replicate (length c.args.sound.now.names + 1) false ++ true ∷ []
values_are c =
    c.in_ok-values.ensures
    ∙ ap (λ k. replicate (k + 1) false ++ true ∷ []) (c.signals.ensures.count ∙ ap (λ (n : NetlistData). length n.names) c.netlist-netlist.ensures.netlist)

planned : (c : In_ok-values) → IsPlan c.args.sound.now c.in_ok-plan.plan
planned c = subst (λ (n : NetlistData). IsPlan n c.in_ok-plan.plan) c.netlist-netlist.ensures.netlist c.in_ok-plan.ensures

pub invariant_of-result : goal.invariant_of-result
invariant_of-result c =
    let a = (goal.at.invariant_of-result c).In_ok-values in
    rw (memories_are a, values_are a) (run_start c.args.sound.now c.in_ok-plan.plan (planned a))

pub returns : goal.returns
returns c =
    let a = (goal.at.returns c).In_ok-values in
    ap (λ (s : State). (c.args.sound.now, s)) (ap state_of (memories_are a) ∙ state_start c.args.sound.now)
