use Rattle.std.proofs.Common.{◌≡◌, ℕ, ◌+◌, List, length, replicate, ap, ◌∙◌, subst}
use Rattle.std.proofs.lemmas.List.{length-replicate}
use Rattle.ice_chip.specs.Database.{Parts}
use Rattle.ice_chip.specs.IsRead.{IsChip}
use Rattle.ice_bits.specs.Configuration.{bits_of}
use Rattle.ice_decode.specs.Reads.{count_points}
use Rattle.ice_sim_sweep.specs.declared.parts.Feed.{Feed}
use Rattle.ice_sim.specs.Layouts.{layout_of, laid}
use Rattle.ice_base_values.proofs.Places.{written}
use Rattle.ice_sim.proofs.Compiling.{order_below}
use Rattle.ice_sim.proofs.chip_plan.lay_out.Goals as goal
use Rattle.ice_sim.proofs.chip_plan.lay_out.Goals.{After-deref_mut}

slots_are : (c : After-deref_mut) → c.deref_mut.result.now ≡ replicate (count_points c.args.configured.now.parts) 0
slots_are c =
    c.deref_mut.ensures.value
    ∙ c.in_ok-slots.ensures
    ∙ ap (λ (n : ℕ). replicate n 0)
    (ap (λ (n : ℕ). n + c.len.result) (c.wires.ensures.wires ∙ ap (λ (p : Parts). p.wires) c.chip.ensures)
    ∙ ap (λ (n : ℕ). c.args.configured.now.parts.wires + n) (c.len.ensures ∙ c.args.stores.now.cells.ok.0 ∙ ap length c.requires.stores.cells))

pub lay-requires : goal.lay-requires
lay-requires c =
    let a = (goal.at.lay-requires c).After-deref_mut in
    order_below c.args.configured.now.parts (bits_of c.args.configured.now.configuration) c.args.configured.now.configuration.extras c.args.order.now (length c.deref_mut.result.now) c.requires.order
    (ap length (slots_are a) ∙ length-replicate {A = ℕ} (count_points c.args.configured.now.parts) 0)

pub returns-clause-chip : goal.returns-clause-chip
returns-clause-chip c = subst (λ (p : Parts). IsChip p) c.chip.ensures c.wires.ensures.chip

pub returns-clause-layout : goal.returns-clause-layout
returns-clause-layout c =
    let a = (goal.at.returns-clause-layout c).After-deref_mut in
    ap (λ (slots : List ℕ). layout_of slots c.lay.new.feeds.items)
    (written c.in_ok-slots.slots.len c.in_ok-slots.slots.items c.lay.new.slots (c.lay.auto.slots ∙ ap length c.deref_mut.ensures.value) c.in_ok-slots.slots.ok.0)
    ∙ c.in_ok-lay.ensures
    ∙ ap (λ (slots : List ℕ). laid c.args.configured.now.parts (bits_of c.args.configured.now.configuration) c.args.configured.now.configuration.extras c.args.configured.now.bonded c.args.order.now (layout_of slots c.in_ok-feeds.feeds.items)) (slots_are a)
    ∙ ap (λ (feeds : List Feed). laid c.args.configured.now.parts (bits_of c.args.configured.now.configuration) c.args.configured.now.configuration.extras c.args.configured.now.bonded c.args.order.now
    (layout_of (replicate (count_points c.args.configured.now.parts) 0) feeds)) c.in_ok-feeds.ensures
