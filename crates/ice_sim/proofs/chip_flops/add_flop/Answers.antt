use Rattle.std.proofs.Common.{rules, ◌≡◌, true, length, ap, ◌∙◌}
use Rattle.ice_bits.specs.Configuration.{bits_of}
use Rattle.ice_decode.specs.Cells.{has_flop}
use Rattle.ice_sim_sweep.specs.declared.parts.Feed.TheVariants.{Made}
use Rattle.ice_sim.specs.ChipSlots.{cell_gate}
use Rattle.ice_sim.specs.Layouts.{keeper_of}
use Rattle.ice_sim.proofs.StoreSteps.{used_pushed}
use Rattle.ice_sim.proofs.chip_flops.add_flop.Goals as goal
use Rattle.ice_sim.proofs.chip_flops.add_flop.Goals.{In_ok-push-2}

has : (c : In_ok-push-2) → has_flop c.args.configured.now.parts (bits_of c.args.configured.now.configuration) c.args.cell.0 c.args.cell.1 ≡ true
has c = search rules

next_is : (c : In_ok-push-2) → c.in_ok-next.next ≡ length c.args.feeds.now.items
next_is c = c.in_ok-next.ensures ∙ c.len.ensures ∙ c.args.feeds.now.ok.0

pub returns-clause-feeds : goal.returns-clause-feeds
returns-clause-feeds c =
    used_pushed _ (Made c.cell_gate.result) (Made (cell_gate c.args.configured.now.parts (bits_of c.args.configured.now.configuration) c.args.slots.now (length c.args.feeds.now.items) c.args.cell.0 c.args.cell.1))
    c.args.feeds.now.items c.push.new.self.items (has c)
    (ap Made (c.cell_gate.ensures ∙ ap (λ n. cell_gate c.args.configured.now.parts (bits_of c.args.configured.now.configuration) c.args.slots.now n c.args.cell.0 c.args.cell.1) (next_is c)))
    c.in_ok-push.ensures.items

pub returns-clause-keepers : goal.returns-clause-keepers
returns-clause-keepers c =
    used_pushed _ c.keeper.result (keeper_of c.args.configured.now.parts (bits_of c.args.configured.now.configuration) c.args.slots.now c.args.place (length c.args.feeds.now.items) c.args.cell)
    c.args.keepers.now.items c.push-2.new.self.items (has c)
    (c.keeper.ensures
    ∙ ap (λ place. keeper_of c.args.configured.now.parts (bits_of c.args.configured.now.configuration) c.args.slots.now place c.in_ok-next.next c.args.cell) c.in_ok-place.ensures
    ∙ ap (λ n. keeper_of c.args.configured.now.parts (bits_of c.args.configured.now.configuration) c.args.slots.now c.args.place n c.args.cell) (next_is c))
    c.in_ok-push-2.ensures.items
