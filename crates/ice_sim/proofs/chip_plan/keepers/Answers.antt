use Rattle.std.proofs.Common.{length, ap, sym, ◌∙◌}
use Rattle.ice_bits.specs.Configuration.{bits_of}
use Rattle.ice_sim.proofs.StoreSteps.{all_fed, all_kept}
use Rattle.ice_sim.proofs.chip_plan.keepers.Goals as goal

pub returns-clause-feeds : goal.returns-clause-feeds
returns-clause-feeds c =
    all_fed c.args.configured.now.parts (bits_of c.args.configured.now.configuration) c.args.configured.now.bonded c.args.slots.now c.deref.result.now c.deref-2.result.now
    (c.deref.ensures.value ∙ c.requires.cells) (c.deref-2.ensures.value ∙ c.requires.pads) c.args.feeds.now.items c.add_flops.new.feeds.items c.add_registers.new.feeds.items
    c.in_ok-add_flops.ensures.feeds c.in_ok-add_registers.ensures.feeds

pub returns-clause-keepers : goal.returns-clause-keepers
returns-clause-keepers c =
    all_kept c.args.configured.now.parts (bits_of c.args.configured.now.configuration) c.args.configured.now.bonded c.args.slots.now c.deref.result.now c.deref-2.result.now
    (c.deref.ensures.value ∙ c.requires.cells) (c.deref-2.ensures.value ∙ c.requires.pads) c.args.feeds.now.items c.add_flops.new.feeds.items c.add_flops.new.keepers.items
    c.add_registers.new.keepers.items c.in_ok-first.first
    (c.in_ok-first.ensures ∙ c.len.ensures ∙ c.args.all.now.cells.ok.0 ∙ ap length (sym c.deref.ensures.value)) c.in_ok-add_flops.ensures.feeds c.in_ok-add_flops.ensures.keepers
    c.in_ok-add_registers.ensures.keepers
