use Rattle.std.proofs.Common.{rules, ◌≡◌, true, length, ap, ◌∙◌}
use Rattle.ice_bits.specs.Configuration.{bits_of}
use Rattle.ice_chip.specs.Names.{input_clock_name}
use Rattle.ice_decode.specs.Pads.{has_input_register}
use Rattle.ice_sim.specs.Layouts.{register_of, input_feed}
use Rattle.ice_sim.proofs.StoreSteps.{used_pushed}
use Rattle.ice_sim.proofs.chip_registers.add_input.Goals as goal
use Rattle.ice_sim.proofs.chip_registers.add_input.Goals.{In_ok-push-2}

has : (c : In_ok-push-2) → has_input_register c.args.configured.now.parts (bits_of c.args.configured.now.configuration) c.args.pad ≡ true
has c = search rules

next_is : (c : In_ok-push-2) → c.in_ok-next.next ≡ length c.args.feeds.now.items
next_is c = c.in_ok-next.ensures ∙ c.len.ensures ∙ c.args.feeds.now.ok.0

pub returns-clause-feeds : goal.returns-clause-feeds
returns-clause-feeds c =
    used_pushed _ c.input_feed.result (input_feed c.args.configured.now.parts (bits_of c.args.configured.now.configuration) c.args.configured.now.bonded c.args.pad) c.args.feeds.now.items c.push.new.self.items (has c)
    c.input_feed.ensures c.in_ok-push.ensures.items

pub returns-clause-keepers : goal.returns-clause-keepers
returns-clause-keepers c =
    used_pushed _ c.register.result (register_of c.args.configured.now.parts c.args.slots.now c.args.place (length c.args.feeds.now.items) c.args.pad.tile input_clock_name)
    c.args.keepers.now.items c.push-2.new.self.items (has c)
    (c.register.ensures ∙ ap (λ n. register_of c.args.configured.now.parts c.args.slots.now c.args.place n c.args.pad.tile input_clock_name) (next_is c))
    c.in_ok-push-2.ensures.items
