use Rattle.std.proofs.Common.{◌≡◌, suc, length, arith}
use Rattle.ice_bits.specs.Configuration.{bits_of}
use Rattle.ice_sim.proofs.StoreSteps.{pad_fed, pad_kept}
use Rattle.ice_sim.proofs.chip_registers.add_registers_of.Goals as goal

pub returns-clause-feeds : goal.returns-clause-feeds
returns-clause-feeds c =
    pad_fed c.args.configured.now.parts (bits_of c.args.configured.now.configuration) c.args.configured.now.bonded c.args.slots.now (length c.args.feeds.now.items) c.args.pad c.args.feeds.now.items c.add_input.new.feeds.items c.in_ok-add_input.ensures.feeds

pub returns-clause-keepers : goal.returns-clause-keepers
returns-clause-keepers c =
    let next : c.in_ok-second.second ≡ suc c.args.place = (let e = c.in_ok-second.ensures in omega arith) in
    pad_kept c.args.configured.now.parts (bits_of c.args.configured.now.configuration) c.args.configured.now.bonded c.args.slots.now c.args.place c.in_ok-second.second (length c.args.feeds.now.items) 0 c.args.pad c.args.keepers.now.items c.add_input.new.keepers.items c.add_output.new.keepers.items
    c.in_ok-add_input.ensures.keepers c.in_ok-add_output.ensures next
