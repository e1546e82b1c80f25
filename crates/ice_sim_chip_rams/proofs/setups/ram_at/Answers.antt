use Rattle.std.proofs.Common.{length, ap, ◌∙◌}
use Rattle.ice_sim_chip_rams.proofs.Words.{words_many, ram_is}
use Rattle.ice_sim_chip_rams.proofs.setups.ram_at.Goals as goal

pub new-requires-clause-many : goal.new-requires-clause-many
new-requires-clause-many c = ap length c.in_ok-words.ensures ∙ words_many c.args.chip.now c.args.bits.now c.args.site c.requires

pub returns : goal.returns
returns c =
    ram_is c.args.chip.now c.args.bits.now c.args.site c.setup_of.result c.in_ok-words.words.items c.new.result c.new.ensures c.setup_of.ensures.setup c.in_ok-words.ensures
