use Rattle.std.proofs.Common.{cond, ap, ◌∙◌}
use Rattle.ice_bits.specs.Configuration.{bits_of}
use Rattle.ice_bits.specs.Settings.{set_at}
use Rattle.ice_sim_chip_rams.proofs.setups.mode_digit.Goals as goal

pub returns-then-setting-clause-digit : goal.returns-then-setting-clause-digit
returns-then-setting-clause-digit c =
    ap (λ b. cond b 1 0) (c.if-setting.ensures ∙ ap (λ name. set_at c.args.chip.now (bits_of c.args.bits.now) c.args.site.upper name 0) c.ram_mode_function.ensures)

pub returns-else-setting-clause-digit : goal.returns-else-setting-clause-digit
returns-else-setting-clause-digit c =
    ap (λ b. cond b 1 0) (c.if-setting.ensures ∙ ap (λ name. set_at c.args.chip.now (bits_of c.args.bits.now) c.args.site.upper name 0) c.ram_mode_function.ensures)
