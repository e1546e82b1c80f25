use Rattle.std.proofs.Common.{Some, ap, sym, ◌∙◌}
use Rattle.ice_bits_rows.specs.Bundles.{has_bit, is_of_function}
use Rattle.ice_bits_rows.proofs.ForeignBits.{none_of_logic}
use Rattle.ice_bits_rows.proofs.foreign.foreign_of.Goals as goal

pub returns-in-Io : goal.returns-in-Io
returns-in-Io c = λ b. ap (λ bits. has_bit bits b) c.deref.ensures.value ∙ c.requires.io b ∙ ap (λ k. is_of_function c.args.chip.now.functions (Some k) b) (sym c.in-Io.is)

pub returns-in-Logic : goal.returns-in-Logic
returns-in-Logic c = λ b. sym (ap (λ k. is_of_function c.args.chip.now.functions (Some k) b) c.in-Logic.is ∙ none_of_logic c.args.chip.now.functions b)

pub returns-in-RamBottom : goal.returns-in-RamBottom
returns-in-RamBottom c = λ b. ap (λ bits. has_bit bits b) c.deref-in-RamBottom.ensures.value ∙ c.requires.ram_bottom b ∙ ap (λ k. is_of_function c.args.chip.now.functions (Some k) b) (sym c.in-RamBottom.is)

pub returns-in-RamTop : goal.returns-in-RamTop
returns-in-RamTop c = λ b. ap (λ bits. has_bit bits b) c.deref-in-RamTop.ensures.value ∙ c.requires.ram_top b ∙ ap (λ k. is_of_function c.args.chip.now.functions (Some k) b) (sym c.in-RamTop.is)
