use Rattle.std.proofs.Common.{◌&&◌, sym, ap, ◌∙◌}
use Rattle.ice_pads.specs.PadWires.{suits}
use Rattle.ice_pads.proofs.choosing.is_fit.Goals as goal

pub returns-then-is_free : goal.returns-then-is_free
returns-then-is_free c = c.suits.ensures ∙ sym (ap (λ b. b && suits c.args.chip.now c.args.want c.args.pad) (sym c.is_free.ensures ∙ c.if-is_free.true))

pub returns : goal.returns
returns c = sym (ap (λ b. b && suits c.args.chip.now c.args.want c.args.pad) (sym c.is_free.ensures ∙ c.if-is_free.false))
