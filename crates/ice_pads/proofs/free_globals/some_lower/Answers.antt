use Rattle.std.proofs.Common.{sym, ap, ◌∙◌, arith}
use Rattle.ice_pads.specs.Globals.{is_same_tile}
use Rattle.ice_pads.proofs.Lower.{lower_same}
use Rattle.ice_pads.proofs.free_globals.some_lower.Goals as goal

pub returns-then-is_same_tile : goal.returns-then-is_same_tile
returns-then-is_same_tile c =
    sym (lower_same c.args.chip.now c.args.tile c.loop-lower.lower c.args.number (omega arith)
    (ap (λ t. is_same_tile t c.args.tile) (sym c.global_of.ensures) ∙ sym c.is_same_tile.ensures ∙ c.if-is_same_tile.true))
