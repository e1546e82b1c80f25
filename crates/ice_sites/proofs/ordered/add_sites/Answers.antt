use Rattle.std.proofs.Common.{sym, ◌∙◌}
use Rattle.ice_sites.proofs.InOrder.{no_sites}
use Rattle.ice_sites.proofs.ordered.add_sites.Goals as goal

pub returns-then-not-has_tile : goal.returns-then-not-has_tile
returns-then-not-has_tile c = no_sites c.args.index.now.chip.now c.args.x 256 c.args.sites.now.items (sym c.has_tile.ensures ∙ c.if-not-has_tile.true)
