use Rattle.std.proofs.Common.{sym, ◌∙◌, arith}
use Rattle.ice_sites.specs.Site.{has_cell}
use Rattle.ice_sites.proofs.Below.{fails}
use Rattle.ice_sites.proofs.site.has_cells.Goals as goal

pub returns-then-not-has_cell : goal.returns-then-not-has_cell
returns-then-not-has_cell c = sym (fails (has_cell c.args.chip.now c.args.tile) c.loop-cell.cell 8 (sym c.has_cell.ensures ∙ c.if-not-has_cell.true) (omega arith))
