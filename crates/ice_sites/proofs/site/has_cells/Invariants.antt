use Rattle.std.proofs.Common.{◌≡◌, true}
use Rattle.ice_sites.specs.Site.{all_below, has_cell}
use Rattle.ice_sites.proofs.site.has_cells.Given as goal

abbrev pub invariant-loop-cell : goal.invariant-loop-cell
invariant-loop-cell l = all_below (has_cell l.chip l.tile) l.cell ≡ true
