use Rattle.std.proofs.Common.{List, ap, ◌∙◌}
use Rattle.std.specs.List.{flat_map}
use Rattle.ice_base.specs.declared.number.TileAt.{TileAt}
use Rattle.ice_decode.specs.Cells.{cells_in}
use Rattle.ice_sim.proofs.stores.chip_cells.Goals as goal

pub returns : goal.returns
returns c = c.in_ok-cells.ensures ∙ ap (λ (tiles : List TileAt). flat_map cells_in tiles) (c.deref.ensures.value ∙ c.in_ok-tiles.ensures)
