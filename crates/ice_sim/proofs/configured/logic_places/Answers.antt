use Rattle.std.proofs.Common.{[], List, ap, ◌∙◌}
use Rattle.ice_base.specs.declared.number.TileAt.{TileAt}
use Rattle.ice_chip.specs.Database.{same_tile}
use Rattle.ice_sim.specs.ConfiguredChips.{with_places}
use Rattle.ice_sim.proofs.configured.logic_places.Goals as goal

pub returns : goal.returns
returns c = c.in_ok-places.ensures ∙ ap (λ (tiles : List TileAt). with_places same_tile 0 tiles []) (c.deref.ensures.value ∙ c.in_ok-tiles.ensures)
